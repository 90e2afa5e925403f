-- The refusals of a case by their numbers, the layers by theirs, and what a refused call leaves.
use Rattle.std.specs.Prelude.{ℕ, Ok, Err, Result}
use Rattle.rules.specs.declared.layer.Layer.{Layer}
use Rattle.rules.specs.declared.layer.Layer.TheVariants.{Reader, Case, Finder, Decider}
use Rattle.rules.specs.declared.refusal.Refusal.{Refusal}
use Rattle.rules.specs.declared.refusal.Refusal.TheVariants.{Unopened, AlreadyOpen, SlipOut, FactCount, UnknownFact, GivesAndTakes, NoSuchPlace, PlaceTaken, PlaceEmpty, NeedMissing, WaivedFact, NoFinding, WrongSlip}

-- the number of each refusal
abbrev pub refusal_number : Refusal → ℕ
refusal_number Unopened = 4
refusal_number AlreadyOpen = 4
refusal_number SlipOut = 5
refusal_number FactCount = 6
refusal_number UnknownFact = 7
refusal_number GivesAndTakes = 8
refusal_number NoSuchPlace = 9
refusal_number PlaceTaken = 10
refusal_number PlaceEmpty = 11
refusal_number NeedMissing = 12
refusal_number WaivedFact = 13
refusal_number NoFinding = 14
refusal_number WrongSlip = 15

-- the byte that a report line shows for a layer
abbrev pub layer_byte : Layer → ℕ
layer_byte Reader = 1
layer_byte Case = 2
layer_byte Finder = 3
layer_byte Decider = 4

-- the first refusal of two checks, or what the second one gives
abbrev pub first_refusal : {A E : Type 0} → Result Unit E → Result A E → Result A E
first_refusal (Ok u) r = r
first_refusal (Err e) r = Err e

-- what a call leaves: a refused one leaves all as it was
abbrev pub unless_refused : {X E : Type 0} → Result Unit E → (X → X) → X → X
unless_refused (Ok u) f k = f k
unless_refused (Err e) f k = k
