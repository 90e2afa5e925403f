-- The step places of a table: what holds of each, and when filling and emptying one is refused.
use Rattle.std.specs.Prelude.{if◌then◌else◌, ℕ, List, is_some, None, Ok, Err, Option, Result, nat_lt, slice_index_or, All, IfSome}
use Rattle.rules.specs.Steps.{Step, IsClear}
use Rattle.rules.specs.declared.refusal.Refusal.{Refusal}
use Rattle.rules.specs.declared.refusal.Refusal.TheVariants.{NoSuchPlace, PlaceTaken, PlaceEmpty}

-- no step in the places gives a fact that it takes
abbrev pub AllClear : List (Option Step) → Type 0
AllClear ts = All (λ o. IfSome o IsClear) ts

-- whether a step may be put at the place i: it is one of 64 and empty
abbrev pub put_refusal : List (Option Step) → ℕ → Result Unit Refusal
put_refusal ts i =
    if nat_lt i 64 then (
    if is_some (slice_index_or ts i None) then Err PlaceTaken else Ok tt
    ) else Err NoSuchPlace

-- whether the place i may be emptied: it is one of 64 and holds a step
abbrev pub clear_refusal : List (Option Step) → ℕ → Result Unit Refusal
clear_refusal ts i =
    if nat_lt i 64 then (
    if is_some (slice_index_or ts i None) then Ok tt else Err PlaceEmpty
    ) else Err NoSuchPlace
