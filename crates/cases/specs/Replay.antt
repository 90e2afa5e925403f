-- The plain case over lists of calls: it is fed the calls and what they answered.
use Rattle.std.specs.Prelude.{ℕ, true, false, List, [], ◌∷◌, Ok, Err, Result}
use Rattle.rules.specs.declared.refusal.Refusal.{Refusal}
use Rattle.rules.specs.Refusals.{unless_refused}
use Rattle.waivers.specs.declared.fault.FinderFault.{FinderFault}
use Rattle.waivers.specs.declared.fault.FinderFault.TheVariants.{Case, Size}
use Rattle.cases.specs.declared.slip.SlipData.{SlipData}
use Rattle.cases.specs.Plain.{Plain, unopened}
use Rattle.cases.specs.Calls.{Asked, Opening, Changing, Finding, Drawing, Signing, Tearing, AnswerTo, Entry}
use Rattle.cases.specs.Refusing.{of_case, call_refusal}
use Rattle.cases.specs.Finding.{found_set}
use Rattle.cases.specs.State.{plain_opened, plain_changed, plain_found, plain_signed, with_slip}

-- ---- which refusal an answer is

-- whether a slip is drawn, without what it says
abbrev pub draw_refusal : Result SlipData Refusal → Result Unit Refusal
draw_refusal (Ok slip) = Ok tt
draw_refusal (Err e) = Err e

-- none, beyond reach and list full are no refusals of find but ends of its search
abbrev pub find_refusal : Result (ℕ × ℕ × ℕ) FinderFault → Result Unit FinderFault
find_refusal (Err (Case e)) = Err (Case e)
find_refusal (Err (Size e)) = Err (Size e)
find_refusal r = Ok tt

-- the refusal that an answer is, or none
abbrev pub refusal_in : (x : Asked) → AnswerTo x → Result Unit FinderFault
refusal_in (Opening number n s o) r = of_case r
refusal_in (Changing x) r = of_case r
refusal_in (Finding s b) a = find_refusal a.result
refusal_in Drawing r = of_case (draw_refusal r)
refusal_in (Signing slip) r = of_case r
refusal_in (Tearing slip) r = of_case r

-- ---- what calls do

-- what an accepted call makes of the plain case; find is fed its answer
abbrev pub effect_of : (x : Asked) → AnswerTo x → Plain → Plain
effect_of (Opening number n s o) r p = plain_opened number n s o p
effect_of (Changing x) r p = plain_changed x p
effect_of (Finding s b) a p = plain_found (found_set a.result) p
effect_of Drawing r p = with_slip true p
effect_of (Signing slip) r p = plain_signed slip p
effect_of (Tearing slip) r p = with_slip false p

-- the plain case after a call; a refused one changes nothing
abbrev pub plain_after : Plain → Entry → Plain
plain_after p e = unless_refused (call_refusal p e.asked) (effect_of e.asked e.answered) p

-- the plain case after a list of calls with their answers
abbrev pub replay : Plain → List Entry → Plain
replay p [] = p
replay p (e ∷ es) = replay (plain_after p e) es

-- the plain case that these calls with their answers make from fresh
abbrev pub after_calls : List Entry → Plain
after_calls es = replay unopened es
