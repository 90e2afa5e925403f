-- What the plan check of a case says.
use Rattle.std.specs.Prelude.{◌≡◌, ℕ, List, Ok, Err, Result}
use Rattle.rules.specs.declared.check.PlanCheck.{PlanCheck}
use Rattle.rules.specs.declared.refusal.Refusal.{Refusal}
use Rattle.rules.specs.Planning.{strike}
use Rattle.rules.specs.Checking.{Checks}
use Rattle.rules.specs.Refusals.{first_refusal}
use Rattle.waivers.specs.Changes.{names_refusal}
use Rattle.cases.specs.Plain.{Plain}
use Rattle.cases.specs.Refusing.{opened_refusal}

-- the check is refused for an unopened case, and for a set with facts that the case has not
abbrev pub check_refusal : Plain → ℕ → Result Unit Refusal
check_refusal p x = first_refusal (opened_refusal p) (names_refusal p.task x)

-- the check is refused, or says of the places what is true of them with x struck out
abbrev pub PlanChecked : Plain → ℕ → List ℕ → Result PlanCheck Refusal → Type 0
PlanChecked p x l (Ok c) = (check_refusal p x ≡ Ok tt) × Checks (strike p.task x) l c
PlanChecked p x l (Err e) = check_refusal p x ≡ Err e
