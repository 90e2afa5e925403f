-- What a decider answers, and what a fault of a decider says in a report.
use Rattle.std.specs.Prelude.{◌≡◌, ℕ, ◌<◌, Bool, List, take, drop, Ok, Err, Result, ◌==◌}
use Rattle.std.specs.Ordering.{on, eq_of_both}
use Rattle.rules.specs.Planning.{Task, Plan, strike, Blocked}
use Rattle.deciders.specs.declared.answer.Verdict.{Verdict}
use Rattle.deciders.specs.declared.answer.Verdict.TheVariants as verdict
use Rattle.deciders.specs.declared.answer.DeciderFault.{DeciderFault}
use Rattle.deciders.specs.declared.answer.DeciderFault.TheVariants.{BeyondReach}

-- a fault's number, its layer, and its values: the queried set and the decider's mark
abbrev pub report_values : DeciderFault → ℕ × ℕ × ℕ × ℕ
report_values (BeyondReach s k) = (21, 4, s, k)

-- the test whether two faults report the same set and the same mark
abbrev pub same_fault : DeciderFault → DeciderFault → Bool
same_fault = eq_of_both (on (λ e. (report_values e).2) ◌==◌) (on (λ e. (report_values e).3) ◌==◌)

-- The answer to a query for the task p without x, with m rows, and what the plan book holds before
-- and after. R says whether the query is in reach. Inside it, the answer is solvable with a plan,
-- or blocked, and there is no plan; outside it, a fault.
abbrev pub Answers : Type 0 → ℕ → Task → ℕ → ℕ
    → List ℕ → List ℕ → Result Verdict DeciderFault → Type 0
Answers R mark p x m book book' (Ok (verdict.Solvable k)) =
    R × (k < m) × Plan (strike p x) (take k book') × (drop k book' ≡ drop k book)
Answers R mark p x m book book' (Ok verdict.Blocked) = R × Blocked p x × (book' ≡ book)
Answers R mark p x m book book' (Err e) =
    ¬ R × (report_values e ≡ (21, 4, x, mark)) × (book' ≡ book)
