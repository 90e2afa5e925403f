-- The plan check: which places are a plan, and what is wrong with those that are not.
use Rattle.std.specs.Prelude.{◌≡◌, ℕ, ◌<◌, ◌⊎◌, List, length, take, Some, None, Option, slice_index}
use Rattle.rules.specs.Steps.{Step}
use Rattle.rules.specs.declared.check.PlanCheck.{PlanCheck}
use Rattle.rules.specs.declared.check.PlanCheck.TheVariants.{IsPlan, StopsAt, Missing}
use Rattle.rules.specs.Sets.{◌⊆◌, ◌∖◌}
use Rattle.rules.specs.Planning.{Task, step_at, result_of, Plan, Walk}

-- what the place holds can't be done in the standing s: it holds nothing, as every place above 63,
-- or a step that lacks a need
abbrev pub Undoable : Option Step → ℕ → Type 0
Undoable o s = (o ≡ None) ⊎ ((t : Step) × (o ≡ Some t) × ¬ (t.needs ⊆ s))

-- what the plan check says of the places l
abbrev pub Checks : Task → List ℕ → PlanCheck → Type 0
Checks p l IsPlan = Plan p l
Checks p l (StopsAt i) =
    (i < length l)
    × ((s : ℕ) × Walk p.steps p.standing (take i l) s × Undoable (step_at p (slice_index l i)) s)
Checks p l (Missing m) = (0 < m) × ((s : ℕ) × Walk p.steps p.standing l s × (m ≡ p.order ∖ s))

-- Only one answer fits a list of places.
abbrev pub ChecksOnce : Type 0
ChecksOnce = (p : Task) (l : List ℕ) (c d : PlanCheck) → Checks p l c → Checks p l d → c ≡ d

-- what a place holds can be done in the standing s, and leaves the standing s'
abbrev pub Does : Option Step → ℕ → ℕ → Type 0
Does o s s' = (t : Step) × (o ≡ Some t) × (t.needs ⊆ s) × (s' ≡ result_of t s)
