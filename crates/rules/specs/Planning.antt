-- Planning: tasks, doing a step, plans, and striking facts out.
use Rattle.std.specs.Prelude.{◌≡◌, ℕ, List, [], ◌∷◌, map, Some, None, Option, slice_index_or}
use Rattle.rules.specs.Steps.{Step}
use Rattle.rules.specs.Places.{AllClear}
use Rattle.rules.specs.Sets.{◌⊆◌, ◌∪◌, ◌∖◌}

-- What a case is planned over: the number of facts, the facts that stand, those ordered, those
-- waived, and the steps by their places.
pub record Task : Type 0 where
  pub n : ℕ
  pub standing : ℕ
  pub order : ℕ
  pub waived : ℕ
  pub steps : List (Option Step)

-- what the place i holds: a step, or nothing
abbrev pub step_at : Task → ℕ → Option Step
step_at p i = slice_index_or p.steps i None

-- the standing s after the step t is done in it
abbrev pub result_of : Step → ℕ → ℕ
result_of t s = (s ∖ t.takes) ∪ t.gives

-- from the standing s the steps at the places l can be done in turn, and then the order stands
abbrev pub Leads : Task → ℕ → List ℕ → Type 0
Leads p s [] = p.order ⊆ s
Leads p s (i ∷ l) = (t : Step) × (step_at p i ≡ Some t) × (t.needs ⊆ s) × Leads p (result_of t s) l

-- the places l are a plan
abbrev pub Plan : Task → List ℕ → Type 0
Plan p l = Leads p p.standing l

-- doing the steps that ts holds at the places l, one after another, takes the standing s to e
abbrev pub Walk : List (Option Step) → ℕ → List ℕ → ℕ → Type 0
Walk ts s [] e = s ≡ e
Walk ts s (i ∷ l) e =
    (t : Step) × (slice_index_or ts i None ≡ Some t) × (t.needs ⊆ s) × Walk ts (result_of t s) l e

-- the step t without the facts of g
abbrev pub step_without : ℕ → Step → Step
step_without g t = record { needs = t.needs ∖ g; gives = t.gives ∖ g; takes = t.takes ∖ g }

-- a place without the facts of g
abbrev pub place_without : ℕ → Option Step → Option Step
place_without g None = None
place_without g (Some t) = Some (step_without g t)

-- the facts that go when x is struck out: the waived ones always go
abbrev pub struck_facts : Task → ℕ → ℕ
struck_facts p x = x ∪ p.waived

-- the task with x struck out
abbrev pub strike : Task → ℕ → Task
strike p x = record {
  n = p.n;
  standing = p.standing ∖ struck_facts p x;
  order = p.order ∖ struck_facts p x;
  waived = p.waived;
  steps = map (place_without (struck_facts p x)) p.steps;
}

-- with x struck out there is a plan, of some length
abbrev pub Solvable : Task → ℕ → Type 0
Solvable p x = (l : List ℕ) × Plan (strike p x) l

-- with x struck out there is no plan of any length
abbrev pub Blocked : Task → ℕ → Type 0
Blocked p x = ¬ Solvable p x

-- no step of the task gives a fact that it takes
abbrev pub Consistent : Task → Type 0
Consistent p = AllClear p.steps
