-- What is proved of the searches.
use Rattle.std.specs.Prelude.{◌≡◌, ℕ, ◌<◌, List, reverse, length, EachIndex, Some, Option, slice_index}
use Rattle.rules.specs.Steps.{Step}
use Rattle.rules.specs.Sets.{◌⊆◌}
use Rattle.rules.specs.Planning.{Task, step_at, Walk, Plan, Consistent}
use Rattle.rules.specs.Examples.{C}
use Rattle.rules.specs.Listing.{listing, Whole, Path}
use Rattle.deciders.specs.Closures.{Closure}
use Rattle.deciders.specs.Reaches.{regression, ScreenedOut}

-- the backward listing of a task once k of its sets have been expanded
abbrev pub subgoals : Task → ℕ → List ℕ
subgoals p k = listing regression p.steps p.order k

-- From any standing that contains a set that is listed, the places of its path, in the opposite
-- order, are a walk to a standing with the order.
abbrev pub SubgoalLeads : Type 0
SubgoalLeads = (p : Task) (m i : ℕ) → i < length (subgoals p m)
    → (l : List ℕ) × Path regression p.steps p.order l (slice_index (subgoals p m) i)
    × ((s : ℕ) → slice_index (subgoals p m) i ⊆ s
    → (e : ℕ) × Walk p.steps s (reverse l) e × (p.order ⊆ e))

-- Where no step gives a fact that it takes, a whole backward listing has a set for each standing
-- from which the order can be reached, contained in it.
abbrev pub LeadsToSubgoal : Type 0
LeadsToSubgoal = (p : Task) (m : ℕ) → Consistent p → Whole regression p.steps p.order m
    → (s : ℕ) (l : List ℕ) (e : ℕ) → Walk p.steps s l e → p.order ⊆ e
    → (i : ℕ) × (i < length (subgoals p m)) × (slice_index (subgoals p m) i ⊆ s)

-- A whole backward listing with no set that stands means that no plan of any length exists.
abbrev pub SubgoalsBlocked : Type 0
SubgoalsBlocked = (p : Task) (m : ℕ) → Consistent p → Whole regression p.steps p.order m
    → EachIndex (subgoals p m) (λ i. ¬ (slice_index (subgoals p m) i ⊆ p.standing))
    → (l : List ℕ) → ¬ Plan p l

-- Every standing has a closure under the steps.
abbrev pub ClosureExists : Type 0
ClosureExists = (ts : List (Option Step)) (s : ℕ) → (c : ℕ) × Closure ts s c

-- There is but one closure.
abbrev pub ClosureUnique : Type 0
ClosureUnique = (ts : List (Option Step)) (s c d : ℕ) → Closure ts s c → Closure ts s d → c ≡ d

-- An order that is not inside the closure is met by no plan of any length.
abbrev pub ScreenedBlocked : Type 0
ScreenedBlocked = (p : Task) → ScreenedOut p → (l : List ℕ) → ¬ Plan p l

-- Going backward in the worked example C: the set {3} and the step at the place 0 give {1, 2}.
abbrev pub BackwardExample : Type 0
BackwardExample = (t : Step) → step_at C 0 ≡ Some t → regression t 0b1000 ≡ Some 0b0110
