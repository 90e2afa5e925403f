-- The reach of a decider stays. Each contract says so: the reach may hang on the decider, and a
-- query changes that.
use Rattle.std.specs.Prelude.{ℕ}
use Rattle.rules.specs.Planning.{Task}

-- two reaches are the same: of the same tasks, sets, rows and places
abbrev pub SameReach : (Task → ℕ → ℕ → ℕ → Type 0) → (Task → ℕ → ℕ → ℕ → Type 0) → Type 0
SameReach R S = (p : Task) (x m b : ℕ) → (R p x m b → S p x m b) × (S p x m b → R p x m b)
