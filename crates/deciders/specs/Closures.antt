-- The closure of a standing under steps, takes ignored.
use Rattle.std.specs.Prelude.{◌≡◌, ℕ, ◌<◌, List, Some, None, is_some, filter, Option, slice_index_or}
use Rattle.rules.specs.Steps.{Step}
use Rattle.rules.specs.Sets.{◌⊆◌}

-- with the needs of a step, the set c has its gives
abbrev pub Under : List (Option Step) → ℕ → Type 0
Under ts c = (i : ℕ) (t : Step) → slice_index_or ts i None ≡ Some t → t.needs ⊆ c → t.gives ⊆ c

-- c holds what stands, and with the needs of a step its gives
abbrev pub ClosedUnder : List (Option Step) → ℕ → ℕ → Type 0
ClosedUnder ts s c = (s ⊆ c) × Under ts c

-- the closure: the least such set
abbrev pub Closure : List (Option Step) → ℕ → ℕ → Type 0
Closure ts s c = ClosedUnder ts s c × ((d : ℕ) → ClosedUnder ts s d → c ⊆ d)

-- One round of closing: r is c with the gives of those of the first n steps whose needs are in c,
-- and with nothing but what has to be there.
pub record Round (ts : List (Option Step)) (n c r : ℕ) : Type 0 where
  pub grows : c ⊆ r
  pub least : (d : ℕ) → Under ts d → c ⊆ d → r ⊆ d
  pub all : (i : ℕ) (t : Step) → i < n → slice_index_or ts i None ≡ Some t
      → t.needs ⊆ c → t.gives ⊆ r

-- the places that hold a step
abbrev pub filled : List (Option Step) → List (Option Step)
filled ts = filter is_some ts
