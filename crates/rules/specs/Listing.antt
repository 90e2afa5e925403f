-- Listings: from a first entry on, each entry in turn adds what the steps make of it. Forward, an
-- entry is a standing.
use Rattle.std.specs.Prelude.{if◌then◌else◌, ◌≡◌, ℕ, zero, suc, ◌<◌, ◌≤◌, Bool, false, ◌||◌, ◌⊎◌, List, [], ◌∷◌, ◌++◌, length, Some, None, Option, ◌==◌, nat_lt, slice_index, slice_index_or}
use Rattle.rules.specs.Steps.{Step}
use Rattle.rules.specs.Sets.{inside}
use Rattle.rules.specs.Planning.{Task, result_of}

-- what a step makes of an entry: another entry, or nothing
abbrev pub Successor : Type 0
Successor = Step → ℕ → Option ℕ

-- is the entry s in the list?
abbrev pub is_listed : ℕ → List ℕ → Bool
is_listed s [] = false
is_listed s (a ∷ l) = s == a || is_listed s l

-- the list with s at its end, unless s is in it
abbrev pub with_entry : ℕ → List ℕ → List ℕ
with_entry s l = if is_listed s l then l else l ++ s ∷ []

-- the list with an entry that a step made, if it made one
abbrev pub with_made : Option ℕ → List ℕ → List ℕ
with_made None l = l
with_made (Some s) l = with_entry s l

-- the list with what the steps, by rising place, make of the entry s, where it is not yet listed
abbrev pub expansion : Successor → List (Option Step) → ℕ → List ℕ → List ℕ
expansion f [] s l = l
expansion f (None ∷ ts) s l = expansion f ts s l
expansion f (Some t ∷ ts) s l = expansion f ts s (with_made (f t s) l)

-- the listing once its first k entries, or all where it has no more, have been expanded
abbrev pub listing : Successor → List (Option Step) → ℕ → ℕ → List ℕ
listing f ts start zero = start ∷ []
listing f ts start (suc k) =
    let l = listing f ts start k in
    if nat_lt k (length l) then expansion f ts (slice_index l k) l else l

-- the whole listing has at most m entries
abbrev pub Whole : Successor → List (Option Step) → ℕ → ℕ → Type 0
Whole f ts start m = length (listing f ts start m) ≤ m

-- m rows settle it: the whole listing has at most m entries, or a goal is among the first m
abbrev pub Settles : Successor → List (Option Step) → ℕ → (ℕ → Type 0) → ℕ → Type 0
Settles f ts start Goal m =
    Whole f ts start m
    ⊎ ((i : ℕ) × (i < m) × (i < length (listing f ts start m))
    × Goal (slice_index (listing f ts start m) i))

-- the steps at the places l, one after another, make the entry e of the entry s
abbrev pub Path : Successor → List (Option Step) → ℕ → List ℕ → ℕ → Type 0
Path f ts s [] e = s ≡ e
Path f ts s (i ∷ l) e =
    (t : Step) × (slice_index_or ts i None ≡ Some t)
    × (r : ℕ) × (f t s ≡ Some r) × Path f ts r l e

-- forward: the result of a step that can be done
abbrev pub progression : Successor
progression t s = if inside t.needs s then Some (result_of t s) else None

-- the forward listing of a task once k of its standings have been expanded
abbrev pub standings : Task → ℕ → List ℕ
standings p k = listing progression p.steps p.standing k
