-- How a search lists entries on a sheet of rows, and what it answers.
use Rattle.std.specs.Prelude.{EachIndex, ◌≡◌, ℕ, ◌+◌, ◌<◌, ◌≤◌, List, reverse, length, take, drop, get_or, Some, None, Ok, Err, Option, Result, slice_index, slice_index_or}
use Rattle.rules.specs.Steps.{Step}
use Rattle.rules.specs.Listing.{Successor, expansion, listing, Whole, Settles, Path}
use Rattle.deciders.specs.declared.row.Row.{Row}
use Rattle.deciders.specs.declared.struck.Action.{Action}
use Rattle.deciders.specs.declared.listing.Unsettled.{Unsettled}
use Rattle.deciders.specs.declared.answer.Verdict.{Verdict}
use Rattle.deciders.specs.declared.answer.Verdict.TheVariants as verdict
use Rattle.deciders.specs.declared.answer.DeciderFault.{DeciderFault}
use Rattle.deciders.specs.Sizes.{WithinLimits}
use Rattle.deciders.specs.Answers.{report_values}
use Rattle.deciders.specs.Search.Rows.{row, entries, Sound}
use Rattle.deciders.specs.Search.Struck.{steps_of}

-- what stands past the last action
abbrev pub zero_action : Action
zero_action = record { step = record { needs = 0; gives = 0; takes = 0 }; place = 0 }

-- one of the actions makes the row r of the row q
pub record ByAction (f : Successor) (ws : List Action) (r q : Row) : Type 0 where
  pub number : ℕ
  pub fits : number < length ws
  pub place : (get_or ws number zero_action).place ≡ r.place
  pub successor : f (get_or ws number zero_action).step q.set ≡ Some r.set

-- the step at its place makes the row r of the row q
abbrev pub ByStep : Successor → List (Option Step) → Row → Row → Type 0
ByStep f ts r q = (t : Step) × (slice_index_or ts r.place None ≡ Some t) × (f t q.set ≡ Some r.set)

-- l' begins with l
abbrev pub Starts : List ℕ → List ℕ → Type 0
Starts l l' = (length l ≤ length l') × ((i : ℕ) → i < length l → slice_index l' i ≡ slice_index l i)

-- none of the first n rows is a goal
abbrev pub NoGoal : (ℕ → Type 0) → List Row → ℕ → Type 0
NoGoal Goal sheet n = (i : ℕ) → i < n → ¬ Goal (row sheet i).set

-- What expanding the entry s of the list l leaves on the first n of m rows: the list that the rules
-- say, a last row that is a goal, or no free row.
abbrev pub Expands : Successor → (ℕ → Type 0) → List Action → ℕ → ℕ → List ℕ
    → ℕ → List Row → ℕ → Result (Option ℕ) Unsettled → Type 0
Expands f Goal ws start s l m sheet n (Ok None) =
    (length sheet ≡ m) × (length l ≤ n)
    × (entries sheet n ≡ expansion f (steps_of ws) s l)
    × Sound (ByAction f ws) start sheet n
    × NoGoal Goal sheet n
Expands f Goal ws start s l m sheet n (Ok (Some i)) =
    (length sheet ≡ m) × (n ≡ i + 1)
    × Starts (entries sheet n) (expansion f (steps_of ws) s l)
    × Sound (ByAction f ws) start sheet n
    × Goal (row sheet i).set
Expands f Goal ws start s l m sheet n (Err e) =
    (length sheet ≡ m) × (n ≡ m)
    × NoGoal Goal sheet m
    × Starts (entries sheet m) (expansion f (steps_of ws) s l)
    × (m < length (expansion f (steps_of ws) s l))

-- What a listing by the actions leaves when it stops: it is whole and no goal is in it, its last
-- row is a goal, or no row is free.
abbrev pub Lists : Successor → (ℕ → Type 0) → List Action → ℕ
    → ℕ → List Row → ℕ → Result (Option ℕ) Unsettled → Type 0
Lists f Goal ws start m sheet n (Ok None) =
    (length sheet ≡ m) × (n ≤ m)
    × (entries sheet n ≡ listing f (steps_of ws) start n)
    × NoGoal Goal sheet n
Lists f Goal ws start m sheet n (Ok (Some i)) =
    (length sheet ≡ m) × (n ≡ i + 1)
    × Starts (entries sheet n) (listing f (steps_of ws) start m)
    × Sound (ByAction f ws) start sheet n
    × Goal (row sheet i).set
Lists f Goal ws start m sheet n (Err e) =
    (length sheet ≡ m) × (n ≡ m)
    × NoGoal Goal sheet m
    × Starts (entries sheet m) (listing f (steps_of ws) start m)
    × (m < length (listing f (steps_of ws) start m))

-- a sheet of m rows and a book of b places are in the limits, and so many rows settle the search
abbrev pub InReach : Successor → (ℕ → Type 0) → List (Option Step) → ℕ → ℕ → ℕ → Type 0
InReach f Goal ts start m b = WithinLimits m b × Settles f ts start Goal m

-- What a search with a mark answers for x with m rows, and what the plan book holds before and
-- after: the places of a path to a goal, the last first; or that no entry of the whole listing is a
-- goal; and a fault where the rows do not settle it.
abbrev pub SearchAnswers : Successor → (ℕ → Type 0) → List (Option Step) → ℕ → ℕ → ℕ → ℕ
    → List ℕ → List ℕ → Result Verdict DeciderFault → Type 0
SearchAnswers f Goal ts start x mark m book book' (Ok (verdict.Solvable k)) =
    InReach f Goal ts start m (length book) × (k < m)
    × ((e : ℕ) × Path f ts start (reverse (take k book')) e × Goal e)
    × (drop k book' ≡ drop k book)
SearchAnswers f Goal ts start x mark m book book' (Ok verdict.Blocked) =
    InReach f Goal ts start m (length book)
    × ((n : ℕ) × Whole f ts start n
    × EachIndex (listing f ts start n) (λ i. ¬ Goal (slice_index (listing f ts start n) i)))
    × (book' ≡ book)
SearchAnswers f Goal ts start x mark m book book' (Err e) =
    ¬ InReach f Goal ts start m (length book)
    × (report_values e ≡ (21, 4, x, mark)) × (book' ≡ book)
