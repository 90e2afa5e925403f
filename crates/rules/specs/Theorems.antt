-- What is proved of the rules.
use Rattle.std.specs.Prelude.{◌≡◌, ◌≢◌, ℕ, ◌^◌, ◌<◌, ◌≤◌, ◌⊎◌, ◌↔◌, Some, None, Option}
use Rattle.std.specs.Prelude.{List, length, All, AllPairs, EachIndex, slice_index, slice_set}
use Rattle.rules.specs.Steps.{Step}
use Rattle.rules.specs.Sets.{◌⊆◌, ◌∖◌, Meets, size}
use Rattle.rules.specs.Planning.{Task, step_at, result_of, Plan, Walk, strike, Solvable, Blocked}
use Rattle.rules.specs.Setters.{with_standing, with_order, with_steps}
use Rattle.rules.specs.Waivers.{waivable, Good, Group, MinimalGroup, LargestBlocked}
use Rattle.rules.specs.Waivers.{MinimumHittingSet}
use Rattle.rules.specs.Listing.{Successor, listing, Whole, Path, progression, standings}

-- ---- what never blocks

-- Striking out more keeps every plan.
abbrev pub StrikingMore : Type 0
StrikingMore = (p : Task) (x y : ℕ) (l : List ℕ) → x ⊆ y → Plan (strike p x) l → Plan (strike p y) l

-- Standing more keeps every plan.
abbrev pub StandingMore : Type 0
StandingMore = (p : Task) (s s' x : ℕ) (l : List ℕ) → s ⊆ s'
    → Plan (strike (with_standing p s) x) l → Plan (strike (with_standing p s') x) l

-- Ordering less keeps every plan.
abbrev pub OrderingLess : Type 0
OrderingLess = (p : Task) (o o' x : ℕ) (l : List ℕ) → o ⊆ o'
    → Plan (strike (with_order p o') x) l → Plan (strike (with_order p o) x) l

-- A step put into an empty place keeps every plan.
abbrev pub AdditionalStep : Type 0
AdditionalStep = (p : Task) (i : ℕ) (t : Step) (x : ℕ) (l : List ℕ) → step_at p i ≡ None
    → Plan (strike p x) l → Plan (strike (with_steps p (slice_set p.steps i (Some t))) x) l

-- Emptying a place makes no new plan.
abbrev pub Emptying : Type 0
Emptying = (p : Task) (i x : ℕ) (l : List ℕ)
    → Plan (strike (with_steps p (slice_set p.steps i None)) x) l → Plan (strike p x) l

-- What is blocked stays blocked after a step is done for good whose needs outside the waived facts
-- stand.
abbrev pub Doing : Type 0
Doing = (p : Task) (i : ℕ) (t : Step) (x : ℕ)
    → step_at p i ≡ Some t → t.needs ∖ p.waived ⊆ p.standing
    → Blocked p x → Blocked (with_standing p (result_of t p.standing)) x

-- A plan is a walk to a standing that contains the order.
abbrev pub PlansWalk : Type 0
PlansWalk = (p : Task) (l : List ℕ)
    → Plan p l ↔ ((e : ℕ) × Walk p.steps p.standing l e × (p.order ⊆ e))

-- ---- good sets and groups

-- Every good set shares a fact with every group.
abbrev pub Duality : Type 0
Duality = (p : Task) (x g : ℕ) → Good p x → Group p g → Meets x g

-- A minimum hitting set of a list of groups has only waivable facts, and no good set is smaller.
abbrev pub Hitting : Type 0
Hitting = (p : Task) (gs : List ℕ) (h : ℕ) → All (Group p) gs → MinimumHittingSet gs h
    → (h ⊆ waivable p) × ((x : ℕ) → Good p x → size h ≤ size x)

-- With an empty group no good set exists.
abbrev pub NoWay : Type 0
NoWay = (p : Task) (x : ℕ) → Group p 0 → ¬ Good p x

-- The waivable facts outside a largest blocked set are a group, which shares no fact with that set,
-- and no proper part of it is a group.
abbrev pub LargestOutside : Type 0
LargestOutside = (p : Task) (m : ℕ) → LargestBlocked p m
    → MinimalGroup p (waivable p ∖ m) × ¬ Meets m (waivable p ∖ m)

-- ---- listings, whatever a step makes of an entry

-- Each entry that is listed is reached.
abbrev pub ListedReached : Type 0
ListedReached = (f : Successor) (ts : List (Option Step)) (start m i : ℕ)
    → i < length (listing f ts start m)
    → (l : List ℕ) × Path f ts start l (slice_index (listing f ts start m) i)

-- A whole listing has each entry that can be reached.
abbrev pub ReachedListed : Type 0
ReachedListed = (f : Successor) (ts : List (Option Step)) (start m : ℕ) → Whole f ts start m
    → (l : List ℕ) (e : ℕ) → Path f ts start l e
    → (i : ℕ) × (i < length (listing f ts start m)) × (slice_index (listing f ts start m) i ≡ e)

-- Going on changes nothing that is listed, and nothing at all once the listing is whole.
abbrev pub ListingStays : Type 0
ListingStays = (f : Successor) (ts : List (Option Step)) (start k m : ℕ) → k ≤ m
    → (length (listing f ts start k) ≤ length (listing f ts start m))
    × ((i : ℕ) → i < length (listing f ts start k)
    → slice_index (listing f ts start m) i ≡ slice_index (listing f ts start k) i)
    × (Whole f ts start k → listing f ts start m ≡ listing f ts start k)

-- The first k entries of a listing that went on longer were there once k entries had been expanded.
abbrev pub FirstEntries : Type 0
FirstEntries = (f : Successor) (ts : List (Option Step)) (start k m i : ℕ) → k ≤ m → i < k
    → i < length (listing f ts start m) → i < length (listing f ts start k)

-- No entry is listed twice.
abbrev pub NoRepeats : Type 0
NoRepeats = (f : Successor) (ts : List (Option Step)) (start m : ℕ)
    → AllPairs (λ d e. d ≢ e) (listing f ts start m)

-- A listing whose entries stay below 2 ^ b is whole after 2 ^ b entries.
abbrev pub ListingEnds : Type 0
ListingEnds = (f : Successor) (ts : List (Option Step)) (start b : ℕ)
    → ((l : List ℕ) (e : ℕ) → Path f ts start l e → e < 2 ^ b) → Whole f ts start (2 ^ b)

-- ---- the forward listing

-- What the forward listing reaches is what can be done.
abbrev pub ForwardWalks : Type 0
ForwardWalks = (ts : List (Option Step)) (s : ℕ) (l : List ℕ) (e : ℕ)
    → Path progression ts s l e ↔ Walk ts s l e

-- A whole forward listing in which the order stands nowhere means that no plan of any length
-- exists.
abbrev pub WholeBlocked : Type 0
WholeBlocked = (p : Task) (m : ℕ) → Whole progression p.steps p.standing m
    → EachIndex (standings p m) (λ i. ¬ (p.order ⊆ slice_index (standings p m) i))
    → (l : List ℕ) → ¬ Plan p l

-- A standing that is listed and contains the order means that there is a plan.
abbrev pub ListedPlan : Type 0
ListedPlan = (p : Task) (m i : ℕ) → i < length (standings p m)
    → p.order ⊆ slice_index (standings p m) i → (l : List ℕ) × Plan p l

-- Whether a struck-out task has a plan is decided.
abbrev pub Decided : Type 0
Decided = (p : Task) (x : ℕ) → Solvable p x ⊎ Blocked p x
