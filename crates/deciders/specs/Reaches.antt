-- The reaches of the deciders that ship: which struck-out tasks they settle, with how many rows.
use Rattle.std.specs.Prelude.{if◌then◌else◌, ℕ, ◌⊎◌, Some, None}
use Rattle.rules.specs.Sets.{◌⊆◌, ◌∪◌, ◌∖◌, shares}
use Rattle.rules.specs.Planning.{Task, strike}
use Rattle.rules.specs.Listing.{Successor, Settles, progression}
use Rattle.deciders.specs.Sizes.{WithinLimits}
use Rattle.deciders.specs.Closures.{Closure}

-- Forward lists standings, from the standing on, until one contains the order.
abbrev pub ForwardReach : Task → ℕ → ℕ → ℕ → Type 0
ForwardReach p x m b =
    let q = strike p x in
    WithinLimits m b × Settles progression q.steps q.standing (λ s. q.order ⊆ s) m

-- backward: by a step that gives a fact of w and takes none of it, w without the gives and then
-- with the needs
abbrev pub regression : Successor
regression t w =
    if shares t.gives w then (
    if shares t.takes w then None else Some ((w ∖ t.gives) ∪ t.needs)
    ) else None

-- Backward lists subgoals, from the order on, until one is contained in the standing.
abbrev pub BackwardReach : Task → ℕ → ℕ → ℕ → Type 0
BackwardReach p x m b =
    let q = strike p x in
    WithinLimits m b × Settles regression q.steps q.order (λ w. w ⊆ q.standing) m

-- the order cannot stand even if no step takes anything: it is not inside the closure of the
-- standing
abbrev pub ScreenedOut : Task → Type 0
ScreenedOut p = (c : ℕ) × Closure p.steps p.standing c × ¬ (p.order ⊆ c)

-- A screen settles what the decider below it settles, in its reach R, and within the size limits
-- what it blocks itself.
abbrev pub ScreenReach : (Task → ℕ → ℕ → ℕ → Type 0) → Task → ℕ → ℕ → ℕ → Type 0
ScreenReach R p x m b = WithinLimits m b × (R p x m b ⊎ ScreenedOut (strike p x))
