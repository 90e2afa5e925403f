-- The calls that only change what is planned over: what refuses each, what it makes of the task,
-- and what becomes of the groups; and what open and sign make of task and groups.
use Rattle.std.specs.Prelude.{ℕ, if◌then◌else◌, ◌||◌, List, [], fold, Some, None, Ok, Err, Option, Result, ◌==◌, nat_lt, slice_set}
use Rattle.rules.specs.declared.refusal.Refusal.{Refusal}
use Rattle.rules.specs.declared.refusal.Refusal.TheVariants.{FactCount, UnknownFact, NoSuchPlace, PlaceEmpty, NeedMissing, WaivedFact}
use Rattle.rules.specs.Sets.{◌∪◌, ◌∩◌, ◌∖◌, inside, below}
use Rattle.rules.specs.Steps.{Step, step_of, step_refusal}
use Rattle.rules.specs.Planning.{Task, step_at, result_of}
use Rattle.rules.specs.Setters.{with_standing, with_order, with_steps, with_waived}
use Rattle.rules.specs.Places.{put_refusal, clear_refusal}
use Rattle.rules.specs.Refusals.{first_refusal}
use Rattle.rules.specs.Listing.{with_entry}
use Rattle.waivers.specs.declared.change.Change.{Change}
use Rattle.waivers.specs.declared.change.Change.TheVariants as change
use Rattle.waivers.specs.declared.change.Fate.{Fate}
use Rattle.waivers.specs.declared.change.Fate.TheVariants.{Emptied, Kept, Losing}
use Rattle.waivers.specs.Known.{Known}

-- ---- what refuses a change

-- why a set is refused: it names a fact that the task has not
abbrev pub names_refusal : Task → ℕ → Result Unit Refusal
names_refusal p s = if inside s (below p.n) then Ok tt else Err UnknownFact

-- why an order is refused: it names a waived fact
abbrev pub waived_refusal : Task → ℕ → Result Unit Refusal
waived_refusal p s = if (s ∩ p.waived) == 0 then Ok tt else Err WaivedFact

-- why what a place holds can't be done for good: it is empty, or a need outside the waived facts
-- doesn't stand
abbrev pub ready_refusal : Task → Option Step → Result Unit Refusal
ready_refusal p None = Err PlaceEmpty
ready_refusal p (Some t) =
    if inside (t.needs ∖ p.waived) p.standing then Ok tt else Err NeedMissing

-- what refuses each change, by rising number
abbrev pub refusal_of : Task → Change → Result Unit Refusal
refusal_of p (change.Grant s) = names_refusal p s
refusal_of p (change.Lapse s) = names_refusal p s
refusal_of p (change.Put i needs gives takes) =
    first_refusal (names_refusal p (needs ∪ gives ∪ takes))
    (first_refusal (step_refusal gives takes) (put_refusal p.steps i))
refusal_of p (change.Withdraw i) = clear_refusal p.steps i
refusal_of p (change.Carry i) =
    if nat_lt i 64 then ready_refusal p (step_at p i) else Err NoSuchPlace
refusal_of p (change.Order s) = first_refusal (names_refusal p s) (waived_refusal p s)
refusal_of p (change.Cancel s) = names_refusal p s

-- ---- what a change makes of the task

-- the standing s after what a place holds is done in it
abbrev pub standing_after : Option Step → ℕ → ℕ
standing_after None s = s
standing_after (Some t) s = result_of t s

-- what each change makes of the task; a step is done for good with all that it takes and gives
abbrev pub task_after : Change → Task → Task
task_after (change.Grant s) p = with_standing p (p.standing ∪ s)
task_after (change.Lapse s) p = with_standing p (p.standing ∖ s)
task_after (change.Put i needs gives takes) p =
    with_steps p (slice_set p.steps i (Some (step_of needs gives takes)))
task_after (change.Withdraw i) p = with_steps p (slice_set p.steps i None)
task_after (change.Carry i) p = with_standing p (standing_after (step_at p i) p.standing)
task_after (change.Order s) p = with_order p (p.order ∪ s)
task_after (change.Cancel s) p = with_order p (p.order ∖ s)

-- ---- what becomes of the groups

-- after each change the list is emptied, or kept, or each group loses the facts that are ordered
abbrev pub fate_of : Change → Fate
fate_of (change.Grant s) = Emptied
fate_of (change.Lapse s) = Kept
fate_of (change.Put i needs gives takes) = Emptied
fate_of (change.Withdraw i) = Kept
fate_of (change.Carry i) = Kept
fate_of (change.Order s) = Losing s
fate_of (change.Cancel s) = Emptied

-- each group in turn loses the facts of s, and is left out if it then equals one before it
abbrev pub groups_without : ℕ → List ℕ → List ℕ
groups_without s gs = fold (λ hs g. with_entry (g ∖ s) hs) [] gs

-- the groups that are left
abbrev pub groups_after : Fate → List ℕ → List ℕ
groups_after Emptied gs = []
groups_after Kept gs = gs
groups_after (Losing s) gs = groups_without s gs

-- a task with its groups after a change
abbrev pub known_after : Change → Known → Known
known_after x k = record { task = task_after x k.task; groups = groups_after (fate_of x) k.groups }

-- ---- open and sign

-- why a task can't be opened: it has 1 to 32 facts, and its standing and its order name no others
abbrev pub open_refusal : ℕ → ℕ → ℕ → Result Unit Refusal
open_refusal n s o =
    if (n == 0 || nat_lt 32 n) then Err FactCount
    else (if inside (s ∪ o) (below n) then Ok tt else Err UnknownFact)

-- the number of facts, the standing and the order are set
abbrev pub task_opened : ℕ → ℕ → ℕ → Task → Task
task_opened n s o p = record p { n = n; standing = s; order = o }

-- these facts are waived too
abbrev pub task_waived : ℕ → Task → Task
task_waived s p = with_waived p (p.waived ∪ s)

-- another task, and no group is known of it
abbrev pub without_groups : (Task → Task) → Known → Known
without_groups f k = record { task = f k.task; groups = [] }
