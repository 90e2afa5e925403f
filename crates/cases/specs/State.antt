-- A case in plain terms: a plain case with its group list; and what accepted calls make of both.
use Rattle.std.specs.Prelude.{ℕ, Bool, false, List, [], None, Option, IfSome}
use Rattle.rules.specs.Waivers.{Good}
use Rattle.waivers.specs.declared.change.Change.{Change}
use Rattle.waivers.specs.Known.{Known, WellKept}
use Rattle.waivers.specs.Changes.{task_after, fate_of, groups_after, task_opened, task_waived}
use Rattle.cases.specs.declared.slip.SlipData.{SlipData}
use Rattle.cases.specs.Plain.{Plain, unopened}

-- a plain case, and the groups that it lists
pub record State : Type 0 where
  pub plain : Plain
  pub groups : List ℕ

-- a fresh case is unopened and lists no group
abbrev pub fresh : State
fresh = record { plain = unopened; groups = [] }

-- the task and the groups of a case
abbrev pub known_of : State → Known
known_of k = record { task = k.plain.task; groups = k.groups }

-- what is always so of a case: what was found is a good set of its task, which has at most 32 facts,
-- and its groups are listed
pub record SoundCase (finding : Option ℕ) (k : Known) : Type 0 where
  pub good : IfSome finding (Good k.task)
  pub kept : WellKept k

-- ---- what accepted calls make of the plain case

-- open sets number, number of facts, standing and order, and the finding is forgotten
abbrev pub plain_opened : ℕ → ℕ → ℕ → ℕ → Plain → Plain
plain_opened number n s o p =
    record p { number = number; task = task_opened n s o p.task; finding = None }

-- a change makes another task, and the finding is forgotten
abbrev pub plain_changed : Change → Plain → Plain
plain_changed x p = record p { task = task_after x p.task; finding = None }

-- find leaves its set as the finding, or nothing
abbrev pub plain_found : Option ℕ → Plain → Plain
plain_found o p = record p { finding = o }

-- a slip is out, or in
abbrev pub with_slip : Bool → Plain → Plain
with_slip b p = record p { slip_out = b }

-- sign waives the set and forgets the finding, and the slip is in
abbrev pub plain_signed : SlipData → Plain → Plain
plain_signed slip p =
    record p { task = task_waived slip.«set» p.task; finding = None; slip_out = false }

-- ---- and of the group list

-- open empties the list
abbrev pub state_opened : ℕ → ℕ → ℕ → ℕ → State → State
state_opened number n s o k = record { plain = plain_opened number n s o k.plain; groups = [] }

-- sign empties it too
abbrev pub state_signed : SlipData → State → State
state_signed slip k = record { plain = plain_signed slip k.plain; groups = [] }

-- it stays when a slip is drawn or torn
abbrev pub state_with_slip : Bool → State → State
state_with_slip b k = record k { plain = with_slip b k.plain }

-- and a change empties it, keeps it, or takes facts from its groups
abbrev pub state_changed : Change → State → State
state_changed x k =
    record { plain = plain_changed x k.plain; groups = groups_after (fate_of x) k.groups }
