-- The plain case: all that a case holds except its group list.
use Rattle.std.specs.Prelude.{ℕ, Bool, false, None, Option}
use Rattle.rules.specs.Planning.{Task}
use Rattle.waivers.specs.Known.{empty_known}

-- the number of the case, its task, its finding, and whether a slip is out
pub record Plain : Type 0 where
  pub number : ℕ
  pub task : Task
  pub finding : Option ℕ
  pub slip_out : Bool

-- an unopened case: the numbers are 0, sets and places are empty, nothing was found, and no slip is
-- out
abbrev pub unopened : Plain
unopened = record { number = 0; task = empty_known.task; finding = None; slip_out = false }
