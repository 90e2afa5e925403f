-- A task with one part changed, and all else as it was.
use Rattle.std.specs.Prelude.{ℕ, List, Option}
use Rattle.rules.specs.Steps.{Step}
use Rattle.rules.specs.Planning.{Task}

-- the task with another standing
abbrev pub with_standing : Task → ℕ → Task
with_standing p s = record p { standing = s }

-- the task with another order
abbrev pub with_order : Task → ℕ → Task
with_order p o = record p { order = o }

-- the task with other steps
abbrev pub with_steps : Task → List (Option Step) → Task
with_steps p ts = record p { steps = ts }

-- the task with other waived facts
abbrev pub with_waived : Task → ℕ → Task
with_waived p w = record p { waived = w }
