use Rattle.rules.proofs.Plans.{plans_walk}
use Rattle.rules.proofs.Forwards.{forward_walks, whole_blocked, listed_plan, decided}
use Rattle.rules.proofs.theorems.plans_are_decided.Goals as goal

pub returns : goal.returns
returns c = record { walk = plans_walk; forward = forward_walks; blocked = whole_blocked; plan = listed_plan; decided = decided }
