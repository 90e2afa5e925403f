use Rattle.cases.proofs.Keeping.{next_keeps}
use Rattle.cases.proofs.theorems.next_call_keeps_the_law.Goals as goal

pub returns : goal.returns
returns g c choice d es k e k' is listed makes = next_keeps g.D.Decider.reach g.D.Decider.MARK choice d es k e k' is listed makes
