use Rattle.cases.proofs.Keeping.{calls_keep}
use Rattle.cases.proofs.theorems.calls_keep_the_law.Goals as goal

pub returns : goal.returns
returns g c choice first es d k made = calls_keep g.D.Decider.reach g.D.Decider.MARK choice first es d k made
