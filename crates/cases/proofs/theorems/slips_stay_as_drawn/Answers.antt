use Rattle.cases.proofs.Staying.{slips_stay}
use Rattle.cases.proofs.theorems.slips_stay_as_drawn.Goals as goal

pub returns : goal.returns
returns c = slips_stay
