use Rattle.rules.proofs.Examples.{worked_examples}
use Rattle.rules.proofs.theorems.worked_examples_hold.Goals as goal

pub returns : goal.returns
returns c = worked_examples
