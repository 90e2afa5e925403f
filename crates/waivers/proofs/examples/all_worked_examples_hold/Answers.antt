use Rattle.rules.proofs.Examples.{worked_examples}
use Rattle.deciders.proofs.Backwards.{backward_example}
use Rattle.pickers.proofs.Worked.{worked_picks}
use Rattle.waivers.proofs.examples.all_worked_examples_hold.Goals as goal

pub returns : goal.returns
returns c = record { rules = worked_examples; backward = backward_example; picks = worked_picks }
