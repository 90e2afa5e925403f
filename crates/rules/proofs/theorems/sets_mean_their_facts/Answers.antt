use Rattle.rules.proofs.Sets.{sets_mean, sizes_mean}
use Rattle.rules.proofs.theorems.sets_mean_their_facts.Goals as goal

pub returns : goal.returns
returns c = record { sets = sets_mean; sizes = sizes_mean }
