use Rattle.rules.proofs.Groups.{duality, hitting, no_way, largest_outside}
use Rattle.rules.proofs.theorems.good_sets_meet_groups.Goals as goal

pub returns : goal.returns
returns c = record { duality = duality; hitting = hitting; none = no_way; largest = largest_outside }
