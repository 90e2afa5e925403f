use Rattle.std.proofs.Common.{refl}
use Rattle.rules.proofs.Sets.{shares_means}
use Rattle.rules.proofs.facts.meets.Goals as goal

pub returns : goal.returns
returns c = record { test = refl; says = shares_means c.args.a c.args.b }
