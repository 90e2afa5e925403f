use Rattle.std.proofs.Common.{arith}
use Rattle.rules.proofs.Sets.{and_not}
use Rattle.rules.proofs.facts.difference.Goals as goal

pub returns : goal.returns
returns c = and_not 32 c.args.a c.args.b (omega arith) (omega arith)
