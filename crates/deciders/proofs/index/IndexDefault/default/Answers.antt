use Rattle.std.proofs.Common.{arith}
use Rattle.deciders.proofs.Chains.{zeros_below}
use Rattle.deciders.proofs.index.IndexDefault.default.Goals as goal

pub invariant_of-result-clause-below : goal.invariant_of-result-clause-below
invariant_of-result-clause-below c = zeros_below 4096 4096 (omega arith)
