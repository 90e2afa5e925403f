use Rattle.std.proofs.Common.{◌-◌, Some, map}
use Rattle.deciders.proofs.Closures.{Closing, closure_exists}
use Rattle.deciders.proofs.closure.rounds_reach.Given as goal

abbrev pub invariant-loop-more : goal.invariant-loop-more
invariant-loop-more l = Closing (map Some l.steps) l.standing l.all

abbrev pub decreases-loop-more : goal.decreases-loop-more
decreases-loop-more l = (closure_exists (map Some l.steps) l.standing).0 - l.all
