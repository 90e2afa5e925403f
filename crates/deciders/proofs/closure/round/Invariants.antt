use Rattle.std.proofs.Common.{Some, map}
use Rattle.deciders.specs.Closures.{Round}
use Rattle.deciders.proofs.closure.round.Given as goal

abbrev pub invariant-loop-step : goal.invariant-loop-step
invariant-loop-step l = Round (map Some l.steps) l.step-index l.facts l.all
