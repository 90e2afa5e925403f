use Rattle.std.proofs.Common.{◌≡◌, Some, map, take}
use Rattle.deciders.specs.Closures.{filled}
use Rattle.deciders.proofs.closure.steps_at.Given as goal

abbrev pub invariant-loop-place : goal.invariant-loop-place
invariant-loop-place l = map Some l.steps.items ≡ filled (take l.place-index l.places)
