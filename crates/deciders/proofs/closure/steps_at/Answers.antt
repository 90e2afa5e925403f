use Rattle.std.proofs.Common.{length, take, ap, arith}
use Rattle.std.proofs.lemmas.Grind.{common_steps}
use Rattle.deciders.proofs.Closures.{filled_few}
use Rattle.deciders.proofs.closure.steps_at.Goals as goal

pub push-requires : goal.push-requires
push-requires c =
    let few = filled_few (take c.loop-place.place-index c.args.places.now) in
    let same = ap length c.loop-place.invariant in
    grind (arith, common_steps)
