use Rattle.rules.proofs.Sets.{apart_without}
use Rattle.rules.proofs.step.Step.without.Goals as goal

pub invariant_of-result : goal.invariant_of-result
invariant_of-result c =
    let t = c.self.inside in
    rw (c.difference-2.ensures, c.difference-3.ensures)
    (apart_without t.gives t.takes c.args.gone c.self.invariant)
