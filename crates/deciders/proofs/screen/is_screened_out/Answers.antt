use Rattle.rules.specs.contracts.problem.Problem.{the_view}
use Rattle.deciders.proofs.Closures.{struck_screens_out}
use Rattle.deciders.proofs.screen.is_screened_out.Goals as goal

pub returns : goal.returns
returns c =
    let closed = rw c.places.ensures.same at c.closure_has.ensures in
    rw (← c.problem.view_is) (struck_screens_out (the_view c.problem.inside) c.args.strike c.closure_has.result closed)
