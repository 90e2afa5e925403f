use Rattle.std.proofs.Common.{rules}
use Rattle.rules.specs.contracts.problem.Problem.{the_view}
use Rattle.rules.proofs.Checks.{checks_once, stops_at, goes_on, ends_well, ends_short}
use Rattle.rules.proofs.problem.Problem.check_plan.Goals as goal

pub returns-in_default : goal.returns-in_default
returns-in_default c =
    let begins = rw c.hold-walk.ensures.saved at c.difference-walk.ensures in
    rw (← c.self.view_is) (record {
      says = stops_at (the_view c.self.inside) c.args.strike c.difference-walk.result c.args.places.now c.loop-i.i
          c.loop-i.walk.standing.now.facts begins c.loop-i.invariant c.loop-i-test.true c.in_default.ensures;
      same = search rules;
      once = checks_once;
    })

pub loop-i-preserved : goal.loop-i-preserved
loop-i-preserved c =
    let begins = rw c.hold-walk.ensures.saved at c.difference-walk.ensures in
    goes_on (the_view c.self.inside) c.args.strike c.difference-walk.result c.args.places.now c.loop-i.i
    c.loop-i.walk.standing.now.facts begins c.loop-i.invariant c.in-Some.next.facts c.loop-i-test.true
    c.in-Some.ensures

pub returns-then-missing-eq0 : goal.returns-then-missing-eq0
returns-then-missing-eq0 c =
    let begins = rw c.hold-walk.ensures.saved at c.difference-walk.ensures in
    rw (← c.self.view_is) (record {
      says = ends_well (the_view c.self.inside) c.args.strike c.difference-walk.result c.args.places.now c.loop-i.i
          c.loop-i.walk.standing.now.facts begins c.loop-i.invariant c.difference-order.result
          c.difference-missing.result c.loop-i-test.false c.difference-order.ensures c.difference-missing.ensures c.if-missing-eq0.true;
      same = search rules;
      once = checks_once;
    })

pub returns : goal.returns
returns c =
    let begins = rw c.hold-walk.ensures.saved at c.difference-walk.ensures in
    rw (← c.self.view_is) (record {
      says = ends_short (the_view c.self.inside) c.args.strike c.difference-walk.result c.args.places.now c.loop-i.i
          c.loop-i.walk.standing.now.facts begins c.loop-i.invariant c.difference-order.result
          c.difference-missing.result c.loop-i-test.false c.difference-order.ensures c.difference-missing.ensures c.if-missing-eq0.false;
      same = search rules;
      once = checks_once;
    })
