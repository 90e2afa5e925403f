use Rattle.std.proofs.Common.{get_or, None, sym}
use Rattle.rules.proofs.Checks.{undone, done_at}
use Rattle.rules.proofs.check.do_step.Goals as goal

pub returns-then-not-can_be_done : goal.returns-then-not-can_be_done
returns-then-not-can_be_done c =
    undone (get_or c.args.table.now c.args.place None) c.args.gone c.args.standing.facts c.in_ok-get.field-0 c.without-step.result
    c.can_be_done.result (sym c.in_ok-get.ensures) c.without-step.ensures c.can_be_done.ensures c.if-not-can_be_done.true

pub returns : goal.returns
returns c =
    done_at (get_or c.args.table.now c.args.place None) c.args.gone c.args.standing.facts c.in_ok-get.field-0 c.without-step.result
    c.can_be_done.result c.result-facts.result (sym c.in_ok-get.ensures) c.without-step.ensures c.can_be_done.ensures c.if-not-can_be_done.false
    c.result-facts.ensures
