use Rattle.std.proofs.Common.{refl, ◌∙◌}
use Rattle.std.proofs.lemmas.Result.{err_from_is_err_and}
use Rattle.deciders.proofs.Sheets.{start_goal, turn_more, turn_goal, turn_full}
use Rattle.deciders.proofs.listing.Listing.list.Goals as goal

pub returns-then-is_goal-clause-lists : goal.returns-then-is_goal-clause-lists
returns-then-is_goal-clause-lists g c =
    let s = c.args.self.now in
    rw (c.in_ok-add.ensures.rows, c.in_ok-add.ensures.count, c.in_ok-add.ensures.number.0, c.requires.none, c.start-start.ensures)
    (start_goal g.D.Direction.successor_of (g.D.Direction.goal c.args.struck.now) c.args.struck.now.actions.items (g.D.Direction.start_of c.args.struck.now) _ _ s.rows.now c.requires.some
    (rw c.start-start.ensures at (c.if-is_goal.ensures.0 refl)))

pub returns-in_err-row-clause-lists : goal.returns-in_err-row-clause-lists
returns-in_err-row-clause-lists g c =
    let p = err_from_is_err_and c.from_residual-in_err-row.result c.from_residual-in_err-row.ensures.1 in
    let t = c.expand.new.self in
    let e = c.in-Some.ensures in
    rw p.1 (turn_full c.loop-at.invariant.turn e.within c.in-Some.entry e.filled t.rows.now t.count p.0 c.in_err-row.ensures.expands)

pub returns-in-Some-2-clause-lists : goal.returns-in-Some-2-clause-lists
returns-in-Some-2-clause-lists g c =
    let t = c.expand.new.self in
    let e = c.in-Some.ensures in
    turn_goal c.loop-at.invariant.turn e.within c.in-Some.entry e.filled t.rows.now t.count c.in-Some-2.row (rw c.in-Some-2.is at c.in_ok-row.ensures.expands)

pub loop-at-preserved : goal.loop-at-preserved
loop-at-preserved g c =
    let t = c.expand.new.self in
    let e = c.in-Some.ensures in
    record {
      turn = turn_more c.loop-at.invariant.turn e.within c.in-Some.entry e.filled t.rows.now t.count (rw c.in_default-2.is at c.in_ok-row.ensures.expands);
      loan = c.expand.ensures.loan ∙ c.loop-at.invariant.loan;
    }
