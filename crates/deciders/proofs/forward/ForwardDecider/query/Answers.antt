use Rattle.std.proofs.Common.{length}
use Rattle.deciders.proofs.Forwards.{forward_plans, forward_blocks}
use Rattle.deciders.proofs.forward.ForwardDecider.query.Goals as goal

pub returns-in-Solvable-clause-answer : goal.returns-in-Solvable-clause-answer
returns-in-Solvable-clause-answer c =
    let s = c.args in
    let book = c.answer.new.book in
    let found = rw c.in-Solvable.is at c.in_ok-verdict.ensures.answers in
    rw c.from.ensures
    (forward_plans s.problem.now s.strike (length s.sheet.now) 70 s.book.now book c.in-Solvable.length c.reverse.new.self
    found c.answer.auto.book (rw c.from.ensures at c.reverse.ensures.after))

pub returns-in-Blocked-clause-answer : goal.returns-in-Blocked-clause-answer
returns-in-Blocked-clause-answer c =
    let s = c.args in
    let found = rw c.in-Blocked.is at c.in_ok-verdict.ensures.answers in
    rw c.in-Blocked.is (forward_blocks s.problem.now s.strike (length s.sheet.now) 70 s.book.now c.answer.new.book found)
