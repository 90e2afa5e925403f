use Rattle.std.proofs.Common.{length}
use Rattle.deciders.proofs.Backwards.{backward_answers}
use Rattle.deciders.proofs.backward.BackwardDecider.query.Goals as goal

pub returns-clause-answer : goal.returns-clause-answer
returns-clause-answer c =
    let s = c.args in
    backward_answers s.problem.now s.strike (length s.sheet.now) 66 s.book.now c.answer.new.book c.answer.result
    c.answer.ensures.consistent c.answer.ensures.answers
