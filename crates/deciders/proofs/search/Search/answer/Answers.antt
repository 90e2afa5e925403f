use Rattle.std.proofs.Common.{◌<◌, length, take, sym, refl, ◌∙◌, arith}
use Rattle.rules.specs.Planning.{strike}
use Rattle.deciders.specs.Search.Struck.{remainder}
use Rattle.deciders.proofs.Sizes.{within_no_err}
use Rattle.deciders.proofs.Settled.{settles_none, settles_goal, settles_not}
use Rattle.deciders.proofs.search.Search.answer.Goals as goal

pub returns-in-Ok-Some-clause-answers : goal.returns-in-Ok-Some-clause-answers
returns-in-Ok-Some-clause-answers g c =
    let s = remainder c.args.problem.now c.args.strike in
    let ts = (strike c.args.problem.now c.args.strike).steps in
    let t = c.list.new.self in
    let sized = within_no_err (length c.args.sheet.now) (length c.args.book.now) c.check_sizes.result c.check_sizes.ensures (sym c.is_err.ensures.value ∙ c.if-is_err.false) in
    let said = rw (c.in-Ok-Some.field-0-is, c.fill.ensures.struck, c.new-listing.ensures.rows) at c.in-Ok-Some.ensures.lists in
    let (reach, fits, path) = settles_goal g.D.Direction.successor_of (g.D.Direction.goal s) ts (g.D.Direction.start_of s) (length c.args.sheet.now) t.rows.now t.count c.in-Ok-Some.row said
    (take c.climb.result c.climb.new.book) (rw c.in-Ok-Some.row-is at c.climb.ensures.climbs) in
    let few : c.climb.result < length c.args.sheet.now = omega (arith, fits) in
    ((sized, reach), few, path, c.climb.ensures.rest)

pub returns-in-Ok-None-clause-answers : goal.returns-in-Ok-None-clause-answers
returns-in-Ok-None-clause-answers g c =
    let s = remainder c.args.problem.now c.args.strike in
    let ts = (strike c.args.problem.now c.args.strike).steps in
    let t = c.list.new.self in
    let sized = within_no_err (length c.args.sheet.now) (length c.args.book.now) c.check_sizes.result c.check_sizes.ensures (sym c.is_err.ensures.value ∙ c.if-is_err.false) in
    let said = rw (c.in-Ok-None.field-0-is, c.fill.ensures.struck, c.new-listing.ensures.rows) at c.in-Ok-None.ensures.lists in
    let (reach, whole, none) = settles_none g.D.Direction.successor_of (g.D.Direction.goal s) ts (g.D.Direction.start_of s) (length c.args.sheet.now) t.rows.now t.count said in
    ((sized, reach), (t.count, whole, none), refl)

pub returns-in-Err-clause-answers : goal.returns-in-Err-clause-answers
returns-in-Err-clause-answers g c =
    let s = remainder c.args.problem.now c.args.strike in
    let ts = (strike c.args.problem.now c.args.strike).steps in
    let t = c.list.new.self in
    let said = rw (c.fill.ensures.struck, c.new-listing.ensures.rows) at c.in-Err.ensures.lists in
    ((λ r. settles_not g.D.Direction.successor_of (g.D.Direction.goal s) ts (g.D.Direction.start_of s) (length c.args.sheet.now) t.rows.now t.count c.in-Err.field-0 said r.1), refl, refl)
