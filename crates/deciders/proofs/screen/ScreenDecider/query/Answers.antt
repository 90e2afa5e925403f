use Rattle.std.proofs.Common.{length, sym, refl, ◌∙◌, inr}
use Rattle.rules.specs.Planning.{Task, strike}
use Rattle.deciders.specs.Reaches.{ScreenedOut}
use Rattle.deciders.proofs.Sizes.{within_ok}
use Rattle.deciders.proofs.Closures.{screened_blocked}
use Rattle.deciders.proofs.screen.ScreenDecider.query.Goals as goal

pub returns-then-is_screened_out-clause-answer : goal.returns-then-is_screened_out-clause-answer
returns-then-is_screened_out-clause-answer g c =
    let q : Task = strike c.args.problem.now c.args.strike in
    let sized = within_ok (length c.args.sheet.now) (length c.args.book.now) c.check_sizes.result c.check_sizes.ensures (sym c.is_ok.ensures.value ∙ c.if-is_ok.true) in
    let out : ScreenedOut q = c.if-is_screened_out.ensures.0 refl in
    ((sized, inr out), (λ (l, plan). screened_blocked q out l plan), refl)
