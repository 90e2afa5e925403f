use Rattle.std.proofs.Common.{ap, ◌∙◌}
use Rattle.waivers.specs.Known.{Known}
use Rattle.cases.specs.State.{State}
use Rattle.cases.proofs.Findings.{signed_solvable}
use Rattle.cases.proofs.Refused.{accepted}
use Rattle.cases.proofs.case.Case.waive.Goals as goal

pub returns-clause-plan : goal.returns-clause-plan
returns-clause-plan c =
    let k = c.self.inside in
    let out = accepted c.args.self.now.plain c.slip.inside.content (rw c.slip.view_is c.requires) in
    signed_solvable k.known.task c.waive.new.self.task k.finding _ c.self.invariant.good
    (ap (λ (n : State). n.plain.finding) c.self.view_is ∙ out.finding) (ap (λ (n : Known). n.task) c.waive.ensures.after)
