use Rattle.cases.proofs.case.Case.check_plan.Goals as goal

pub invariant_of-self : goal.invariant_of-self
invariant_of-self c = rw c.check_plan.ensures.same c.self.invariant
