use Rattle.cases.proofs.case.Case.open.Goals as goal

pub invariant_of-self : goal.invariant_of-self
invariant_of-self c = rw c.in_err-open.ensures.after c.self.invariant
