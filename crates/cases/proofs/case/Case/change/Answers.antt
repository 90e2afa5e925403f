use Rattle.cases.proofs.case.Case.change.Goals as goal

pub invariant_of-self : goal.invariant_of-self
invariant_of-self c = rw c.in_err-change.ensures.after c.self.invariant

pub invariant_of-self-2 : goal.invariant_of-self-2
invariant_of-self-2 c = record { good = tt; kept = c.in_ok-change.ensures.kept }
