use Rattle.std.proofs.Common.{rules}
use Rattle.cases.proofs.case.Case.find.Goals as goal

pub returns-in-Ok-clause-finds : goal.returns-in-Ok-clause-finds
returns-in-Ok-clause-finds g c = rw (← c.self.view_is) (search rules)

pub returns-in-Err-clause-finds : goal.returns-in-Err-clause-finds
returns-in-Err-clause-finds g c = rw (← c.self.view_is) (search rules)
