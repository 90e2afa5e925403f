use Rattle.std.proofs.Common.{rules, refl}
use Rattle.console.proofs.Fresh.{served_fresh}
use Rattle.console.proofs.serve_fresh.Goals as goal

pub returns-clause-serves : goal.returns-clause-serves
returns-clause-serves g c =
    served_fresh _ _ _ _ _ _ _ _ _ _ _ c.in_ok-serve_gathered.ensures.serves
    (refl, refl, search rules, refl, search rules, search rules)
