use Rattle.deciders.proofs.Closures.{closing_start, inside_closure, filled_same}
use Rattle.deciders.proofs.closure.closure_has.Goals as goal

pub returns-then-is_subset : goal.returns-then-is_subset
returns-then-is_subset c =
    let ts = c.args.places.now in
    let s = c.args.standing in
    ((λ h. inside_closure ts s c.args.facts s (closing_start ts s) (c.is_subset.ensures.says.0 h)), λ h. c.if-is_subset.true)

pub returns-else-is_subset : goal.returns-else-is_subset
returns-else-is_subset c =
    let same = filled_same c.args.places.now c.args.standing c.args.facts in
    let reached = rw (c.deref.ensures.0, c.steps_at.ensures) at c.rounds_reach.ensures in
    ((λ h. same.0 (reached.0 h)), λ h. reached.1 (same.1 h))
