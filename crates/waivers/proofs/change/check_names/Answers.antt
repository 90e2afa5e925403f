use Rattle.std.proofs.Common.{◌∙◌, sym, refl, ap}
use Rattle.rules.specs.Planning.{Task}
use Rattle.waivers.proofs.Names.{names_same}
use Rattle.waivers.proofs.change.check_names.Goals as goal

pub returns-then-is_subset : goal.returns-then-is_subset
returns-then-is_subset c =
    let e = simp (c.facts_below.ensures, ap (λ (p : Task). p.n) c.problem.view_is, names_same c.args.«set» c.args.problem.now.n c.ranges.«set».fits) at c.is_subset.ensures.test in
    rw (sym e ∙ c.if-is_subset.true) refl

pub returns-else-is_subset : goal.returns-else-is_subset
returns-else-is_subset c =
    let e = simp (c.facts_below.ensures, ap (λ (p : Task). p.n) c.problem.view_is, names_same c.args.«set» c.args.problem.now.n c.ranges.«set».fits) at c.is_subset.ensures.test in
    rw (sym e ∙ c.if-is_subset.false) refl
