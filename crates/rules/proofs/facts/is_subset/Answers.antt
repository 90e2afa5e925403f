use Rattle.std.proofs.Common.{eqb, sym, ap, ◌∙◌}
use Rattle.rules.specs.Sets.{inside}
use Rattle.rules.proofs.Sets.{inside_means}
use Rattle.rules.proofs.facts.is_subset.Goals as goal

pub returns : goal.returns
unfolding inside
returns c =
    let test = ap (λ x. eqb x 0) c.difference.ensures in
    let means = inside_means c.args.a c.args.b in
    record { test = test; says = ((λ h. means.0 (sym test ∙ h)), λ h. test ∙ means.1 h) }
