use Rattle.std.proofs.Common.{◌≤◌, List, Some, Option, map, length, refl, sym, ◌∙◌, arith}
use Rattle.std.proofs.lemmas.Bool.{false≢true}
use Rattle.std.proofs.lemmas.List.{length-map}
use Rattle.rules.specs.Steps.{Step}
use Rattle.rules.proofs.Sets.{sub_le}
use Rattle.deciders.proofs.Closures.{closing_more, closing_rises, closing_out, closure_exists, inside_closure, outside_closure}
use Rattle.deciders.proofs.closure.rounds_reach.Goals as goal

-- each round adds something, and nothing that is outside the closure
pub loop-more-smaller : goal.loop-more-smaller
loop-more-smaller c =
    let ts : List (Option Step) = map Some c.args.steps.now in
    let n = length c.args.steps.now in
    let more = c.round-more.ensures in
    let z = closure_exists ts c.args.standing in
    let up = closing_rises ts n c.loop-more.all c.round-more.result more c.if-more-all.false in
    let low = sub_le z.0 c.round-more.result ((closing_more ts c.args.standing n c.loop-more.all c.round-more.result c.loop-more.invariant more).least z.0 z.1.0) in
    omega (arith, up, low)

-- nothing is added
pub returns-then-more-all : goal.returns-then-more-all
returns-then-more-all c =
    let ts : List (Option Step) = map Some c.args.steps.now in
    let long : length ts ≤ length c.args.steps.now = omega (arith, length-map c.args.steps.now (λ (t : Step). Some t)) in
    let closure =
    closing_out ts c.args.standing (length c.args.steps.now) c.loop-more.all c.round-more.result long c.loop-more.invariant c.round-more.ensures c.if-more-all.true in
    let out = outside_closure ts c.args.standing c.args.facts c.loop-more.all closure (λ sub. false≢true (sym c.loop-more-test.true ∙ c.is_subset.ensures.says.1 sub)) in
    ((λ h. cc), λ h. absurd (out h))

pub returns : goal.returns
returns c =
    let sub = c.loop-more-test.ensures.says.0 refl in
    ((λ h. inside_closure (map Some c.args.steps.now) c.args.standing c.args.facts c.loop-more.all c.loop-more.invariant sub), λ h. refl)
