use Rattle.std.proofs.Common.{◌≡◌, ℕ, ◌+◌, T, List, map, get_or, Some, None, Option, sym, ap, ◌∙◌, subst}
use Rattle.std.proofs.lemmas.List.{get_or-map}
use Rattle.rules.specs.Steps.{Step}
use Rattle.rules.specs.Sets.{◌∪◌}
use Rattle.rules.proofs.Sets.{inside→, →inside}
use Rattle.deciders.specs.Closures.{Round}
use Rattle.deciders.proofs.Closures.{round_not, round_add}
use Rattle.deciders.proofs.closure.round.Goals as goal
use Rattle.deciders.proofs.closure.round.Goals.{then-can_be_done, else-can_be_done}

pub loop-step-preserved : goal.loop-step-preserved
loop-step-preserved c =
    let ts : List (Option Step) = map Some c.args.steps.now in
    let j = c.loop-step.step-index in
    let r = c.loop-step.all in
    let t : Step = c.step-item.result in
    let is : get_or ts j None ≡ Some t =
    get_or-map (λ (u : Step). Some u) c.args.steps.now j t None c.loop-step-test.true ∙ ap (λ (u : Step). Some u) (sym c.step-item.is) in
    let P : ℕ → Type 0 = λ v. Round ts (j + 1) c.args.facts v in
    elim c.if-can_be_done.branch [
      | then-can_be_done w ↦ subst P (sym w.all-is)
          (subst (λ (u : Step). P (r ∪ u.gives)) (sym c.step.view_is)
          (round_add ts j c.args.facts r c.loop-step.invariant t is (inside→ t.needs r (subst T w.if-can_be_done.ensures tt))))
      | else-can_be_done w ↦ subst P (sym w.all-is)
          (round_not ts j c.args.facts r c.loop-step.invariant t is (λ h. subst T (sym w.if-can_be_done.ensures) (→inside t.needs r h)))
    ]
