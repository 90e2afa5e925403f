use Rattle.std.proofs.Common.{ap, sym, subst, refl, ◌∙◌, vec_items}
use Rattle.std.specs.Vec.{with_items}
use Rattle.cases.specs.declared.call.Answer.TheVariants.{Done, Found, Drawn}
use Rattle.cases.specs.Plain.{Plain}
use Rattle.cases.specs.Calls.{Opening, Changing, Finding, Drawing, Signing, Tearing, entry_of}
use Rattle.cases.specs.Refusing.{call_refusal}
use Rattle.cases.specs.Slips.{InHand}
use Rattle.cases.proofs.Keeping.{finds_keep}
use Rattle.cases.proofs.Staying.{hand_stays}
use Rattle.cases.proofs.Recording.{found_in}
use Rattle.cases.proofs.running.make.Goals as goal
use Rattle.cases.proofs.running.make.Goals.{In-Find}

pub returns-in-Open-clause-makes : goal.returns-in-Open-clause-makes
returns-in-Open-clause-makes g c =
    let x = c.in-Open in
    (record { asked = Opening x.number x.n x.standing x.order; answered = c.open.result }, ap (λ y. entry_of y (Done c.open.result)) x.is, c.open.ensures.opens)

pub returns-in-Change-clause-makes : goal.returns-in-Change-clause-makes
returns-in-Change-clause-makes g c =
    (record { asked = Changing c.in-Change.change; answered = c.change.result }, ap (λ y. entry_of y (Done c.change.result)) c.in-Change.is, c.change.ensures.changes)

pub returns-in-Find-clause-makes : goal.returns-in-Find-clause-makes
returns-in-Find-clause-makes g c =
    let f = c.find-result in
    let s = c.in-Find.sheet in
    let b = c.in-Find.book in (
      record {
        asked = Finding (vec_items s) (vec_items b);
        answered = record { result = f.result; sheet = vec_items (with_items s f.new.sheet); book = vec_items (with_items b f.new.book) };
      },
      ap (λ y. entry_of y (Found f.result (with_items s f.new.sheet) (with_items b f.new.book))) c.in-Find.is,
      (
        found_in (g.P.Picker.choice c.args.picker.now) (g.D.Decider.reach c.args.decider.now) g.D.Decider.MARK c.args.case.now f.new.self
            f.result s b c.as_mut_slice.result.now f.new.sheet c.as_mut_slice-in-Find.result.now f.new.book
            c.as_mut_slice.ensures.value c.as_mut_slice-in-Find.ensures.value
            (f.auto.sheet ∙ c.as_mut_slice.ensures.len) (f.auto.book ∙ c.as_mut_slice-in-Find.ensures.len) f.ensures.finds,
        f.ensures.kept.listed,
      ),
    )

pub returns-in-Find-clause-in_hand : goal.returns-in-Find-clause-in_hand
unfolding returns-in-Find-clause-makes
returns-in-Find-clause-in_hand g c =
    let (e, is, makes) = returns-in-Find-clause-makes g c in
    let k = c.args.case.now in
    let kept = finds_keep (g.P.Picker.choice c.args.picker.now) (g.D.Decider.reach c.args.decider.now) g.D.Decider.MARK k
    c.find-result.new.self (vec_items c.in-Find.sheet) (vec_items c.in-Find.book) e.answered (call_refusal k.plain e.asked) refl makes.0 makes in
    subst (λ (p : Plain). InHand p c.args.in_hand) (sym kept.state) (hand_stays k.plain e.asked e.answered c.args.in_hand refl c.requires)

pub returns-in-Draw-clause-makes : goal.returns-in-Draw-clause-makes
returns-in-Draw-clause-makes g c =
    let r = c.draw-drawn.result.0 in
    (record { asked = Drawing; answered = r }, ap (λ y. entry_of y (Drawn r)) c.in-Draw.is, c.draw-drawn.ensures.draws)

pub returns-in-Sign-clause-makes : goal.returns-in-Sign-clause-makes
returns-in-Sign-clause-makes g c =
    let r = c.sign-signed.result.0 in
    (record { asked = Signing c.in-Sign.content; answered = r }, ap (λ y. entry_of y (Done r)) c.in-Sign.is, c.sign-signed.ensures.signs)

pub returns-in-Tear-clause-makes : goal.returns-in-Tear-clause-makes
returns-in-Tear-clause-makes g c =
    let r = c.tear-torn.result.0 in
    (record { asked = Tearing c.in-Tear.content; answered = r }, ap (λ y. entry_of y (Done r)) c.in-Tear.is, c.tear-torn.ensures.tears)
