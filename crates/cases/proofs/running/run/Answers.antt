use Rattle.std.proofs.Common.{[], ◌∷◌, vec_items, map-id, refl, ◌∙◌, sym, subst, arith, length-append}
use Rattle.std.proofs.lemmas.Iterator.Adapters.{YieldsList-from_vec}
use Rattle.std.proofs.lemmas.Iterator.Consumers.{YieldsList-end}
use Rattle.waivers.proofs.Largest.{same_self, same_on}
use Rattle.cases.specs.Calls.{Recorded}
use Rattle.cases.proofs.Recording.{recorded_length, running_first, running_next}
use Rattle.cases.proofs.Keeping.{calls_keep}
use Rattle.cases.proofs.running.run.Goals as goal

pub loop-call-init : goal.loop-call-init
loop-call-init g c = record {
  running = running_first (g.P.Picker.choice c.args.picker.now) g.D.Decider.reach g.D.Decider.MARK c.args.decider.now c.in-Ok-Ok.case
      (vec_items c.in-Ok-Ok.answers) _ c.in-Ok-Ok.ensures c.in-Ok-Ok.ensures'.items refl (same_self (g.D.Decider.reach c.args.decider.now));
  room = omega (arith, c.into_iter-call-iterator.ensures.into_iter_gives.1, c.in-Ok-Ok.ensures'.capacity, c.len.ensures);
}

pub make-answer-requires : goal.make-answer-requires
make-answer-requires g c = c.loop-call.invariant.running.in_hand

pub loop-call-preserved : goal.loop-call-preserved
loop-call-preserved g c =
    let l = c.loop-call in
    let made = c.make-answer in
    record {
      running = running_next (g.P.Picker.choice c.args.picker.now) g.D.Decider.reach g.D.Decider.MARK c.args.decider.now l.yielded (vec_items l.answers)
          (vec_items c.push_reserved.new.self) l.decider made.new.decider l.case made.new.case l.slip made.result.1 c.in-Some.call made.result.0
          l.invariant.running made.ensures.makes made.ensures.same
          (same_on (g.D.Decider.reach c.args.decider.now) (g.D.Decider.reach l.decider) (g.D.Decider.reach made.new.decider) l.invariant.running.same made.ensures.same)
          made.ensures.in_hand c.push_reserved.ensures.items;
      room = omega (arith, l.invariant.room, c.in-Some.ensures.steps.1, c.push_reserved.ensures.capacity, length-append l.yielded (c.in-Some.call ∷ []));
    }

pub push_reserved-requires : goal.push_reserved-requires
push_reserved-requires g c =
    let l = c.loop-call in
    omega (arith, l.invariant.room, recorded_length _ _ _ l.invariant.running.recorded, c.in-Some.ensures.steps.1, l.answers.ok.0)

pub returns-clause-law : goal.returns-clause-law
returns-clause-law g c =
    let r = c.loop-call.invariant.running in
    let all = sym (map-id c.loop-call.yielded) ∙ (YieldsList-end
    (YieldsList-from_vec {s = c.into_iter-call-iterator.result} c.args.calls.items c.into_iter-call-iterator.ensures.into_iter_gives.0 (c.into_iter-call-iterator.ensures.into_iter_gives.1 ∙ c.args.calls.ok.0))
    c.loop-call.yielded c.loop-call.call-iterator c.loop-call.yielded_by c.next.result c.next.new.self c.in-None.is c.next.ensures.steps).0 in (
      r.entries,
      subst (λ xs. Recorded xs c.loop-call.answers.items r.entries) all r.recorded,
      calls_keep g.D.Decider.reach g.D.Decider.MARK (g.P.Picker.choice c.args.picker.now) c.args.decider.now r.entries c.loop-call.decider c.loop-call.case r.made,
    )
