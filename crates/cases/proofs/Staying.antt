-- While a slip is out, the plain case stays as it is.
use Rattle.std.proofs.Common.{◌≡◌, Bool, true, false, cond, eqb, List, [], ◌∷◌, ◌++◌, length, Ok, Err, Option, Some, None, Result, sym, refl, ap, ◌∙◌, subst}
use Rattle.rules.specs.declared.refusal.Refusal.{Refusal}
use Rattle.rules.specs.declared.refusal.Refusal.TheVariants.{Unopened, AlreadyOpen, SlipOut}
use Rattle.rules.specs.Planning.{Task}
use Rattle.rules.specs.Refusals.{first_refusal, unless_refused}
use Rattle.deciders.specs.Sizes.{size_refusal}
use Rattle.waivers.specs.declared.fault.FinderFault.{FinderFault}
use Rattle.waivers.specs.Changes.{open_refusal}
use Rattle.cases.specs.declared.slip.SlipData.{SlipData}
use Rattle.cases.specs.Plain.{Plain, unopened}
use Rattle.cases.specs.Calls.{Asked, Opening, Changing, Finding, Drawing, Signing, Tearing, AnswerTo, Entry}
use Rattle.cases.specs.Refusing.{case_refusal, own_refusal, usable_refusal, call_refusal, of_case, of_size}
use Rattle.cases.specs.Replay.{effect_of, plain_after, replay, after_calls}
use Rattle.cases.specs.Theorems.{SlipsStay}
use Rattle.cases.specs.Slips.{InHand}
use Rattle.cases.proofs.Refused.{true_false, Refuses, first_refuses, out_refuses, of_case_refuses, refused_stays, accepted as accepted_slip}

-- one call more is fed to what the calls before have made
pub replay_more : (p : Plain) (es : List Entry) (e : Entry) → replay p (es ++ e ∷ []) ≡ plain_after (replay p es) e
replay_more p [] e = refl
replay_more p (f ∷ es) e = replay_more (plain_after p f) es e

-- a case of which a slip is out is open
pub OpenIfOut : Plain → Type 0
OpenIfOut p = p.slip_out ≡ true → eqb p.task.n 0 ≡ false

-- a case that is open is not opened again
open_refuses : (p : Plain) (n s o : _) → eqb p.task.n 0 ≡ false → Refuses (first_refusal (cond (eqb p.task.n 0) (Ok tt) (Err AlreadyOpen)) (open_refusal n s o))
open_refuses p n s o is = (AlreadyOpen, ap (λ (b : Bool). first_refusal (cond b (Ok tt) (Err AlreadyOpen)) (open_refusal n s o)) is)

-- sign and tear are refused, or take the slip in
decided : (p : Plain) (f : Plain → Plain) (r : Result Unit FinderFault) → (f p).slip_out ≡ false → (unless_refused r f p).slip_out ≡ true → unless_refused r f p ≡ p
decided p f (Ok u) is out = true_false (sym out ∙ is)
decided p f (Err e) is out = refl

-- while a slip is out, find and whatever else wants a usable case are refused
module _ (p : Plain) (out : p.slip_out ≡ true) where
  usable_refuses : (r : Result Unit Refusal) → Refuses (of_case (first_refusal (usable_refusal p) r))
  usable_refuses r = of_case_refuses _ (first_refuses (usable_refusal p) r (out_refuses p out))

  pub stays : OpenIfOut p → (x : Asked) (r : AnswerTo x) → (plain_after p (record { asked = x; answered = r })).slip_out ≡ true
      → plain_after p (record { asked = x; answered = r }) ≡ p
  unfolding OpenIfOut
  stays opened (Opening number n s o) r still =
      refused_stays p (record { asked = Opening number n s o; answered = r }) (of_case_refuses _ (open_refuses p n s o (opened out)))
  stays opened (Changing x) r still = refused_stays p (record { asked = Changing x; answered = r }) (usable_refuses (own_refusal p (Changing x)))
  stays opened (Finding s b) a still =
      refused_stays p (record { asked = Finding s b; answered = a })
      (first_refuses (of_case (case_refusal p (Finding s b))) (of_size (size_refusal (length s) (length b))) (usable_refuses (Ok tt)))
  stays opened Drawing r still = refused_stays p (record { asked = Drawing; answered = r }) (usable_refuses (own_refusal p Drawing))
  stays opened (Signing slip) r still = decided p (effect_of (Signing slip) r) (call_refusal p (Signing slip)) refl still
  stays opened (Tearing slip) r still = decided p (effect_of (Tearing slip) r) (call_refusal p (Tearing slip)) refl still

-- ---- a slip is out only of an open case

still_in : (p : Plain) (f : Plain → Plain) (r : Result Unit FinderFault) → p.slip_out ≡ false → (f p).slip_out ≡ false → (unless_refused r f p).slip_out ≡ false
still_in p f (Ok u) inside made = made
still_in p f (Err e) inside made = inside

-- a call that leaves the task as it is where it is made leaves it where it is refused too
same_task : (p : Plain) (f : Plain → Plain) (r : Result Unit FinderFault) → (f p).task ≡ p.task → (unless_refused r f p).task ≡ p.task
same_task p f (Ok u) is = is
same_task p f (Err e) is = refl

-- a draw from an unopened case is refused
unopened_refuses : (p : Plain) → eqb p.task.n 0 ≡ true → Refuses (usable_refusal p)
unopened_refuses p is = (Unopened, ap (λ (b : Bool). first_refusal (cond b (Err Unopened) (Ok tt)) (cond p.slip_out (Err SlipOut) (Ok tt))) is)

module _ (p : Plain) (inside : p.slip_out ≡ false) where
  abbrev after_it : (x : Asked) → AnswerTo x → Plain
  after_it x r = plain_after p (record { asked = x; answered = r })

  -- a slip that was in is out only after draw, which an unopened case refuses
  drawn_open : (r : AnswerTo Drawing) → (after_it Drawing r).slip_out ≡ true → eqb (after_it Drawing r).task.n 0 ≡ false
  drawn_open r out = go (eqb p.task.n 0) refl
    where
      go : (b : Bool) → eqb p.task.n 0 ≡ b → eqb (after_it Drawing r).task.n 0 ≡ false
      go false e = ap (λ (t : Task). eqb t.n 0) (same_task p (effect_of Drawing r) (call_refusal p Drawing) refl) ∙ e
      go true e =
          let unmade = refused_stays p (record { asked = Drawing; answered = r }) (of_case_refuses _ (first_refuses (usable_refusal p) _ (unopened_refuses p e))) in
          true_false (sym out ∙ ap (λ (q : Plain). q.slip_out) unmade ∙ inside)

  stays_in : (x : Asked) (r : AnswerTo x) → (after_it x r).slip_out ≡ true → eqb (after_it x r).task.n 0 ≡ false
  stays_in (Opening number n s o) r out = true_false (sym out ∙ still_in p (effect_of (Opening number n s o) r) (call_refusal p (Opening number n s o)) inside inside)
  stays_in (Changing x) r out = true_false (sym out ∙ still_in p (effect_of (Changing x) r) (call_refusal p (Changing x)) inside inside)
  stays_in (Finding s b) a out = true_false (sym out ∙ still_in p (effect_of (Finding s b) a) (call_refusal p (Finding s b)) inside inside)
  stays_in Drawing r out = drawn_open r out
  stays_in (Signing slip) r out = true_false (sym out ∙ still_in p (effect_of (Signing slip) r) (call_refusal p (Signing slip)) inside refl)
  stays_in (Tearing slip) r out = true_false (sym out ∙ still_in p (effect_of (Tearing slip) r) (call_refusal p (Tearing slip)) inside refl)

open_next : (p : Plain) (e : Entry) → OpenIfOut p → OpenIfOut (plain_after p e)
unfolding OpenIfOut
open_next p e opened = go p.slip_out refl
  where
    go : (b : Bool) → p.slip_out ≡ b → (plain_after p e).slip_out ≡ true → eqb (plain_after p e).task.n 0 ≡ false
    go true out still = ap (λ (q : Plain). eqb q.task.n 0) (stays p out opened e.asked e.answered still) ∙ opened out
    go false inside out = stays_in p inside e.asked e.answered out

open_replay : (p : Plain) (es : List Entry) → OpenIfOut p → OpenIfOut (replay p es)
open_replay p [] opened = opened
open_replay p (e ∷ es) opened = open_replay (plain_after p e) es (open_next p e opened)

never_out : OpenIfOut unopened
unfolding OpenIfOut
never_out out = true_false (sym out)

pub slips_stay : SlipsStay
slips_stay es e out still =
    let on : after_calls (es ++ e ∷ []) ≡ plain_after (after_calls es) e = replay_more unopened es e in
    on ∙ stays (after_calls es) out (open_replay unopened es never_out) e.asked e.answered (sym (ap (λ (q : Plain). q.slip_out) on) ∙ still)

-- ---- the slip in hand

-- a call that touches no slip leaves the one in hand
pub hand_stays : (p : Plain) (x : Asked) (r : AnswerTo x) (h : Option SlipData) → (effect_of x r p).slip_out ≡ p.slip_out → InHand p h
    → InHand (plain_after p (record { asked = x; answered = r })) h
unfolding OpenIfOut
hand_stays p x r None same inside = still_in p (effect_of x r) (call_refusal p x) inside (same ∙ inside)
hand_stays p x r (Some slip) same accepted =
    let is = accepted_slip p slip accepted in
    subst (λ (q : Plain). InHand q (Some slip)) (sym (stays p is.out (λ out. is.opened) x r (out_after (call_refusal p x) same is.out))) accepted
  where
    out_after : (o : Result Unit FinderFault) → (effect_of x r p).slip_out ≡ p.slip_out → p.slip_out ≡ true → (unless_refused o (effect_of x r) p).slip_out ≡ true
    out_after (Ok u) e out = e ∙ out
    out_after (Err f) e out = out
