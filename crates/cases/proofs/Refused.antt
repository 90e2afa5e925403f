-- What a refusal, or none, says of the case that met a call.
use Rattle.std.proofs.Common.{◌≡◌, ℕ, Bool, true, false, cond, ◌&&◌, T, eqb, Some, None, Ok, Err, Option, Result, unwrap_or, sym, refl, ap, ◌∙◌, subst, arith, eqb→eq}
use Rattle.std.proofs.lemmas.Bool.{and_parts, false≢true}
use Rattle.std.specs.Option.{option_eq}
use Rattle.rules.specs.declared.refusal.Refusal.{Refusal}
use Rattle.rules.specs.declared.refusal.Refusal.TheVariants.{Unopened, SlipOut, NoFinding, WrongSlip}
use Rattle.rules.specs.Refusals.{first_refusal, unless_refused}
use Rattle.deciders.specs.declared.limits.SizeFault.{SizeFault}
use Rattle.waivers.specs.declared.fault.FinderFault.{FinderFault}
use Rattle.waivers.specs.declared.fault.FinderFault.TheVariants.{Case, Size}
use Rattle.cases.specs.declared.slip.SlipData.{SlipData}
use Rattle.cases.specs.Plain.{Plain}
use Rattle.cases.specs.Calls.{Drawing, Signing, Entry}
use Rattle.cases.specs.Refusing.{usable_refusal, slip_of, is_out, case_refusal, of_case, of_size, call_refusal}
use Rattle.cases.specs.Slips.{Accepts}
use Rattle.cases.specs.State.{State, state_with_slip}
use Rattle.cases.specs.Making.{Draws}
use Rattle.cases.specs.Replay.{effect_of, plain_after}

pub true_false : {A : Type 0} → true ≡ false → A
true_false e = absurd (false≢true (sym e))

-- no call is both made and refused
pub made_refused : {A E B : Type 0} (a : A) (e : E) → ◌≡◌ {A = Result A E} (Err e) (Ok a) → B
made_refused a e is = absurd (let z : ◌≡◌ {A = ℕ} 0 1 = cc in omega arith)

-- ---- checks in turn

-- where nothing is refused, neither check refuses
pub both_made : {E : Type 0} (a b : Result Unit E) → first_refusal a b ≡ Ok tt → (a ≡ Ok tt) × (b ≡ Ok tt)
both_made (Ok u) b is = (refl, is)
both_made (Err e) b is = made_refused tt e is

-- some refusal
abbrev pub Refuses : {E : Type 0} → Result Unit E → Type 0
Refuses {E} r = (e : E) × (r ≡ Err e)

pub first_refuses : {E : Type 0} (a b : Result Unit E) → Refuses a → Refuses (first_refusal a b)
first_refuses a b (e, is) = (e, ap (λ r. first_refusal r b) is)

-- a case of which a slip is out is not usable
pub out_refuses : (p : Plain) → p.slip_out ≡ true → Refuses (usable_refusal p)
out_refuses p out = go (eqb p.task.n 0)
  where
    go : (b : Bool) → Refuses (first_refusal (cond b (Err Unopened) (Ok tt)) (cond p.slip_out (Err SlipOut) (Ok tt)))
    go true = (Unopened, refl)
    go false = (SlipOut, ap (λ (o : Bool). cond o (Err SlipOut) (Ok tt)) out)

-- what is refused changes nothing
pub refused_stays : (p : Plain) (e : Entry) → Refuses (call_refusal p e.asked) → plain_after p e ≡ p
refused_stays p e (f, is) = ap (λ (r : Result Unit FinderFault). unless_refused r (effect_of e.asked e.answered) p) is

pub of_case_refuses : (r : Result Unit Refusal) → Refuses r → Refuses (of_case r)
of_case_refuses r (e, is) = (Case e, ap of_case is)

-- ---- the slip that is out

opened_by : (b : Bool) (r : Result Unit Refusal) → first_refusal (cond b (Err Unopened) (Ok tt)) r ≡ Ok tt → (b ≡ false) × (r ≡ Ok tt)
opened_by true r is = made_refused tt Unopened is
opened_by false r is = (refl, is)

out_by : (b : Bool) → ◌≡◌ {A = Result Unit Refusal} (cond b (Ok tt) (Err WrongSlip)) (Ok tt) → b ≡ true
out_by true is = refl
out_by false is = made_refused tt WrongSlip is

finding_by : (o : Option ℕ) (s : ℕ) → option_eq eqb o (Some s) ≡ true → o ≡ Some s
finding_by None s e = true_false (sym e)
finding_by (Some t) s e = ap Some (eqb→eq t s (subst T (sym e) tt))

-- A slip that the case accepts is out: of an opened case, for its number and its finding.
pub record IsAccepted (p : Plain) (slip : SlipData) : Type 0 where
  pub opened : eqb p.task.n 0 ≡ false
  pub out : p.slip_out ≡ true
  pub number : p.number ≡ slip.number
  pub finding : p.finding ≡ Some slip.«set»

pub accepted : (p : Plain) (slip : SlipData) → Accepts p slip → IsAccepted p slip
accepted p slip is =
    let (opened, own) = opened_by (eqb p.task.n 0) _ is in
    let (out, rest) = and_parts p.slip_out _ (out_by (is_out p slip) own) in
    let (number, finding) = and_parts (eqb p.number slip.number) _ rest in
    record { opened = opened; out = out; number = eqb→eq p.number slip.number (subst T (sym number) tt); finding = finding_by p.finding slip.«set» finding }

-- ---- the refusals of find

-- they are those of the case, and of sheet and book
pub refusing : (a : Result Unit Refusal) (b : Result Unit SizeFault) (e : FinderFault) → first_refusal (of_case a) (of_size b) ≡ Err e
    → (P : FinderFault → Type 0) → ((r : Refusal) → P (Case r)) → ((f : SizeFault) → P (Size f)) → P e
refusing (Ok u) (Ok v) e is P of so = made_refused tt e (sym is)
refusing (Ok u) (Err f) e is P of so = let same : Size f ≡ e = cc in subst P same (so f)
refusing (Err r) b e is P of so = let same : Case r ≡ e = cc in subst P same (of r)

-- ---- a slip that was drawn

made_by : (o : Result Unit Refusal) (p : Plain) (slip : SlipData) → ◌≡◌ {A = Result SlipData Refusal} (Ok slip) (first_refusal o (Ok (slip_of p)))
    → (o ≡ Ok tt) × (slip ≡ slip_of p)
made_by (Ok u) p slip is = (refl, (cc))
made_by (Err e) p slip is = made_refused slip e (sym is)

found_by : (o : Option ℕ) → ◌≡◌ {A = Result Unit Refusal} (cond (eqb (unwrap_or o 0) 0) (Err NoFinding) (Ok tt)) (Ok tt)
    → option_eq eqb o (Some (unwrap_or o 0)) ≡ true
found_by None is = made_refused tt NoFinding is
found_by (Some s) is = grind arith

same_number : (n : ℕ) → eqb n n ≡ true
same_number n = grind arith

accepted_by : (a b c : Bool) → a ≡ false → b ≡ true → c ≡ true
    → ◌≡◌ {A = Result Unit Refusal} (first_refusal (cond a (Err Unopened) (Ok tt)) (cond (true && (b && c)) (Ok tt) (Err WrongSlip))) (Ok tt)
accepted_by a b c p q r = rw (p, q, r) refl

-- a slip that was drawn is the one that the case accepts
pub drawn_accepted : (k k' : State) (slip : SlipData) → Draws k (Ok slip) k' → Accepts k'.plain slip
drawn_accepted k k' slip d =
    let p = k.plain in
    let (made, is) = made_by (case_refusal p Drawing) p slip d.answer in
    let (usable, own) = both_made (usable_refusal p) _ made in
    let (opened, out) = opened_by (eqb p.task.n 0) _ usable in
    let after_it : k' ≡ state_with_slip true k = d.after ∙ ap (λ (o : Result Unit Refusal). unless_refused o (state_with_slip true) k) made in
    let here : case_refusal (state_with_slip true k).plain (Signing (slip_of p)) ≡ Ok tt =
    accepted_by (eqb p.task.n 0) (eqb p.number p.number) (option_eq eqb p.finding (Some (unwrap_or p.finding 0))) opened (same_number p.number) (found_by p.finding own) in
    subst (λ (n : State). case_refusal n.plain (Signing slip) ≡ Ok tt) (sym after_it)
    (subst (λ (s : SlipData). case_refusal (state_with_slip true k).plain (Signing s) ≡ Ok tt) (sym is) here)
