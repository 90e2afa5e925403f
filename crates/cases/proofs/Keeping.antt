-- Each call that is made as its contract says keeps the law, and so do lists of calls.
use Rattle.std.proofs.Common.{◌≡◌, ℕ, ◌≤◌, true, false, List, [], ◌∷◌, ◌++◌, length, get_or, Ok, Err, IfOk, Result, sym, refl, ap, ◌∙◌, subst, arith}
use Rattle.rules.specs.declared.refusal.Refusal.{Refusal}
use Rattle.rules.specs.Planning.{Task, Solvable}
use Rattle.rules.specs.Waivers.{Good, Hits}
use Rattle.rules.specs.Refusals.{unless_refused, first_refusal}
use Rattle.rules.proofs.Groups.{duality}
use Rattle.deciders.specs.declared.row.Row.{Row}
use Rattle.deciders.specs.declared.answer.DeciderFault.TheVariants.{BeyondReach}
use Rattle.deciders.specs.Sizes.{size_refusal}
use Rattle.waivers.specs.declared.fault.FinderFault.{FinderFault}
use Rattle.waivers.specs.declared.fault.FinderFault.TheVariants.{Case, Size, NoWaiver, Decider, ListFull}
use Rattle.waivers.specs.Known.{Listed}
use Rattle.waivers.specs.Changes.{refusal_of}
use Rattle.waivers.specs.declared.good_set.GoodSet.{GoodSet}
use Rattle.waivers.specs.Searching.{Choice, Ended}
use Rattle.waivers.proofs.Keep.{none_listed, changed_listed}
use Rattle.cases.specs.declared.slip.SlipData.{SlipData}
use Rattle.cases.specs.Plain.{Plain, unopened}
use Rattle.cases.specs.Calls.{Asked, Opening, Changing, Finding, Drawing, Signing, Tearing, AnswerTo, Entry, FindAnswer}
use Rattle.cases.specs.Refusing.{usable_refusal, case_refusal, of_case, of_size, call_refusal, slip_of}
use Rattle.cases.specs.State.{State, known_of, state_opened, state_changed, state_signed, state_with_slip}
use Rattle.cases.specs.Finding.{answer_of, FindsUnless}
use Rattle.cases.specs.Making.{Makes, Made, unmade, then}
use Rattle.cases.specs.Replay.{draw_refusal, find_refusal, effect_of, plain_after, after_calls}
use Rattle.cases.specs.Law.{FoundTruly, Keeps, none, more, Law}
use Rattle.cases.proofs.Refused.{both_made, refusing}
use Rattle.cases.proofs.Staying.{replay_more}

-- ---- a call that the case refuses or makes, without a search

module _ (k k' : State) (e : Entry) (o : Result Unit Refusal) (f : State → State) (refuses : call_refusal k.plain e.asked ≡ of_case o)
    (rules : effect_of e.asked e.answered k.plain ≡ (f k).plain) (is : k' ≡ unless_refused o f k) where
  -- the plain case after it is what the replay says
  state_by : k'.plain ≡ plain_after k.plain e
  state_by = ap (λ (n : State). n.plain) is ∙ go o refl
    where
      go : (q : Result Unit Refusal) → o ≡ q → (unless_refused o f k).plain ≡ plain_after k.plain e
      go (Ok u) same =
          ap (λ (q : Result Unit Refusal). (unless_refused q f k).plain) same ∙ sym rules
          ∙ sym (ap (λ (q : Result Unit FinderFault). unless_refused q (effect_of e.asked e.answered) k.plain) (refuses ∙ ap of_case same))
      go (Err r) same =
          ap (λ (q : Result Unit Refusal). (unless_refused q f k).plain) same
          ∙ sym (ap (λ (q : Result Unit FinderFault). unless_refused q (effect_of e.asked e.answered) k.plain) (refuses ∙ ap of_case same))

  -- and each listed group is one of it
  listed_by : (o ≡ Ok tt → Listed (known_of (f k))) → Listed (known_of k) → Listed (known_of k')
  listed_by made before = go o refl
    where
      go : (q : Result Unit Refusal) → o ≡ q → Listed (known_of k')
      go (Ok u) same = subst (λ (n : State). Listed (known_of n)) (sym (is ∙ ap (λ (q : Result Unit Refusal). unless_refused q f k) same)) (made same)
      go (Err r) same = subst (λ (n : State). Listed (known_of n)) (sym (is ∙ ap (λ (q : Result Unit Refusal). unless_refused q f k) same)) before

-- whether a slip is drawn is whether the draw is refused
draw_refusal_by : (o : Result Unit Refusal) (slip : SlipData) → draw_refusal (first_refusal o (Ok slip)) ≡ o
draw_refusal_by (Ok u) slip = refl
draw_refusal_by (Err e) slip = refl

-- every good set meets each listed group
all_met : (p : Task) (gs : List ℕ) → Listed (record { task = p; groups = gs }) → (x : ℕ) → Good p x → Hits gs x
all_met p gs listed x good i d lt = duality p x (get_or gs i d) good (listed.each i d lt)

-- ---- find

-- where a find is not refused, its book has a place for each row
roomy : (o : Result Unit Refusal) (rows places : ℕ) → first_refusal (of_case o) (of_size (size_refusal rows places)) ≡ Ok tt → rows ≤ places
roomy o rows places made = let sizes = (both_made (of_case o) (of_size (size_refusal rows places)) made).1 in grind arith

module _ (c : Choice) (R : Task → ℕ → ℕ → ℕ → Type 0) (m : ℕ) (k k' : State) (s : List Row) (b : List ℕ) (a : FindAnswer) where
  abbrev In : ℕ → Type 0
  In x = R k.plain.task x (length s) (length b)

  abbrev Kept : Type 0
  Kept = Keeps c R m k.plain (plain_after k.plain (record { asked = Finding s b; answered = a })) k (Finding s b) a k'

  -- what the search found is true
  truly : (f : Result GoodSet FinderFault) → Ended c In m (length s) k.plain.task k'.groups f a.book → length s ≤ length b → length a.book ≡ length b
      → Listed (record { task = k.plain.task; groups = k'.groups }) → FoundTruly In m k.plain.task k'.groups a.book (answer_of f)
  truly (Ok f) e roomy same l = record { good = e.good; counted = refl; fits = omega (arith, e.fits); plan = e.plan; fewest = e.smallest }
  truly (Err (Case r)) e roomy same l = tt
  truly (Err (Size r)) e roomy same l = tt
  truly (Err NoWaiver) e roomy same l = e.hopeless
  truly (Err (Decider (BeyondReach x j))) e roomy same l =
      let set : x ≡ e.beyond.named = cc in
      let mark : j ≡ m = cc in
      ((λ r. e.beyond.out (subst In set r)), mark)
  truly (Err (ListFull h)) e roomy same l = record { full = e.full; met = all_met k.plain.task k'.groups l }

  -- and it is no refusal
  no_refusal : (f : Result GoodSet FinderFault) → Ended c In m (length s) k.plain.task k'.groups f a.book → find_refusal (answer_of f) ≡ Ok tt
  no_refusal (Ok f) e = refl
  no_refusal (Err (Case r)) e = absurd e
  no_refusal (Err (Size r)) e = absurd e
  no_refusal (Err NoWaiver) e = refl
  no_refusal (Err (Decider f)) e = refl
  no_refusal (Err (ListFull h)) e = refl

  pub finds_keep : (o : Result Unit FinderFault) → call_refusal k.plain (Finding s b) ≡ o → FindsUnless o c In m k s b a k'
      → Makes c R m k (Finding s b) a k' → Kept
  finds_keep (Err e) q (is, same) makes = record {
    makes = makes;
    state = ap (λ (n : State). n.plain) same ∙ sym (ap (λ r. unless_refused r (effect_of (Finding s b) a) k.plain) q);
    refusal =
        ap (λ (n : FindAnswer). find_refusal n.result) is
        ∙ refusing (case_refusal k.plain (Finding s b)) (size_refusal (length s) (length b)) e q (λ f. find_refusal (Err f) ≡ Err f) (λ r. refl) (λ f. refl)
        ∙ sym q;
    promise = subst (λ (r : Result (ℕ × ℕ × ℕ) FinderFault). FoundTruly In m k.plain.task k'.groups a.book r) (sym (ap (λ (n : FindAnswer). n.result) is))
        (refusing (case_refusal k.plain (Finding s b)) (size_refusal (length s) (length b)) e q
        (λ f. FoundTruly In m k.plain.task k'.groups a.book (Err f)) (λ r. tt) (λ f. tt));
    listed = makes.1;
  }
  finds_keep (Ok u) q h makes = record {
    makes = makes;
    state = h.plain ∙ sym (ap (λ r. unless_refused r (effect_of (Finding s b) a) k.plain) q);
    refusal = ap find_refusal h.answer ∙ no_refusal h.found h.searches.ended ∙ sym q;
    promise = subst (λ (r : Result (ℕ × ℕ × ℕ) FinderFault). FoundTruly In m k.plain.task k'.groups a.book r) (sym h.answer)
        (truly h.found h.searches.ended (roomy (case_refusal k.plain (Finding s b)) (length s) (length b) q) h.book
        (subst (λ (t : Task). Listed (record { task = t; groups = k'.groups })) (ap (λ (p : Plain). p.task) h.plain) makes.1));
    listed = makes.1;
  }

-- ---- every call keeps the law

module _ (c : Choice) (R : Task → ℕ → ℕ → ℕ → Type 0) (m : ℕ) (k k' : State) (l : Listed (known_of k)) where
  pub keeps : (x : Asked) (r : AnswerTo x) → Makes c R m k x r k'
      → Keeps c R m k.plain (plain_after k.plain (record { asked = x; answered = r })) k x r k'
  keeps (Opening number n s o) r h = record {
    makes = h;
    state = state_by k k' (record { asked = Opening number n s o; answered = r }) _ (state_opened number n s o) refl refl h.after;
    refusal = ap of_case h.answer;
    promise = tt;
    listed = listed_by k k' (record { asked = Opening number n s o; answered = r }) _ (state_opened number n s o) refl refl h.after (λ made. none_listed _) l;
  }
  keeps (Changing x) r h = record {
    makes = h;
    state = state_by k k' (record { asked = Changing x; answered = r }) _ (state_changed x) refl refl h.after;
    refusal = ap of_case h.answer;
    promise = tt;
    listed = listed_by k k' (record { asked = Changing x; answered = r }) _ (state_changed x) refl refl h.after
        (λ made. changed_listed x (known_of k) (both_made (usable_refusal k.plain) (refusal_of k.plain.task x) made).1 l) l;
  }
  keeps (Finding s b) a h = finds_keep c R m k k' s b a (call_refusal k.plain (Finding s b)) refl h.0 h
  keeps Drawing r h = record {
    makes = h;
    state = state_by k k' (record { asked = Drawing; answered = r }) _ (state_with_slip true) refl refl h.after;
    refusal = ap of_case (ap draw_refusal h.answer ∙ draw_refusal_by (case_refusal k.plain Drawing) (slip_of k.plain));
    promise = h.answer;
    listed = listed_by k k' (record { asked = Drawing; answered = r }) _ (state_with_slip true) refl refl h.after (λ made. l) l;
  }
  keeps (Signing slip) r h =
      let state = state_by k k' (record { asked = Signing slip; answered = r }) _ (state_signed slip) refl refl h.does.after in
      record {
        makes = h;
        state = state;
        refusal = ap of_case h.does.answer;
        promise = subst (λ (p : Plain). IfOk r (λ u. Solvable p.task 0)) state h.plan;
        listed = listed_by k k' (record { asked = Signing slip; answered = r }) _ (state_signed slip) refl refl h.does.after (λ made. none_listed _) l;
      }
  keeps (Tearing slip) r h = record {
    makes = h;
    state = state_by k k' (record { asked = Tearing slip; answered = r }) _ (state_with_slip false) refl refl h.after;
    refusal = ap of_case h.answer;
    promise = tt;
    listed = listed_by k k' (record { asked = Tearing slip; answered = r }) _ (state_with_slip false) refl refl h.after (λ made. l) l;
  }

-- ---- and so does every list of calls

module _ {D : Type 0} (reach : D → Task → ℕ → ℕ → ℕ → Type 0) (m : ℕ) where
  pub next_keeps : (c : Choice) (d : D) (es : List Entry) (k : State) (e : Entry) (k' : State) → k.plain ≡ after_calls es → Listed (known_of k)
      → Makes c (reach d) m k e.asked e.answered k'
      → Keeps c (reach d) m (after_calls es) (after_calls (es ++ e ∷ [])) k e.asked e.answered k'
  next_keeps c d es k e k' is listed makes =
      let here = keeps c (reach d) m k k' listed e.asked e.answered makes in
      let on = subst (λ (p : Plain). Keeps c (reach d) m p (plain_after p e) k e.asked e.answered k') is here in
      subst (λ (p : Plain). Keeps c (reach d) m (after_calls es) p k e.asked e.answered k') (sym (replay_more unopened es e)) on

  pub calls_keep : (c : Choice) (first : D) (es : List Entry) (d : D) (k : State) → Made c reach m first es d k → Law c reach m first es d k
  calls_keep c first es d k unmade = record { runs = none; state = refl; listed = none_listed unopened.task }
  calls_keep c first es d k (then {es = fs} {d = d₀} {k = k₀} before e d' k' makes same) =
      let law = calls_keep c first fs d₀ k₀ before in
      let kept = next_keeps c d₀ fs k₀ e k' law.state law.listed makes in
      record { runs = more law.runs e d' k' kept same; state = kept.state; listed = kept.listed }
