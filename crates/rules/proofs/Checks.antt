-- The plan check: one step done, and only one answer.
use Rattle.std.proofs.Common.{◌≡◌, ℕ, zero, suc, ◌+◌, ◌<◌, ◌≤◌, Bool, true, false, T, List, [], ◌∷◌, length, get_or, take, Some, None, Option, sym, refl, ap, ◌∙◌, subst, inl, inr, arith}
use native.Mathlib.Decide.{dec_lt}
use Rattle.std.proofs.lemmas.List.{take_all}
use Rattle.rules.specs.Steps.{Step}
use Rattle.rules.specs.declared.check.PlanCheck.TheVariants.{IsPlan, StopsAt, Missing}
use Rattle.rules.specs.Sets.{bit, ◌⊆◌, ◌∖◌, inside}
use Rattle.rules.specs.Planning.{Task, step_at, result_of, step_without, place_without, struck_facts, strike, Plan, Walk}
use Rattle.rules.specs.Checking.{Undoable, Checks, ChecksOnce, Does}
use Rattle.rules.proofs.Sets.{bits, bit_minus, bit_none, none_below, inside→, →inside}
use Rattle.rules.proofs.Plans.{step_at_struck, leads→, →leads}

pub undone : (o : Option Step) (g s : ℕ) (u v : Step) (b : Bool) → o ≡ Some u → v ≡ step_without g u → b ≡ inside v.needs s → b ≡ false
    → Undoable (place_without g o) s
undone o g s u v b is e test off =
    inr (v, ap (place_without g) is ∙ ap Some (sym e), λ h. subst T (sym test ∙ off) (→inside v.needs s h))

pub done_at : (o : Option Step) (g s : ℕ) (u v : Step) (b : Bool) (r : ℕ) → o ≡ Some u → v ≡ step_without g u → b ≡ inside v.needs s → b ≡ true
    → r ≡ result_of v s → Does (place_without g o) s r
done_at o g s u v b r is e test on q =
    (v, ap (place_without g) is ∙ ap Some (sym e), inside→ v.needs s (subst T (sym (sym test ∙ on)) tt), q)

-- ---- a walk goes one step further

pub walk_more : (ts : List (Option Step)) (s : ℕ) (l : List ℕ) (i e e' : ℕ) → i < length l → Walk ts s (take i l) e → Does (get_or ts (get_or l i 0) None) e e'
    → Walk ts s (take (i + 1) l) e'
walk_more ts s [] i e e' h on does = absurd (omega arith)
walk_more ts s (a ∷ l) zero e e' h on (t, is, can, q) = (t, is, subst (λ x. t.needs ⊆ x) (sym on) can, ap (result_of t) on ∙ sym q)
walk_more ts s (a ∷ l) (suc i) e e' h (t, is, can, on) does =
    let n : suc i + 1 ≡ suc (i + 1) = omega arith in
    subst (λ k. Walk ts s (take k (a ∷ l)) e') (sym n) (t, is, can, walk_more ts (result_of t s) l i e e' (omega arith) on does)

-- ---- a walk ends in one standing

same_step : (o : Option Step) (t u : Step) → o ≡ Some t → o ≡ Some u → t ≡ u
same_step o t u a b = cc

pub walk_once : (ts : List (Option Step)) (s : ℕ) (l : List ℕ) (d e : ℕ) → Walk ts s l d → Walk ts s l e → d ≡ e
walk_once ts s [] d e a b = sym a ∙ b
walk_once ts s (i ∷ l) d e (t, is, can, on) (u, is', can', on') =
    let q : u ≡ t = same_step (get_or ts i None) u t is' is in
    walk_once ts (result_of t s) l d e on (subst (λ (v : Step). Walk ts (result_of v s) l e) q on')

-- a walk over l does not stop inside l
no_stop : (ts : List (Option Step)) (s : ℕ) (l : List ℕ) (e i d : ℕ) → Walk ts s l e → i < length l → Walk ts s (take i l) d → Undoable (get_or ts (get_or l i 0) None) d → ⊥
no_stop ts s [] e i d on h part stop = omega arith
no_stop ts s (a ∷ l) e zero d (t, is, can, on) h part (inl none) = let z : ◌≡◌ {A = ℕ} 0 1 = cc in omega arith
no_stop ts s (a ∷ l) e zero d (t, is, can, on) h part (inr (u, is', lacks)) =
    let q : u ≡ t = same_step (get_or ts a None) u t is' is in
    lacks (subst (λ (v : Step). v.needs ⊆ d) (sym q) (subst (λ x. t.needs ⊆ x) part can))
no_stop ts s (a ∷ l) e (suc i) d (t, is, can, on) h (u, is', can', part) stop =
    let q : u ≡ t = same_step (get_or ts a None) u t is' is in
    no_stop ts (result_of t s) l e i d on (omega arith) (subst (λ (v : Step). Walk ts (result_of v s) (take i l) d) q part) stop

-- of two stops the second is not later
no_later : (ts : List (Option Step)) (s : ℕ) (l : List ℕ) (i j d e : ℕ) → i < j → j < length l → Walk ts s (take j l) e
    → Walk ts s (take i l) d → Undoable (get_or ts (get_or l i 0) None) d → ⊥
no_later ts s [] i j d e i<j h on part stop = omega arith
no_later ts s (a ∷ l) i zero d e i<j h on part stop = omega arith
no_later ts s (a ∷ l) zero (suc j) d e i<j h (t, is, can, on) part (inl none) = let z : ◌≡◌ {A = ℕ} 0 1 = cc in omega arith
no_later ts s (a ∷ l) zero (suc j) d e i<j h (t, is, can, on) part (inr (u, is', lacks)) =
    let q : u ≡ t = same_step (get_or ts a None) u t is' is in
    lacks (subst (λ (v : Step). v.needs ⊆ d) (sym q) (subst (λ x. t.needs ⊆ x) part can))
no_later ts s (a ∷ l) (suc i) (suc j) d e i<j h (t, is, can, on) (u, is', can', part) stop =
    let q : u ≡ t = same_step (get_or ts a None) u t is' is in
    no_later ts (result_of t s) l i j d e (omega arith) (omega arith) on (subst (λ (v : Step). Walk ts (result_of v s) (take i l) d) q part) stop

-- nothing is missing exactly where the order stands
none_missing : (o s m : ℕ) → o ⊆ s → m ≡ o ∖ s → 0 < m → ⊥
none_missing o s m h e pos =
    let z : o ∖ s ≡ 0 = none_below (o ∖ s) (λ f. omega (arith, bits, h f, bit_none f)) in omega arith

pub no_missing : (o s m : ℕ) → m ≡ o ∖ s → m ≡ 0 → o ⊆ s
no_missing o s m e z f = omega (arith, bits, bit_minus o s f, ap (λ (x : ℕ). bit x f) (sym e ∙ z), bit_none f)

module _ (p : Task) (l : List ℕ) where
  plan_goes_on : (j : ℕ) → Checks p l IsPlan → Checks p l (StopsAt j) → ⊥
  plan_goes_on j a (h, (s, part, stop)) =
      let (e, on, o) = leads→ p p.standing l a in no_stop p.steps p.standing l e j s on h part stop

  plan_lacks_nothing : (m : ℕ) → Checks p l IsPlan → Checks p l (Missing m) → ⊥
  plan_lacks_nothing m a (pos, (s, on, q)) =
      let (e, on', o) = leads→ p p.standing l a in
      let same : e ≡ s = walk_once p.steps p.standing l e s on' on in
      none_missing p.order s m (subst (λ x. p.order ⊆ x) same o) q pos

  stop_is_early : (i m : ℕ) → Checks p l (StopsAt i) → Checks p l (Missing m) → ⊥
  stop_is_early i m (h, (s, part, stop)) (pos, (e, on, q)) = no_stop p.steps p.standing l e i s on h part stop

pub checks_once : ChecksOnce
checks_once p l IsPlan IsPlan a b = refl
checks_once p l IsPlan (StopsAt j) a b = absurd (plan_goes_on p l j a b)
checks_once p l IsPlan (Missing m) a b = absurd (plan_lacks_nothing p l m a b)
checks_once p l (StopsAt i) IsPlan a b = absurd (plan_goes_on p l i b a)
checks_once p l (StopsAt i) (StopsAt j) (h, (s, part, stop)) (h', (s', part', stop')) = elim (dec_lt i j) [
  | yes lt ↦ absurd (no_later p.steps p.standing l i j s s' lt h' part' part stop)
  | no ge ↦ (elim (dec_lt j i) [
    | yes lt ↦ absurd (no_later p.steps p.standing l j i s' s lt h part part' stop')
    | no le ↦ ap StopsAt (omega arith)
  ])
]
checks_once p l (StopsAt i) (Missing m) a b = absurd (stop_is_early p l i m a b)
checks_once p l (Missing m) IsPlan a b = absurd (plan_lacks_nothing p l m b a)
checks_once p l (Missing m) (StopsAt j) a b = absurd (stop_is_early p l j m b a)
checks_once p l (Missing m) (Missing k) (pos, (s, on, q)) (pos', (s', on', q')) =
    let same : s ≡ s' = walk_once p.steps p.standing l s s' on on' in
    ap Missing (q ∙ ap (λ x. p.order ∖ x) same ∙ sym q')

-- ---- a walk that has gone through i of the places

module _ (p : Task) (x start : ℕ) (l : List ℕ) (i e : ℕ) (begins : start ≡ (strike p x).standing)
    (on : Walk (strike p x).steps start (take i l) e) where
  from_start : Walk (strike p x).steps (strike p x).standing (take i l) e
  from_start = subst (λ s. Walk (strike p x).steps s (take i l) e) begins on

  -- the walk stops at the place i
  pub stops_at : i < length l → Undoable (place_without (struck_facts p x) (step_at p (get_or l i 0))) e → Checks (strike p x) l (StopsAt i)
  stops_at h stop = (h, (e, from_start, subst (λ o. Undoable o e) (sym (step_at_struck p x (get_or l i 0))) stop))

  -- the walk goes on past the place i
  pub goes_on : (e' : ℕ) → i < length l → Does (place_without (struck_facts p x) (step_at p (get_or l i 0))) e e'
      → Walk (strike p x).steps start (take (i + 1) l) e'
  goes_on e' h does =
      walk_more (strike p x).steps start l i e e' h on (subst (λ o. Does o e e') (sym (step_at_struck p x (get_or l i 0))) does)

  all_walked : length l ≤ i → Walk (strike p x).steps (strike p x).standing l e
  all_walked h = subst (λ m. Walk (strike p x).steps (strike p x).standing m e) (take_all i l h) from_start

  -- the walk has gone through all places, and no ordered fact is missing
  pub ends_well : (o m : ℕ) → length l ≤ i → o ≡ (strike p x).order → m ≡ o ∖ e → m ≡ 0 → Plan (strike p x) l
  ends_well o m h q is none =
      →leads (strike p x) (strike p x).standing l e (all_walked h) (no_missing (strike p x).order e m (is ∙ ap (λ z. z ∖ e) q) none)

  -- the walk has gone through all places, and ordered facts are missing
  pub ends_short : (o m : ℕ) → length l ≤ i → o ≡ (strike p x).order → m ≡ o ∖ e → (m ≡ 0 → ⊥) → Checks (strike p x) l (Missing m)
  ends_short o m h q is some = (omega (arith, some), (e, all_walked h, is ∙ ap (λ z. z ∖ e) q))
