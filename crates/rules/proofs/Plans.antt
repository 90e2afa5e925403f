-- Plans: one simulation gives all that never blocks.
use Rattle.std.proofs.Common.{◌≡◌, ℕ, zero, suc, List, [], ◌∷◌, get_or, set, Some, None, Option, sym, refl, ap, ◌∙◌, subst, arith}
use lib.ListN.{get_or-map}
use Rattle.rules.specs.Steps.{Step}
use Rattle.rules.specs.Sets.{bit, ◌⊆◌, ◌∪◌}
use Rattle.rules.specs.Planning.{Task, step_at, result_of, Leads, Plan, Walk, step_without, place_without, struck_facts, strike}
use Rattle.rules.specs.Setters.{with_standing, with_order, with_steps}
use Rattle.rules.specs.Theorems.{StrikingMore, OrderingLess, StandingMore, AdditionalStep, Emptying, Doing, PlansWalk}
use Rattle.rules.proofs.Sets.{bits}

pub step_at_struck : (p : Task) (x i : ℕ) → step_at (strike p x) i ≡ place_without (struck_facts p x) (step_at p i)
step_at_struck p x i = get_or-map (place_without (struck_facts p x)) p.steps i None

pub some_without : (g : ℕ) (o : Option Step) (t : Step) → place_without g o ≡ Some t → (u : Step) × (o ≡ Some u) × (step_without g u ≡ t)
some_without g None t e = absurd (let z : ◌≡◌ {A = ℕ} 0 1 = cc in omega arith)
some_without g (Some u) t e = (u, refl, cc)

-- q with y struck out is no harder than p with x struck out
pub record Easier (p : Task) (x : ℕ) (q : Task) (y : ℕ) : Type 0 where
  pub struck : struck_facts p x ⊆ struck_facts q y
  pub order : q.order ⊆ p.order
  pub steps : (i : ℕ) (t : Step) → step_at p i ≡ Some t → step_at q i ≡ Some t

module _ (p : Task) (x : ℕ) (q : Task) (y : ℕ) (h : Easier p x q y) where
  leads_on : (s s' : ℕ) (l : List ℕ) → s ⊆ s' ∪ (struck_facts q y) → Leads (strike p x) s l → Leads (strike q y) s' l
  leads_on s s' [] k e = λ f. omega (arith, bits, k f, e f, h.struck f, h.order f)
  leads_on s s' (i ∷ l) k (t, is, can, on) =
      let (u, has, e) = some_without (struck_facts p x) (step_at p i) t (sym (step_at_struck p x i) ∙ is) in
      let v : Step = step_without (struck_facts q y) u in
      let en = λ (f : ℕ). ap (λ (w : Step). bit w.needs f) e in
      let eg = λ (f : ℕ). ap (λ (w : Step). bit w.gives f) e in
      let et = λ (f : ℕ). ap (λ (w : Step). bit w.takes f) e in (
        v,
        step_at_struck q y i ∙ ap (place_without (struck_facts q y)) (h.steps i u has),
        (λ f. omega (arith, bits, k f, can f, en f, h.struck f)),
        leads_on (result_of t s) (result_of v s') l (λ f. omega (arith, bits, k f, eg f, et f, h.struck f)) on,
      )

  pub easier : p.standing ⊆ q.standing → (l : List ℕ) → Plan (strike p x) l → Plan (strike q y) l
  easier k l = leads_on (strike p x).standing (strike q y).standing l (λ f. omega (arith, bits, k f, h.struck f))

-- a problem is no harder than itself
self : (p : Task) (x : ℕ) → Easier p x p x
self p x = record { struck = λ f. omega arith; order = λ f. omega arith; steps = λ i t e. e }

pub striking_more : StrikingMore
striking_more p x y l k =
    easier p x p y (record { struck = λ f. omega (arith, bits, k f); order = λ f. omega arith; steps = λ i t e. e }) (λ f. omega arith) l

pub ordering_less : OrderingLess
ordering_less p o o' x l k =
    easier (with_order p o') x (with_order p o) x (record { struck = λ f. omega arith; order = k; steps = λ i t e. e }) (λ f. omega arith) l

pub standing_more : StandingMore
standing_more p s s' x l k =
    easier (with_standing p s) x (with_standing p s') x (record { struck = λ f. omega arith; order = λ f. omega arith; steps = λ i t e. e }) k l

pub emptied : (ts : List (Option Step)) (i j : ℕ) (t : Step) → get_or (set ts i None) j None ≡ Some t → get_or ts j None ≡ Some t
emptied [] i j t e = e
emptied (a ∷ ts) zero zero t e = absurd (let z : ◌≡◌ {A = ℕ} 0 1 = cc in omega arith)
emptied (a ∷ ts) zero (suc j) t e = e
emptied (a ∷ ts) (suc i) zero t e = e
emptied (a ∷ ts) (suc i) (suc j) t e = emptied ts i j t e

pub emptying : Emptying
emptying p i x l =
    easier (with_steps p (set p.steps i None)) x p x
    (record { struck = λ f. omega arith; order = λ f. omega arith; steps = emptied p.steps i }) (λ f. omega arith) l

filled : (ts : List (Option Step)) (i : ℕ) (u : Step) → get_or ts i None ≡ None
    → (j : ℕ) (t : Step) → get_or ts j None ≡ Some t → get_or (set ts i (Some u)) j None ≡ Some t
filled [] i u free j t e = e
filled (a ∷ ts) zero u free zero t e = absurd (let z : ◌≡◌ {A = ℕ} 0 1 = cc in omega arith)
filled (a ∷ ts) zero u free (suc j) t e = e
filled (a ∷ ts) (suc i) u free zero t e = e
filled (a ∷ ts) (suc i) u free (suc j) t e = filled ts i u free j t e

pub additional_step : AdditionalStep
additional_step p i t x l free =
    easier p x (with_steps p (set p.steps i (Some t))) x
    (record { struck = λ f. omega arith; order = λ f. omega arith; steps = filled p.steps i t free }) (λ f. omega arith) l

pub doing : Doing
doing p i t x is can stuck (l, on) =
    let g : ℕ = struck_facts p x in
    let q : Task = with_standing p (result_of t p.standing) in
    let u : Step = step_without g t in
    stuck (
      i ∷ l,
      (
        u,
        step_at_struck p x i ∙ ap (place_without g) is,
        (λ f. omega (arith, bits, can f)),
        leads_on q x p x (record { struck = λ f. omega arith; order = λ f. omega arith; steps = λ i t e. e })
            (strike q x).standing (result_of u (strike p x).standing) l (λ f. omega (arith, bits)) on,
      ),
    )

-- ---- plans are walks

pub leads→ : (p : Task) (s : ℕ) (l : List ℕ) → Leads p s l → (e : ℕ) × Walk p.steps s l e × (p.order ⊆ e)
leads→ p s [] h = (s, refl, h)
leads→ p s (i ∷ l) (t, is, can, on) = let (e, k, q) = leads→ p (result_of t s) l on in (e, (t, is, can, k), q)

pub →leads : (p : Task) (s : ℕ) (l : List ℕ) (e : ℕ) → Walk p.steps s l e → p.order ⊆ e → Leads p s l
→leads p s [] e q o = subst (λ x. p.order ⊆ x) (sym q) o
→leads p s (i ∷ l) e (t, is, can, on) o = (t, is, can, →leads p (result_of t s) l e on o)

pub plans_walk : PlansWalk
plans_walk p l = (leads→ p p.standing l, λ (e, on, o). →leads p p.standing l e on o)
