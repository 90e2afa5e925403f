-- Closures: one round, the closure as the last of many rounds, and what is outside it.
use Rattle.std.proofs.Common.{Bool, true, false, not, IsTrue, ◌↔◌, ◌≡◌, ℕ, zero, suc, ◌+◌, ◌<◌, ◌≤◌, ◌⊎◌, List, [], ◌∷◌, map, length, get_or, Some, None, Option, refl, sym, ap, ◌∙◌, subst, inl, inr, arith}
use native.Mathlib.Decide.{dec_lt}
use Rattle.std.specs.Prelude.{All, IfSome, is_some}
use Rattle.std.proofs.lemmas.List.Filters.{length-filter_both}
use Rattle.std.proofs.lemmas.List.Elements.{All-nil, All-cons, All-head, All-tail, All-filter, All-from_get_or}
use lib.ListN.{get_or-map}
use Rattle.std.proofs.lemmas.Bool.{cases_eq}
use Rattle.std.proofs.lemmas.Grind.{common_steps}
use Rattle.rules.specs.Steps.{Step}
use Rattle.rules.specs.Sets.{bit, ◌⊆◌, ◌∪◌, ◌∖◌}
use Rattle.rules.specs.Planning.{Task, result_of, Leads, place_without, step_without, struck_facts, strike}
use Rattle.rules.proofs.Sets.{bits, sub_le, same_facts, inside_dec}
use Rattle.rules.proofs.Tables.{all_gives}
use Rattle.rules.proofs.Plans.{some_without}
use Rattle.deciders.specs.Closures.{Under, ClosedUnder, Closure, Round, filled}
use Rattle.deciders.specs.Reaches.{ScreenedOut}
use Rattle.deciders.specs.Theorems.{ClosureExists, ClosureUnique, ScreenedBlocked}

module _ (ts : List (Option Step)) where
  -- ---- one round, step by step

  pub round_start : (c : ℕ) → Round ts 0 c c
  round_start c = grind (arith, common_steps)

  module _ (n c r : ℕ) (x : Round ts n c r) where
    pub round_none : get_or ts n None ≡ None → Round ts (n + 1) c r
    round_none e = grind (arith, common_steps)

    module _ (t : Step) (is : get_or ts n None ≡ Some t) where
      pub round_not : (t.needs ⊆ r → ⊥) → Round ts (n + 1) c r
      round_not cannot = record {
        grows = x.grows;
        least = x.least;
        all = λ i u h e can. elim (cases_eq i n) [
          | inl q ↦ absurd (cannot (λ f. grind (arith, can f, x.grows f)))
          | inr q ↦ x.all i u (omega arith) e can
        ];
      }

      pub round_add : t.needs ⊆ r → Round ts (n + 1) c (r ∪ t.gives)
      round_add can = grind (arith, common_steps, bits)

  round_exists : (n c : ℕ) → (r : ℕ) × Round ts n c r
  round_exists zero c = (c, round_start c)
  round_exists (suc n) c = let (r, x) = round_exists n c in go r x (get_or ts n None) refl
    where
      go : (r : ℕ) → Round ts n c r → (o : Option Step) → get_or ts n None ≡ o → (r : ℕ) × Round ts (suc n) c r
      go r x None e = (r, subst (λ k. Round ts k c r) (omega arith) (round_none n c r x e))
      go r x (Some t) e = elim (inside_dec t.needs r) [
        | inl can ↦ (r ∪ t.gives, subst (λ k. Round ts k c (r ∪ t.gives)) (omega arith) (round_add n c r x t e can))
        | inr cannot ↦ (r, subst (λ k. Round ts k c r) (omega arith) (round_not n c r x t e cannot))
      ]

  -- ---- round after round

  -- c holds what stands, and is inside every closed set
  pub record Closing (s c : ℕ) : Type 0 where
    pub holds : s ⊆ c
    pub least : (d : ℕ) → ClosedUnder ts s d → c ⊆ d

  pub closing_start : (s : ℕ) → Closing s s
  closing_start s = grind arith

  pub closing_more : (s n c r : ℕ) → Closing s c → Round ts n c r → Closing s r
  closing_more s n c r x y = grind arith

  pub closing_rises : (n c r : ℕ) → Round ts n c r → (r ≡ c → ⊥) → c < r
  closing_rises n c r y new = omega (arith, sub_le r c y.grows, new)

  pub closing_out : (s n c r : ℕ) → length ts ≤ n → Closing s c → Round ts n c r → r ≡ c → Closure ts s c
  closing_out s n c r long x y e = grind (arith, common_steps)

  -- ---- there is a closure

  -- a round closes the set, or makes it larger, inside every closed set
  closing_step : (s d : ℕ) → ClosedUnder ts s d → (c : ℕ) → Closing s c → ((e : ℕ) × Closure ts s e) ⊎ ((r : ℕ) × Closing s r × (c < r) × (r ≤ d))
  closing_step s d z c x =
      let (r, y) = round_exists (length ts) c in
      let more = closing_more s (length ts) c r x y in
      elim (cases_eq r c) [
        | inl e ↦ inl (c, closing_out s (length ts) c r (omega arith) x y e)
        | inr new ↦ inr (r, more, closing_rises (length ts) c r y new, sub_le d r (more.least d z))
      ]

  closing_on : (s d : ℕ) → ClosedUnder ts s d → (k c : ℕ) → Closing s c → d ≤ k + c → (e : ℕ) × Closure ts s e
  closing_on s d z zero c x h = elim (closing_step s d z c x) [
    | inl found ↦ found
    | inr (r, y, up, low) ↦ absurd (omega arith)
  ]
  closing_on s d z (suc k) c x h = elim (closing_step s d z c x) [
    | inl found ↦ found
    | inr (r, y, up, low) ↦ closing_on s d z k r y (omega arith)
  ]

pub closure_exists : ClosureExists
closure_exists ts s =
    let (g, h) = all_gives ts in
    closing_on ts s (s ∪ g) ((λ f. omega (arith, bits)), λ i t is can. (let y = h i t is in λ f. omega (arith, bits, y f))) (s ∪ g) s (closing_start ts s) (omega arith)

pub closure_unique : ClosureUnique
closure_unique ts s c d x y = same_facts d c (x.1 d y.0) (y.1 c x.0)

-- ---- what is inside the closure, and what is outside

pub inside_closure : (ts : List (Option Step)) (s o c : ℕ) → Closing ts s c → o ⊆ c → (d : ℕ) × Closure ts s d × (o ⊆ d)
inside_closure ts s o c x sub = let (d, closure) = closure_exists ts s in (d, closure, let low = x.least d closure.0 in λ f. omega (arith, sub f, low f))

pub outside_closure : (ts : List (Option Step)) (s o c : ℕ) → Closure ts s c → (o ⊆ c → ⊥) → (d : ℕ) × Closure ts s d × (o ⊆ d) → ⊥
outside_closure ts s o c closure out (d, other, sub) = out (subst (λ u. o ⊆ u) (closure_unique ts s d c other closure) sub)

stays_inside : (p : Task) (c : ℕ) → Under p.steps c → (s : ℕ) (l : List ℕ) → s ⊆ c → Leads p s l → p.order ⊆ c
stays_inside p c u s [] sub o = λ f. omega (arith, sub f, o f)
stays_inside p c u s (i ∷ l) sub (t, is, can, on) =
    let gives = u i t is (λ f. omega (arith, can f, sub f)) in
    stays_inside p c u (result_of t s) l (λ f. omega (arith, bits, sub f, gives f)) on

pub screened_blocked : ScreenedBlocked
screened_blocked p (c, x, out) l plan = out (stays_inside p c x.0.1 p.standing l x.0.0 plan)

-- ---- the places that hold a step

pub filled_few : (ts : List (Option Step)) → length (filled ts) ≤ length ts
filled_few ts = omega (arith, length-filter_both is_some (λ o. not (is_some o)) (λ o. refl) ts)

-- with its needs, d has what a step gives, if there is one
abbrev HasGives : ℕ → Option Step → Type 0
HasGives d o = IfSome o (λ t. t.needs ⊆ d → t.gives ⊆ d)

has_all : (ts : List (Option Step)) (d : ℕ) → Under ts d → All (HasGives d) ts
has_all ts d u = All-from_get_or (HasGives d) ts None (λ i lt. go i (get_or ts i None) refl)
  where
    go : (i : ℕ) (o : Option Step) → get_or ts i None ≡ o → HasGives d o
    go i None e = tt
    go i (Some t) e = u i t e

all_under : (ts : List (Option Step)) (d : ℕ) → All (HasGives d) ts → Under ts d
all_under ts d all i t e = elim (dec_lt i (length ts)) [
  | yes lt ↦ subst (HasGives d) e (all i None lt)
  | no ge ↦ absurd (grind (arith, common_steps))
]

all_filled : (d : ℕ) (ts : List (Option Step)) → All (HasGives d) (filled ts) → All (HasGives d) ts
all_filled d [] all = All-nil (HasGives d)
all_filled d (None ∷ ts) all = All-cons (HasGives d) None ts tt (all_filled d ts all)
all_filled d (Some t ∷ ts) all =
    All-cons (HasGives d) (Some t) ts (All-head (HasGives d) (Some t) (filled ts) all) (all_filled d ts (All-tail (HasGives d) (Some t) (filled ts) all))

module _ (ts : List (Option Step)) where
  under_filled : (d : ℕ) → Under (filled ts) d → Under ts d
  under_filled d u = all_under ts d (all_filled d ts (has_all (filled ts) d u))

  filled_under : (d : ℕ) → Under ts d → Under (filled ts) d
  filled_under d u = all_under (filled ts) d (All-filter is_some (HasGives d) ts (has_all ts d u))

  -- the closure is the same without the empty places
  closure_filled : (s c : ℕ) → Closure (filled ts) s c → Closure ts s c
  closure_filled s c ((holds, under), least) = ((holds, under_filled c under), λ d closed. least d (closed.0, filled_under d closed.1))

  filled_closure : (s c : ℕ) → Closure ts s c → Closure (filled ts) s c
  filled_closure s c ((holds, under), least) = ((holds, filled_under c under), λ d closed. least d (closed.0, under_filled d closed.1))

  pub filled_same : (s o : ℕ) → ((c : ℕ) × Closure (filled ts) s c × (o ⊆ c)) ↔ ((c : ℕ) × Closure ts s c × (o ⊆ c))
  filled_same s o = ((λ (c, closure, sub). (c, closure_filled s c closure, sub)), λ (c, closure, sub). (c, filled_closure s c closure, sub))

-- ---- facts struck out

module _ (g : ℕ) (ts : List (Option Step)) where
  under_without : (c : ℕ) → g ⊆ c → Under ts c → Under (map (place_without g) ts) (c ∖ g)
  under_without c all under i t e can =
      let (u, is, same) = some_without g (get_or ts i None) t (sym (get_or-map (place_without g) ts i None) ∙ e) in
      let gives = under i u is (λ f. omega (arith, bits, all f, can f, ap (λ (v : Step). bit v.needs f) same)) in
      λ f. omega (arith, bits, gives f, ap (λ (v : Step). bit v.gives f) same)

  under_with : (d : ℕ) → Under (map (place_without g) ts) d → Under ts (d ∪ g)
  under_with d under i u is can =
      let gives = under i (step_without g u) (get_or-map (place_without g) ts i None ∙ ap (place_without g) is) (λ f. omega (arith, bits, can f)) in
      λ f. omega (arith, bits, gives f)

  -- what stands all along may be struck out afterwards
  closure_without : (s c : ℕ) → Closure ts (s ∪ g) c → Closure (map (place_without g) ts) (s ∖ g) (c ∖ g)
  closure_without s c ((holds, under), least) = (
    ((λ f. omega (arith, bits, holds f)), under_without c (λ f. omega (arith, bits, holds f)) under),
    λ d (start, closed). (let up = least (d ∪ g) ((λ f. omega (arith, bits, start f)), under_with d closed) in λ f. omega (arith, bits, up f)),
  )

-- what is struck out stands all along: the order is inside that closure, or the screen blocks it
pub struck_screens_out : (p : Task) (x : ℕ) (b : Bool) → IsTrue b ↔ ((c : ℕ) × Closure p.steps (p.standing ∪ struck_facts p x) c × (p.order ⊆ c))
    → IsTrue (not b) ↔ ScreenedOut (strike p x)
struck_screens_out p x true test =
    let (c, closure, sub) = test.0 refl in
    let q : Task = strike p x in
    let struck = closure_without (struck_facts p x) p.steps p.standing c closure in (
      (λ h. cc),
      λ (d, other, out). absurd (outside_closure q.steps q.standing q.order d other out (c ∖ struck_facts p x, struck, λ f. omega (arith, bits, sub f))),
    )
struck_screens_out p x false test =
    let g : ℕ = struck_facts p x in
    let (c, closure) = closure_exists p.steps (p.standing ∪ g) in (
      (λ h. (
        c ∖ g,
        closure_without g p.steps p.standing c closure,
        λ sub. (let q : false ≡ true = test.1 (c, closure, λ f. omega (arith, bits, sub f, closure.0.0 f)) in cc),
      )),
      λ out. refl,
    )
