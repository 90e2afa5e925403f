-- The forward listing, and why it is decided whether there is a plan.
use Rattle.std.proofs.Common.{◌≡◌, ℕ, zero, suc, ◌+◌, ◌^◌, ◌<◌, ◌≤◌, Bool, true, false, cond, T, ◌⊎◌, List, [], ◌∷◌, length, get_or, Some, None, Option, sym, refl, ap, subst, inl, inr, arith, pow_mono}
use lib.Bits.{or_lt}
use Rattle.rules.specs.Steps.{Step}
use Rattle.rules.specs.Sets.{◌⊆◌, ◌∖◌, inside}
use Rattle.rules.specs.Planning.{Task, step_at, result_of, Plan, Walk, strike}
use Rattle.rules.specs.Listing.{Whole, Path, progression, standings}
use Rattle.rules.specs.Theorems.{ForwardWalks, WholeBlocked, ListedPlan, Decided}
use Rattle.rules.proofs.Sets.{bits, sub_le, inside→, →inside, inside_dec}
use Rattle.rules.proofs.Plans.{leads→, →leads}
use Rattle.rules.proofs.Listing.{T→true, reached_listed, listed_reached}
use Rattle.rules.proofs.Ends.{listing_ends}
use Rattle.rules.proofs.Tables.{all_gives}

-- ---- a step leads forward exactly where it can be done

pub progression→ : (t : Step) (s r : ℕ) → progression t s ≡ Some r → (t.needs ⊆ s) × (result_of t s ≡ r)
progression→ t s r = go (inside t.needs s) refl
  where
    go : (b : Bool) → inside t.needs s ≡ b → cond b (Some (result_of t s)) None ≡ Some r → (t.needs ⊆ s) × (result_of t s ≡ r)
    go true e q = (inside→ t.needs s (subst T (sym e) tt), cc)
    go false e q = absurd (let z : ◌≡◌ {A = ℕ} 0 1 = cc in omega arith)

pub →progression : (t : Step) (s : ℕ) → t.needs ⊆ s → progression t s ≡ Some (result_of t s)
→progression t s h = ap (λ b. cond b (Some (result_of t s)) None) (T→true (inside t.needs s) (→inside t.needs s h))

path→walk : (ts : List (Option Step)) (s : ℕ) (l : List ℕ) (e : ℕ) → Path progression ts s l e → Walk ts s l e
path→walk ts s [] e q = q
path→walk ts s (i ∷ l) e (t, is, r, leads, on) =
    let (can, q) = progression→ t s r leads in
    (t, is, can, path→walk ts (result_of t s) l e (subst (λ x. Path progression ts x l e) (sym q) on))

walk→path : (ts : List (Option Step)) (s : ℕ) (l : List ℕ) (e : ℕ) → Walk ts s l e → Path progression ts s l e
walk→path ts s [] e q = q
walk→path ts s (i ∷ l) e (t, is, can, on) = (t, is, result_of t s, →progression t s can, walk→path ts (result_of t s) l e on)

pub forward_walks : ForwardWalks
forward_walks ts s l e = (path→walk ts s l e, walk→path ts s l e)

pub whole_blocked : WholeBlocked
whole_blocked p m w away l plan =
    let (e, on, o) = leads→ p p.standing l plan in
    let (i, h, q) = reached_listed progression p.steps p.standing m w l e (walk→path p.steps p.standing l e on) in
    away i h (subst (λ x. p.order ⊆ x) (sym q) o)

pub listed_plan : ListedPlan
listed_plan p m i h o =
    let (l, on) = listed_reached progression p.steps p.standing m i h in
    let e : ℕ = get_or (standings p m) i 0 in
    (l, →leads p p.standing l e (path→walk p.steps p.standing l e on) o)

-- ---- a listing of finitely many standings ends

some_or_none : (o : ℕ) (l : List ℕ) → ((i : ℕ) × (i < length l) × (o ⊆ get_or l i 0)) ⊎ ((i : ℕ) → i < length l → o ⊆ get_or l i 0 → ⊥)
some_or_none o [] = inr (λ i h. absurd (omega arith))
some_or_none o (s ∷ l) = elim (inside_dec o s) [
  | inl y ↦ inl (zero, omega arith, y)
  | inr n ↦ (elim (some_or_none o l) [
    | inl (i, h, y) ↦ inl (suc i, omega arith, y)
    | inr m ↦ inr (λ i. elim i as (λ i. i < suc (length l) → o ⊆ get_or (s ∷ l) i 0 → ⊥) [ zero ↦ (λ h. n) | suc j ↦ (λ h. m j (omega arith)) ])
  ])
]

-- what stands and what is given is below 2 ^ b
abbrev FactsBelow : ℕ → Task → Type 0
FactsBelow b p = (p.standing < 2 ^ b) × ((i : ℕ) (t : Step) → step_at p i ≡ Some t → t.gives < 2 ^ b)

below_power : (n : ℕ) → n < 2 ^ n
below_power zero = omega arith
below_power (suc n) = omega (arith, below_power n)

more_power : (a b c : ℕ) → a < 2 ^ b → b ≤ c → a < 2 ^ c
more_power a b c h k = omega (arith, pow_mono k)

given_below : (ts : List (Option Step)) → (b : ℕ) × ((i : ℕ) (t : Step) → get_or ts i None ≡ Some t → t.gives < 2 ^ b)
given_below ts = let (g, h) = all_gives ts in (g, λ i t e. omega (arith, sub_le g t.gives (h i t e), below_power g))

facts_bounded : (p : Task) → (b : ℕ) × FactsBelow b p
facts_bounded p =
    let (b, h) = given_below p.steps in
    let c : ℕ = b + p.standing in
    (c, (more_power p.standing p.standing c (below_power p.standing) (omega arith), λ i t e. more_power t.gives b c (h i t e) (omega arith)))

walk_below : (b : ℕ) (p : Task) → FactsBelow b p → (s : ℕ) (l : List ℕ) (e : ℕ) → s < 2 ^ b → Walk p.steps s l e → e < 2 ^ b
walk_below b p z s [] e h q = subst (λ x. x < 2 ^ b) q h
walk_below b p z s (i ∷ l) e h (t, is, can, on) =
    walk_below b p z (result_of t s) l e
    (or_lt b (s ∖ t.takes) t.gives (omega (arith, sub_le s (s ∖ t.takes) (λ f. omega (arith, bits)))) (z.1 i t is)) on

decides : (p : Task) (m : ℕ) → Whole progression p.steps p.standing m → ((l : List ℕ) × Plan p l) ⊎ (((l : List ℕ) × Plan p l) → ⊥)
decides p m w = elim (some_or_none p.order (standings p m)) [
  | inl (i, h, o) ↦ inl (listed_plan p m i h o)
  | inr none ↦ inr (λ (l, on). whole_blocked p m w none l on)
]

pub decided : Decided
decided p x =
    let q : Task = strike p x in
    let (b, z) = facts_bounded q in
    decides q (2 ^ b) (listing_ends progression q.steps q.standing b
    (λ l e on. walk_below b q z q.standing l e z.0 (path→walk q.steps q.standing l e on)))
