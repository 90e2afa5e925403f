-- Worked examples, by computing: plans that are run, and listings that are written out.
use Rattle.std.proofs.Common.{◌≡◌, ℕ, zero, suc, ◌<◌, Bool, true, false, not, ◌&&◌, T, leb, List, [], ◌∷◌, length, get_or, Some, None, Option, refl, arith, leb→le, T_not}
use lib.Count.{ones}
use Rattle.rules.specs.Steps.{Step}
use Rattle.rules.specs.Sets.{bit, ◌⊆◌, ◌∖◌, inside}
use Rattle.rules.specs.Planning.{Task, step_at, result_of, Leads, Plan, strike, Blocked}
use Rattle.rules.specs.Waivers.{waivable, Group, Hits, MinimumHittingSet}
use Rattle.rules.specs.Listing.{standings}
use Rattle.rules.specs.Examples.{C, Hopeless, WorkedExamples}
use Rattle.rules.proofs.Sets.{inside→, →inside, bit_none, has_fact}
use Rattle.rules.proofs.Groups.{no_way}
use Rattle.rules.proofs.Forwards.{whole_blocked}

both : (a b : Bool) → T (a && b) → T a × T b
both true b h = (tt, h)
both false b h = elim h [ ]

-- ---- a plan, run

abbrev pub runs : Task → ℕ → List ℕ → Bool
runs p s [] = inside p.order s
runs p s (i ∷ l) = elim (step_at p i) [ None ↦ false | Some t ↦ inside t.needs s && runs p (result_of t s) l ]

runs→ : (p : Task) (s : ℕ) (l : List ℕ) → T (runs p s l) → Leads p s l
runs→ p s [] h = inside→ p.order s h
runs→ p s (i ∷ l) h = go (step_at p i) refl (λ t. runs→ p (result_of t s) l) h
  where
    go : (o : Option Step) → step_at p i ≡ o → ((t : Step) → T (runs p (result_of t s) l) → Leads p (result_of t s) l)
        → T (elim o [ None ↦ false | Some t ↦ inside t.needs s && runs p (result_of t s) l ])
        → (t : Step) × (step_at p i ≡ Some t) × (t.needs ⊆ s) × Leads p (result_of t s) l
    go None e ih h = elim h [ ]
    go (Some t) e ih h =
        let (a, b) = both (inside t.needs s) (runs p (result_of t s) l) h in (t, e, inside→ t.needs s a, ih t b)

pub plan_by : (p : Task) (l : List ℕ) → T (runs p p.standing l) → Plan p l
plan_by p l = runs→ p p.standing l

-- ---- no plan, by the whole listing

abbrev pub nowhere : ℕ → List ℕ → Bool
nowhere o [] = true
nowhere o (s ∷ l) = not (inside o s) && nowhere o l

nowhere→ : (o : ℕ) (l : List ℕ) → T (nowhere o l) → (i : ℕ) → i < length l → o ⊆ get_or l i 0 → ⊥
nowhere→ o [] h i k q = absurd (omega arith)
nowhere→ o (s ∷ l) h zero k q = T_not (inside o s) (both (not (inside o s)) (nowhere o l) h).0 (→inside o s q)
nowhere→ o (s ∷ l) h (suc i) k q = nowhere→ o l (both (not (inside o s)) (nowhere o l) h).1 i (omega arith) q

-- the whole listing has at most m standings, and the order stands in none
abbrev pub stuck : Task → ℕ → Bool
stuck p m = leb (length (standings p m)) m && nowhere p.order (standings p m)

pub blocked_by : (p : Task) (x m : ℕ) → T (stuck (strike p x) m) → Blocked p x
blocked_by p x m h (l, plan) =
    let q : Task = strike p x in
    let (a, b) = both (leb (length (standings q m)) m) (nowhere q.order (standings q m)) h in
    whole_blocked q m (leb→le (length (standings q m)) m a) (nowhere→ q.order (standings q m) b) l plan

-- ---- sets that meet

pub met_by_2 : MinimumHittingSet (0b0101 ∷ 0b1100 ∷ []) 0b0100
unfolding bit ones
met_by_2 = (hits, λ k h. (let (f, i, j) = h 0 0 (omega arith) in has_fact k f i))
  where
    hits : Hits (0b0101 ∷ 0b1100 ∷ []) 0b0100
    hits zero d lt = (2, refl, refl)
    hits (suc zero) d lt = (2, refl, refl)
    hits (suc (suc i)) d lt = absurd (omega arith)

empty_unmet : (h : ℕ) → Hits (0b0101 ∷ 0 ∷ []) h → ⊥
empty_unmet h m = let (f, i, j) = m 1 0 (omega arith) in omega (arith, bit_none f)

hopeless_group : Group Hopeless 0
unfolding inside
hopeless_group = ((λ f. omega (arith, bit_none f)), blocked_by Hopeless (waivable Hopeless ∖ 0) 4 tt)

pub worked_examples : WorkedExamples
unfolding inside
worked_examples = record {
  c_blocked = blocked_by C 0 4 tt;
  without_1_blocked = blocked_by C 0b0010 4 tt;
  without_0_plan = plan_by (strike C 0b0001) (1 ∷ 0 ∷ []) tt;
  without_2_plan = plan_by (strike C 0b0100) (0 ∷ []) tt;
  group_0_2 = (inside→ 0b0101 (waivable C) tt, blocked_by C (waivable C ∖ 0b0101) 4 tt);
  met_by_2 = met_by_2;
  empty_unmet = empty_unmet;
  hopeless = λ x. no_way Hopeless x hopeless_group;
}
