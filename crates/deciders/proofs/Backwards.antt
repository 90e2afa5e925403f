-- What a backward search says of plans.
use Rattle.std.proofs.Common.{◌≡◌, ℕ, Bool, true, false, cond, T, List, [], ◌∷◌, ◌++◌, reverse, length, get_or, take, Some, None, Ok, Err, Option, Result, sym, refl, ap, ◌∙◌, subst, inl, inr, arith}
use Rattle.std.specs.Prelude.{IfSome, IfOk}
use Rattle.std.proofs.lemmas.List.Elements.{All-map}
use mathlib.Core.List.{reverse-append, reverse-reverse}
use Rattle.rules.specs.Steps.{Step, IsClear}
use Rattle.rules.specs.Sets.{bit, ◌⊆◌, ◌∪◌, ◌∖◌, Meets, shares}
use Rattle.rules.specs.Planning.{Task, step_at, result_of, Walk, Plan, place_without, strike, struck_facts, Consistent}
use Rattle.rules.specs.Listing.{Path, progression}
use Rattle.rules.proofs.Sets.{bits, meets_or_apart, apart→, →apart, apart_without, share_test, test_share}
use Rattle.rules.proofs.Plans.{leads→, →leads}
use Rattle.rules.proofs.Tables.{clear_at}
use Rattle.rules.proofs.Listing.{T→true, path_push, listed_reached, reached_listed}
use Rattle.rules.proofs.Forwards.{forward_walks, →progression}
use Rattle.deciders.specs.declared.answer.Verdict.{Verdict}
use Rattle.deciders.specs.declared.answer.Verdict.TheVariants as verdict
use Rattle.deciders.specs.declared.answer.DeciderFault.{DeciderFault}
use Rattle.deciders.specs.Answers.{Answers}
use Rattle.deciders.specs.Search.Searches.{SearchAnswers}
use Rattle.deciders.specs.Reaches.{regression, BackwardReach}
use Rattle.deciders.specs.Theorems.{subgoals, SubgoalLeads, LeadsToSubgoal, SubgoalsBlocked, BackwardExample}

-- ---- a step leads backward exactly where it gives a fact of the subgoal and takes none

-- what has to stand before the step t, so that w stands after it
abbrev before : Step → ℕ → ℕ
before t w = (w ∖ t.gives) ∪ t.needs

regression→ : (t : Step) (w r : ℕ) → regression t w ≡ Some r → (Meets t.takes w → ⊥) × (before t w ≡ r)
regression→ t w r = go (shares t.gives w) (shares t.takes w) refl
  where
    go : (a b : Bool) → shares t.takes w ≡ b → cond a (cond b None (Some (before t w))) None ≡ Some r → (Meets t.takes w → ⊥) × (before t w ≡ r)
    go true true e q = cc
    go true false e q = (λ m. subst T e (test_share t.takes w m), cc)
    go false b e q = cc

→regression : (t : Step) (w : ℕ) → Meets t.gives w → (Meets t.takes w → ⊥) → regression t w ≡ Some (before t w)
→regression t w m n = ap (λ b. cond b (cond (shares t.takes w) None (Some (before t w))) None) (T→true (shares t.gives w) (test_share t.gives w m)) ∙ go (shares t.takes w) refl
  where
    go : (b : Bool) → shares t.takes w ≡ b → cond b None (Some (before t w)) ≡ Some (before t w)
    go true e = absurd (n (share_test t.takes w (subst T (sym e) tt)))
    go false e = refl

-- ---- a path, read in the opposite order, is a walk

walk_push : (p : Task) (s : ℕ) (l : List ℕ) (e i : ℕ) (t : Step) → Walk p.steps s l e → step_at p i ≡ Some t → t.needs ⊆ e → Walk p.steps s (l ++ i ∷ []) (result_of t e)
walk_push p s l e i t on is can =
    (forward_walks p.steps s (l ++ i ∷ []) (result_of t e)).0
    (path_push progression p.steps s s l e i t (result_of t e) ((forward_walks p.steps s l e).1 on) is (→progression t e can))

pub back_walk : (p : Task) (l : List ℕ) (v w s : ℕ) → Path regression p.steps v l w → w ⊆ s → (e : ℕ) × Walk p.steps s (reverse l) e × (v ⊆ e)
back_walk p [] v w s q sub = (s, refl, λ f. omega (arith, sub f, ap (λ n. bit n f) q))
back_walk p (i ∷ l) v w s (t, is, r, makes, on) sub =
    let (e, walk, r⊆e) = back_walk p l r w s on sub in
    let (none, q) = regression→ t v r makes in
    let apart = apart→ t.takes v none in
    let can : t.needs ⊆ e = λ f. omega (arith, bits, r⊆e f, ap (λ n. bit n f) q) in
    let has : v ⊆ result_of t e = λ f. omega (arith, bits, r⊆e f, apart f, ap (λ n. bit n f) q) in
    (result_of t e, subst (λ k. Walk p.steps s k (result_of t e)) (sym (reverse-append (i ∷ []) l)) (walk_push p s (reverse l) e i t walk is can), has)

pub subgoal_leads : SubgoalLeads
subgoal_leads p m i h =
    let (l, on) = listed_reached regression p.steps p.order m i h in
    (l, on, λ s sub. back_walk p l p.order (get_or (subgoals p m) i 0) s on sub)

-- ---- a walk leaves a path

module _ (p : Task) (sane : Consistent p) where
  regress : (l : List ℕ) (s e : ℕ) → Walk p.steps s l e → p.order ⊆ e → (w : ℕ) × (k : List ℕ) × Path regression p.steps p.order k w × (w ⊆ s)
  regress [] s e q o = (p.order, [], refl, λ f. omega (arith, o f, ap (λ n. bit n f) q))
  regress (i ∷ l) s e (t, is, can, on) o =
      let (v, k, path, sub) = regress l (result_of t s) e on o in
      let a = apart→ t.gives t.takes (→apart t.gives t.takes (clear_at p.steps i t sane is)) in
      elim (meets_or_apart t.gives v) [
        | inl meets ↦ (
          before t v,
          k ++ i ∷ [],
          path_push regression p.steps p.order p.order k v i t (before t v) path is
              (→regression t v meets (λ (f, x, y). omega (arith, bits, a f, sub f, x, y))),
          (λ f. omega (arith, bits, a f, sub f, can f)),
        )
        | inr none ↦ (v, k, path, (λ f. omega (arith, bits, sub f, none f)))
      ]

pub leads_to_subgoal : LeadsToSubgoal
leads_to_subgoal p m sane whole s l e on o =
    let (w, k, path, sub) = regress p sane l s e on o in
    let (i, h, q) = reached_listed regression p.steps p.order m whole k w path in
    (i, h, λ f. omega (arith, sub f, ap (λ n. bit n f) q))

pub subgoals_blocked : SubgoalsBlocked
subgoals_blocked p m sane whole away l plan =
    let (e, on, o) = leads→ p p.standing l plan in
    let (i, h, sub) = leads_to_subgoal p m sane whole p.standing l e on o in
    away i h sub

-- ---- striking out leaves no step that gives what it takes

clear_without : (g : ℕ) (o : Option Step) → IfSome o IsClear → IfSome (place_without g o) IsClear
clear_without g None h = tt
clear_without g (Some u) h = apart_without u.gives u.takes g h

pub struck_consistent : (p : Task) (x : ℕ) → Consistent p → Consistent (strike p x)
struck_consistent p x sane =
    let g : ℕ = struck_facts p x in
    All-map (λ o. IfSome o IsClear) (place_without g) p.steps (λ i d lt. clear_without g (get_or p.steps i d) (sane i d lt))

pub backward_plan : (p : Task) (l : List ℕ) (w : ℕ) → Path regression p.steps p.order (reverse l) w → w ⊆ p.standing → Plan p l
backward_plan p l w path sub =
    let (e, walk, o) = back_walk p (reverse l) p.order w p.standing path sub in
    →leads p p.standing l e (subst (λ k. Walk p.steps p.standing k e) (reverse-reverse l) walk) o

-- what a backward search finds is what a decider has to answer
pub backward_answers : (p : Task) (x m mark : ℕ) (book book' : List ℕ) (r : Result Verdict DeciderFault) → IfOk r (λ _. Consistent p)
    → SearchAnswers regression (λ w. w ⊆ (strike p x).standing) (strike p x).steps (strike p x).order x mark m book book' r
    → Answers (BackwardReach p x m (length book)) mark p x m book book' r
backward_answers p x m mark book book' (Ok (verdict.Solvable k)) sane (reach, few, (w, path, sub), rest) =
    (reach, few, backward_plan (strike p x) (take k book') w path sub, rest)
backward_answers p x m mark book book' (Ok verdict.Blocked) sane (reach, (n, whole, none), same) =
    (reach, λ (l, plan). subgoals_blocked (strike p x) n (struck_consistent p x sane) whole none l plan, same)
backward_answers p x m mark book book' (Err e) sane found = found

-- ---- the worked example

pub backward_example : BackwardExample
unfolding ◌∖◌
backward_example t e =
    let u : Step = record { needs = 0b0110; gives = 0b1000; takes = 0b0010 } in
    let q : u ≡ t = cc in
    subst (λ (v : Step). regression v 0b1000 ≡ Some 0b0110) q refl
