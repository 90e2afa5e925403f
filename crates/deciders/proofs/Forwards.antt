-- What a forward search says of plans.
use Rattle.std.proofs.Common.{◌≡◌, ℕ, ◌≤◌, List, ◌++◌, reverse, length, take, drop, Ok, Result, sym, ap, ◌∙◌, subst, arith}
use Rattle.std.proofs.lemmas.List.{take_at, drop_at, length-reverse, length-take-le}
use Rattle.rules.specs.Sets.{◌⊆◌}
use Rattle.rules.specs.Planning.{Task, Plan, strike}
use Rattle.rules.specs.Listing.{progression, Path}
use Rattle.rules.proofs.Plans.{→leads}
use Rattle.rules.proofs.Forwards.{forward_walks, whole_blocked}
use Rattle.deciders.specs.declared.answer.Verdict.{Verdict}
use Rattle.deciders.specs.declared.answer.Verdict.TheVariants as verdict
use Rattle.deciders.specs.declared.answer.DeciderFault.{DeciderFault}
use Rattle.deciders.specs.Answers.{Answers}
use Rattle.deciders.proofs.Sizes.{within→}
use Rattle.deciders.specs.Search.Searches.{SearchAnswers}
use Rattle.deciders.specs.Reaches.{ForwardReach}

pub forward_plan : (p : Task) (l : List ℕ) (e : ℕ) → Path progression p.steps p.standing l e → p.order ⊆ e → Plan p l
forward_plan p l e path o = →leads p p.standing l e ((forward_walks p.steps p.standing l e).0 path) o

-- the book once its first k places are reversed
pub reversed : (k : ℕ) (book self : List ℕ) → k ≤ length book → self ≡ reverse (take k book)
    → (take k (self ++ drop k book) ≡ reverse (take k book)) × (drop k (self ++ drop k book) ≡ drop k book)
reversed k book self fits is =
    let len : length self ≡ k = ap length is ∙ length-reverse (take k book) ∙ length-take-le k book fits in
    (take_at self (drop k book) k len ∙ is, drop_at self (drop k book) k len)

-- what a forward search finds is what a decider has to answer, once the way is reversed
module _ (p : Task) (x m mark : ℕ) (book book' : List ℕ) where
  abbrev ForwardAnswers : Result Verdict DeciderFault → Type 0
  ForwardAnswers = SearchAnswers progression (λ s. (strike p x).order ⊆ s) (strike p x).steps (strike p x).standing x mark m book book'

  pub forward_plans : (k : ℕ) (self : List ℕ) → ForwardAnswers (Ok (verdict.Solvable k)) → length book' ≡ length book
      → self ≡ reverse (take k book')
      → Answers (ForwardReach p x m (length book)) mark p x m book (self ++ drop k book') (Ok (verdict.Solvable k))
  forward_plans k self (reach, few, (e, path, o), rest) len is =
      let (first, last) = reversed k book' self (omega (arith, few, (within→ m (length book) reach.0).room)) is in
      (reach, few, subst (Plan (strike p x)) (sym first) (forward_plan (strike p x) _ e path o), last ∙ rest)

  pub forward_blocks : ForwardAnswers (Ok verdict.Blocked)
      → Answers (ForwardReach p x m (length book)) mark p x m book book' (Ok verdict.Blocked)
  forward_blocks (reach, (n, whole, none), same) = (reach, λ (l, plan). whole_blocked (strike p x) n whole none l plan, same)
