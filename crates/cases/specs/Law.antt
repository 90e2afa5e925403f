-- The law over every list of calls. Throughout c is the picker's choice, reach the decider's reach, m
-- its mark, first the decider as it was before the first call and d as it is then; k is what the
-- program's case holds, p a plain case, x a call, and es the calls so far with their answers.
use Rattle.std.specs.Prelude.{◌≡◌, ℕ, ◌≤◌, List, [], ◌∷◌, ◌++◌, length, take, Ok, Err, IfOk, Result}
use Rattle.rules.specs.Sets.{size}
use Rattle.rules.specs.Planning.{Task, Plan, strike, Solvable}
use Rattle.rules.specs.Waivers.{Good, Hits}
use Rattle.deciders.specs.declared.answer.DeciderFault.TheVariants.{BeyondReach}
use Rattle.deciders.specs.Reaching.{SameReach}
use Rattle.waivers.specs.declared.fault.FinderFault.{FinderFault}
use Rattle.waivers.specs.declared.fault.FinderFault.TheVariants.{Case, Size, NoWaiver, Decider, ListFull}
use Rattle.waivers.specs.Known.{Listed}
use Rattle.waivers.specs.Searching.{Choice}
use Rattle.cases.specs.Plain.{Plain}
use Rattle.cases.specs.Calls.{Asked, Finding, Drawing, Signing, AnswerTo, Entry}
use Rattle.cases.specs.Refusing.{call_refusal, drawn_answer}
use Rattle.cases.specs.State.{State, fresh, known_of}
use Rattle.cases.specs.Making.{Makes}
use Rattle.cases.specs.Replay.{refusal_in, after_calls}

-- ---- what find promises

-- a set s of count facts, and a plan in the first n places of the book b: the set is good, with it
-- struck out the plan is one, and no good set has fewer facts
pub record IsWaiver (p : Task) (b : List ℕ) (s count n : ℕ) : Type 0 where
  pub good : Good p s
  pub counted : count ≡ size s
  pub fits : n ≤ length b
  pub plan : Plan (strike p s) (take n b)
  pub fewest : (x : ℕ) → Good p x → size s ≤ size x

-- 64 groups are listed, and each good set meets all of them
pub record IsFull (p : Task) (gs : List ℕ) : Type 0 where
  pub full : length gs ≡ 64
  pub met : (x : ℕ) → Good p x → Hits gs x

-- What find's answer says of the task p that it met. R says which sets are in reach, m is the
-- decider's mark, gs are the groups that are listed then, and b is the book that is handed back.
-- Of a refused find it says nothing.
abbrev pub FoundTruly : (ℕ → Type 0) → ℕ → Task → List ℕ → List ℕ
    → Result (ℕ × ℕ × ℕ) FinderFault → Type 0
FoundTruly R m p gs b (Ok (s, count, n)) = IsWaiver p b s count n
FoundTruly R m p gs b (Err (Case e)) = Unit {0}
FoundTruly R m p gs b (Err (Size e)) = Unit {0}
FoundTruly R m p gs b (Err NoWaiver) = (x : ℕ) → ¬ Good p x
FoundTruly R m p gs b (Err (Decider (BeyondReach s j))) = ¬ R s × (j ≡ m)
FoundTruly R m p gs b (Err (ListFull h)) = IsFull p gs

-- ---- what each call promises

-- Of the plain case p that the call x met, its answer, the plain case p' that it leaves, and the
-- groups gs that are listed then: find answers truly, draw gives the case's number and its finding,
-- and a signed slip leaves a case that has a plan.
abbrev pub Promised : (Task → ℕ → ℕ → ℕ → Type 0) → ℕ → Plain → (x : Asked) → AnswerTo x
    → Plain → List ℕ → Type 0
Promised reach m p (Finding s b) a p' gs =
    FoundTruly (λ x. reach p.task x (length s) (length b)) m p.task gs a.book a.result
Promised reach m p Drawing r p' gs = r ≡ drawn_answer p
Promised reach m p (Signing slip) r p' gs = IfOk r (λ u. Solvable p'.task 0)
Promised reach m p x r p' gs = Unit {0}

-- One call x and its answer: the program's case was k before it and is k' after it, and the plain
-- case was p and is p'. The call did what its own contract says; the case holds the plain case's
-- state; it refused as the plain case does; what the call promises holds; and each listed group is
-- a group of the case as it now stands, none twice, and there are at most 64.
pub record Keeps (c : Choice) (reach : Task → ℕ → ℕ → ℕ → Type 0) (m : ℕ) (p p' : Plain) (k : State)
    (x : Asked) (r : AnswerTo x) (k' : State) : Type 0 where
  pub makes : Makes c reach m k x r k'
  pub state : k'.plain ≡ p'
  pub refusal : refusal_in x r ≡ call_refusal p x
  pub promise : Promised reach m p x r p' k'.groups
  pub listed : Listed (known_of k')

-- ---- lists of calls

-- The calls with their answers, first to last, lead from a fresh case to the program's case k and
-- from the first decider to d, and each kept the law, at the reach of the decider as it then was,
-- and left a decider of the same reach. The plain case is what the calls so far make of a fresh
-- one.
pub data Runs {D : Type 0} (c : Choice) (reach : D → Task → ℕ → ℕ → ℕ → Type 0) (m : ℕ)
    (first : D) : List Entry → D → State → Type 0 where
  none : Runs c reach m first [] first fresh
  more : {es : List Entry} {d : D} {k : State} → Runs c reach m first es d k
      → (e : Entry) (d' : D) (k' : State)
      → Keeps c (reach d) m (after_calls es) (after_calls (es ++ e ∷ [])) k e.asked e.answered k'
      → SameReach (reach d) (reach d')
      → Runs c reach m first (es ++ e ∷ []) d' k'

-- The law: each call kept it on the case as it then stood, and at the end the case holds the plain
-- case's state, and each listed group is a group of it, none twice, at most 64.
pub record Law {D : Type 0} (c : Choice) (reach : D → Task → ℕ → ℕ → ℕ → Type 0) (m : ℕ)
    (first : D) (es : List Entry) (d : D) (k : State) : Type 0 where
  pub runs : Runs c reach m first es d k
  pub state : k.plain ≡ after_calls es
  pub listed : Listed (known_of k)
