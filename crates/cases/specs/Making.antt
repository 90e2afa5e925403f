-- What the contract of each call says; and a list of calls, each made as its own contract says.
use Rattle.std.specs.Prelude.{◌≡◌, ℕ, true, false, List, [], ◌∷◌, ◌++◌, length, Ok, Err, IfOk, Result}
use Rattle.rules.specs.declared.refusal.Refusal.{Refusal}
use Rattle.rules.specs.Planning.{Task, Solvable}
use Rattle.rules.specs.Refusals.{unless_refused}
use Rattle.deciders.specs.Reaching.{SameReach}
use Rattle.waivers.specs.declared.change.Change.{Change}
use Rattle.waivers.specs.Known.{Listed}
use Rattle.waivers.specs.Searching.{Choice}
use Rattle.cases.specs.declared.slip.SlipData.{SlipData}
use Rattle.cases.specs.Calls.{Asked, Opening, Changing, Finding, Drawing, Signing, Tearing, AnswerTo, Entry}
use Rattle.cases.specs.Refusing.{case_refusal, drawn_answer}
use Rattle.cases.specs.State.{State, fresh, known_of, state_opened, state_changed, state_signed, state_with_slip}
use Rattle.cases.specs.Finding.{Finds}

-- ---- the single calls: of the case k before, the answer r, and the case k' after

-- A call that is refused for o, if o refuses, and else makes f k of the case k: its answer says
-- which, and a refusal changes nothing.
pub record MadeOrRefused (o : Result Unit Refusal) (f : State → State) (k : State)
    (r : Result Unit Refusal) (k' : State) : Type 0 where
  pub answer : r ≡ o
  pub after : k' ≡ unless_refused o f k

-- open
abbrev pub Opens : ℕ → ℕ → ℕ → ℕ → State → Result Unit Refusal → State → Type 0
Opens number n s o k r k' =
    MadeOrRefused (case_refusal k.plain (Opening number n s o)) (state_opened number n s o) k r k'

-- a change of what is planned over
abbrev pub Changes : Change → State → Result Unit Refusal → State → Type 0
Changes x k r k' = MadeOrRefused (case_refusal k.plain (Changing x)) (state_changed x) k r k'

-- draw: the answer is what the slip says, or why none is drawn; the slip is out then
pub record Draws (k : State) (r : Result SlipData Refusal) (k' : State) : Type 0 where
  pub answer : r ≡ drawn_answer k.plain
  pub after : k' ≡ unless_refused (case_refusal k.plain Drawing) (state_with_slip true) k

-- sign, and a signed slip leaves a case that has a plan
pub record Signs (slip : SlipData) (k : State) (r : Result Unit Refusal) (k' : State)
    : Type 0 where
  pub does : MadeOrRefused (case_refusal k.plain (Signing slip)) (state_signed slip) k r k'
  pub plan : IfOk r (λ u. Solvable k'.plain.task 0)

-- tear
abbrev pub Tears : SlipData → State → Result Unit Refusal → State → Type 0
Tears slip k r k' =
    MadeOrRefused (case_refusal k.plain (Tearing slip)) (state_with_slip false) k r k'

-- draw, and then sign with the slip that was drawn; or a draw that is refused
abbrev pub DrawsAndSigns : State → Result Unit Refusal → State → Type 0
DrawsAndSigns k (Ok u) k' =
    (slip : SlipData) × (drawn : State) × Draws k (Ok slip) drawn × Signs slip drawn (Ok tt) k'
DrawsAndSigns k (Err e) k' = Draws k (Err e) k'

-- ---- any call

-- a call x on the case k, its answer and the case that it leaves (c is the picker's choice, reach
-- the decider's reach, m its mark); after find each listed group is a group of the case, none
-- twice, at most 64
abbrev pub Makes : Choice → (Task → ℕ → ℕ → ℕ → Type 0) → ℕ → State → (x : Asked) → AnswerTo x
    → State → Type 0
Makes c reach m k (Opening number n s o) r k' = Opens number n s o k r k'
Makes c reach m k (Changing x) r k' = Changes x k r k'
Makes c reach m k (Finding s b) a k' =
    Finds c (λ x. reach k.plain.task x (length s) (length b)) m k s b a k' × Listed (known_of k')
Makes c reach m k Drawing r k' = Draws k r k'
Makes c reach m k (Signing slip) r k' = Signs slip k r k'
Makes c reach m k (Tearing slip) r k' = Tears slip k r k'

-- Calls on a fresh case, first to last, each made as its own contract says: es are the calls with
-- their answers, d is the decider and k the case that they leave. Each call is made at the reach of
-- the decider as it then is, and leaves a decider of the same reach.
pub data Made {D : Type 0} (c : Choice) (reach : D → Task → ℕ → ℕ → ℕ → Type 0) (m : ℕ)
    (first : D) : List Entry → D → State → Type 0 where
  unmade : Made c reach m first [] first fresh
  then : {es : List Entry} {d : D} {k : State} → Made c reach m first es d k
      → (e : Entry) (d' : D) (k' : State)
      → Makes c (reach d) m k e.asked e.answered k'
      → SameReach (reach d) (reach d')
      → Made c reach m first (es ++ e ∷ []) d' k'
