-- Calls: what is asked of a case, and what it answers.
use Rattle.std.specs.Prelude.{◌≡◌, ℕ, List, [], ◌∷◌, Some, None, vec_items, Option, Result}
use Rattle.rules.specs.declared.refusal.Refusal.{Refusal}
use Rattle.deciders.specs.declared.row.Row.{Row}
use Rattle.waivers.specs.declared.change.Change.{Change}
use Rattle.waivers.specs.declared.fault.FinderFault.{FinderFault}
use Rattle.cases.specs.declared.slip.SlipData.{SlipData}
use Rattle.cases.specs.declared.call.Call.{Call}
use Rattle.cases.specs.declared.call.Call.TheVariants as call
use Rattle.cases.specs.declared.call.Answer.{Answer}
use Rattle.cases.specs.declared.call.Answer.TheVariants as answer

-- a call with all that it brings: find a working sheet and a plan book, sign and tear what some
-- slip says
pub data Asked : Type 0 where
  Opening : (number n standing order : ℕ) → Asked
  Changing : Change → Asked
  Finding : (sheet : List Row) (book : List ℕ) → Asked
  Drawing : Asked
  Signing : SlipData → Asked
  Tearing : SlipData → Asked

-- find answers a set, its size and the plan's length, or why it has none, and leaves sheet and book
pub record FindAnswer : Type 0 where
  pub result : Result (ℕ × ℕ × ℕ) FinderFault
  pub sheet : List Row
  pub book : List ℕ

-- what is answered to a call: find has its answer, draw what the slip says or why there is none,
-- and any other whether it was made
abbrev pub AnswerTo : Asked → Type 0
AnswerTo (Finding s b) = FindAnswer
AnswerTo Drawing = Result SlipData Refusal
AnswerTo x = Result Unit Refusal

-- a call and its answer
pub record Entry : Type 0 where
  pub asked : Asked
  pub answered : AnswerTo asked

-- ---- calls and answers of the program as entries

-- The program's calls own find's buffers; here they are the lists that these hold, so that a call
-- that lends its buffers has an entry too.

-- the entry of a call and its answer, if it is an answer to such a call
abbrev pub entry_of : Call → Answer → Option Entry
entry_of (call.Open number n s o) (answer.Done r) =
    Some (record { asked = Opening number n s o; answered = r })
entry_of (call.Change x) (answer.Done r) = Some (record { asked = Changing x; answered = r })
entry_of (call.Find s b) (answer.Found r s' b') =
    Some (record {
      asked = Finding (vec_items s) (vec_items b);
      answered = record { result = r; sheet = vec_items s'; book = vec_items b' };
    })
entry_of call.Draw (answer.Drawn r) = Some (record { asked = Drawing; answered = r })
entry_of (call.Sign slip) (answer.Done r) = Some (record { asked = Signing slip; answered = r })
entry_of (call.Tear slip) (answer.Done r) = Some (record { asked = Tearing slip; answered = r })
entry_of x a = None

-- each call has an answer to it, and these are the entries, first to last
abbrev pub Recorded : List Call → List Answer → List Entry → Type 0
Recorded [] [] [] = Unit {0}
Recorded (x ∷ xs) (a ∷ ws) (e ∷ es) = (entry_of x a ≡ Some e) × Recorded xs ws es
Recorded xs ws es = ⊥
