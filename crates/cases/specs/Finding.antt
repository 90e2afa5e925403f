-- What find says, and what case, sheet and plan book hold after it.
use Rattle.std.specs.Prelude.{◌≡◌, ℕ, List, length, Some, None, Ok, Err, Option, Result}
use Rattle.rules.specs.Sets.{size}
use Rattle.deciders.specs.declared.row.Row.{Row}
use Rattle.waivers.specs.declared.good_set.GoodSet.{GoodSet}
use Rattle.waivers.specs.declared.fault.FinderFault.{FinderFault}
use Rattle.waivers.specs.Searching.{Choice, Searches}
use Rattle.waivers.specs.Wiping.{zero_rows, plan_length, IsWipedFrom}
use Rattle.cases.specs.Calls.{Finding, FindAnswer}
use Rattle.cases.specs.Refusing.{call_refusal}
use Rattle.cases.specs.State.{State, known_of, plain_found}

-- find's answer to what its search found: the set, how many facts it has, and the plan's length
abbrev pub answer_of : Result GoodSet FinderFault → Result (ℕ × ℕ × ℕ) FinderFault
answer_of (Ok f) = Ok (f.«set», size f.«set», f.length)
answer_of (Err e) = Err e

-- what an answer leaves as the finding: its set, or nothing
abbrev pub found_set : Result (ℕ × ℕ × ℕ) FinderFault → Option ℕ
found_set (Ok (s, count, n)) = Some s
found_set (Err e) = None

-- A find that is not refused searches, with the sheet s and the book b: it answers as the search
-- does, keeps its set as the finding, and leaves zeros in all rows and 255 in all places of the
-- book past the plan.
pub record FindsBySearch (c : Choice) (R : ℕ → Type 0) (m : ℕ) (k : State)
    (s : List Row) (b : List ℕ) (a : FindAnswer) (k' : State) : Type 0 where
  pub found : Result GoodSet FinderFault
  pub searches : Searches c R m (length s) (known_of k) found (known_of k') a.book
  pub answer : a.result ≡ answer_of found
  pub plain : k'.plain ≡ plain_found (found_set a.result) k.plain
  pub rows : a.sheet ≡ zero_rows (length s)
  pub places : IsWipedFrom (plan_length found) a.book
  pub book : length a.book ≡ length b

-- a find is refused, and changes nothing, or searches
abbrev pub FindsUnless : Result Unit FinderFault → Choice → (ℕ → Type 0) → ℕ → State
    → List Row → List ℕ → FindAnswer → State → Type 0
FindsUnless (Err e) c R m k s b a k' =
    (a ≡ record { result = Err e; sheet = s; book = b }) × (k' ≡ k)
FindsUnless (Ok u) c R m k s b a k' = FindsBySearch c R m k s b a k'

-- find on the case k; c is the picker's choice, R says which sets are in reach, m is the decider's
-- mark
abbrev pub Finds : Choice → (ℕ → Type 0) → ℕ → State → List Row → List ℕ → FindAnswer → State
    → Type 0
Finds c R m k s b a k' = FindsUnless (call_refusal k.plain (Finding s b)) c R m k s b a k'
