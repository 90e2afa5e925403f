-- What is proved of lists of calls.
use Rattle.std.specs.Prelude.{◌≡◌, ℕ, true, List, [], ◌∷◌, ◌++◌}
use Rattle.rules.specs.Planning.{Task}
use Rattle.waivers.specs.Known.{Listed}
use Rattle.waivers.specs.Searching.{Choice}
use Rattle.cases.specs.Calls.{Entry}
use Rattle.cases.specs.State.{State, known_of}
use Rattle.cases.specs.Making.{Makes, Made}
use Rattle.cases.specs.Law.{Keeps, Law}
use Rattle.cases.specs.Replay.{after_calls}

-- Whatever calls were made on a fresh case, each as its own contract says, keep the law: with one
-- decider, in whatever state each call finds it, and one picker throughout.
abbrev pub CallsKeepTheLaw : {D : Type 0} → (D → Task → ℕ → ℕ → ℕ → Type 0) → ℕ → Type 0
CallsKeepTheLaw {D} reach m =
    (c : Choice) (first : D) (es : List Entry) (d : D) (k : State)
    → Made c reach m first es d k → Law c reach m first es d k

-- Where the case holds what the calls so far make of a fresh one, and lists only its groups, one
-- more call keeps the law, whichever decider and picker it is made with.
abbrev pub NextCallKeepsTheLaw : {D : Type 0} → (D → Task → ℕ → ℕ → ℕ → Type 0) → ℕ → Type 0
NextCallKeepsTheLaw {D} reach m =
    (c : Choice) (d : D) (es : List Entry) (k : State) (e : Entry) (k' : State)
    → k.plain ≡ after_calls es → Listed (known_of k)
    → Makes c (reach d) m k e.asked e.answered k'
    → Keeps c (reach d) m (after_calls es) (after_calls (es ++ e ∷ [])) k e.asked e.answered k'

-- While a slip is out, no call changes the plain case, unless it takes the slip in. So number and
-- finding are still those that it was drawn for.
abbrev pub SlipsStay : Type 0
SlipsStay =
    (es : List Entry) (e : Entry)
    → (after_calls es).slip_out ≡ true
    → (after_calls (es ++ e ∷ [])).slip_out ≡ true
    → after_calls (es ++ e ∷ []) ≡ after_calls es
