-- A text that is served on a fresh case.
use Rattle.std.specs.Prelude.{◌≡◌, ℕ, List, length, Option}
use Rattle.std.specs.Io.KnownBytes.{Appends}
use Rattle.rules.specs.Planning.{Task}
use Rattle.deciders.specs.declared.forward.Forward.{Forward}
use Rattle.deciders.specs.declared.screen.Screen.{Screen}
use Rattle.deciders.specs.Reaches.{ForwardReach, ScreenReach}
use Rattle.pickers.specs.Choices.{counting_choice}
use Rattle.waivers.specs.Searching.{Choice}
use Rattle.cases.specs.State.{fresh}
use Rattle.casefile.specs.Reporting.{Stage}
use Rattle.casefile.specs.Chains.{TextReport}

-- no line is read yet and the case is fresh; there are 4,096 rows and as many places for a plan
abbrev pub FreshStage : {D : Type 0} → D → Stage D → Type 0
FreshStage d x =
    (x.position ≡ 0) × (x.lines ≡ 0) × (x.case ≡ fresh) × (x.decider ≡ d)
    × (length x.sheet ≡ 4096) × (length x.book ≡ 4096)

-- the text was served from such a stage to its end, and the writer then holds its whole report too
-- (c is the picker's choice, reach the decider's reach, m its mark, d the decider)
abbrev pub ServesFresh : {D : Type 0} → Choice → (D → Task → ℕ → ℕ → ℕ → Type 0) → ℕ → D → List ℕ
    → Option (List ℕ) → Option (List ℕ) → Type 0
ServesFresh {D} c reach m d text out out' =
    (x y : Stage D) × FreshStage d x × ((report : List ℕ) × TextReport c reach m text x y report
    × Appends out out' report)

-- so the program serves a text: a screen over forward decides, and the counting picker picks
abbrev pub ServesCaseFile : List ℕ → Option (List ℕ) → Option (List ℕ) → Type 0
ServesCaseFile text out out' =
    (d : Screen Forward)
    × ServesFresh counting_choice (λ _ p x m b. ScreenReach ForwardReach p x m b) 70 d text out out'
