-- A text that is served to its end from a stage at which it begins.
use Rattle.std.specs.Prelude.{ℕ, List, Ok, Err, Option, Result, IfOk}
use Rattle.rules.specs.Planning.{Task}
use Rattle.deciders.specs.declared.forward.Forward.{Forward}
use Rattle.deciders.specs.declared.screen.Screen.{Screen}
use Rattle.deciders.specs.Reaches.{ForwardReach, ScreenReach}
use Rattle.pickers.specs.Choices.{counting_choice}
use Rattle.waivers.specs.Searching.{Choice}
use Rattle.casefile.specs.Reporting.{Stage}
use Rattle.casefile.specs.Chains.{ServesText}
use Rattle.console.specs.Fresh.{FreshStage, ServesFresh, ServesCaseFile}

module _ {D : Type 0} (c : Choice) (reach : D → Task → ℕ → ℕ → ℕ → Type 0) (mark : ℕ) where
  pub served_fresh
      : (text : List ℕ) (room : ℕ) (d : D) (x : Stage D) (y : ℕ → ℕ → Stage D) (out out' : Option (List ℕ)) (u : Unit)
      → ((position lines : ℕ) × ServesText c reach mark text room x (y position lines) out out' (Ok u)) → FreshStage d x
      → ServesFresh c reach mark d text out out'
  served_fresh text room d x y out out' u (position, lines, (enough, (report, reported, appends))) begins =
      (x, y position lines, begins, (report, reported, appends))

-- the program's decider is some screen over forward
pub served_by_program
    : {E : Type 0} (text : List ℕ) (d : Screen Forward) (out out' : Option (List ℕ)) (r : Result Unit E)
    → IfOk r (λ _. ServesFresh counting_choice (λ _ p x m b. ScreenReach ForwardReach p x m b) 70 d text out out')
    → IfOk r (λ _. ServesCaseFile text out out')
served_by_program text d out out' (Ok u) served = (d, served)
served_by_program text d out out' (Err e) served = tt
