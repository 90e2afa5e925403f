-- What is left of a task once facts are struck out, as a search takes it.
use Rattle.std.specs.Prelude.{ℕ, ◌+◌, List, [], ◌∷◌, map, Some, None, Option}
use Rattle.rules.specs.Steps.{Step}
use Rattle.rules.specs.Planning.{Task, strike}
use Rattle.deciders.specs.declared.struck.Action.{Action}
use Rattle.deciders.specs.declared.struck.StruckOut.{StruckOut}

-- the steps at the places i, i + 1 and so on that are not empty, each with its place
abbrev pub actions_of : ℕ → List (Option Step) → List Action
actions_of i [] = []
actions_of i (None ∷ ts) = actions_of (i + 1) ts
actions_of i (Some t ∷ ts) = record { step = t; place = i } ∷ actions_of (i + 1) ts

-- the steps of the actions
abbrev pub steps_of : List Action → List (Option Step)
steps_of ws = map (λ (w : Action). Some w.step) ws

-- what is left of the task p without the facts of x
abbrev pub remainder : Task → ℕ → StruckOut
remainder p x = record {
  standing = (strike p x).standing;
  order = (strike p x).order;
  actions = record { items = actions_of 0 (strike p x).steps };
}
