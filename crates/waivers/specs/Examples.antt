-- The worked examples of every layer, as one list.
use Rattle.rules.specs.Examples.{WorkedExamples}
use Rattle.deciders.specs.Theorems.{BackwardExample}
use Rattle.pickers.specs.Examples.{WorkedPicks}

-- the examples on plans, good sets and groups, the one on going backward, and those on picking
pub record AllWorkedExamples : Type 0 where
  pub rules : WorkedExamples
  pub backward : BackwardExample
  pub picks : WorkedPicks
