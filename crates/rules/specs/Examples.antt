-- Worked examples: a small task C, written out, and what holds of it.
use Rattle.std.specs.Prelude.{ℕ, [], ◌∷◌, replicate, Some, None, Option}
use Rattle.rules.specs.Steps.{Step}
use Rattle.rules.specs.Planning.{Task, Plan, strike, Blocked}
use Rattle.rules.specs.Waivers.{Good, Group, MinimumHittingSet, Hits}

-- a place with a step
abbrev pub place_with : ℕ → ℕ → ℕ → Option Step
place_with needs gives takes = Some (record { needs = needs; gives = gives; takes = takes })

-- Four facts; fact 1 stands and fact 3 is ordered. Step 0 needs 1 and 2, gives 3 and takes 1; step
-- 1 needs 0 and gives 2.
abbrev pub C : Task
C = record {
  n = 4;
  standing = 0b0010;
  order = 0b1000;
  waived = 0;
  steps = place_with 0b0110 0b1000 0b0010 ∷ place_with 0b0001 0b0100 0 ∷ replicate 62 None;
}

-- One fact, ordered and not standing, and no steps.
abbrev pub Hopeless : Task
Hopeless = record { n = 1; standing = 0; order = 1; waived = 0; steps = replicate 64 None }

-- The worked examples, each read off the definitions.
pub record WorkedExamples : Type 0 where
  pub c_blocked : Blocked C 0
  pub without_1_blocked : Blocked C 0b0010
  pub without_0_plan : Plan (strike C 0b0001) (1 ∷ 0 ∷ [])
  pub without_2_plan : Plan (strike C 0b0100) (0 ∷ [])
  pub group_0_2 : Group C 0b0101
  pub met_by_2 : MinimumHittingSet (0b0101 ∷ 0b1100 ∷ []) 0b0100
  pub empty_unmet : (h : ℕ) → ¬ Hits (0b0101 ∷ 0 ∷ []) h
  pub hopeless : (x : ℕ) → ¬ Good Hopeless x
