-- Licence steps: what they need, give and take, and when there is none of these sets.
use Rattle.std.specs.Prelude.{if◌then◌else◌, ◌≡◌, ℕ, Ok, Err, Result, ◌==◌}
use Rattle.rules.specs.declared.refusal.Refusal.{Refusal}
use Rattle.rules.specs.declared.refusal.Refusal.TheVariants.{GivesAndTakes}
use Rattle.rules.specs.Sets.{◌∩◌}

-- A licence step: the facts that it needs, those that it gives, and those that it takes.
pub record Step : Type 0 where
  pub needs : ℕ
  pub gives : ℕ
  pub takes : ℕ

-- the step of these sets
abbrev pub step_of : ℕ → ℕ → ℕ → Step
step_of needs gives takes = record { needs = needs; gives = gives; takes = takes }

-- the step t gives nothing that it takes
abbrev pub IsClear : Step → Type 0
IsClear t = t.gives ∩ t.takes ≡ 0

-- why there is no step that gives and takes these sets: they share a fact
abbrev pub step_refusal : ℕ → ℕ → Result Unit Refusal
step_refusal gives takes = if (gives ∩ takes) == 0 then Ok tt else Err GivesAndTakes
