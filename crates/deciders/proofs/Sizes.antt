-- The size limits as inequalities.
use Rattle.std.proofs.Common.{◌≡◌, ℕ, ◌<◌, ◌≤◌, true, false, Ok, Err, Result, sym, arith}
use Rattle.std.specs.Result.{is_ok, is_err}
use Rattle.std.proofs.lemmas.Grind.{common_steps}
use Rattle.deciders.specs.declared.limits.SizeFault.{SizeFault}
use Rattle.deciders.specs.Sizes.{size_refusal, WithinLimits}

-- the four limits
pub record Limits (m b : ℕ) : Type 0 where
  pub some : 0 < m
  pub rows : m ≤ 4096
  pub room : m ≤ b
  pub places : b ≤ 4096

pub within→ : (m b : ℕ) → WithinLimits m b → Limits m b
within→ m b h = grind (arith, common_steps)

pub →within : (m b : ℕ) → Limits m b → WithinLimits m b
→within m b h = grind (arith, common_steps)

-- ---- what the check of the sizes says

module _ (m b : ℕ) where
  pub within_ok : (r : Result Unit SizeFault) → r ≡ size_refusal m b → is_ok r ≡ true → WithinLimits m b
  within_ok (Ok u) is test = sym is
  within_ok (Err e) is test = cc

  pub within_no_err : (r : Result Unit SizeFault) → r ≡ size_refusal m b → is_err r ≡ false → WithinLimits m b
  within_no_err (Ok u) is test = sym is
  within_no_err (Err e) is test = cc
