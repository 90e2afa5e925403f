-- Sets of the numbers that the program has, and the facts of a task.
use Rattle.std.proofs.Common.{◌≡◌, ℕ, ◌^◌, ◌<◌, ◌≤◌, min, ap, arith}
use native.Mathlib.Decide.{dec_lt}
use Rattle.rules.specs.Sets.{◌⊆◌, inside, below}
use Rattle.rules.proofs.Sets.{bit_le, bit_high, bit_below, →inside}
use Rattle.rules.proofs.Listing.{T→true}

-- a set of 32 facts at most has no fact at or above 32
wide : (s k : ℕ) → s < 2 ^ 32 → 32 ≤ k → s ⊆ below k
wide s k lt le f = elim (dec_lt f k) [
  | yes low ↦ omega (arith, bit_le s f, bit_below k f low)
  | no high ↦ omega (arith, bit_high 32 s f lt (omega arith))
]

-- so a number of facts above 32 does as 32 would
pub names_same : (s n : ℕ) → s < 2 ^ 32 → inside s (below (min n 32)) ≡ inside s (below n)
names_same s n lt = elim (dec_lt n 32) [
  | yes few ↦ (let e : min n 32 ≡ n = omega arith in ap (λ (k : ℕ). inside s (below k)) e)
  | no many ↦ (let e : min n 32 ≡ 32 = omega arith in rw e (rw (T→true _ (→inside s (below n) (wide s n lt (omega arith)))) (T→true _ (→inside s (below 32) (wide s 32 lt (omega arith))))))
]
