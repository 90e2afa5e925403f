-- A signed slip leaves a case that has a plan.
use Rattle.std.proofs.Common.{◌≡◌, ℕ, Some, IfSome, Option, sym, subst, arith}
use Rattle.rules.specs.Sets.{◌⊆◌, ◌∪◌}
use Rattle.rules.specs.Planning.{Task, Solvable}
use Rattle.rules.specs.Waivers.{Good}
use Rattle.rules.proofs.Sets.{bits, bit_of_or}
use Rattle.rules.proofs.Plans.{easier}
use Rattle.waivers.specs.Changes.{task_waived}

gone_too : (p : Task) (s : ℕ) → s ∪ p.waived ⊆ 0 ∪ (p.waived ∪ s)
gone_too p s f = omega (arith, bits, bit_of_or s p.waived f, bit_of_or 0 (p.waived ∪ s) f, bit_of_or p.waived s f)

-- what was struck out is waived now
waived_solvable : (p : Task) (s : ℕ) → Solvable p s → Solvable (task_waived s p) 0
waived_solvable p s (l, on) = (l, easier p s (task_waived s p) 0 (record { struck = gone_too p s; order = λ f. omega arith; steps = λ i t e. e }) (λ f. omega arith) l on)

-- so a case has a plan once what was found is waived
pub signed_solvable : (p q : Task) (o : Option ℕ) (s : ℕ) → IfSome o (Good p) → o ≡ Some s → q ≡ task_waived s p → Solvable q 0
signed_solvable p q o s good is same =
    let found = subst (λ (f : Option ℕ). IfSome f (Good p)) is good in subst (λ (t : Task). Solvable t 0) (sym same) (waived_solvable p s found.1)
