-- The step places of a table.
use Rattle.std.proofs.Common.{◌≡◌, ℕ, zero, suc, List, [], ◌∷◌, length, get_or, Some, None, Option, ap, subst, arith}
use native.Mathlib.Decide.{dec_lt}
use Rattle.std.specs.Prelude.{IfSome}
use Rattle.std.proofs.lemmas.Grind.{common_steps}
use Rattle.rules.specs.Steps.{Step, IsClear}
use Rattle.rules.specs.Places.{AllClear}
use Rattle.rules.specs.Sets.{bit, ◌⊆◌, ◌∪◌}
use Rattle.rules.proofs.Sets.{bits}

-- the step at a place gives nothing that it takes
pub clear_at : (ts : List (Option Step)) (i : ℕ) (t : Step) → AllClear ts → get_or ts i None ≡ Some t → IsClear t
clear_at ts i t h e = elim (dec_lt i (length ts)) [
  | yes lt ↦ subst (λ o. IfSome o IsClear) e (h i None lt)
  | no ge ↦ absurd (grind (arith, common_steps))
]

-- there is a set of all that the steps give
pub all_gives : (ts : List (Option Step)) → (g : ℕ) × ((i : ℕ) (t : Step) → get_or ts i None ≡ Some t → t.gives ⊆ g)
all_gives [] = (0, λ i t e. cc)
all_gives (None ∷ ts) = let (g, h) = all_gives ts in
    (g, λ i. elim i as (λ i. (t : Step) → get_or (None ∷ ts) i None ≡ Some t → t.gives ⊆ g) [ zero ↦ (λ t e. cc) | suc j ↦ h j ])
all_gives (Some u ∷ ts) = let (g, h) = all_gives ts in (
  u.gives ∪ g,
  λ i. elim i as (λ i. (t : Step) → get_or (Some u ∷ ts) i None ≡ Some t → t.gives ⊆ u.gives ∪ g) [
    | zero ↦ (λ t e f. let q : u ≡ t = cc in omega (arith, bits, ap (λ (v : Step). bit v.gives f) q))
    | suc j ↦ (λ t e. let y = h j t e in λ f. omega (arith, bits, y f))
  ],
)
