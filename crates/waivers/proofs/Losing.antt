-- A list of groups that lose facts: nothing is listed twice, and what holds of each group without the facts holds of each that is left.
use Rattle.std.proofs.Common.{◌≡◌, ℕ, suc, ◌+◌, ◌<◌, ◌≤◌, eqb, List, [], ◌∷◌, fold, length, get_or, refl, subst, inl, inr, arith, length-append}
use Rattle.std.specs.List.{list_any}
use Rattle.rules.specs.Sets.{◌∖◌}
use Rattle.rules.specs.Listing.{is_listed, with_entry}
use Rattle.rules.proofs.Listing.{At, Apart, apart_with_entry, from_with_entry}

-- ---- a search through the list

pub listed_is : (s : ℕ) (l : List ℕ) → list_any (λ y. eqb y s) l ≡ is_listed s l
listed_is s [] = refl
listed_is s (a ∷ l) = grind (arith, listed_is s l)

-- ---- what is left

-- the list gs, and after it the groups hs without the facts of s
abbrev without_on : ℕ → List ℕ → List ℕ → List ℕ
without_on s gs hs = fold (λ hs h. with_entry (h ∖ s) hs) gs hs

pub without_apart : (s : ℕ) (gs hs : List ℕ) → Apart gs → Apart (without_on s gs hs)
without_apart s gs [] apart = apart
without_apart s gs (h ∷ hs) apart = without_apart s (with_entry (h ∖ s) gs) hs (apart_with_entry (h ∖ s) gs apart)

with_entry_few : (s : ℕ) (l : List ℕ) → length (with_entry s l) ≤ length l + 1
with_entry_few s l = grind (arith, length-append {A = ℕ})

pub without_few : (s : ℕ) (gs hs : List ℕ) → length (without_on s gs hs) ≤ length gs + length hs
without_few s gs [] = omega arith
without_few s gs (h ∷ hs) = omega (arith, without_few s (with_entry (h ∖ s) gs) hs, with_entry_few (h ∖ s) gs)

pub without_from : (P : ℕ → Type 0) (s : ℕ) (gs hs : List ℕ) → ((a : ℕ) → At a gs → P a) → ((i : ℕ) → i < length hs → P (get_or hs i 0 ∖ s))
    → (a : ℕ) → At a (without_on s gs hs) → P a
without_from P s gs [] old new a at = old a at
without_from P s gs (h ∷ hs) old new a at =
    without_from P s (with_entry (h ∖ s) gs) hs
    (λ b at'. elim (from_with_entry b (h ∖ s) gs at') [ inl was ↦ old b was | inr e ↦ subst P e (new 0 (omega arith)) ])
    (λ i lt. new (suc i) (omega arith)) a at
