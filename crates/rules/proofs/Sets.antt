-- Sets of facts, digit by digit.
use Rattle.std.proofs.Common.{◌↔◌, IsTrue, ◌≡◌, ℕ, zero, suc, ◌+◌, ◌-◌, ◌/◌, ◌%◌, ◌^◌, ◌<◌, ◌≤◌, min, max, Bool, true, false, not, T, eqb, ◌⊎◌, sym, refl, ap, ◌∙◌, subst, inl, inr, le_of_eq, eq-zero-or-pos, arith, eqb→eq, T_not, pow_pos}
use native.Mathlib.Decide.{dec_lt}
use Rattle.std.proofs.lemmas.Bool.{cases_eq, cases_lt}
use Rattle.std.proofs.lemmas.Float.{T_from_true}
use lib.Count.{ones, ones_step, ones-ones}
use Rattle.std.proofs.lemmas.Nat.Bits.{bit_at-lt, bit_at_lowest, bit_at-suc, bit_at-zero, bit_at_and, bit_at_or, bit_at_xor, bit_at-pow_same, bit_at-pow_other, bit_at_ones, bit_at_ones_above, bit_at_above, same_from_bits}
use lib.Arith.{bin_ind}
use lib.Bits.{bit_and, bit_or, or_step, or_shr}
use Rattle.rules.specs.Sets.{bit, ◌∈◌, ◌∖◌, ◌⊆◌, ◌∪◌, ◌∩◌, Meets, single, below, size, inside, shares, SetsMean, SizesMean}
use Rattle.rules.proofs.Listing.{T→true}

pub bit_le : (a f : ℕ) → bit a f ≤ 1
unfolding bit
bit_le a f = omega (arith, bit_at-lt a f)

pub bit_of_and : (a b f : ℕ) → bit (bit_and a b) f ≡ min (bit a f) (bit b f)
unfolding bit
bit_of_and = bit_at_and

pub bit_of_or : (a b f : ℕ) → bit (bit_or a b) f ≡ max (bit a f) (bit b f)
unfolding bit
bit_of_or = bit_at_or

pub bit_minus : (a b f : ℕ) → bit (a ∖ b) f ≡ bit a f - bit b f
unfolding bit ◌∖◌
bit_minus a b f = omega (arith, bit_at_xor a (bit_and a b) f, bit_at_and a b f, bit_at-lt a f, bit_at-lt b f)

pub ruleset bits = (bit_le, bit_of_and, bit_of_or, bit_minus)

-- ---- by digits, lowest first

pub bit_low : (a : ℕ) → bit a zero ≡ a % 2
unfolding bit
bit_low = bit_at_lowest

pub bit_suc : (a f : ℕ) → bit a (suc f) ≡ bit (a / 2) f
unfolding bit
bit_suc = bit_at-suc

pub bit_none : (f : ℕ) → bit zero f ≡ zero
unfolding bit
bit_none = bit_at-zero

pub some_bit : (a : ℕ) → zero < a → (f : ℕ) × (bit a f ≡ 1)
some_bit = bin_ind (λ (n : ℕ). zero < n → (f : ℕ) × (bit n f ≡ 1)) (λ h. absurd (omega arith)) step
  where
    step : (n : ℕ) → (zero < n / 2 → (f : ℕ) × (bit (n / 2) f ≡ 1)) → zero < n → (f : ℕ) × (bit n f ≡ 1)
    step n ih h = elim (eq-zero-or-pos (n % 2)) [
      | inl e ↦ (let (f, k) = ih (omega arith) in (suc f, bit_suc n f ∙ k))
      | inr p ↦ (zero, omega (arith, bit_low n))
    ]

half_pow : (f : ℕ) → 2 ^ suc f / 2 ≡ 2 ^ f
half_pow f = omega arith

pub single_in : (f : ℕ) → bit (2 ^ f) f ≡ 1
unfolding bit
single_in = bit_at-pow_same

pub single_only : (f g : ℕ) → bit (2 ^ f) g ≡ 1 → g ≡ f
unfolding bit
single_only f g h = elim (cases_eq g f) [ inl e ↦ e | inr apart ↦ absurd (omega (arith, h, bit_at-pow_other f g apart)) ]

-- ---- two sets share a fact or lie apart

-- a & b != 0
pub meets→pos : (a b : ℕ) → Meets a b → zero < bit_and a b
meets→pos a b (f, i, j) = elim (eq-zero-or-pos (bit_and a b)) [
  | inl e ↦ absurd (omega (arith, bit_of_and a b f, ap (λ (x : ℕ). bit x f) e, bit_none f))
  | inr p ↦ p
]

pub pos→meets : (a b : ℕ) → zero < bit_and a b → Meets a b
pos→meets a b p = let (f, k) = some_bit (bit_and a b) p in (f, omega (arith, bits, bit_of_and a b f), omega (arith, bits, bit_of_and a b f))

pub meets_or_apart : (a b : ℕ) → Meets a b ⊎ ((f : ℕ) → bit a f + bit b f ≤ 1)
meets_or_apart a b = elim (eq-zero-or-pos (bit_and a b)) [
  | inl e ↦ inr (λ f. omega (arith, bits, ap (λ (x : ℕ). bit x f) e, bit_none f))
  | inr p ↦ inl (pos→meets a b p)
]

-- ---- how many facts

pub none_below : (a : ℕ) → a ⊆ zero → a ≡ zero
none_below a h = elim (eq-zero-or-pos a) [
  | inl e ↦ e
  | inr p ↦ (let (f, k) = some_bit a p in absurd (omega (arith, h f, bit_none f)))
]

halves : (a b : ℕ) → a ⊆ b → a / 2 ⊆ b / 2
halves a b h f = omega (arith, h (suc f), bit_suc a f, bit_suc b f)

pub ones_sub : (b a : ℕ) → a ⊆ b → ones a ≤ ones b
ones_sub = bin_ind (λ (n : ℕ). (a : ℕ) → a ⊆ n → ones a ≤ ones n) (λ a h. le_of_eq (ap ones (none_below a h)))
    (λ n ih a h. omega (arith, ones_step a, ones_step n, ih (a / 2) (halves a n h), h zero, bit_low a, bit_low n))

pub ones_same : (b a : ℕ) → a ⊆ b → ones b ≤ ones a → b ⊆ a
ones_same = bin_ind (λ (n : ℕ). (a : ℕ) → a ⊆ n → ones n ≤ ones a → n ⊆ a) (λ a h k f. omega (arith, bit_none f)) step
  where
    step : (n : ℕ) → ((a : ℕ) → a ⊆ n / 2 → ones (n / 2) ≤ ones a → n / 2 ⊆ a) → (a : ℕ) → a ⊆ n → ones n ≤ ones a → n ⊆ a
    step n ih a h k zero = omega (arith, ones_step a, ones_step n, ones_sub (n / 2) (a / 2) (halves a n h), h zero, bit_low a, bit_low n)
    step n ih a h k (suc f) =
        let m : ones (n / 2) ≤ ones (a / 2) = omega (arith, ones_step a, ones_step n, h zero, bit_low a, bit_low n) in
        omega (arith, ih (a / 2) (halves a n h) m f, bit_suc a f, bit_suc n f)

-- a set is its facts
pub same_facts : (b a : ℕ) → a ⊆ b → b ⊆ a → a ≡ b
unfolding bit
same_facts b a h k = same_from_bits a b (λ f. omega (arith, h f, k f))

-- ---- the difference, as code on numbers of k digits has it: a & !b

flip : (k b f : ℕ) → b < 2 ^ k → f < k → bit (2 ^ k - 1 - b) f ≡ 1 - bit b f
flip zero b f h i = absurd (omega arith)
flip (suc k) b zero h i = omega (arith, bit_low b, bit_low (2 ^ suc k - 1 - b))
flip (suc k) b (suc f) h i =
    let half : (2 ^ suc k - 1 - b) / 2 ≡ 2 ^ k - 1 - b / 2 = omega arith in
    bit_suc (2 ^ suc k - 1 - b) f ∙ ap (λ (x : ℕ). bit x f) half ∙ flip k (b / 2) f (omega arith) (omega arith)
    ∙ ap (λ (x : ℕ). 1 - x) (sym (bit_suc b f))

pub bit_high : (k a f : ℕ) → a < 2 ^ k → k ≤ f → bit a f ≡ zero
unfolding bit
bit_high k a f = bit_at_above a k f

and_not_at : (k a b f : ℕ) → a < 2 ^ k → b < 2 ^ k → bit (bit_and a (2 ^ k - 1 - b)) f ≡ bit (a ∖ b) f
and_not_at k a b f h i = elim (dec_lt f k) [
  | yes lt ↦ omega (arith, bits, flip k b f i lt)
  | no ge ↦ omega (arith, bits, bit_high k a f h (omega arith))
]

pub and_not : (k a b : ℕ) → a < 2 ^ k → b < 2 ^ k → bit_and a (2 ^ k - 1 - b) ≡ a ∖ b
and_not k a b h i =
    same_facts (a ∖ b) (bit_and a (2 ^ k - 1 - b)) (λ f. omega (arith, and_not_at k a b f h i)) (λ f. omega (arith, and_not_at k a b f h i))

-- ---- more that code asks for

pub sub_le : (b a : ℕ) → a ⊆ b → a ≤ b
sub_le = bin_ind (λ (n : ℕ). (a : ℕ) → a ⊆ n → a ≤ n) (λ a h. le_of_eq (none_below a h))
    (λ n ih a h. omega (arith, ih (a / 2) (halves a n h), h zero, bit_low a, bit_low n))

pub single_sub : (a f : ℕ) → f ∈ a → 2 ^ f ⊆ a
single_sub a f i g = elim (eq-zero-or-pos (bit (2 ^ f) g)) [
  | inl e ↦ omega arith
  | inr q ↦ (let s : bit (2 ^ f) g ≡ 1 = omega (arith, bits) in let e = ap (bit a) (single_only f g s) in omega (arith, bits))
]

-- a set with one more fact is a higher number
pub sub_lt : (b a f : ℕ) → a ⊆ b → f ∈ b → bit a f ≡ 0 → a < b
sub_lt b a f le there none = elim (cases_lt a b) [
  | inl lt ↦ lt
  | inr ge ↦ (
      let same : a ≡ b = omega (arith, sub_le b a le) in
      absurd (omega (arith, ap (λ (x : ℕ). bit x f) same)))
]

or_half : (a b : ℕ) → bit_or a b / 2 ≡ bit_or (a / 2) (b / 2)
or_half a b = or_shr a b 1

-- the facts of two sets that lie apart are counted apart
pub ones_apart : (a b : ℕ) → ((f : ℕ) → bit a f + bit b f ≤ 1) → ones (a ∪ b) ≡ ones a + ones b
ones_apart = bin_ind (λ (n : ℕ). (b : ℕ) → ((f : ℕ) → bit n f + bit b f ≤ 1) → ones (n ∪ b) ≡ ones n + ones b) (λ b h. omega (arith, ones-ones 0))
    (λ n ih b h. omega (
      arith,
      ones_step n,
      ones_step b,
      ones_step (n ∪ b),
      or_step n b,
      or_half n b,
      ap ones (or_half n b),
      ih (b / 2) (λ f. omega (arith, h (suc f), bit_suc n f, bit_suc b f)),
      h zero,
      bit_low n,
      bit_low b,
    ))

-- ---- the facts below n

pub bit_below : (n f : ℕ) → f < n → bit (below n) f ≡ 1
unfolding bit
bit_below = bit_at_ones

pub bit_above : (n f : ℕ) → n ≤ f → bit (below n) f ≡ zero
unfolding bit
bit_above = bit_at_ones_above

-- a set of facts below n is a number below 2 ^ n
pub sub_below : (n a : ℕ) → a ⊆ below n → a < 2 ^ n
sub_below n a h = omega (arith, sub_le (below n) a h, pow_pos n)

-- ---- the test of a subset

pub inside→ : (a b : ℕ) → T (inside a b) → a ⊆ b
unfolding inside
inside→ a b h f = omega (arith, bits, bit_minus a b f, ap (λ (x : ℕ). bit x f) (eqb→eq (a ∖ b) 0 h), bit_none f)

pub →inside : (a b : ℕ) → a ⊆ b → T (inside a b)
unfolding inside
→inside a b h =
    let e : a ∖ b ≡ 0 = none_below (a ∖ b) (λ f. omega (arith, bits, h f)) in
    subst (λ (x : ℕ). T (eqb x 0)) (sym e) tt

-- the test and its meaning
pub inside_means : (a b : ℕ) → IsTrue (inside a b) ↔ (a ⊆ b)
inside_means a b = ((λ h. inside→ a b (T_from_true (inside a b) h)), λ h. T→true (inside a b) (→inside a b h))

pub inside_dec : (a b : ℕ) → (a ⊆ b) ⊎ (a ⊆ b → ⊥)
inside_dec a b = go (inside a b) refl
  where
    go : (t : Bool) → inside a b ≡ t → (a ⊆ b) ⊎ (a ⊆ b → ⊥)
    go true e = inl (inside→ a b (subst T (sym e) tt))
    go false e = inr (λ h. subst T e (→inside a b h))

-- ---- sets that share no fact

pub apart→ : (a b : ℕ) → (Meets a b → ⊥) → (f : ℕ) → bit a f + bit b f ≤ 1
apart→ a b h = elim (meets_or_apart a b) [ inl m ↦ absurd (h m) | inr k ↦ k ]

pub →apart : (a b : ℕ) → a ∩ b ≡ 0 → Meets a b → ⊥
→apart a b e m = omega (arith, meets→pos a b m)

pub apart_and : (a b : ℕ) → (Meets a b → ⊥) → a ∩ b ≡ 0
apart_and a b h = elim (eq-zero-or-pos (a ∩ b)) [ inl e ↦ e | inr p ↦ absurd (h (pos→meets a b p)) ]

-- parts of sets that lie apart lie apart
pub apart_without : (a b g : ℕ) → a ∩ b ≡ 0 → (a ∖ g) ∩ (b ∖ g) ≡ 0
apart_without a b g e =
    let apart = apart→ a b (→apart a b e) in
    apart_and (a ∖ g) (b ∖ g) (λ (f, x, y). omega (arith, bits, apart f, x, y))

pub size_single : (f : ℕ) → size (single f) ≡ 1
unfolding ones
size_single zero = refl
size_single (suc f) = omega (arith, ones_step (2 ^ suc f), ap ones (half_pow f), size_single f)

-- a set with a fact has at least one
pub has_fact : (a f : ℕ) → f ∈ a → 1 ≤ size a
has_fact a f i = omega (arith, size_single f, ones_sub a (single f) (single_sub a f i))

-- ---- the words mean what they should

bit_cases : (a f : ℕ) → (bit a f ≡ zero) ⊎ (bit a f ≡ 1)
bit_cases a f = elim (eq-zero-or-pos (bit a f)) [ inl e ↦ inl e | inr p ↦ inr (omega (arith, bits)) ]

pub sets_mean : SetsMean
sets_mean = (
  (λ a b. (
    (λ h f i. omega (arith, bits, h f)),
    λ h f. elim (bit_cases a f) [ inl e ↦ omega arith | inr e ↦ omega (arith, h f e) ],
  )),
  (λ a b h k. same_facts b a h k),
  (λ a b f. (
    (λ i. elim (bit_cases a f) [ inl e ↦ inr (omega (arith, bits, bit_of_or a b f)) | inr e ↦ inl e ]),
    λ i. elim i [ inl e ↦ omega (arith, bits) | inr e ↦ omega (arith, bits) ],
  )),
  (λ a b f. ((λ i. (omega (arith, bits, bit_of_and a b f), omega (arith, bits, bit_of_and a b f))), λ (i, j). omega (arith, bits))),
  (λ a b f. (
    (λ i. (omega (arith, bits, bit_minus a b f), λ j. omega (arith, bits, bit_minus a b f))),
    λ (i, j). elim (bit_cases b f) [ inl e ↦ omega (arith, bits) | inr e ↦ absurd (j e) ],
  )),
  (λ f g. (single_only g f, λ e. ap (bit (2 ^ g)) e ∙ single_in g)),
  (λ f n. ((λ i. elim (dec_lt f n) [ yes h ↦ h | no h ↦ absurd (omega (arith, bit_above n f (omega arith))) ]), bit_below n f)),
  (λ f i. omega (arith, bit_none f)),
  inside_means,
  λ a b. (→apart a b, apart_and a b),
)

pub sizes_mean : SizesMean
unfolding ones
sizes_mean = (refl, size_single, λ a b h. ones_apart a b (apart→ a b h))

-- ---- the test a & b != 0

pub share_test : (a b : ℕ) → T (not (eqb (a ∩ b) 0)) → Meets a b
share_test a b h = elim (eq-zero-or-pos (a ∩ b)) [
  | inl e ↦ absurd (T_not (eqb (a ∩ b) 0) h (subst (λ (x : ℕ). T (eqb x 0)) (sym e) tt))
  | inr p ↦ pos→meets a b p
]

pub test_share : (a b : ℕ) → Meets a b → T (not (eqb (a ∩ b) 0))
test_share a b m = go (eqb (a ∩ b) 0) refl
  where
    go : (t : Bool) → eqb (a ∩ b) 0 ≡ t → T (not t)
    go true e = absurd (omega (arith, eqb→eq (a ∩ b) 0 (subst T (sym e) tt), meets→pos a b m))
    go false e = tt

pub shares_means : (a b : ℕ) → IsTrue (shares a b) ↔ Meets a b
shares_means a b = ((λ h. share_test a b (T_from_true (shares a b) h)), λ m. T→true (shares a b) (test_share a b m))
