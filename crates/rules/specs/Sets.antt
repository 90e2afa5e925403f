-- Sets of facts. A set is a number: the digit of worth 2 ^ f is 1 where the fact f is in the set.
use Rattle.std.specs.Prelude.{◌≡◌, ℕ, ◌+◌, ◌-◌, ◌/◌, ◌%◌, ◌^◌, ◌<◌, ◌≤◌, ◌==◌, ◌⊎◌, ◌↔◌}
use Rattle.std.specs.Prelude.{Bool, IsTrue, not, bit_and, bit_or, bit_xor, count_ones}

infix 50 ◌∈◌
infix 50 ◌⊆◌
infixl 65 ◌∖◌
infixl 65 ◌∪◌
infixl 65 ◌∩◌
-- 1 where the fact f is in the set s, and 0 where it is not
unfoldable pub bit : ℕ → ℕ → ℕ
bit s f = s / 2 ^ f % 2

-- the fact f is in the set s
abbrev pub ◌∈◌ : ℕ → ℕ → Type 0
f ∈ s = bit s f ≡ 1

-- each fact of a is in b
abbrev pub ◌⊆◌ : ℕ → ℕ → Type 0
a ⊆ b = (f : ℕ) → bit a f ≤ bit b f

-- the facts of a and those of b
abbrev pub ◌∪◌ : ℕ → ℕ → ℕ
a ∪ b = bit_or a b

-- the facts that are in both
abbrev pub ◌∩◌ : ℕ → ℕ → ℕ
a ∩ b = bit_and a b

-- the facts of a that are not in b
unfoldable pub ◌∖◌ : ℕ → ℕ → ℕ
a ∖ b = bit_xor a (bit_and a b)

-- a and b share a fact
abbrev pub Meets : ℕ → ℕ → Type 0
Meets a b = (f : ℕ) × (f ∈ a) × (f ∈ b)

-- the test whether a and b share a fact
abbrev pub shares : ℕ → ℕ → Bool
shares a b = not ((a ∩ b) == 0)

-- the set of the fact f alone
abbrev pub single : ℕ → ℕ
single f = 2 ^ f

-- the facts below n
abbrev pub below : ℕ → ℕ
below n = 2 ^ n - 1

-- how many facts a set has
abbrev pub size : ℕ → ℕ
size s = count_ones s

-- the test whether each fact of a is in b
unfoldable pub inside : ℕ → ℕ → Bool
unfolding ◌∖◌
inside a b = (a ∖ b) == 0

-- The operations on numbers are those on sets, fact by fact.
abbrev pub SetsMean : Type 0
SetsMean =
    ((a b : ℕ) → (a ⊆ b) ↔ ((f : ℕ) → f ∈ a → f ∈ b))
    × ((a b : ℕ) → a ⊆ b → b ⊆ a → a ≡ b)
    × ((a b f : ℕ) → (f ∈ a ∪ b) ↔ ((f ∈ a) ⊎ (f ∈ b)))
    × ((a b f : ℕ) → (f ∈ a ∩ b) ↔ ((f ∈ a) × (f ∈ b)))
    × ((a b f : ℕ) → (f ∈ a ∖ b) ↔ ((f ∈ a) × ¬ (f ∈ b)))
    × ((f g : ℕ) → (f ∈ single g) ↔ (f ≡ g))
    × ((f n : ℕ) → (f ∈ below n) ↔ (f < n))
    × ((f : ℕ) → ¬ (f ∈ 0))
    × ((a b : ℕ) → IsTrue (inside a b) ↔ (a ⊆ b))
    × ((a b : ℕ) → (a ∩ b ≡ 0) ↔ ¬ Meets a b)

-- Counting facts: the empty set has none, a single fact counts 1, and sets that share no fact count
-- apart.
abbrev pub SizesMean : Type 0
SizesMean =
    (size 0 ≡ 0)
    × ((f : ℕ) → size (single f) ≡ 1)
    × ((a b : ℕ) → ¬ Meets a b → size (a ∪ b) ≡ size a + size b)
