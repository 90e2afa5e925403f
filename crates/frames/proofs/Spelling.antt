-- Digits and the bytes that they spell: written digits are read back, and a line spells one list of bytes at most.
use Rattle.std.proofs.Common.{◌≡◌, ℕ, ◌+◌, ◌*◌, ◌/◌, ◌%◌, ◌<◌, List, [], ◌∷◌, length, get_or, take, Some, refl, ap, ◌∙◌, arith}
use Rattle.std.proofs.lemmas.List.{ext_get_or, length-take-le}
use Rattle.std.proofs.lemmas.List.Concat.{get_or-flat_map}
use Rattle.std.proofs.lemmas.Bool.Decides.{nat_tests}
use Rattle.frames.specs.Digits.{digit_of, Pair, Spells, Bytes, capital, capitals, digits_of}

-- the written digit of a value is worth that value
pub digit_of_capital : (v : ℕ) → v < 16 → digit_of (capital v) ≡ Some v
digit_of_capital v h = grind (arith, nat_tests)

-- the two written digits of a byte are the digits of that byte
pub pair_of_capitals : (b : ℕ) → b < 256 → Pair (capital (b / 16)) (capital (b % 16)) b
pair_of_capitals b h =
    (b / 16, b % 16, digit_of_capital (b / 16) (omega arith), digit_of_capital (b % 16) (omega arith), omega arith)

-- two characters are the digits of one byte only
pub pair_unique : (h l b c : ℕ) → Pair h l b → Pair h l c → b ≡ c
pair_unique h l b c (x, y, p, q, e) (v, w, r, s, f) =
    let same_high : x ≡ v = cc in
    let same_low : y ≡ w = cc in
    omega arith

-- two digits are worth a byte
pub digit_small : (c v : ℕ) → digit_of c ≡ Some v → v < 16
digit_small c v e = grind (arith, nat_tests)

-- a line spells one list of bytes at most
pub spells_unique : (line bs cs : List ℕ) → Spells line bs → Spells line cs → bs ≡ cs
spells_unique line bs cs (m, p) (n, q) =
    ext_get_or 0 bs cs (omega arith)
    (λ i h. pair_unique (get_or line (2 * i) 0) (get_or line (2 * i + 1) 0) (get_or bs i 0) (get_or cs i 0) (p i h) (q i (omega arith)))

pub length_digits : (bytes : List ℕ) → length (digits_of bytes) ≡ 2 * length bytes
length_digits [] = refl
length_digits (b ∷ bs) = omega (arith, length_digits bs)

-- the digits of the byte at i stand at twice i, and after it
digits_at
    : (bytes : List ℕ) (i j k : ℕ) → k ≡ 2 * i + j → i < length bytes → j < 2
    → get_or (digits_of bytes) k 0 ≡ get_or (capitals (get_or bytes i 0)) j 0
digits_at bytes i j k at inside small =
    let before : k ≡ length (digits_of (take i bytes)) + j = omega (arith, length_digits (take i bytes), length-take-le i bytes (omega arith)) in
    ap (λ (n : ℕ). get_or (digits_of bytes) n 0) before ∙ get_or-flat_map capitals bytes i j 0 0 inside small

-- the written digits of a list of bytes spell it
pub spells_digits : (bytes : List ℕ) → Bytes bytes → Spells (digits_of bytes) bytes
spells_digits bytes small = (
  length_digits bytes,
  λ i h.
      let high = digits_at bytes i 0 (2 * i) (omega arith) h (omega arith) in
      let low = digits_at bytes i 1 (2 * i + 1) (omega arith) h (omega arith) in
      rw (high, low) (pair_of_capitals (get_or bytes i 0) (small i 0 h)),
)
