-- Numbers of several bytes: the bytes of a number that was read are the bytes that it was read from.
use Rattle.std.proofs.Common.{◌≡◌, ℕ, ◌/◌, ◌%◌, ◌^◌, ◌<◌, ◌≤◌, List, ◌++◌, length, get_or, take, drop, w16, w32, sym, ap, ◌∙◌, arith}
use Rattle.std.specs.Int.{from_be_bytes, to_be_bytes}
use Rattle.std.proofs.lemmas.Grind.{common_steps}
use Rattle.std.proofs.lemmas.List.{length-take-le, take-append-drop}
use Rattle.std.proofs.lemmas.Nat.{be_bytes_4}
use Rattle.frames.specs.Numbers.{word_bytes, half_bytes, number_of}

-- the library's bytes of a number that fits are the number's bytes
pub word_from_be : (n : ℕ) → n < 2 ^ 32 → to_be_bytes w32 n ≡ word_bytes n
word_from_be n h = let fits : n / 16777216 % 256 ≡ n / 16777216 = omega arith in cc

pub half_from_be : (n : ℕ) → n < 2 ^ 16 → to_be_bytes w16 n ≡ half_bytes n
half_from_be n h = let fits : n / 256 % 256 ≡ n / 256 = omega arith in cc

small_front : (s : List ℕ) → ((i : ℕ) → get_or s i 0 < 256) → (i : ℕ) → get_or (take 4 s) i 0 < 256
small_front s small i = grind (arith, common_steps, small i)

-- a list that begins with the bytes of a number
pub word_front
    : (s front rest : List ℕ) (n : ℕ) → front ≡ take 4 s → rest ≡ drop 4 s → 4 ≤ length s → ((i : ℕ) → get_or s i 0 < 256)
    → n < 2 ^ 32 → n ≡ from_be_bytes w32 front → word_bytes n ++ rest ≡ s
word_front s front rest n cut left long small fits e =
    let bytes : word_bytes n ≡ take 4 s =
    sym (word_from_be n fits) ∙ be_bytes_4 (take 4 s) n (length-take-le 4 s long) (small_front s small) (e ∙ ap (from_be_bytes w32) cut) in
    ap (λ (r : List ℕ). word_bytes n ++ r) left ∙ ap (λ (front : List ℕ). front ++ drop 4 s) bytes ∙ take-append-drop 4 s

pub number_of-word_bytes : (n : ℕ) → number_of (word_bytes n) ≡ n
number_of-word_bytes n = omega arith
