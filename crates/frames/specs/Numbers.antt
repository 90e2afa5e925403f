-- Numbers of several bytes, which have their most significant byte first.
use Rattle.std.specs.Prelude.{ℕ, ◌+◌, ◌*◌, ◌/◌, ◌%◌, List, [], ◌∷◌}

-- the four bytes of a number below 2 ^ 32
abbrev pub word_bytes : ℕ → List ℕ
word_bytes n = (n / 16777216) ∷ (n / 65536 % 256) ∷ (n / 256 % 256) ∷ (n % 256) ∷ []

-- the two bytes of a number below 2 ^ 16
abbrev pub half_bytes : ℕ → List ℕ
half_bytes n = (n / 256) ∷ (n % 256) ∷ []

-- the number that more bytes make of the number of those before them
abbrev pub number_from : ℕ → List ℕ → ℕ
number_from before [] = before
number_from before (byte ∷ bytes) = number_from (before * 256 + byte) bytes

-- the number that bytes stand for
abbrev pub number_of : List ℕ → ℕ
number_of bytes = number_from 0 bytes
