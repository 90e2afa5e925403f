-- Hexadecimal digits: what a character is worth, and how bytes are spelled and written.
use Rattle.std.specs.Prelude.{◌≡◌, ℕ, ◌+◌, ◌-◌, ◌*◌, ◌/◌, ◌%◌, ◌<◌, Bool, ◌&&◌, if◌then◌else◌}
use Rattle.std.specs.Prelude.{List, [], ◌∷◌, length, All, EachIndex, Some, None, Option}
use Rattle.std.specs.Prelude.{nat_le, nat_lt, slice_index}
use Rattle.std.specs.List.{flat_map}

-- whether the character c is one of those from the first to the last
abbrev pub in_range : ℕ → ℕ → ℕ → Bool
in_range first last c = nat_le first c && nat_le c last

-- what a character is worth: 0 to 9 (48 to 57), a to f (97 to 102) and A to F (65 to 70) are
-- digits, and no other is
abbrev pub digit_of : ℕ → Option ℕ
digit_of c =
    if in_range 48 57 c then Some (c - 48)
    else (if in_range 97 102 c then Some (c - 97 + 10)
    else (if in_range 65 70 c then Some (c - 65 + 10) else None))

-- two characters are the digits of a byte, the first worth sixteen times its value
abbrev pub Pair : ℕ → ℕ → ℕ → Type 0
Pair high low byte =
    (h : ℕ) × (l : ℕ) × (digit_of high ≡ Some h) × (digit_of low ≡ Some l) × (byte ≡ h * 16 + l)

-- the two characters of a line at twice i are the digits of a byte
abbrev pub PairAt : List ℕ → ℕ → ℕ → Type 0
PairAt line i byte = Pair (slice_index line (2 * i)) (slice_index line (2 * i + 1)) byte

-- a line of characters spells a list of bytes: two digits for each byte, and nothing else
abbrev pub Spells : List ℕ → List ℕ → Type 0
Spells line bytes =
    (length line ≡ 2 * length bytes) × EachIndex bytes (λ i. PairAt line i (slice_index bytes i))

-- a list whose elements are bytes
abbrev pub Bytes : List ℕ → Type 0
Bytes bytes = All (λ byte. byte < 256) bytes

-- the digit of a value below 16, in capitals
abbrev pub capital : ℕ → ℕ
capital value = if nat_lt value 10 then 48 + value else 65 + (value - 10)

-- the two digits of a byte, in capitals
abbrev pub capitals : ℕ → List ℕ
capitals byte = capital (byte / 16) ∷ capital (byte % 16) ∷ []

-- the digits of a list of bytes, in capitals
abbrev pub digits_of : List ℕ → List ℕ
digits_of bytes = flat_map capitals bytes
