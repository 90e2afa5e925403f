-- What is proved of digits, numbers and frames as a whole; each statement is cited by a function's
-- contract.
use Rattle.std.specs.Prelude.{◌≡◌, ℕ, ◌<◌, List, [], ◌∷◌, Ok, Result}
use Rattle.frames.specs.declared.frame.Frame.{Frame}
use Rattle.frames.specs.declared.frame.FrameFault.{FrameFault}
use Rattle.frames.specs.Digits.{Bytes, Spells, digits_of}
use Rattle.frames.specs.Numbers.{word_bytes, half_bytes, number_of}
use Rattle.frames.specs.Frames.{bytes_of, Reads}
use Rattle.frames.specs.Texts.{LineAt}

-- the digits of a list of bytes spell these bytes, and no other list
abbrev pub WrittenBytesReadBack : Type 0
WrittenBytesReadBack =
    (bytes : List ℕ) → Bytes bytes
    → Spells (digits_of bytes) bytes
    × ((others : List ℕ) → Spells (digits_of bytes) others → others ≡ bytes)

-- a number of four or two bytes is read back from its bytes, and the bytes from their number
abbrev pub WrittenNumbersReadBack : Type 0
WrittenNumbersReadBack =
    ((n : ℕ) → number_of (word_bytes n) ≡ n)
    × ((n : ℕ) → number_of (half_bytes n) ≡ n)
    × ((a b c d : ℕ) → a < 256 → b < 256 → c < 256 → d < 256
    → word_bytes (number_of (a ∷ b ∷ c ∷ d ∷ [])) ≡ a ∷ b ∷ c ∷ d ∷ [])
    × ((a b : ℕ) → a < 256 → b < 256 → half_bytes (number_of (a ∷ b ∷ [])) ≡ a ∷ b ∷ [])

-- the digits of a frame read back as that frame
abbrev pub WrittenFramesReadBack : Type 0
WrittenFramesReadBack = (f : Frame) → Bytes (bytes_of f) → Reads (digits_of (bytes_of f)) (Ok f)

-- a line says one thing at most: it is one frame, or no frame for one reason
abbrev pub LinesSayOneThing : Type 0
LinesSayOneThing =
    (line : List ℕ) (r s : Result Frame FrameFault) → Reads line r → Reads line s → r ≡ s

-- a line and the position after it are fixed by the text and the position where the line begins
abbrev pub LinesAreCutOneWay : Type 0
LinesAreCutOneWay =
    (text : List ℕ) (position : ℕ) (line other : List ℕ) (next after : ℕ)
    → LineAt text position line next → LineAt text position other after
    → (line ≡ other) × (next ≡ after)
