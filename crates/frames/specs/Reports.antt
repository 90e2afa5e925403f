-- Report lines: the bytes of each, and what the report buffer then holds.
use Rattle.std.specs.Prelude.{◌≡◌, ℕ, ◌<◌, ◌≤◌, List, [], ◌∷◌, ◌++◌, length, drop}
use Rattle.std.specs.Prelude.{Some, None, Option}
use Rattle.frames.specs.declared.report.Added.{Added}
use Rattle.frames.specs.declared.report.Added.TheVariants.{Set, SetAndMark}
use Rattle.frames.specs.declared.report.Refused.{Refused}
use Rattle.frames.specs.Digits.{digits_of}
use Rattle.frames.specs.Numbers.{word_bytes, half_bytes}

-- an accepted frame of a kind
abbrev pub accepted_bytes : ℕ → List ℕ
accepted_bytes kind = kind ∷ 0 ∷ []

-- an accepted find: the set, how many facts it has, and the plan's length and places
abbrev pub found_bytes : ℕ → ℕ → List ℕ → List ℕ
found_bytes facts size places =
    accepted_bytes 9 ++ (word_bytes facts ++ (size ∷ (half_bytes (length places) ++ places)))

-- what a refusal adds to its line
abbrev pub added_bytes : Option Added → List ℕ
added_bytes None = []
added_bytes (Some (Set facts)) = word_bytes facts
added_bytes (Some (SetAndMark facts mark)) = word_bytes facts ++ mark ∷ []

-- a refused frame: its kind, the refusal, its layer, the number of the line, and what the refusal
-- adds
abbrev pub refused_bytes : Refused → List ℕ
refused_bytes r = r.kind ∷ r.refusal ∷ r.layer ∷ (half_bytes r.line ++ added_bytes r.added)

-- a report line: the digits of its bytes in capitals, and a line feed
abbrev pub report_line : List ℕ → List ℕ
report_line bytes = digits_of bytes ++ 10 ∷ []

-- a report line stands at the front of the buffer, and its length is answered; or the buffer is too
-- short for it, and stays
abbrev pub Printed : List ℕ → List ℕ → List ℕ → Option ℕ → Type 0
Printed bytes before after (Some n) =
    (n ≡ length (report_line bytes)) × (n ≤ length before)
    × (after ≡ report_line bytes ++ drop n before)
Printed bytes before after None = (length before < length (report_line bytes)) × (after ≡ before)
