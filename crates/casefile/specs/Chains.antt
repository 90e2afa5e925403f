-- A text, read line by line from its beginning to its end, and the report of it. (c is the picker's
-- choice, reach the decider's reach, m its mark; room is how many bytes the report buffer has.)
use Rattle.std.specs.Prelude.{◌≡◌, ℕ, ◌⊎◌, ◌<◌, ◌≤◌, List, [], ◌++◌, length, Ok, Err, Option, Result}
use Rattle.std.specs.Io.KnownBytes.{Keeps, Appends}
use Rattle.rules.specs.Planning.{Task}
use Rattle.waivers.specs.Searching.{Choice}
use Rattle.frames.specs.Reports.{report_line}
use Rattle.casefile.specs.declared.fault.ReadFault.{ReadFault}
use Rattle.casefile.specs.declared.fault.ReadFault.TheVariants.{TextTooLong, BufferTooShort}
use Rattle.casefile.specs.declared.fault.ServeFault.{ServeFault}
use Rattle.casefile.specs.declared.fault.ServeFault.TheVariants as serve_fault
use Rattle.casefile.specs.Faults.{too_long_bytes}
use Rattle.casefile.specs.Reporting.{Stage, Read}

-- reads of lines, each from the stage that the one before came to, lead from x to a stage, and
-- these are their report lines, one after another
pub data LinesRead {D : Type 0} (c : Choice) (reach : D → Task → ℕ → ℕ → ℕ → Type 0) (m : ℕ)
    (text : List ℕ) (x : Stage D) : Stage D → List ℕ → Type 0 where
  none : LinesRead c reach m text x x []
  more : {y : Stage D} {report : List ℕ} → LinesRead c reach m text x y report
      → (z : Stage D) (bytes : List ℕ) → Read c reach m text y z bytes
      → LinesRead c reach m text x z (report ++ report_line bytes)

-- the whole report of a text: the lines of reads that lead to its end; where it is too long no line
-- is read, and one report line says so
abbrev pub TextReport : {D : Type 0} → Choice → (D → Task → ℕ → ℕ → ℕ → Type 0) → ℕ → List ℕ
    → Stage D → Stage D → List ℕ → Type 0
TextReport c reach m text x y report =
    ((length text ≤ 16384) × LinesRead c reach m text x y report × (length text ≤ y.position))
    ⊎ ((16384 < length text) × (y ≡ x) × (report ≡ report_line too_long_bytes))

-- a line is written: the writer holds it too, or it fails
abbrev pub Writes : List ℕ → Option (List ℕ) → Option (List ℕ) → Result Unit ServeFault → Type 0
Writes line out out' (Ok u) = Appends out out' line
Writes line out out' (Err (serve_fault.Unread e)) = ⊥
Writes line out out' (Err (serve_fault.Output e)) = Unit {0}

-- the report line of a text that is too long is written; where the buffer is too short, that is the
-- answer, and nothing is written
abbrev pub Reports : ReadFault → List ℕ → Option (List ℕ) → Option (List ℕ)
    → Result Unit ServeFault → Type 0
Reports TextTooLong line out out' r = Writes line out out' r
Reports BufferTooShort line out out' r =
    (r ≡ Err (serve_fault.Unread BufferTooShort)) × Keeps out out'

-- what serving a text comes to: the writer then holds the whole report too; or the report buffer
-- was too short, and nothing was read or written; or it ended with an output error: some lines,
-- perhaps none, were read, and what the writer then holds is not said
abbrev pub ServesText : {D : Type 0} → Choice → (D → Task → ℕ → ℕ → ℕ → Type 0) → ℕ → List ℕ → ℕ
    → Stage D → Stage D → Option (List ℕ) → Option (List ℕ) → Result Unit ServeFault → Type 0
ServesText c reach m text room x y out out' (Ok u) =
    (8209 ≤ room)
    × ((report : List ℕ) × TextReport c reach m text x y report × Appends out out' report)
ServesText c reach m text room x y out out' (Err (serve_fault.Unread BufferTooShort)) =
    (room < 8209) × (y ≡ x) × Keeps out out'
ServesText c reach m text room x y out out' (Err (serve_fault.Unread TextTooLong)) = ⊥
ServesText c reach m text room x y out out' (Err (serve_fault.Output e)) =
    (8209 ≤ room) × ((report : List ℕ) × LinesRead c reach m text x y report)
