-- Report lines, and what reading the next line of a text comes to.
use Rattle.std.specs.Prelude.{◌≡◌, ℕ, ◌+◌, ◌<◌, ◌≤◌, List, length, take, Some, None, Ok, Err, Option, Result}
use Rattle.rules.specs.Planning.{Task}
use Rattle.deciders.specs.declared.row.Row.{Row}
use Rattle.deciders.specs.Reaching.{SameReach}
use Rattle.waivers.specs.Searching.{Choice}
use Rattle.frames.specs.Reports.{accepted_bytes, found_bytes, Printed}
use Rattle.frames.specs.Texts.{LineAt}
use Rattle.cases.specs.State.{State}
use Rattle.casefile.specs.declared.fault.LineFault.{LineFault}
use Rattle.casefile.specs.declared.fault.ReadFault.{ReadFault}
use Rattle.casefile.specs.declared.fault.ReadFault.TheVariants.{TextTooLong, BufferTooShort}
use Rattle.casefile.specs.declared.serving.Reply.{Reply}
use Rattle.casefile.specs.declared.serving.Reply.TheVariants.{Done, Found}
use Rattle.casefile.specs.Faults.{report_of, report_bytes, too_long_bytes, report_length}
use Rattle.casefile.specs.Serving.{Asks}

-- the bytes of the report line for a line of this kind and number; a plan begins the book
abbrev pub reply_bytes : ℕ → ℕ → Result Reply LineFault → List ℕ → List ℕ
reply_bytes kind line (Ok Done) book = accepted_bytes kind
reply_bytes kind line (Ok (Found s count n)) book = found_bytes s count (take n book)
reply_bytes kind line (Err e) book = report_bytes kind line (report_of e)

-- the plan that an answer speaks of lies in the book, and its length can be written
abbrev pub Fits : Result Reply LineFault → List ℕ → Type 0
Fits (Ok Done) book = Unit {0}
Fits (Ok (Found s count n)) book = (n ≤ length book) × (n < 4096)
Fits (Err e) book = Unit {0}

-- where reading a text stands: the position of the next line, and how many lines were read
pub record Bookmark : Type 0 where
  pub position : ℕ
  pub lines : ℕ

-- what is always so of it: each line takes a byte at least, and a text has at most 16,384
abbrev pub InText : Bookmark → Type 0
InText at = (at.lines ≤ at.position) × (at.position ≤ 16384)

-- reading stands at the beginning of a text
abbrev pub AtStart : Bookmark → Type 0
AtStart at = (at.position ≡ 0) × (at.lines ≡ 0)

-- how far a text is served: where reading stands, and case, sheet, plan book and decider then
pub record Stage (D : Type 0) : Type 0 where
  pub position : ℕ
  pub lines : ℕ
  pub case : State
  pub sheet : List Row
  pub book : List ℕ
  pub decider : D

-- the sets that the decider of a stage reaches in its case, its sheet and its plan book
abbrev pub stage_reach : {D : Type 0} → (D → Task → ℕ → ℕ → ℕ → Type 0) → Stage D → ℕ → Type 0
stage_reach reach x set = reach x.decider x.case.plain.task set (length x.sheet) (length x.book)

-- a line of a text that is not too long was read: it begins where reading stood, what it asks for
-- was done, and these are the bytes of its report line (c is the picker's choice, m the decider's
-- mark; x is the stage before, y the one after)
pub record Read {D : Type 0} (c : Choice) (reach : D → Task → ℕ → ℕ → ℕ → Type 0) (m : ℕ)
    (text : List ℕ) (x y : Stage D) (bytes : List ℕ) : Type 0 where
  pub line : List ℕ
  pub kind : ℕ
  pub answer : Result Reply LineFault
  pub short : length text ≤ 16384
  pub cut : LineAt text x.position line y.position
  pub counted : y.lines ≡ x.lines + 1
  pub asks :
      Asks c (stage_reach reach x) m line kind x.case answer y.case x.sheet x.book y.sheet y.book
  pub reaches : SameReach (reach x.decider) (reach y.decider)
  pub reported : bytes ≡ reply_bytes kind y.lines answer y.book

-- what reading the next line of a text comes to (buf and buf': the report buffer before and after)
abbrev pub ReadsNext : {D : Type 0} → Choice → (D → Task → ℕ → ℕ → ℕ → Type 0) → ℕ → List ℕ
    → Stage D → Stage D → List ℕ → List ℕ → Result (Option ℕ) ReadFault → Type 0
ReadsNext c reach m text x y buf buf' (Err BufferTooShort) =
    (length buf < 8209) × (y ≡ x) × (buf' ≡ buf)
ReadsNext c reach m text x y buf buf' (Err TextTooLong) =
    (8209 ≤ length buf) × (16384 < length text) × (y ≡ x)
    × Printed too_long_bytes buf buf' (Some (report_length TextTooLong))
ReadsNext c reach m text x y buf buf' (Ok None) =
    (8209 ≤ length buf) × (length text ≤ 16384) × (length text ≤ x.position)
    × (y ≡ x) × (buf' ≡ buf)
ReadsNext c reach m text x y buf buf' (Ok (Some n)) =
    (8209 ≤ length buf)
    × ((bytes : List ℕ) × Read c reach m text x y bytes × Printed bytes buf buf' (Some n))
