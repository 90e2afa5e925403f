-- What lines do at a desk: a case, a decider, a picker, a sheet and a plan book of the caller's.
use Rattle.std.specs.Prelude.{◌≡◌, ℕ, List, length, Option, Result}
use Rattle.rules.specs.Planning.{Task}
use Rattle.waivers.specs.Searching.{Choice}
use Rattle.deciders.specs.Reaching.{SameReach}
use Rattle.frames.specs.declared.frame.Frame.{Frame}
use Rattle.casefile.specs.declared.fault.LineFault.{LineFault}
use Rattle.casefile.specs.declared.fault.ReadFault.{ReadFault}
use Rattle.casefile.specs.declared.fault.ServeFault.{ServeFault}
use Rattle.casefile.specs.declared.serving.Desk.{Desk}
use Rattle.casefile.specs.declared.serving.Reply.{Reply}
use Rattle.casefile.specs.Serving.{Serves, Asks}
use Rattle.casefile.specs.Reporting.{Bookmark, Stage, ReadsNext}
use Rattle.casefile.specs.Chains.{ServesText}

module _ {D P : Type 0} where
  -- the desk still has the caller's own case, decider, picker, sheet and plan book
  abbrev pub KeepsLoans : Desk D P → Desk D P → Type 0
  KeepsLoans d d' =
      (d'.case.ghost_name ≡ d.case.ghost_name) × (d'.decider.ghost_name ≡ d.decider.ghost_name)
      × (d'.picker.now ≡ d.picker.now)
      × (d'.sheet.ghost_name ≡ d.sheet.ghost_name) × (d'.book.ghost_name ≡ d.book.ghost_name)

  -- the decider at the desk reaches what it reached
  abbrev pub KeepsReach : (D → Task → ℕ → ℕ → ℕ → Type 0) → Desk D P → Desk D P → Type 0
  KeepsReach reach d d' = SameReach (reach d.decider.now) (reach d'.decider.now)

  -- the stage of a text at the desk, where reading stands at this position after so many lines
  abbrev pub stage_at : ℕ → ℕ → Desk D P → Stage D
  stage_at position lines d = record {
    position = position;
    lines = lines;
    case = d.case.now;
    sheet = d.sheet.now;
    book = d.book.now;
    decider = d.decider.now;
  }

  module _ (choice : P → Choice) (reach : D → Task → ℕ → ℕ → ℕ → Type 0) (mark : ℕ) where
    -- the sets that the decider at the desk reaches, in the case, the sheet and the plan book there
    abbrev pub reach_at : Desk D P → ℕ → Type 0
    reach_at d x =
        reach d.decider.now d.case.now.plain.task x (length d.sheet.now) (length d.book.now)

    -- what a frame does at the desk
    abbrev pub ServesAt : Frame → Desk D P → Result Reply LineFault → Desk D P → Type 0
    ServesAt f d r d' =
        Serves (choice d.picker.now) (reach_at d) mark f d.case.now r d'.case.now
        d.sheet.now d.book.now d'.sheet.now d'.book.now

    -- what a line asks for at the desk, and the kind that it shows
    abbrev pub AsksAt : List ℕ → ℕ → Desk D P → Result Reply LineFault → Desk D P → Type 0
    AsksAt line kind d r d' =
        Asks (choice d.picker.now) (reach_at d) mark line kind
        d.case.now r d'.case.now d.sheet.now d.book.now d'.sheet.now d'.book.now

    -- what reading the next line of a text comes to at the desk; the report buffer before and after
    abbrev pub ReadsAt : List ℕ → Bookmark → Bookmark → Desk D P → Desk D P → List ℕ → List ℕ
        → Result (Option ℕ) ReadFault → Type 0
    ReadsAt text at at' d d' buf buf' r =
        let x = stage_at at.position at.lines d in
        let y = stage_at at'.position at'.lines d' in
        ReadsNext (choice d.picker.now) reach mark text x y buf buf' r

    -- what serving a text comes to at the desk; the known bytes of the writer before and after
    abbrev pub ServesTextAt : List ℕ → ℕ → Desk D P → Desk D P → Option (List ℕ) → Option (List ℕ)
        → Result Unit ServeFault → Type 0
    ServesTextAt text room d d' out out' r =
        (position lines : ℕ)
        × ServesText (choice d.picker.now) reach mark text room
        (stage_at 0 0 d) (stage_at position lines d') out out' r
