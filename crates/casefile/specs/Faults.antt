-- What is reported of each fault; the fault of a layer below keeps its own number and layer.
use Rattle.std.specs.Prelude.{ℕ, List, length, Some, None, Option}
use Rattle.rules.specs.declared.layer.Layer.{Layer}
use Rattle.rules.specs.declared.layer.Layer.TheVariants as layers
use Rattle.rules.specs.Refusals as refusals
use Rattle.rules.specs.Refusals.{layer_byte}
use Rattle.frames.specs.Frames.{fault_number}
use Rattle.frames.specs.Reports.{refused_bytes, report_line}
use Rattle.frames.specs.declared.report.Added.{Added}
use Rattle.frames.specs.declared.report.Added.TheVariants.{Set, SetAndMark}
use Rattle.deciders.specs.declared.answer.DeciderFault.TheVariants.{BeyondReach}
use Rattle.waivers.specs.Faults.{finder_number, finder_layer}
use Rattle.waivers.specs.declared.fault.FinderFault.{FinderFault}
use Rattle.waivers.specs.declared.fault.FinderFault.TheVariants as finder_fault
use Rattle.casefile.specs.declared.fault.LineFault.{LineFault}
use Rattle.casefile.specs.declared.fault.LineFault.TheVariants.{Frame, Case, Finder}
use Rattle.casefile.specs.declared.fault.ReadFault.{ReadFault}
use Rattle.casefile.specs.declared.fault.ReadFault.TheVariants.{TextTooLong, BufferTooShort}

-- what is reported of a fault: its number, its layer, and what it adds
pub record FaultReport : Type 0 where
  pub refusal : ℕ
  pub layer : Layer
  pub added : Option Added

-- beyond reach adds the set and the decider's mark, list full the set
abbrev pub finder_adds : FinderFault → Option Added
finder_adds (finder_fault.Case r) = None
finder_adds (finder_fault.Size e) = None
finder_adds finder_fault.NoWaiver = None
finder_adds (finder_fault.Decider (BeyondReach s m)) = Some (SetAndMark s m)
finder_adds (finder_fault.ListFull s) = Some (Set s)

-- what is reported of each fault of a line
abbrev pub report_of : LineFault → FaultReport
report_of (Frame e) = record { refusal = fault_number e; layer = layers.Reader; added = None }
report_of (Case r) =
    record { refusal = refusals.refusal_number r; layer = layers.Case; added = None }
report_of (Finder e) =
    record { refusal = finder_number e; layer = finder_layer e; added = finder_adds e }

-- what is reported of each reason why no line is read
abbrev pub unread_report : ReadFault → FaultReport
unread_report BufferTooShort = record { refusal = 18; layer = layers.Finder; added = None }
unread_report TextTooLong = record { refusal = 19; layer = layers.Reader; added = None }

-- the bytes of the report line that tells this of a line of this kind and number
abbrev pub report_bytes : ℕ → ℕ → FaultReport → List ℕ
report_bytes kind line t =
    refused_bytes (record {
      kind = kind;
      refusal = t.refusal;
      layer = layer_byte t.layer;
      line = line;
      added = t.added;
    })

-- the bytes of the one report line of a text that is too long: it is of no line, so its kind and
-- its line are 0
abbrev pub too_long_bytes : List ℕ
too_long_bytes = report_bytes 0 0 (unread_report TextTooLong)

-- how long the report line is that a fault leaves in the buffer; a buffer that is too short is left
-- as it is
abbrev pub report_length : ReadFault → ℕ
report_length BufferTooShort = 0
report_length TextTooLong = length (report_line too_long_bytes)
