-- Slips: what is decided of one, and which one is in hand.
use Rattle.std.specs.Prelude.{◌≡◌, false, Some, None, Ok, Err, Option, Result}
use Rattle.rules.specs.declared.refusal.Refusal.{Refusal}
use Rattle.cases.specs.declared.slip.SlipData.{SlipData}
use Rattle.cases.specs.Plain.{Plain}
use Rattle.cases.specs.Calls.{Signing}
use Rattle.cases.specs.Refusing.{case_refusal}

-- what was decided of a slip, without the slip that a refusal hands back
abbrev pub decision_of : Result Unit (SlipData × Refusal) → Result Unit Refusal
decision_of (Ok u) = Ok tt
decision_of (Err (slip, e)) = Err e

-- the case accepts a slip that says this: it refuses neither to sign it nor to tear it
abbrev pub Accepts : Plain → SlipData → Type 0
Accepts p slip = case_refusal p (Signing slip) ≡ Ok tt

-- The slip in hand is one that the case accepts; where none is in hand, none is out.
abbrev pub InHand : Plain → Option SlipData → Type 0
InHand p None = p.slip_out ≡ false
InHand p (Some slip) = Accepts p slip
