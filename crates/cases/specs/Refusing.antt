-- When a plain case refuses a call.
use Rattle.std.specs.Prelude.{Bool, if◌then◌else◌, ◌&&◌, length, unwrap_or, Some, Ok, Err, Result, ◌==◌}
use Rattle.std.specs.Option.{option_eq}
use Rattle.rules.specs.declared.refusal.Refusal.{Refusal}
use Rattle.rules.specs.declared.refusal.Refusal.TheVariants.{Unopened, AlreadyOpen, SlipOut, NoFinding, WrongSlip}
use Rattle.rules.specs.Refusals.{first_refusal}
use Rattle.deciders.specs.declared.limits.SizeFault.{SizeFault}
use Rattle.deciders.specs.Sizes.{size_refusal}
use Rattle.waivers.specs.declared.fault.FinderFault.{FinderFault}
use Rattle.waivers.specs.declared.fault.FinderFault.TheVariants.{Case, Size}
use Rattle.waivers.specs.Changes.{refusal_of, open_refusal}
use Rattle.cases.specs.declared.slip.SlipData.{SlipData}
use Rattle.cases.specs.Plain.{Plain}
use Rattle.cases.specs.Calls.{Asked, Opening, Changing, Finding, Drawing, Signing, Tearing}

-- ---- whether the case takes calls

-- why an unopened case is refused
abbrev pub opened_refusal : Plain → Result Unit Refusal
opened_refusal p = if p.task.n == 0 then Err Unopened else Ok tt

-- why a case is refused that is unopened, or of which a slip is out
abbrev pub usable_refusal : Plain → Result Unit Refusal
usable_refusal p = first_refusal (opened_refusal p) (if p.slip_out then Err SlipOut else Ok tt)

-- open wants an unopened case, sign and tear an opened one, and each other call one of which no
-- slip is out
abbrev pub admission : Plain → Asked → Result Unit Refusal
admission p (Opening number n s o) = if p.task.n == 0 then Ok tt else Err AlreadyOpen
admission p (Signing slip) = opened_refusal p
admission p (Tearing slip) = opened_refusal p
admission p x = usable_refusal p

-- ---- what else refuses a call

-- what a slip of the case says: its number and its finding
abbrev pub slip_of : Plain → SlipData
slip_of p = record { number = p.number; «set» = unwrap_or p.finding 0 }

-- the test whether a slip is out that says this
abbrev pub is_out : Plain → SlipData → Bool
is_out p slip =
    p.slip_out && (p.number == slip.number && option_eq ◌==◌ p.finding (Some slip.«set»))

-- a change by its own rule; a draw wants a finding that is not empty; sign and tear want the slip
-- that is out
abbrev pub own_refusal : Plain → Asked → Result Unit Refusal
own_refusal p (Opening number n s o) = open_refusal n s o
own_refusal p (Changing x) = refusal_of p.task x
own_refusal p (Finding s b) = Ok tt
own_refusal p Drawing = if unwrap_or p.finding 0 == 0 then Err NoFinding else Ok tt
own_refusal p (Signing slip) = if is_out p slip then Ok tt else Err WrongSlip
own_refusal p (Tearing slip) = if is_out p slip then Ok tt else Err WrongSlip

-- what the case itself refuses
abbrev pub case_refusal : Plain → Asked → Result Unit Refusal
case_refusal p x = first_refusal (admission p x) (own_refusal p x)

-- ---- all refusals

-- a refusal of the case's layer, among the faults of find
abbrev pub of_case : Result Unit Refusal → Result Unit FinderFault
of_case (Ok u) = Ok tt
of_case (Err e) = Err (Case e)

-- a size that find can't work with, among the faults of find
abbrev pub of_size : Result Unit SizeFault → Result Unit FinderFault
of_size (Ok u) = Ok tt
of_size (Err e) = Err (Size e)

-- why a plain case refuses a call, or not; find is refused for its sheet or its book too
abbrev pub call_refusal : Plain → Asked → Result Unit FinderFault
call_refusal p (Finding s b) =
    first_refusal (of_case (case_refusal p (Finding s b)))
    (of_size (size_refusal (length s) (length b)))
call_refusal p x = of_case (case_refusal p x)

-- what a draw gives: a slip for the finding, or why none is drawn
abbrev pub drawn_answer : Plain → Result SlipData Refusal
drawn_answer p = first_refusal (case_refusal p Drawing) (Ok (slip_of p))
