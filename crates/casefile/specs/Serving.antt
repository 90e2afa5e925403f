-- What each frame asks of the case, what that does, and what is answered.
use Rattle.std.specs.Prelude.{◌≡◌, ℕ, ◌⊎◌, List, Ok, Err, Result}
use Rattle.rules.specs.declared.refusal.Refusal.{Refusal}
use Rattle.deciders.specs.declared.row.Row.{Row}
use Rattle.waivers.specs.declared.change.Change.TheVariants as change
use Rattle.waivers.specs.declared.fault.FinderFault.{FinderFault}
use Rattle.waivers.specs.Searching.{Choice}
use Rattle.frames.specs.Frames.{kind_of, fault_kind, Reads}
use Rattle.frames.specs.declared.frame.Frame.{Frame}
use Rattle.frames.specs.declared.frame.Frame.TheVariants as frame
use Rattle.frames.specs.declared.frame.FrameFault.{FrameFault}
use Rattle.cases.specs.State.{State}
use Rattle.cases.specs.Making.{Opens, Changes, DrawsAndSigns}
use Rattle.cases.specs.Finding.{Finds}
use Rattle.casefile.specs.declared.fault.LineFault.{LineFault}
use Rattle.casefile.specs.declared.fault.LineFault.TheVariants as fault
use Rattle.casefile.specs.declared.request.Request.{Request}
use Rattle.casefile.specs.declared.request.Request.TheVariants.{Open, Change, Find, DrawAndSign}
use Rattle.casefile.specs.declared.serving.Reply.{Reply}
use Rattle.casefile.specs.declared.serving.Reply.TheVariants.{Done, Found}

-- what each frame asks for
abbrev pub request_of : Frame → Request
request_of (frame.Open number n standing order) = Open number n standing order
request_of (frame.Put place needs gives takes) = Change (change.Put place needs gives takes)
request_of (frame.Grant x) = Change (change.Grant x)
request_of (frame.Lapse x) = Change (change.Lapse x)
request_of (frame.Order x) = Change (change.Order x)
request_of (frame.Cancel x) = Change (change.Cancel x)
request_of (frame.Withdraw i) = Change (change.Withdraw i)
request_of (frame.Carry i) = Change (change.Carry i)
request_of frame.Find = Find
request_of frame.DrawAndSign = DrawAndSign

-- how a call's answer is passed on
abbrev pub reply_to_call : Result Unit Refusal → Result Reply LineFault
reply_to_call (Ok u) = Ok Done
reply_to_call (Err e) = Err (fault.Case e)

-- how find's answer is passed on
abbrev pub reply_to_find : Result (ℕ × ℕ × ℕ) FinderFault → Result Reply LineFault
reply_to_find (Ok (s, count, n)) = Ok (Found s count n)
reply_to_find (Err e) = Err (fault.Finder e)

-- a call that touches neither sheet nor book is made, as C says of its answer and of the case then,
-- and its answer is passed on
pub record RepliesToCall (C : Result Unit Refusal → State → Type 0) (r : Result Reply LineFault)
    (k' : State) (s : List Row) (b : List ℕ) (s' : List Row) (b' : List ℕ) : Type 0 where
  pub answer : Result Unit Refusal
  pub makes : C answer k'
  pub reply : r ≡ reply_to_call answer
  pub sheet : s' ≡ s
  pub book : b' ≡ b

-- find is called, and its answer is passed on
pub record RepliesToFind (c : Choice) (R : ℕ → Type 0) (m : ℕ) (k : State)
    (r : Result Reply LineFault) (k' : State) (s : List Row) (b : List ℕ)
    (s' : List Row) (b' : List ℕ) : Type 0 where
  pub answer : Result (ℕ × ℕ × ℕ) FinderFault
  pub finds : Finds c R m k s b (record { result = answer; sheet = s'; book = b' }) k'
  pub reply : r ≡ reply_to_find answer

-- what a request does to the case k, the sheet s and the book b, and what is replied; c is the
-- picker's choice, R says which sets are in the decider's reach, m is its mark
abbrev pub Replies : Choice → (ℕ → Type 0) → ℕ → Request → State → Result Reply LineFault → State
    → List Row → List ℕ → List Row → List ℕ → Type 0
Replies c R m (Open number n standing order) k r k' s b s' b' =
    RepliesToCall (λ a l. Opens number n standing order k a l) r k' s b s' b'
Replies c R m (Change x) k r k' s b s' b' =
    RepliesToCall (λ a l. Changes x k a l) r k' s b s' b'
Replies c R m Find k r k' s b s' b' = RepliesToFind c R m k r k' s b s' b'
Replies c R m DrawAndSign k r k' s b s' b' =
    RepliesToCall (λ a l. DrawsAndSigns k a l) r k' s b s' b'

-- what a frame does is what its request does
abbrev pub Serves : Choice → (ℕ → Type 0) → ℕ → Frame → State → Result Reply LineFault → State
    → List Row → List ℕ → List Row → List ℕ → Type 0
Serves c R m f k r k' s b s' b' = Replies c R m (request_of f) k r k' s b s' b'

-- a line asks for what its frame does, or holds no frame and is refused with the kind that it shows
abbrev pub Asks : Choice → (ℕ → Type 0) → ℕ → List ℕ → ℕ → State → Result Reply LineFault → State
    → List Row → List ℕ → List Row → List ℕ → Type 0
Asks c R m line kind k r k' s b s' b' =
    ((f : Frame) × Reads line (Ok f) × (kind ≡ kind_of f) × Serves c R m f k r k' s b s' b')
    ⊎ ((e : FrameFault) × Reads line (Err e) × (kind ≡ fault_kind e)
    × (r ≡ Err (fault.Frame e)) × (k' ≡ k) × (s' ≡ s) × (b' ≡ b))
