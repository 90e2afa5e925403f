-- Frames: the bytes of each, and what a line that holds one, or none, is read as.
use Rattle.std.specs.Prelude.{◌≡◌, ℕ, ◌≢◌, List, [], ◌∷◌, ◌++◌, length, take, Ok, Err, Result}
use Rattle.frames.specs.declared.frame.TheConstants.{ROOM}
use Rattle.frames.specs.declared.frame.Frame.{Frame}
use Rattle.frames.specs.declared.frame.Frame.TheVariants as frames
use Rattle.frames.specs.declared.frame.FrameFault.{FrameFault}
use Rattle.frames.specs.declared.frame.FrameFault.TheVariants.{Malformed, UnknownKind, WrongLength}
use Rattle.frames.specs.declared.kind.Kind.{Kind}
use Rattle.frames.specs.declared.kind.Kind.TheVariants as kinds
use Rattle.frames.specs.Digits.{Spells}
use Rattle.frames.specs.Kinds.{kind_byte}
use Rattle.frames.specs.Numbers.{word_bytes}

-- what kind of frame it is
abbrev pub frame_kind : Frame → Kind
frame_kind (frames.Open number n standing order) = kinds.Open
frame_kind (frames.Put place needs gives takes) = kinds.Put
frame_kind (frames.Grant facts) = kinds.Grant
frame_kind (frames.Lapse facts) = kinds.Lapse
frame_kind (frames.Order facts) = kinds.Order
frame_kind (frames.Cancel facts) = kinds.Cancel
frame_kind (frames.Withdraw place) = kinds.Withdraw
frame_kind (frames.Carry place) = kinds.Carry
frame_kind frames.Find = kinds.Find
frame_kind frames.DrawAndSign = kinds.DrawAndSign

-- the byte of a frame's kind
abbrev pub kind_of : Frame → ℕ
kind_of f = kind_byte (frame_kind f)

-- the bytes that follow the kind
abbrev pub field_bytes : Frame → List ℕ
field_bytes (frames.Open number n standing order) =
    word_bytes number ++ (n ∷ (word_bytes standing ++ word_bytes order))
field_bytes (frames.Put place needs gives takes) =
    place ∷ (word_bytes needs ++ (word_bytes gives ++ word_bytes takes))
field_bytes (frames.Grant facts) = word_bytes facts
field_bytes (frames.Lapse facts) = word_bytes facts
field_bytes (frames.Order facts) = word_bytes facts
field_bytes (frames.Cancel facts) = word_bytes facts
field_bytes (frames.Withdraw place) = place ∷ []
field_bytes (frames.Carry place) = place ∷ []
field_bytes frames.Find = []
field_bytes frames.DrawAndSign = []

-- the bytes of a frame
abbrev pub bytes_of : Frame → List ℕ
bytes_of f = kind_of f ∷ field_bytes f

-- the number of each fault
abbrev pub fault_number : FrameFault → ℕ
fault_number Malformed = 1
fault_number (UnknownKind byte) = 2
fault_number (WrongLength kind) = 3

-- the kind that a report gives with each fault
abbrev pub fault_kind : FrameFault → ℕ
fault_kind Malformed = 0
fault_kind (UnknownKind byte) = byte
fault_kind (WrongLength kind) = kind

-- no frame of this kind has this many bytes
abbrev pub NoneOfLength : ℕ → ℕ → Type 0
NoneOfLength kind size = (f : Frame) → kind_of f ≡ kind → length (bytes_of f) ≢ size

-- the first of the bytes
abbrev pub BeginsWith : ℕ → List ℕ → Type 0
BeginsWith byte bytes = (rest : List ℕ) × (byte ∷ rest ≡ bytes)

-- what bytes say: a frame's bytes say that frame, and no bytes are malformed; else the first byte
-- is no frame's kind, or it is one, and the bytes are as many as no frame of that kind has
abbrev pub Means : List ℕ → Result Frame FrameFault → Type 0
Means bytes (Ok f) = bytes_of f ≡ bytes
Means bytes (Err Malformed) = bytes ≡ []
Means bytes (Err (UnknownKind kind)) = BeginsWith kind bytes × ((f : Frame) → kind_of f ≢ kind)
Means bytes (Err (WrongLength kind)) =
    BeginsWith kind bytes × ((f : Frame) × (kind_of f ≡ kind)) × NoneOfLength kind (length bytes)

-- a line spells bytes that say this
abbrev pub SpellsMeaning : List ℕ → Result Frame FrameFault → Type 0
SpellsMeaning line r = (bytes : List ℕ) × Spells line bytes × Means bytes r

-- what a line says: what the bytes say that it spells; it is malformed where it spells no byte at
-- all
abbrev pub Reads : List ℕ → Result Frame FrameFault → Type 0
Reads line (Ok f) = Spells line (bytes_of f)
Reads line (Err Malformed) = (bytes : List ℕ) → Spells line bytes → bytes ≡ []
Reads line (Err (UnknownKind kind)) = SpellsMeaning line (Err (UnknownKind kind))
Reads line (Err (WrongLength kind)) = SpellsMeaning line (Err (WrongLength kind))

-- the first bytes that a line spells, as many as there is room for
abbrev pub Decoded : List ℕ → List ℕ → Type 0
Decoded line front = (bytes : List ℕ) × Spells line bytes × (front ≡ take ROOM bytes)
