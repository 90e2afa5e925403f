-- A line says one thing at most.
use Rattle.std.proofs.Common.{◌≡◌, ℕ, ◌+◌, List, [], ◌∷◌, length, get_or, Ok, Err, Result, sym, refl, ap, ◌∙◌, subst, arith}
use Rattle.frames.specs.declared.frame.Frame.{Frame}
use Rattle.frames.specs.declared.frame.Frame.TheVariants as frames
use Rattle.frames.specs.declared.frame.FrameFault.{FrameFault}
use Rattle.frames.specs.declared.frame.FrameFault.TheVariants.{Malformed, UnknownKind, WrongLength}
use Rattle.frames.specs.declared.kind.Kind.{Kind}
use Rattle.frames.specs.declared.kind.Kind.TheVariants as kinds
use Rattle.frames.specs.Digits.{Spells}
use Rattle.frames.specs.Frames.{frame_kind, kind_of, field_bytes, bytes_of, NoneOfLength, Means, Reads}
use Rattle.frames.specs.Numbers.{number_of}
use Rattle.frames.proofs.Spelling.{spells_unique}
use Rattle.frames.proofs.Words.{number_of-word_bytes}

word_at : List ℕ → ℕ → ℕ
word_at s i = number_of (get_or s i 0 ∷ get_or s (i + 1) 0 ∷ get_or s (i + 2) 0 ∷ get_or s (i + 3) 0 ∷ [])

-- the kinds by their bytes, which begin with 1
kinds_in_turn : List Kind
kinds_in_turn =
    kinds.Open ∷ kinds.Put ∷ kinds.Grant ∷ kinds.Lapse ∷ kinds.Order ∷ kinds.Cancel ∷ kinds.Withdraw ∷ kinds.Carry ∷ kinds.Find
    ∷ kinds.DrawAndSign ∷ []

kind_at : ℕ → Kind
kind_at byte = get_or (kinds.Open ∷ kinds_in_turn) byte kinds.Open

-- the frame of a kind with these bytes, where there is one
frame_of_kind : Kind → List ℕ → Frame
unfolding word_at
frame_of_kind kinds.Open s = frames.Open (word_at s 1) (get_or s 5 0) (word_at s 6) (word_at s 10)
frame_of_kind kinds.Put s = frames.Put (get_or s 1 0) (word_at s 2) (word_at s 6) (word_at s 10)
frame_of_kind kinds.Grant s = frames.Grant (word_at s 1)
frame_of_kind kinds.Lapse s = frames.Lapse (word_at s 1)
frame_of_kind kinds.Order s = frames.Order (word_at s 1)
frame_of_kind kinds.Cancel s = frames.Cancel (word_at s 1)
frame_of_kind kinds.Withdraw s = frames.Withdraw (get_or s 1 0)
frame_of_kind kinds.Carry s = frames.Carry (get_or s 1 0)
frame_of_kind kinds.Find s = frames.Find
frame_of_kind kinds.DrawAndSign s = frames.DrawAndSign

frame_of : List ℕ → Frame
frame_of s = frame_of_kind (kind_at (get_or s 0 0)) s

frame_of_bytes : (f : Frame) → frame_of (bytes_of f) ≡ f
unfolding frame_of frame_of_kind kind_at kinds_in_turn word_at
frame_of_bytes (frames.Open number n standing order) = cc (number_of-word_bytes number, number_of-word_bytes standing, number_of-word_bytes order)
frame_of_bytes (frames.Put place needs gives takes) = cc (number_of-word_bytes needs, number_of-word_bytes gives, number_of-word_bytes takes)
frame_of_bytes _ = grind (arith, number_of-word_bytes)

kind_of_frame : (kind : Kind) → frame_kind (frame_of_kind kind []) ≡ kind
unfolding frame_of_kind
kind_of_frame kinds.Open = refl
kind_of_frame _ = refl

pub frame_of_each_kind : (kind : Kind) → (f : Frame) × (frame_kind f ≡ kind)
frame_of_each_kind kind = (frame_of_kind kind [], kind_of_frame kind)

-- bytes say one thing at most
one_meaning : (bytes : List ℕ) (r s : Result Frame FrameFault) → Means bytes r → Means bytes s → r ≡ s
one_meaning bytes (Ok f) (Ok g) p q = ap Ok (sym (frame_of_bytes f) ∙ ap frame_of (p ∙ sym q) ∙ frame_of_bytes g)
one_meaning bytes (Ok f) (Err Malformed) p q = cc
one_meaning bytes (Ok f) (Err (UnknownKind k)) p ((rest, q), none) = absurd (none f cc)
one_meaning bytes (Ok f) (Err (WrongLength k)) p ((rest, q), some, other) = absurd (other f (cc) (ap length p))
one_meaning bytes (Err Malformed) (Ok g) p q = cc
one_meaning bytes (Err Malformed) (Err Malformed) p q = refl
one_meaning bytes (Err Malformed) (Err (UnknownKind k)) p ((rest, q), none) = cc
one_meaning bytes (Err Malformed) (Err (WrongLength k)) p ((rest, q), some, other) = cc
one_meaning bytes (Err (UnknownKind j)) (Ok g) ((rest, p), none) q = absurd (none g cc)
one_meaning bytes (Err (UnknownKind j)) (Err Malformed) ((rest, p), none) q = cc
one_meaning bytes (Err (UnknownKind j)) (Err (UnknownKind k)) ((rest, p), none) ((rest2, q), none2) =
    let same : j ≡ k = cc in cc
one_meaning bytes (Err (UnknownKind j)) (Err (WrongLength k)) ((rest, p), none) ((rest2, q), (f, some), other) = absurd (none f cc)
one_meaning bytes (Err (WrongLength j)) (Ok g) ((rest, p), some, other) q = absurd (other g (cc) (ap length q))
one_meaning bytes (Err (WrongLength j)) (Err Malformed) ((rest, p), some, other) q = cc
one_meaning bytes (Err (WrongLength j)) (Err (UnknownKind k)) ((rest, p), (f, some), other) ((rest2, q), none) = absurd (none f cc)
one_meaning bytes (Err (WrongLength j)) (Err (WrongLength k)) ((rest, p), some, other) ((rest2, q), some2, other2) =
    let same : j ≡ k = cc in cc

-- what a line says, by the bytes that it spells: none, or those that say it
data Said (line : List ℕ) : Result Frame FrameFault → Type 0 where
  unread : ((bytes : List ℕ) → Spells line bytes → bytes ≡ []) → Said line (Err Malformed)
  spelled : {r : Result Frame FrameFault} (kind : ℕ) (rest : List ℕ) → Spells line (kind ∷ rest) → Means (kind ∷ rest) r → Said line r

said : (line : List ℕ) (r : Result Frame FrameFault) → Reads line r → Said line r
said line (Ok f) p = spelled (kind_of f) (field_bytes f) p refl
said line (Err Malformed) p = unread p
said line (Err (UnknownKind k)) (bytes, p, ((rest, e), none)) =
    spelled k rest (subst (λ (bs : List ℕ). Spells line bs) (sym e) p) ((rest, refl), none)
said line (Err (WrongLength k)) (bytes, p, ((rest, e), some, other)) =
    spelled k rest (subst (λ (bs : List ℕ). Spells line bs) (sym e) p)
    ((rest, refl), some, subst (λ (bs : List ℕ). NoneOfLength k (length bs)) (sym e) other)

-- two readings of a line are one
agree : (line : List ℕ) (r s : Result Frame FrameFault) → Said line r → Said line s → r ≡ s
agree line r s (unread p) (unread q) = refl
agree line r s (unread p) (spelled k rest q m) = let none = p (k ∷ rest) q in cc
agree line r s (spelled k rest q m) (unread p) = let none = p (k ∷ rest) q in cc
agree line r s (spelled j front p m) (spelled k rest q n) =
    let same = spells_unique line (k ∷ rest) (j ∷ front) q p in
    one_meaning (j ∷ front) r s m (subst (λ (bs : List ℕ). Means bs s) same n)

pub one_reading : (line : List ℕ) (r s : Result Frame FrameFault) → Reads line r → Reads line s → r ≡ s
one_reading line r s p q = agree line r s (said line r p) (said line s q)
