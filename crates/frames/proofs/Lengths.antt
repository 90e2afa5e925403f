-- The length of the longest frame, and a frame of each kind.
use Rattle.std.proofs.Common.{◌≡◌, ℕ, ◌≤◌, List, ◌∷◌, length, Some, None, Option, MatchOption, ok_or, sym, ap, ◌∙◌, arith}
use Rattle.frames.specs.declared.frame.Frame.{Frame}
use Rattle.frames.specs.declared.frame.Frame.TheVariants.{Open}
use Rattle.frames.specs.declared.frame.FrameFault.TheVariants.{WrongLength}
use Rattle.frames.specs.declared.kind.Kind.{Kind}
use Rattle.frames.specs.Frames.{bytes_of, NoneOfLength, Means}
use Rattle.frames.specs.Kinds.{kind_byte}
use Rattle.frames.proofs.Determined.{frame_of_each_kind}

pub length_bytes : (f : Frame) → length (bytes_of f) ≤ 14
length_bytes (Open number n standing order) = omega arith
length_bytes _ = omega arith

-- bytes that begin with a kind say a frame of that kind, or have the wrong length
pub means_of_kind
    : (kind : Kind) (rest bytes : List ℕ) (r : Option Frame) → kind_byte kind ∷ rest ≡ bytes
    → MatchOption r (NoneOfLength (kind_byte kind) (length (kind_byte kind ∷ rest))) (λ f. bytes_of f ≡ kind_byte kind ∷ rest)
    → Means bytes (ok_or r (WrongLength (kind_byte kind)))
means_of_kind _ rest bytes (Some f) same e = e ∙ same
means_of_kind kind rest bytes None same none =
    let (g, of_kind) = frame_of_each_kind kind in
    ((rest, same), (g, ap kind_byte of_kind), λ f is other. none f is (other ∙ ap length (sym same)))
