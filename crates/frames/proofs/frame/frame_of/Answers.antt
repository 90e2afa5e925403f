use Rattle.std.proofs.Common.{◌≡◌, ℕ, List, ◌∷◌, length, ok_or, sym, ap, ◌∙◌, subst, rules}
use Rattle.frames.specs.declared.frame.FrameFault.TheVariants.{WrongLength}
use Rattle.frames.specs.Frames.{Means}
use Rattle.std.specs.List.{between}
use Rattle.std.proofs.lemmas.Slice.{first_rest}
use Rattle.frames.specs.Kinds.{kind_byte}
use Rattle.frames.proofs.Lengths.{means_of_kind}
use Rattle.frames.proofs.frame.frame_of.Goals as goal

pub returns : goal.returns
returns c =
    let bytes = c.args.bytes.now in
    let rest : List ℕ = between 1 (length bytes) bytes in
    let begins : kind_byte c.in_ok-kind.kind ∷ rest ≡ bytes =
    ap (λ (byte : ℕ). byte ∷ rest) c.in_ok-kind.ensures ∙ sym (first_rest bytes 0 (search rules)) in
    rw c.ok_or.ensures.value
    (subst (λ (byte : ℕ). Means bytes (ok_or c.frame_of_kind.result (WrongLength byte))) c.in_ok-kind.ensures
    (means_of_kind c.in_ok-kind.kind rest bytes c.frame_of_kind.result begins c.frame_of_kind.ensures))
