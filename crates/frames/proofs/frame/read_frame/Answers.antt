use Rattle.std.proofs.Common.{ℕ, List, ◌∙◌, subst}
use Rattle.frames.specs.Frames.{Means}
use Rattle.frames.proofs.Decoding.{reads_from}
use Rattle.frames.proofs.frame.read_frame.Goals as goal

pub returns : goal.returns
returns c =
    let decoded = rw c.in_ok-bytes.ensures.ok_part at c.decode.ensures in
    reads_from c.args.line.now decoded.0 decoded.1 c.frame_of.result
    (subst (λ (bytes : List ℕ). Means bytes c.frame_of.result) (c.deref.ensures.0 ∙ decoded.2) c.frame_of.ensures)
