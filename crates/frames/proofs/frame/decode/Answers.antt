use Rattle.std.proofs.Common.{◌/◌, [], ◌∷◌, ◌++◌, length, get_or, arith, rules}
use Rattle.frames.specs.Digits.{PairAt}
use Rattle.frames.proofs.Decoding.{pair_at, held_more, held_full}
use Rattle.frames.proofs.frame.decode.Goals as goal
use Rattle.frames.proofs.frame.decode.Goals.{then-not-is_full, else-not-is_full}

pub returns-in_err-byte : goal.returns-in_err-byte
returns-in_err-byte c =
    let line = c.args.line.now in
    let i = c.loop-high.high-index in
    let at = pair_at line c.as_chunks.result.0.now (length line / 2) i c.as_chunks.ensures.front (omega arith) in
    rw c.from_residual.ensures
    (λ bytes spelled. c.in_err-byte.ensures (get_or bytes i 0) (rw (at.0, at.1) (spelled.1 i (omega arith))))

pub loop-high-preserved : goal.loop-high-preserved
loop-high-preserved c =
    let line = c.args.line.now in
    let i = c.loop-high.high-index in
    let byte = c.in_ok-byte.byte in
    let bytes = c.loop-high.invariant.0 in
    let held = c.loop-high.bytes.items in
    let so_far = c.loop-high.invariant.1 in
    let at = pair_at line c.as_chunks.result.0.now (length line / 2) i c.as_chunks.ensures.front (omega arith) in
    let pair : PairAt line i byte = rw (at.0, at.1) at c.in_ok-byte.ensures in
    elim c.if-not-is_full.branch [
      | then-not-is_full w ↦ (bytes ++ byte ∷ [], rw w.bytes-is (rw w.push.ensures.items (held_more line bytes held i byte so_far pair (search rules))))
      | else-not-is_full w ↦ (bytes ++ byte ∷ [], rw w.bytes-is (held_full line bytes held i byte so_far pair (search rules)))
    ]
