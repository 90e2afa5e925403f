use Rattle.std.proofs.Common.{ℕ, List}
use Rattle.frames.proofs.Decoding.{DecodedFirst}
use Rattle.frames.proofs.frame.decode.Given as goal

-- the pairs so far are bytes, and the first of these are held
abbrev pub invariant-loop-high : goal.invariant-loop-high
invariant-loop-high l = (bytes : List ℕ) × DecodedFirst l.line l.high-index bytes l.bytes.items
