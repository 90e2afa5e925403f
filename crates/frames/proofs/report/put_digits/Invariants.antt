use Rattle.std.proofs.Common.{◌≡◌, ◌*◌, take}
use Rattle.frames.specs.Digits.{digits_of}
use Rattle.frames.proofs.report.put_digits.Given as goal

-- the digits so far are written
abbrev pub invariant-loop-i : goal.invariant-loop-i
invariant-loop-i l = take (2 * l.i) l.digits ≡ digits_of (take l.i l.bytes)
