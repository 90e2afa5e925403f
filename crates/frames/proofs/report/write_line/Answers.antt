use Rattle.std.proofs.Common.{ℕ, ◌++◌, Option, sym, refl, subst, arith}
use Rattle.frames.specs.Reports.{Printed}
use Rattle.frames.proofs.ReportLines.{length_line_of, line_printed}
use Rattle.frames.proofs.report.write_line.Goals as goal

pub returns-in_err-end : goal.returns-in_err-end
returns-in_err-end c =
    let head = c.args.head.now in
    let tail = c.args.tail.now in
    let buffer = c.args.buffer.now in
    subst (λ (r : Option ℕ). Printed (head ++ tail) buffer buffer r) (sym c.from_residual.ensures)
    (omega (arith, length_line_of head tail, c.in_err-end.ensures), refl)

pub returns-then-buffer-end : goal.returns-then-buffer-end
returns-then-buffer-end c = (omega (arith, length_line_of c.args.head.now c.args.tail.now, c.in_ok-end.ensures), refl)

pub returns : goal.returns
returns c =
    line_printed c.args.head.now c.args.tail.now c.args.buffer.now c.put_digits.new.digits c.put_digits-2.new.digits c.in_ok-end.end
    c.put_digits.ensures c.put_digits-2.ensures (omega (arith, c.in_ok-end.ensures)) (omega arith)
