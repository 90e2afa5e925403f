use Rattle.std.proofs.Common.{rules, arith}
use Rattle.casefile.proofs.Reports.{always_room, short_reply}
use Rattle.casefile.proofs.reading.Reading.next.Goals as goal

pub returns-in_err-length : goal.returns-in_err-length
returns-in_err-length g c =
    let unwritten = rw c.in_err-length.ensures.ok_part at c.report.ensures in
    absurd (always_room _ _ _ (search (rules, short_reply)) (omega arith) unwritten)
