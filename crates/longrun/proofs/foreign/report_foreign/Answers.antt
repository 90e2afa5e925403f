use Rattle.std.proofs.Common.{sym, subst}
use Rattle.cases.specs.Slips.{Accepts}
use Rattle.std.proofs.lemmas.Bool.{false≢true}
use Rattle.longrun.proofs.foreign.report_foreign.Goals as goal

-- what was drawn of a case and came back from another is the slip that it takes
pub unreachable-requires : goal.unreachable-requires
unreachable-requires c =
    let own = c.draw.new.self in
    let back = subst (Accepts own.plain) (sym c.in-Err-brought.ensures.back) c.in-Ok.ensures.accepted in
    false≢true (rw c.in_default-signed.is at (c.sign-signed.ensures.accepted back))
