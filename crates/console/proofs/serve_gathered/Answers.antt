use Rattle.std.proofs.Common.{◌≡◌, Err, rules}
use Rattle.casefile.specs.declared.fault.ServeFault.TheVariants as serve_fault
use Rattle.casefile.proofs.Chains.{unflushed}
use Rattle.console.proofs.serve_gathered.Goals as goal

pub returns-in_err-flush-clause-serves : goal.returns-in_err-flush-clause-serves
returns-in_err-flush-clause-serves g c =
    let (position, lines, served) = c.in_ok-serve_text.ensures.serves in
    let failed : c.from_residual-in_err-flush.result ≡ Err (serve_fault.Output c.in_err-flush.field-0.0) = search rules in
    (position, lines, rw failed (unflushed _ _ _ _ _ _ _ _ _ served))
