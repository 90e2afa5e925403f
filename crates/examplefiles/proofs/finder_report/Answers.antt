use Rattle.std.proofs.Common.{rules, ◌≡◌, ℕ, List, [], ◌++◌, Some, Option, subst, ap, sym}
use Rattle.console.specs.Fresh.{ServesCaseFile}
use Rattle.examplefiles.proofs.finder_report.Goals as goal

pub returns : goal.returns
returns c =
    let output = c.in_ok-output.output in
    let before = Some (output.inner.items ++ output.buf.items) in
    let empty : before ≡ Some [] = search rules in
    let kept = subst (λ (o : Option (List ℕ)). ServesCaseFile c.args.text.now before o)
    (ap Some (sym c.in_ok-into_inner.ensures.ok)) c.in_ok-serve_case_file.ensures.serves in
    subst (λ (o : Option (List ℕ)). ServesCaseFile c.args.text.now o (Some c.in_ok-into_inner.field-0.items)) empty kept
