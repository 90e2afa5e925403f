use Rattle.std.proofs.Common.{◌≡◌, Some, ap, ◌∙◌, arith}
use Rattle.frames.specs.declared.report.Added.TheVariants.{Set, SetAndMark}
use Rattle.frames.specs.Numbers.{word_bytes}
use Rattle.frames.proofs.Words.{word_from_be, half_from_be}
use Rattle.frames.proofs.report.write_refused.Goals as goal

pub returns-in-Some-Set : goal.returns-in-Some-Set
returns-in-Some-Set c =
    let r = c.args.refused.now in
    let half = c.to_be_bytes.ensures ∙ half_from_be r.line (omega arith) in
    let shown = word_from_be c.in-Some-Set.facts (omega arith) in
    let word : c.to_be_bytes-in-Some-Set.result ≡ word_bytes c.in-Some-Set.facts = cc in
    let some = c.in-Some-Set.is in
    let added : r.added ≡ Some (Set c.in-Some-Set.facts) = some ∙ ap Some (rw some at c.in-Some-Set.field-0-is) in
    rw added (rw (half, word) at c.write_line-in-Some-Set.ensures)

pub returns-in-Some-SetAndMark : goal.returns-in-Some-SetAndMark
returns-in-Some-SetAndMark c =
    let r = c.args.refused.now in
    let facts = c.in-Some-SetAndMark.facts in
    let half = c.to_be_bytes.ensures ∙ half_from_be r.line (omega arith) in
    let word = c.to_be_bytes-in-Some-SetAndMark.ensures ∙ word_from_be facts (omega arith) in
    let some = c.in-Some-SetAndMark.is in
    let added : r.added ≡ Some (SetAndMark facts c.in-Some-SetAndMark.mark) = some ∙ ap Some (rw some at c.in-Some-SetAndMark.field-0-is) in
    rw added (rw (half, word) at c.write_line-in-Some-SetAndMark.ensures)
