use Rattle.std.proofs.Common.{◌≡◌, length, ◌∙◌, arith, rules}
use Rattle.frames.specs.Numbers.{half_bytes}
use Rattle.frames.proofs.Words.{word_from_be, half_from_be}
use Rattle.frames.proofs.report.write_found.Goals as goal

pub returns-clause-printed : goal.returns-clause-printed
returns-clause-printed c few =
    let count = length c.args.places.now in
    let word = c.to_be_bytes.ensures ∙ word_from_be c.args.facts (omega arith) in
    let counted : c.in_ok-count.count ≡ count = search rules in
    let shown = half_from_be count few in
    let half : c.to_be_bytes-2.result ≡ half_bytes count = cc in
    rw (word, half, c.from.ensures) at c.write_line.ensures
