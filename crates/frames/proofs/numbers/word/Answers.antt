use Rattle.std.proofs.Common.{rules}
use Rattle.frames.proofs.Words.{word_front}
use Rattle.frames.proofs.numbers.word.Goals as goal

pub returns : goal.returns
returns c =
    let cut = c.in_ok-word.ensures.cases in
    word_front c.args.bytes.now c.in_ok-word.word.now c.in_ok-word.rest.now c.from_be_bytes.result cut.0 cut.1
    (search rules) (λ i. search rules) (search rules) (search rules)
