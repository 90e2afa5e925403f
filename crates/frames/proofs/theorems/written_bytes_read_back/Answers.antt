use Rattle.frames.specs.Digits.{digits_of}
use Rattle.frames.proofs.Spelling.{spells_digits, spells_unique}
use Rattle.frames.proofs.theorems.written_bytes_read_back.Goals as goal

pub returns : goal.returns
returns c bytes small =
    let spelled = spells_digits bytes small in
    (spelled, λ others other. spells_unique (digits_of bytes) others bytes other spelled)
