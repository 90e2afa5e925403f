use Rattle.frames.specs.Frames.{bytes_of}
use Rattle.frames.proofs.Spelling.{spells_digits}
use Rattle.frames.proofs.theorems.written_frames_read_back.Goals as goal

pub returns : goal.returns
returns c f small = spells_digits (bytes_of f) small
