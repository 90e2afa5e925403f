use Rattle.frames.proofs.Determined.{one_reading}
use Rattle.frames.proofs.theorems.lines_say_one_thing.Goals as goal

pub returns : goal.returns
returns c = one_reading
