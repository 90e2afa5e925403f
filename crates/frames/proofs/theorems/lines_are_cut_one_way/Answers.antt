use Rattle.frames.proofs.Cuts.{one_cut}
use Rattle.frames.proofs.theorems.lines_are_cut_one_way.Goals as goal

pub returns : goal.returns
returns c = one_cut
