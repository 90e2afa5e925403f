use Rattle.std.proofs.Common.{length, ◌-◌}
use Rattle.casefile.specs.Desks.{KeepsLoans, KeepsReach, stage_at}
use Rattle.casefile.proofs.Chains.{Progress}
use Rattle.casefile.proofs.texts.serve_text.Given as goal

abbrev pub invariant-lines : goal.invariant-lines
invariant-lines g l = record {
  same : KeepsLoans l.fn.desk l.desk;
  reach : KeepsReach g.D.Decider.reach l.fn.desk l.desk;
  progress :
      Progress (g.P.Picker.choice l.fn.desk.picker.now) g.D.Decider.reach g.D.Decider.MARK l.text (length l.fn.buffer) (stage_at 0 0 l.fn.desk)
      (stage_at l.reading.position l.reading.lines l.desk) (g.W.Write.contents l.fn.output) (g.W.Write.contents l.output);
}

abbrev pub decreases-lines : goal.decreases-lines
decreases-lines g l = length l.text - l.reading.position
