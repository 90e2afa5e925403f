use Rattle.std.proofs.Common.{◌+◌, ◌≤◌, length, vec_items, vec_capacity}
use Rattle.std.specs.Vec.Iter.{into_iter_len}
use Rattle.cases.proofs.Recording.{Running}
use Rattle.cases.proofs.running.run.Given as goal

-- the calls so far were made as their contracts say, and there is room for the answers to come
abbrev pub invariant-loop-call : goal.invariant-loop-call
invariant-loop-call g l = record {
  running : Running (g.P.Picker.choice l.initial.picker) g.D.Decider.reach g.D.Decider.MARK l.initial.decider l.yielded (vec_items l.answers)
      l.decider l.case l.slip;
  room : length l.yielded + into_iter_len l.call-iterator ≤ vec_capacity l.answers;
}
