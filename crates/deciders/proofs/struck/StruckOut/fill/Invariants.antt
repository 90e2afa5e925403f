use Rattle.std.proofs.Common.{◌≡◌, ◌≤◌, ◌++◌}
use Rattle.arrayvec.specs.ArrayVec.{array_vec_len}
use Rattle.deciders.proofs.Actions.{actions_from}
use Rattle.deciders.proofs.struck.StruckOut.fill.Given as goal

abbrev pub invariant-loop-place : goal.invariant-loop-place
invariant-loop-place l = record {
  standing : l.self.standing ≡ l.initial.self.standing;
  order : l.self.order ≡ l.initial.self.order;
  few : array_vec_len l.self.actions ≤ l.place;
  same : l.self.actions.items ++ actions_from l.gone l.content-items l.place ≡ actions_from l.gone l.content-items 0;
}
