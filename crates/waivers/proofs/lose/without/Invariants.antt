use Rattle.std.proofs.Common.{◌≡◌, take}
use Rattle.waivers.specs.Changes.{groups_without}
use Rattle.waivers.proofs.lose.without.Given as goal

abbrev pub invariant-loop-group : goal.invariant-loop-group
invariant-loop-group l = l.left.items ≡ groups_without l.set (take l.group-index l.groups)
