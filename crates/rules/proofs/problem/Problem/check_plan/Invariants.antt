use Rattle.std.proofs.Common.{map, take}
use Rattle.rules.specs.Planning.{place_without, Walk}
use Rattle.rules.proofs.problem.Problem.check_plan.Given as goal

-- the places so far were walked
abbrev pub invariant-loop-i : goal.invariant-loop-i
invariant-loop-i l =
    Walk (map (place_without l.gone) l.table) l.initial.walk.standing.now.facts (take l.i l.places) l.walk.standing.now.facts
