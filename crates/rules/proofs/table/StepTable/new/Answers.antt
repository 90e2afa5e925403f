use Rattle.std.proofs.Common.{None, refl}
use Rattle.std.specs.Prelude.{IfSome}
use Rattle.std.proofs.lemmas.List.Elements.{All-replicate}
use Rattle.rules.specs.Steps.{IsClear}
use Rattle.rules.proofs.table.StepTable.new.Goals as goal

pub invariant_of-result : goal.invariant_of-result
invariant_of-result c = (refl, All-replicate (λ o. IfSome o IsClear) 64 None tt)

pub returns-clause-clear : goal.returns-clause-clear
returns-clause-clear c = All-replicate (λ o. IfSome o IsClear) 64 None tt
