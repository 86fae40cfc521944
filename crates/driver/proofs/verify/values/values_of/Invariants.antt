use Rattle.std.proofs.Common.{take}
use Rattle.base.specs.Pairs.{Paired}
use Rattle.driver.specs.OpenValues.{IsParameterValue}
use Rattle.driver.proofs.verify.values.values_of.Given as goal

abbrev pub invariant-loop-name : goal.invariant-loop-name
invariant-loop-name l = Paired (IsParameterValue l.pool l.values l.parameters) (take l.name-index l.parameters) l.found.items
