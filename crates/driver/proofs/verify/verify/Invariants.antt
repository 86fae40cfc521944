use Rattle.std.proofs.Common.{take}
use Rattle.base.specs.Pairs.{Paired}
use Rattle.driver.specs.Verified.{functions_of, IsRecordIn}
use Rattle.driver.proofs.verify.verify.Given as goal

abbrev pub invariant-loop-module : goal.invariant-loop-module
invariant-loop-module g l = Paired (IsRecordIn l.files) (functions_of (take l.module-index l.program)) l.functions.items
