use Rattle.std.proofs.Common.{take}
use Rattle.front_end.specs.Numbered.{Each}
use Rattle.front_end.specs.LocalCounts.{HasFewLocals}
use Rattle.front_end.proofs.locals.check_locals.Given as goal

abbrev pub invariant-loop-number : goal.invariant-loop-number
invariant-loop-number l = Each HasFewLocals 0 (take l.number l.sources)
