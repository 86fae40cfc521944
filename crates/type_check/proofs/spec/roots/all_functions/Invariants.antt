use Rattle.std.proofs.Common.{take}
use Rattle.type_check.specs.Roots.{IsOfFunction, OfSome, TellsOf}
use Rattle.type_check.proofs.spec.roots.all_functions.Given as goal

abbrev pub invariant-loop-number : goal.invariant-loop-number
invariant-loop-number l = TellsOf l.program (OfSome (IsOfFunction l.program) (take l.number l.program.functions)) l.judged.items
