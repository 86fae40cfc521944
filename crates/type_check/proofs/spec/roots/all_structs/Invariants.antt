use Rattle.std.proofs.Common.{take}
use Rattle.type_check.specs.Roots.{IsOfStruct, OfSome, TellsOf}
use Rattle.type_check.proofs.spec.roots.all_structs.Given as goal

abbrev pub invariant-loop-number : goal.invariant-loop-number
invariant-loop-number l = TellsOf l.program (OfSome (IsOfStruct l.program) (take l.number l.program.structs)) l.judged.items
