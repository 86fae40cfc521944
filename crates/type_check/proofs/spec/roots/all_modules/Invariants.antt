use Rattle.std.proofs.Common.{take}
use Rattle.type_check.specs.Roots.{IsOfModule, OfSome, TellsOf}
use Rattle.type_check.proofs.spec.roots.all_modules.Given as goal

abbrev pub invariant-loop-number : goal.invariant-loop-number
invariant-loop-number l = TellsOf l.program (OfSome (IsOfModule l.program) (take l.number l.program.modules)) l.judged.items
