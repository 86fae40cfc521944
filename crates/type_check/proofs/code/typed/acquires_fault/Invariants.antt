use Rattle.std.proofs.Common.{take}
use Rattle.program.specs.Order.{IsFirstOrNone}
use Rattle.typing_rules.specs.Acquires.{LacksAcquires}
use Rattle.type_check.specs.Split.{OneAt}
use Rattle.type_check.proofs.code.typed.acquires_fault.Given as goal

abbrev pub invariant-loop-number : goal.invariant-loop-number
invariant-loop-number l = IsFirstOrNone (OneAt (λ d. d.1.span) (λ d. LacksAcquires l.program d.0 d.1) (take l.number l.program.functions)) l.found
