use Rattle.std.proofs.Common.{take}
use Rattle.program.specs.Order.{IsFirstOrNone}
use Rattle.type_check.specs.Split.{OneAt, StructBreaks}
use Rattle.type_check.proofs.code.faults.struct_fault.Given as goal

abbrev pub invariant-loop-number : goal.invariant-loop-number
invariant-loop-number l = IsFirstOrNone (OneAt (λ d. d.1.span) (λ d. StructBreaks l.program d.1) (take l.number l.program.structs)) l.found
