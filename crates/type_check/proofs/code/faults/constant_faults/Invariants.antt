use Rattle.std.proofs.Common.{take}
use Rattle.type_check.specs.CodeFaults.{AreFaults}
use Rattle.type_check.specs.Split.{ConstantBreaks, ConstantIsOpen, OneAt}
use Rattle.type_check.proofs.code.faults.constant_faults.Given as goal

abbrev pub invariant-loop-number : goal.invariant-loop-number
invariant-loop-number l =
    AreFaults (OneAt (λ d. d.1.span) (λ d. ConstantBreaks l.program d.1) (take l.number l.program.constants))
    (OneAt (λ d. d.1.span) (λ d. ConstantIsOpen l.program d.1) (take l.number l.program.constants)) l.faults
