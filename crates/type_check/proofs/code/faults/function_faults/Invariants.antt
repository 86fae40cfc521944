use Rattle.std.proofs.Common.{take}
use Rattle.type_check.specs.CodeFaults.{AreFaults}
use Rattle.type_check.specs.Split.{FunctionBreaks, FunctionIsOpen, OneAt}
use Rattle.type_check.proofs.code.faults.function_faults.Given as goal

abbrev pub invariant-loop-number : goal.invariant-loop-number
invariant-loop-number l =
    AreFaults (OneAt (λ d. d.1.span) (λ d. FunctionBreaks l.program d.0 d.1) (take l.number l.program.functions))
    (OneAt (λ d. d.1.span) (λ d. FunctionIsOpen l.program d.0 d.1) (take l.number l.program.functions)) l.faults
