use Rattle.std.proofs.Common.{take}
use Rattle.typing_rules.specs.Events.{Unassigned, Undropped}
use Rattle.program.specs.Order.{IsFirstOrNone}
use Rattle.definite_assignment.specs.Flow.{BreaksAmong}
use Rattle.definite_assignment.proofs.whole_program.flow.flow_fault.Given as goal

abbrev pub invariant-loop-number : goal.invariant-loop-number
invariant-loop-number l = record {
  unassigned : IsFirstOrNone (BreaksAmong l.program Unassigned (take l.number l.program.functions)) l.unassigned;
  undropped : IsFirstOrNone (BreaksAmong l.program Undropped (take l.number l.program.functions)) l.undropped;
}
