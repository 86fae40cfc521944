use Rattle.definite_assignment.proofs.Gathering.{HaveFirst}
use Rattle.definite_assignment.proofs.whole_program.states.program_states.Given as goal

abbrev pub invariant-loop-number : goal.invariant-loop-number
invariant-loop-number l = HaveFirst l.program l.states.items l.number
