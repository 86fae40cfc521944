use Rattle.definite_assignment.specs.Tables.{IsUnreached}
use Rattle.definite_assignment.proofs.points.no_states.Given as goal

abbrev pub invariant-loop : goal.invariant-loop
invariant-loop l = IsUnreached l.counter l.table.items
