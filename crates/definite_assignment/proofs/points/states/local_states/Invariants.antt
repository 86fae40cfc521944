use Rattle.std.proofs.Common.{◌≡◌, ◌*◌, ℕ, List, length, Some}
use Rattle.std.specs.Prelude.{slice_get}
use Rattle.definite_assignment.specs.declared.outcome.Ends.{Ends}
use Rattle.definite_assignment.specs.PointsStates.{TellsFrom}
use Rattle.definite_assignment.proofs.points.states.local_states.Given as goal

abbrev pub invariant-loop-group : goal.invariant-loop-group
invariant-loop-group l = record {
  count : length l.groups.items ≡ l.group;
  each : (g : ℕ) (table : List Ends) → slice_get l.groups.items g ≡ Some table → TellsFrom (record { types = l.types; parameters = l.parameters; nodes = l.body.nodes }) (g * 64) table;
}
