use Rattle.std.proofs.Common.{◌≡◌, ◌+◌, ◌<◌, ℕ, Bool, length, ◌↔◌}
use Rattle.typing_rules.specs.Pieces.{pieces}
use Rattle.typing_rules.specs.LocalRules.{Comes}
use Rattle.definite_assignment.specs.Tables.{begun}
use Rattle.definite_assignment.proofs.Passing.{Known}
use Rattle.definite_assignment.proofs.points.states_from.Given as goal

abbrev pub invariant-loop-index : goal.invariant-loop-index
invariant-loop-index l = record {
  same : length l.table.items ≡ length l.body.nodes;
  known : (i n : ℕ) (state : Bool) → i < 64 → Known (l.base + i) (begun l.table.items i) (pieces l.types l.body.nodes) l.index n state ↔ Comes (record { types = l.types; parameters = l.parameters; nodes = l.body.nodes }) (l.base + i) n state;
}
