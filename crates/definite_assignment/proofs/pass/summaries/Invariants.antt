use Rattle.std.proofs.Common.{◌≡◌, take, length}
use Rattle.typing_rules.specs.Pieces.{pieces}
use Rattle.definite_assignment.specs.Summaries.{AllStand}
use Rattle.definite_assignment.proofs.pass.summaries.Given as goal

abbrev pub invariant-loop-index : goal.invariant-loop-index
invariant-loop-index l = record {
  stand : AllStand l.base l.found.items (pieces l.types (take l.index l.body.nodes));
  count : length l.found.items ≡ l.index;
}
