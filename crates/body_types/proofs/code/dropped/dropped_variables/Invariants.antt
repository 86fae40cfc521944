use Rattle.std.proofs.Common.{◌≡◌, ◌<◌, All, flat_map, take}
use Rattle.typing_rules.specs.CodeSystems.{dropped_by}
use Rattle.body_types.proofs.code.dropped.dropped_variables.Given as goal

abbrev pub invariant-loop-index : goal.invariant-loop-index
invariant-loop-index l = record {
  are : l.dropped.items ≡ flat_map dropped_by (take l.index l.body.nodes);
  within : All (λ p. p < l.index) l.dropped.items;
}
