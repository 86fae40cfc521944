use Rattle.std.proofs.Common.{◌≡◌, length}
use Rattle.body_types.specs.KnownTypes.{TellsRuns, known_type}
use Rattle.body_types.proofs.constants.initialiser.values_of.Given as goal

abbrev pub invariant-loop-index : goal.invariant-loop-index
invariant-loop-index l = record {
  len : length l.values.items ≡ l.index;
  runs : TellsRuns l.values.items l.body.nodes (known_type l.pool l.types);
}
