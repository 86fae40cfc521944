use Rattle.std.proofs.Common.{◌≡◌, length}
use Rattle.program.specs.Trees.{trees}
use Rattle.type_constraints.specs.CodeKnown.{TellsSizes}
use Rattle.type_constraints.proofs.code.loops.sizes_of.Given as goal

abbrev pub invariant-loop-index : goal.invariant-loop-index
invariant-loop-index l = record {
  len : length l.known.items ≡ l.index;
  known : TellsSizes l.known.items (trees l.body.nodes);
}
