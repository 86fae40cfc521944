use Rattle.std.proofs.Common.{◌≡◌, length, take}
use Rattle.type_constraints.specs.CodeKnown.{TellsLoops}
use Rattle.type_constraints.proofs.code.loops.loops_of.Given as goal

abbrev pub invariant-loop-index : goal.invariant-loop-index
invariant-loop-index l = record {
  len : length l.known.items ≡ length l.body.nodes;
  known : TellsLoops l.known.items l.body.nodes (take l.index l.body.nodes);
}
