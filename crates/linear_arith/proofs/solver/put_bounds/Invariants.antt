use Rattle.linear_arith.specs.Bounds.{AreNonzero, AreWithinReach}
use Rattle.linear_arith.proofs.BoundsPutLemmas.{ArePut}
use Rattle.linear_arith.proofs.solver.put_bounds.Given as goal

abbrev pub invariant-loop-made : goal.invariant-loop-made
invariant-loop-made l = record {
  nonzero : AreNonzero l.bounds.items;
  reached : AreWithinReach l.bounds.items;
  put : ArePut l.rows l.values l.unknown l.fn.bounds.items l.made-index l.bounds.items;
}
