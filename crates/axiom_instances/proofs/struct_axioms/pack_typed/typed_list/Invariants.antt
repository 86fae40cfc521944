use Rattle.std.proofs.Common.{◌≤◌, length}
use Rattle.term_pool.specs.Pools.{Extends}
use Rattle.axiom_instances.proofs.TypedListLemmas.{IsTypedBehind}
use Rattle.axiom_instances.proofs.struct_axioms.pack_typed.typed_list.Given as goal

abbrev pub invariant-loop-rest : goal.invariant-loop-rest
invariant-loop-rest l = record {
  extends : Extends l.fn.pool l.pool;
  within : l.rest ≤ length l.parts;
  behind : IsTypedBehind l.fn.pool l.pool l.types l.parts l.rest l.list;
}

abbrev pub decreases-loop-rest : goal.decreases-loop-rest
decreases-loop-rest l = l.rest
