use Rattle.term_pool.specs.Pools.{Extends}
use Rattle.axiom_instances.specs.Numbers.{term_at, type_at}
use Rattle.axiom_instances.proofs.PackedLemmas.{IsBehind}
use Rattle.axiom_instances.proofs.struct_axioms.packed.field_list.Given as goal

abbrev pub invariant-loop-rest : goal.invariant-loop-rest
invariant-loop-rest l = record {
  extends : Extends l.fn.pool l.pool;
  behind : IsBehind l.pool (type_at l.fn.pool l.of) (term_at l.fn.pool l.term) l.count l.rest l.list;
}

abbrev pub decreases-loop-rest : goal.decreases-loop-rest
decreases-loop-rest l = l.rest
