use Rattle.std.proofs.Common.{◌≤◌, ◌+◌, ◌*◌, length, drop}
use Rattle.base.specs.TypeData.{type_size, types_size, types_of}
use Rattle.term_pool.specs.Items.{TypesItem}
use Rattle.term_pool.specs.Pools.{IsItem, Extends}
use Rattle.term_pool.proofs.interning.+types.Given as goal

abbrev pub invariant-intern_types-loop-rest : goal.invariant-intern_types-loop-rest
invariant-intern_types-loop-rest l = record {
  extends : Extends l.fn.pool l.pool;
  list : IsItem l.pool l.list (TypesItem (types_of (drop l.rest l.types)));
  within : l.rest ≤ length l.types;
}

abbrev pub decreases-intern_types-loop-rest : goal.decreases-intern_types-loop-rest
decreases-intern_types-loop-rest l = l.rest

abbrev pub decreases-intern_type : goal.decreases-intern_type
decreases-intern_type l = 2 * type_size l.of.now

abbrev pub decreases-intern_types : goal.decreases-intern_types
decreases-intern_types l = 2 * types_size (types_of l.types.now)

abbrev pub decreases-intern_type_part : goal.decreases-intern_type_part
decreases-intern_type_part l = 2 * type_size l.a.now + 1

abbrev pub decreases-intern_struct : goal.decreases-intern_struct
decreases-intern_struct l = 2 * types_size (types_of l.ts.now) + 1

abbrev pub decreases-intern_tuple : goal.decreases-intern_tuple
decreases-intern_tuple l = 2 * types_size (types_of l.ts.now) + 1
