use Rattle.std.proofs.Common.{take}
use Rattle.term_pool.specs.Pools.{Extends}
use Rattle.axiom_instances.specs.Puts.{types_at}
use Rattle.axiom_instances.specs.FieldTypes.{ArePutResults}
use Rattle.axiom_instances.proofs.field_types.fields.put_in_all.Given as goal

abbrev pub invariant-loop-field : goal.invariant-loop-field
invariant-loop-field l = record {
  extends : Extends l.fn.pool l.pool;
  results : ArePutResults l.pool (types_at l.fn.pool l.args) (take l.field-index l.fields) l.found.items;
}
