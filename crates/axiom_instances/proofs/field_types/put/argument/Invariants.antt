use Rattle.std.proofs.Common.{◌≡◌}
use Rattle.std.specs.Prelude.{slice_get}
use Rattle.axiom_instances.specs.Puts.{types_at, IsTypesNumber}
use Rattle.axiom_instances.proofs.field_types.put.argument.Given as goal

abbrev pub invariant-loop-first : goal.invariant-loop-first
invariant-loop-first l = record {
  list : IsTypesNumber l.pool l.rest;
  same : slice_get (types_at l.pool l.rest) l.before ≡ slice_get (types_at l.pool l.list) l.number;
}

abbrev pub decreases-loop-first : goal.decreases-loop-first
decreases-loop-first l = l.rest
