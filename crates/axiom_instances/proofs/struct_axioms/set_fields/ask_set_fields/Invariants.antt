use Rattle.axiom_instances.specs.Lists.{Adds}
use Rattle.axiom_instances.specs.Numbers.{term_at, type_at}
use Rattle.axiom_instances.specs.SetFieldRows.{set_field_rows}
use Rattle.axiom_instances.proofs.struct_axioms.set_fields.ask_set_fields.Given as goal

abbrev pub invariant-loop-other : goal.invariant-loop-other
invariant-loop-other l =
    Adds l.fn.pool l.pool l.fn.list.items.items l.list.items.items (set_field_rows (type_at l.fn.pool l.set.of) l.set.field (term_at l.fn.pool l.set.before) (term_at l.fn.pool l.set.value) l.other)
