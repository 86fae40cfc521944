use Rattle.axiom_instances.specs.Lists.{Adds}
use Rattle.axiom_instances.specs.Numbers.{term_at, type_at}
use Rattle.axiom_instances.specs.StructRows.{upto}
use Rattle.axiom_instances.specs.FieldTypedRows.{typed_rows}
use Rattle.axiom_instances.proofs.struct_axioms.field_typed.ask_field_types.Given as goal

abbrev pub invariant-loop-field : goal.invariant-loop-field
invariant-loop-field l =
    Adds l.fn.pool l.pool l.fn.list.items.items l.list.items.items (upto (typed_rows l.fn.pool (type_at l.fn.pool l.of) (term_at l.fn.pool l.term) l.types) l.field)
