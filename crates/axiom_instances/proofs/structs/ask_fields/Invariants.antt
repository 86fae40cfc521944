use Rattle.fol.specs.FormulaData.{list_of_terms}
use Rattle.axiom_instances.specs.Lists.{Adds}
use Rattle.axiom_instances.specs.Numbers.{term_at, terms_at, type_at}
use Rattle.axiom_instances.specs.StructRows.{upto, field_rows}
use Rattle.axiom_instances.proofs.structs.ask_fields.Given as goal

abbrev pub invariant-loop-k : goal.invariant-loop-k
invariant-loop-k l =
    Adds l.fn.pool l.pool l.fn.list.items.items l.list.items.items (upto (field_rows (type_at l.fn.pool l.of) (term_at l.fn.pool l.term) (list_of_terms (terms_at l.fn.pool l.parts))) l.k)
