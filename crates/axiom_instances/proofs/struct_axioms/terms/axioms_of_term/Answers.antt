use Rattle.axiom_instances.proofs.StructAxiomsNumberLemmas.{plain_form}
use Rattle.axiom_instances.proofs.struct_axioms.terms.axioms_of_term.Goals as goal

pub axioms_of_plain_term-requires : goal.axioms_of_plain_term-requires
axioms_of_plain_term-requires c =
    plain_form c.args.pool.now c.args.term c.term_form.result c.term_form.ensures c.in_default.not-Pack c.in_default.not-SetField
