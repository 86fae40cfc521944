use Rattle.axiom_instances.proofs.ListLemmas.{lists_all}
use Rattle.axiom_instances.proofs.struct_axioms.field_typed.axioms_of_field_types.Goals as goal

pub returns-clause-all : goal.returns-clause-all
returns-clause-all c =
    let all = c.in_ok-ask_typed_fields.ensures.adds in lists_all c.new.ensures.items all.adds all.exactly
