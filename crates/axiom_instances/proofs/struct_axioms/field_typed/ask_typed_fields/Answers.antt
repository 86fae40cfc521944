use Rattle.axiom_instances.specs.Numbers.{type_at}
use Rattle.axiom_instances.proofs.NumberLemmas.{number_stays}
use Rattle.axiom_instances.proofs.StructAxiomsNumberLemmas.{type_stays}
use Rattle.axiom_instances.proofs.FieldTypedLemmas.{all_found, few_types}
use Rattle.axiom_instances.proofs.FieldRowLemmas.{fields_added, fields_none}
use Rattle.axiom_instances.proofs.struct_axioms.field_typed.ask_typed_fields.Goals as goal

pub ask_field_types-requires-clause-of : goal.ask_field_types-requires-clause-of
ask_field_types-requires-clause-of c = type_stays c.field_types.ensures.extends c.requires.of

pub ask_field_types-requires-clause-term : goal.ask_field_types-requires-clause-term
ask_field_types-requires-clause-term c = number_stays c.field_types.ensures.extends c.requires.term

pub ask_field_types-requires-clause-found : goal.ask_field_types-requires-clause-found
ask_field_types-requires-clause-found c =
    let types = rw c.in-Some.is at c.in_ok-types.ensures.are in rw c.as_slice.ensures.value (all_found types.results)

pub ask_field_types-requires-clause-few : goal.ask_field_types-requires-clause-few
ask_field_types-requires-clause-few c =
    rw c.as_slice.ensures.value (few_types c.args.shapes.now (type_at c.args.pool.now c.args.of) c.in-Some.types.items c.requires.few (rw c.in-Some.is at c.in_ok-types.ensures.are))

pub returns-in_ok-ask_field_types-in-Some-clause-adds : goal.returns-in_ok-ask_field_types-in-Some-clause-adds
returns-in_ok-ask_field_types-in-Some-clause-adds c =
    fields_added c.args.shapes.now c.field_types.ensures.extends c.args.of c.args.term c.in-Some.types.items c.requires.of c.requires.term (rw c.in-Some.is at c.in_ok-types.ensures.are) (rw c.as_slice.ensures.value at c.in_ok-ask_field_types-in-Some.ensures.adds)

pub returns-in-None-clause-adds : goal.returns-in-None-clause-adds
returns-in-None-clause-adds c =
    fields_none c.args.shapes.now c.field_types.ensures.extends c.args.of c.args.term _ (rw c.in-None.is at c.in_ok-types.ensures.are)
