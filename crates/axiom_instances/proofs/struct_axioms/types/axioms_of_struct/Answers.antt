use Rattle.term_pool.proofs.GrowthLemmas.{extends_then}
use Rattle.axiom_instances.proofs.NumberLemmas.{number_stays}
use Rattle.axiom_instances.proofs.StructAxiomsNumberLemmas.{type_stays}
use Rattle.axiom_instances.proofs.TypedTermLemmas.{struct_lists}
use Rattle.axiom_instances.proofs.struct_axioms.types.axioms_of_struct.Goals as goal

pub ask_typed_fields-requires-clause-of : goal.ask_typed_fields-requires-clause-of
ask_typed_fields-requires-clause-of c = type_stays c.ask_packed.ensures.extends c.requires.of

pub ask_typed_fields-requires-clause-term : goal.ask_typed_fields-requires-clause-term
ask_typed_fields-requires-clause-term c = number_stays c.ask_packed.ensures.extends c.requires.term

pub ask_pack_typed-requires : goal.ask_pack_typed-requires
ask_pack_typed-requires c = type_stays (extends_then c.ask_packed.ensures.extends c.ask_typed_fields.ensures.extends) c.requires.of

pub returns-clause-all : goal.returns-clause-all
returns-clause-all c =
    struct_lists c.args.shapes.now c.requires.of c.requires.term c.requires.struct_type c.new.ensures.items c.in_ok-ask_packed.ensures.adds c.in_ok-ask_typed_fields.ensures.adds c.in_ok-ask_pack_typed.ensures.adds
