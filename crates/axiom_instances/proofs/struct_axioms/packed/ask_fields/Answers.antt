use Rattle.std.proofs.Common.{refl}
use Rattle.term_pool.proofs.GrowthLemmas.{item_stays}
use Rattle.axiom_instances.proofs.ListLemmas.{ready, adds_made}
use Rattle.axiom_instances.proofs.NumberLemmas.{given_3, one_term}
use Rattle.axiom_instances.proofs.FieldTypedLemmas.{adds_after}
use Rattle.axiom_instances.proofs.struct_axioms.packed.ask_fields.Goals as goal

pub ask-requires : goal.ask-requires
ask-requires c =
    let e = c.field_list.ensures.extends in
    ready (given_3 (item_stays e c.requires.term) (item_stays e c.requires.of) c.in_ok-parts.ensures.is) refl refl

pub returns-clause-adds : goal.returns-clause-adds
returns-clause-adds c =
    let e = c.field_list.ensures.extends in
    adds_after e (adds_made c.in_ok-ask.ensures.adds (given_3 (item_stays e c.requires.term) (item_stays e c.requires.of) c.in_ok-parts.ensures.is) (one_term (item_stays e c.requires.term)))
