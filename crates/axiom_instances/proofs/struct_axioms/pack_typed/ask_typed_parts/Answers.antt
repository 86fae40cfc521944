use Rattle.std.proofs.Common.{refl}
use Rattle.axiom_instances.proofs.ListLemmas.{ready, ok_made}
use Rattle.axiom_instances.proofs.NumberLemmas.{given_3, one_term}
use Rattle.axiom_instances.proofs.struct_axioms.pack_typed.ask_typed_parts.Goals as goal

pub ask-requires : goal.ask-requires
ask-requires c = ready (given_3 c.requires.term c.requires.of c.requires.formulas) refl refl

pub returns-clause-adds : goal.returns-clause-adds
returns-clause-adds c = ok_made _ _ _ _ _ c.ask.result c.ask.ensures.adds (given_3 c.requires.term c.requires.of c.requires.formulas) (one_term c.requires.term)
