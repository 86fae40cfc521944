use Rattle.std.proofs.Common.{refl}
use Rattle.axiom_instances.proofs.ListLemmas.{ready, ok_made}
use Rattle.axiom_instances.proofs.NumberLemmas.{given_2, one_term}
use Rattle.axiom_instances.proofs.VectorLemmas.{type_item}
use Rattle.axiom_instances.proofs.types.ask_truth.Goals as goal

pub ask-requires : goal.ask-requires
ask-requires c = ready (given_2 c.requires.term (type_item c.requires.of c.requires.bool)) refl refl

pub returns-clause-adds : goal.returns-clause-adds
returns-clause-adds c = ok_made _ _ _ _ _ c.ask.result c.ask.ensures.adds (given_2 c.requires.term (type_item c.requires.of c.requires.bool)) (one_term c.requires.term)
