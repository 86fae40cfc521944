use Rattle.std.proofs.Common.{refl}
use Rattle.axiom_instances.proofs.ListLemmas.{ready, ok_made}
use Rattle.axiom_instances.proofs.NumberLemmas.{one_term}
use Rattle.axiom_instances.proofs.VectorLemmas.{given_5}
use Rattle.axiom_instances.proofs.pairs.ask_set_typed.Goals as goal

pub ask-requires : goal.ask-requires
ask-requires c = ready (given_5 c.requires.of.whole c.requires.of.part c.requires.term.whole c.requires.term.first c.requires.term.third) refl refl

pub returns-clause-adds : goal.returns-clause-adds
returns-clause-adds c = ok_made _ _ _ _ _ c.ask.result c.ask.ensures.adds (given_5 c.requires.of.whole c.requires.of.part c.requires.term.whole c.requires.term.first c.requires.term.third) (one_term c.requires.term.whole)
