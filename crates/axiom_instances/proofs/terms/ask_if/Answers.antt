use Rattle.std.proofs.Common.{refl}
use Rattle.axiom_instances.proofs.ListLemmas.{ready, ok_made}
use Rattle.axiom_instances.proofs.NumberLemmas.{given_4, one_term}
use Rattle.axiom_instances.proofs.terms.ask_if.Goals as goal

pub ask-requires : goal.ask-requires
ask-requires c = ready (given_4 c.requires.whole c.requires.condition c.requires.first c.requires.second) refl refl

pub returns-clause-adds : goal.returns-clause-adds
returns-clause-adds c = ok_made _ _ _ _ _ c.ask.result c.ask.ensures.adds (given_4 c.requires.whole c.requires.condition c.requires.first c.requires.second) (one_term c.requires.whole)
