use Rattle.std.proofs.Common.{refl}
use Rattle.axiom_instances.proofs.ListLemmas.{ready, ok_made}
use Rattle.axiom_instances.proofs.NumberLemmas.{given_1, one_term}
use Rattle.axiom_instances.proofs.terms.ask_len.Goals as goal

pub ask-requires : goal.ask-requires
ask-requires c = ready (given_1 c.requires.whole) refl refl

pub returns-clause-adds : goal.returns-clause-adds
returns-clause-adds c = ok_made _ _ _ _ _ c.ask.result c.ask.ensures.adds (given_1 c.requires.whole) (one_term c.requires.whole)
