use Rattle.std.proofs.Common.{refl}
use Rattle.axiom_instances.proofs.ListLemmas.{ready, ok_made}
use Rattle.axiom_instances.proofs.NumberLemmas.{given_3}
use Rattle.axiom_instances.proofs.VectorLemmas.{two_terms}
use Rattle.axiom_instances.proofs.pairs.ask_pop_read.Goals as goal

pub ask-requires : goal.ask-requires
ask-requires c = ready (given_3 c.requires.term.whole c.requires.term.part c.requires.key) refl refl

pub returns-clause-adds : goal.returns-clause-adds
returns-clause-adds c = ok_made _ _ _ _ _ c.ask.result c.ask.ensures.adds (given_3 c.requires.term.whole c.requires.term.part c.requires.key) (two_terms c.requires.term.whole c.requires.key)
