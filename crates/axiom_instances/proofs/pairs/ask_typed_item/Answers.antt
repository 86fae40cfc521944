use Rattle.std.proofs.Common.{refl}
use Rattle.axiom_instances.proofs.ListLemmas.{ready, ok_made}
use Rattle.axiom_instances.proofs.NumberLemmas.{given_4}
use Rattle.axiom_instances.proofs.VectorLemmas.{two_terms}
use Rattle.axiom_instances.proofs.pairs.ask_typed_item.Goals as goal

pub ask-requires : goal.ask-requires
ask-requires c = ready (given_4 c.requires.of.whole c.requires.vector c.requires.position c.requires.of.part) refl refl

pub returns-clause-adds : goal.returns-clause-adds
returns-clause-adds c = ok_made _ _ _ _ _ c.ask.result c.ask.ensures.adds (given_4 c.requires.of.whole c.requires.vector c.requires.position c.requires.of.part) (two_terms c.requires.vector c.requires.position)
