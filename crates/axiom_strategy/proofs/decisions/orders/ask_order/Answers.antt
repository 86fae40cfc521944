use Rattle.std.proofs.Common.{refl}
use Rattle.axiom_instances.proofs.ListLemmas.{ready, ok_made}
use Rattle.axiom_instances.proofs.NumberLemmas.{given_2}
use Rattle.axiom_instances.proofs.VectorLemmas.{two_terms}
use Rattle.axiom_strategy.proofs.decisions.orders.ask_order.Goals as goal

pub ask-requires : goal.ask-requires
ask-requires c = ready (given_2 c.requires.left c.requires.right) refl refl

pub returns-clause-adds : goal.returns-clause-adds
returns-clause-adds c = ok_made _ _ _ _ _ c.ask.result c.ask.ensures.adds (given_2 c.requires.left c.requires.right) (two_terms c.requires.left c.requires.right)
