use Rattle.std.proofs.Common.{refl}
use Rattle.axiom_instances.specs.Lists.{OfNone}
use Rattle.axiom_instances.proofs.ListLemmas.{ready, adds_made, lists_all}
use Rattle.axiom_instances.proofs.NumberLemmas.{given_1}
use Rattle.axiom_instances.proofs.PairLemmas.{alone}
use Rattle.axiom_instances.proofs.instances.axioms_of_type.Goals as goal

pub ask-requires : goal.ask-requires
ask-requires c = ready (given_1 c.requires) refl refl

pub returns-clause-all : goal.returns-clause-all
returns-clause-all c =
    lists_all c.new.ensures.items (adds_made c.in_ok-ask.ensures.adds (given_1 c.requires) OfNone) (alone _)
