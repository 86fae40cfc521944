use Rattle.std.proofs.Common.{refl}
use Rattle.axiom_instances.specs.Templates.{NoItems}
use Rattle.axiom_instances.specs.Lists.{OfNone}
use Rattle.axiom_instances.proofs.ListLemmas.{ready, adds_made, lists_all}
use Rattle.axiom_instances.proofs.RowLemmas.{always}
use Rattle.axiom_instances.proofs.instances.always_triggered.Goals as goal

pub ask-requires : goal.ask-requires
ask-requires c = ready NoItems refl refl

pub returns-clause-all : goal.returns-clause-all
returns-clause-all c = lists_all c.new.ensures.items (adds_made c.in_ok-ask.ensures.adds NoItems OfNone) always
