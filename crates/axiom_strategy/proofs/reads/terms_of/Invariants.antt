use Rattle.std.proofs.Common.{◌≡◌, take}
use Rattle.std.specs.List.{flat_map}
use Rattle.base.specs.Lists.{list_in}
use Rattle.axiom_strategy.proofs.reads.terms_of.Given as goal

abbrev pub invariant-loop-class : goal.invariant-loop-class
invariant-loop-class l = l.terms.items ≡ flat_map (list_in l.members) (take l.class-index l.classes)
