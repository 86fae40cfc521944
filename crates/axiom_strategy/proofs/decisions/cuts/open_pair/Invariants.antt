use Rattle.std.proofs.Common.{take}
use Rattle.axiom_strategy.proofs.OpenLemmas.{NoneOpenAt}
use Rattle.axiom_strategy.proofs.decisions.cuts.open_pair.Given as goal

abbrev pub invariant-loop-position : goal.invariant-loop-position
invariant-loop-position l = NoneOpenAt l.classes l.numbers l.denied l.by_group (take l.position-index l.all)
