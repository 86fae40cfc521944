use Rattle.std.proofs.Common.{take}
use Rattle.axiom_strategy.specs.Cuts.{NoneOpenWith}
use Rattle.axiom_strategy.proofs.decisions.cuts.open_with.Given as goal

abbrev pub invariant-loop-other : goal.invariant-loop-other
invariant-loop-other l = NoneOpenWith l.classes l.numbers l.denied l.left (take l.other-index l.others)
