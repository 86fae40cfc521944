use Rattle.std.proofs.Common.{take}
use Rattle.axiom_strategy.specs.Positions.{AreByClass}
use Rattle.axiom_strategy.proofs.decisions.positions.by_class.Given as goal

abbrev pub invariant-loop-candidate : goal.invariant-loop-candidate
invariant-loop-candidate l = AreByClass l.classes (take l.candidate-index l.candidates) l.lists
