use Rattle.unification.specs.Numbers.{AreParts}
use Rattle.unification.proofs.solution.numbers.part_numbers.Given as goal

abbrev pub invariant-loop-i : goal.invariant-loop-i
invariant-loop-i l = AreParts l.numbers l.first l.i l.parts
