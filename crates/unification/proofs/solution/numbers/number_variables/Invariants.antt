use Rattle.unification.specs.Numbers.{Keeps, AreNumbers}
use Rattle.unification.proofs.solution.numbers.number_variables.Given as goal

abbrev pub invariant-loop-top : goal.invariant-loop-top
invariant-loop-top l = record {
  keeps : Keeps l.fn.pool l.pool;
  are : AreNumbers l.slots l.pool l.order l.numbers.items l.top;
}
