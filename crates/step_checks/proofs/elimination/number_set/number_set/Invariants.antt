use Rattle.std.proofs.Common.{take}
use Rattle.step_checks.specs.Sets.{IsNumberSet}
use Rattle.step_checks.proofs.EliminationNumberLemmas.{AreDistinct}
use Rattle.step_checks.proofs.elimination.number_set.number_set.Given as goal

abbrev pub invariant-loop-number : goal.invariant-loop-number
invariant-loop-number l = record {
  set : IsNumberSet (take l.number-index l.numbers) l.set;
  distinct : AreDistinct (take l.number-index l.numbers);
}
