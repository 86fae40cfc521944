use Rattle.row_reasoning.proofs.GivenLemmas.{IsSetSoFar}
use Rattle.row_reasoning.proofs.given.class_set.Given as goal

abbrev pub invariant-loop-class : goal.invariant-loop-class
invariant-loop-class l = IsSetSoFar l.given l.class-index l.set.keys
