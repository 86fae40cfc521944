use Rattle.congruence_closure.specs.Known.{IsOver}
use Rattle.prover_tests.proofs.class_tests.classes_of.Given as goal

-- the classes are over the pool
abbrev pub invariant-loop-entry : goal.invariant-loop-entry
invariant-loop-entry g l = IsOver l.pool l.classes
