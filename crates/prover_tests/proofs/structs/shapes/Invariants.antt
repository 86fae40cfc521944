use Rattle.axiom_instances.specs.StructRows.{HasFewFields}
use Rattle.prover_tests.proofs.structs.shapes.Given as goal

abbrev pub invariant-loop-count : goal.invariant-loop-count
invariant-loop-count l = HasFewFields l.shapes
