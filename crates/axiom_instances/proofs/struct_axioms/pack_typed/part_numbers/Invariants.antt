use Rattle.axiom_instances.proofs.FieldLemmas.{PartsSoFar}
use Rattle.axiom_instances.proofs.struct_axioms.pack_typed.part_numbers.Given as goal

abbrev pub invariant-loop-first : goal.invariant-loop-first
invariant-loop-first l = PartsSoFar l.pool l.numbers.items l.parts l.list

abbrev pub decreases-loop-first : goal.decreases-loop-first
decreases-loop-first l = l.list
