use Rattle.unification.specs.declared.type_variables.slots.Sort.TheVariants.{Integer}
use Rattle.unification.specs.Given.{GivesTo}
use Rattle.unification.proofs.solution.given.with_integers.Given as goal

abbrev pub invariant-loop-slot : goal.invariant-loop-slot
invariant-loop-slot l = GivesTo l.slots l.given.items Integer l.integer l.slot-index
