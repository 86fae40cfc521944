use Rattle.unification.specs.declared.type_variables.slots.Sort.TheVariants.{Any}
use Rattle.unification.specs.Given.{Gives, IsDropped}
use Rattle.unification.proofs.solution.given.give_units.Given as goal

abbrev pub invariant-loop-variable : goal.invariant-loop-variable
invariant-loop-variable l = Gives l.fn.slots l.slots Any l.unit (IsDropped l.roots l.dropped l.variable-index)
