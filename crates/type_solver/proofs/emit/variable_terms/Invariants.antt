use Rattle.std.proofs.Common.{map, take}
use Rattle.std.proofs.Common.{◌≡◌}
use Rattle.unification.specs.declared.type_variables.slots.Term.TheVariants.{Variable}
use Rattle.type_solver.proofs.emit.variable_terms.Given as goal

abbrev pub invariant-loop-part : goal.invariant-loop-part
invariant-loop-part l = l.terms.items ≡ map Variable (take l.part-index l.parts)
