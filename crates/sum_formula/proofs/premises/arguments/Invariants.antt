use Rattle.std.proofs.Common.{◌≡◌, map, take}
use Rattle.sum_formula.specs.Premises.{argument_formula}
use Rattle.sum_formula.proofs.premises.arguments.Given as goal

abbrev pub invariant-loop-name : goal.invariant-loop-name
invariant-loop-name l = l.formulas.items ≡ map (argument_formula l.parameters) (take l.name-index l.parameters)
