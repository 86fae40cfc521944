use Rattle.std.proofs.Common.{◌≡◌, take}
use Rattle.std.specs.List.{flat_map}
use Rattle.sum_formula.specs.Translation.{zero_term}
use Rattle.sum_formula.specs.Premises.{formula_if}
use Rattle.sum_formula.proofs.premises.entry_conditions.Given as goal

abbrev pub invariant-loop-clause : goal.invariant-loop-clause
invariant-loop-clause l = l.formulas.items ≡ flat_map (formula_if l.kind l.parameters zero_term) (take l.clause-index l.clauses)
