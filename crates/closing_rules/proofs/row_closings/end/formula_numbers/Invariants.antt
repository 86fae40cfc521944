use Rattle.std.proofs.Common.{◌≡◌, map, take}
use Rattle.tableau.specs.Terms.{formula_number}
use Rattle.closing_rules.proofs.row_closings.end.formula_numbers.Given as goal

abbrev pub invariant-loop-number : goal.invariant-loop-number
invariant-loop-number l = l.numbers.items ≡ map formula_number (take l.number l.branch.entries)
