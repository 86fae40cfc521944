use Rattle.std.proofs.Common.{◌≡◌, map, take}
use Rattle.tableau.specs.Terms.{formula_number}
use Rattle.closing_rules.proofs.class_closings.entries.entry_numbers.Given as goal

abbrev pub invariant-loop-i : goal.invariant-loop-i
invariant-loop-i l = l.numbers.items ≡ map formula_number (take l.i l.branch.entries)
