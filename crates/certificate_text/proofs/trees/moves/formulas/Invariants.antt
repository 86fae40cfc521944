use Rattle.std.proofs.Common.{◌≡◌, map, take}
use Rattle.tableau.specs.Numbers.{formula_at}
use Rattle.certificate_text.proofs.trees.moves.formulas.Given as goal

abbrev pub invariant-loop-number : goal.invariant-loop-number
invariant-loop-number l = l.formulas.items ≡ map (formula_at l.pool) (take l.number-index l.extension.formulas.items)
