use Rattle.std.proofs.Common.{take}
use Rattle.std.specs.Prelude.{All}
use Rattle.tableau.specs.PoolBranches.{IsFormulaNumber}
use Rattle.tree_checks.proofs.texts.numbers.are_formulas.Given as goal

abbrev pub invariant-loop-number : goal.invariant-loop-number
invariant-loop-number l = All (IsFormulaNumber l.pool) (take l.number-index l.numbers)
