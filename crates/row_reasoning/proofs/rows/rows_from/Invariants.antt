use Rattle.std.proofs.Common.{ℕ, take}
use Rattle.fol.specs.FormulaData.{TermData}
use Rattle.certificates.specs.BranchesBranch.{formulas}
use Rattle.tableau.specs.PoolBranches.{branch_in}
use Rattle.row_reasoning.specs.Rows.{AreNames, AreRowsSoFar}
use Rattle.row_reasoning.proofs.rows.rows_from.Given as goal

abbrev pub invariant-loop-number : goal.invariant-loop-number
invariant-loop-number l = (class : TermData → ℕ) → AreNames l.pool (branch_in l.pool l.branch) class l.names → AreRowsSoFar class l.initial.made.classes.keys (take l.number (formulas (branch_in l.pool l.branch))) l.made
