-- What values show about a branch whose rows are over classes with representatives.
use Rattle.std.specs.Prelude.{ℕ, List, All}
use Rattle.fol.specs.FormulaData.{TermData}
use Rattle.linear_arith.specs.declared.rows.Fraction.{Fraction}
use Rattle.linear_arith.specs.Answer.{IsSolution}
use Rattle.certificates.specs.BranchesBranch.{Branch}
use Rattle.certificates.specs.Rows.{IsWholeIfNumber}
use Rattle.row_reasoning.specs.declared.rows.BranchRows.{BranchRows}

-- the values satisfy the rows, and are whole for the classes of numbers
pub record AreOpenValues (b : Branch) (class : TermData → ℕ) (rows : BranchRows) (values : List Fraction) : Type 0 where
  pub solution : IsSolution rows.rows values
  pub whole : All (IsWholeIfNumber b class rows.classes.keys) values
