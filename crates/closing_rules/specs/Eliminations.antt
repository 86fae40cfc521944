-- The elimination of the rows of a branch (G. Dantzig and B. C. Eaves, Fourier-Motzkin Elimination and Its Dual).
use Rattle.std.specs.Prelude.{ℕ, ◌≤◌, List, length}
use Rattle.std.specs.List.{AllZip}
use Rattle.fol.specs.FormulaData.{TermData}
use Rattle.linear_arith.specs.Inequality.{Inequality}
use Rattle.linear_arith.specs.declared.rows.Fraction.{Fraction}
use Rattle.linear_arith.specs.Answer.{Shows, IsSolution}
use Rattle.linear_arith.specs.Values.{AreAllChosen}
use Rattle.term_pool.specs.declared.node.Node.{Node}
use Rattle.certificates.specs.BranchesBranch.{Branch, formulas}
use Rattle.certificates.specs.Rows.{IsClassing, AreBranchRows}
use Rattle.row_reasoning.specs.Rows.{AreNames, IsRowFrom}
use Rattle.row_reasoning.specs.declared.rows.BranchRows.{BranchRows}
use Rattle.closing_rules.specs.declared.solving.elimination.Elimination.{Elimination}

-- each number of a term of the branch has the representative of its class, and the rows are those of the branch over
-- these classes, each with its entry
pub record AreNamedRows (ns : List Node) (b : Branch) (names : List ℕ) (rows : BranchRows) : Type 0 where
  pub class : TermData → ℕ
  pub long : length ns ≤ length names
  pub classing : IsClassing b class
  pub named : AreNames ns b class names
  pub are_rows : AreBranchRows b class rows.classes.keys rows.rows
  pub origins : AllZip (IsRowFrom class (formulas b) rows.classes.keys) rows.rows rows.origins.items

-- the rows are so named, and the answer is right for them
pub record IsElimination (ns : List Node) (b : Branch) (e : Elimination) : Type 0 where
  pub rows : AreNamedRows ns b e.names.items e.rows
  pub shown : Shows e.rows.rows e.answer

-- values that an elimination of the rows computes
pub record AreValues (rows : List Inequality) (values : List Fraction) : Type 0 where
  pub solution : IsSolution rows values
  pub chosen : AreAllChosen rows values
