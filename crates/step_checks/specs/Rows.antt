-- Rows of a branch over the classes of given values, with their representatives.
use Rattle.std.specs.Prelude.{◌≡◌, ℕ, ◌≤◌, List, length}
use Rattle.fol.specs.FormulaData.{TermData}
use Rattle.linear_arith.specs.Inequality.{Inequality}
use Rattle.linear_arith.specs.Answer.{IsSolution}
use Rattle.term_pool.specs.declared.node.Node.{Node}
use Rattle.certificates.specs.BranchesBranch.{Branch}
use Rattle.certificates.specs.Rows.{AreBranchRows}
use Rattle.row_reasoning.specs.Rows.{AreNames}
use Rattle.search.specs.declared.values.OpenValues.{OpenValues}
use Rattle.step_checks.specs.declared.values.rows.ValuedRows.{ValuedRows}

-- the rows are the branch's over the classes of the values, and each number of a term of the branch has the
-- representative of its class
pub record HasRows (ns : List Node) (b : Branch) (v : OpenValues) (rows : List Inequality) : Type 0 where
  pub class : TermData → ℕ
  pub named : AreNames ns b class v.names.items
  pub are_rows : AreBranchRows b class v.classes.items rows

pub record HasNoRows (ns : List Node) (b : Branch) (v : OpenValues) : Type 0 where
  pub none : (rows : List Inequality) → HasRows ns b v rows → ⊥

-- these are such rows, with a representative for each number of the pool
pub record AreValuedRows (ns : List Node) (b : Branch) (v : OpenValues) (made : ValuedRows) : Type 0 where
  pub class : TermData → ℕ
  pub named : AreNames ns b class v.names.items
  pub long : length ns ≤ length made.names.items
  pub all_named : AreNames ns b class made.names.items
  pub keys : made.rows.classes.keys ≡ v.classes.items
  pub are_rows : AreBranchRows b class v.classes.items made.rows.rows

-- the values satisfy the branch's rows over their classes, with their representatives
pub record IsMet (ns : List Node) (b : Branch) (v : OpenValues) : Type 0 where
  pub rows : List Inequality
  pub has : HasRows ns b v rows
  pub solution : IsSolution rows v.values
