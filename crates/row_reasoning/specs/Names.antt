-- Representatives of classes by number: the classes of terms are those of the least congruence (C. G. Nelson and D. C.
-- Oppen, Fast Decision Procedures Based on Congruence Closure).
use Rattle.std.specs.Prelude.{ℕ, ◌≤◌, List, length}
use Rattle.fol.specs.FormulaData.{TermData}
use Rattle.term_pool.specs.declared.node.Node.{Node}
use Rattle.certificates.specs.BranchesBranch.{Branch}
use Rattle.certificates.specs.Rows.{IsClassing}
use Rattle.row_reasoning.specs.Rows.{AreNames}

-- each number of a term of the branch has the representative of its class, and different classes have different ones
pub record IsNaming (ns : List Node) (b : Branch) (names : List ℕ) : Type 0 where
  pub long : length ns ≤ length names
  pub class : TermData → ℕ
  pub classing : IsClassing b class
  pub named : AreNames ns b class names
