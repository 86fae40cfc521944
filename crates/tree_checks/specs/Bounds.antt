-- Bounds on numbers for which the rows of a branch give no whole value (branch and bound: A. Schrijver, Theory of
-- Linear and Integer Programming, section 24.1), with their grounds.
use Rattle.std.specs.Prelude.{◌≡◌, ℕ, ◌<◌, ◌^◌, ℤ, List, ◌∷◌, ◌++◌, slice_get, Some, All}
use Rattle.fol.specs.declared.shapes.Shape.{Shape}
use Rattle.fol.specs.FormulaData.{TermData}
use Rattle.linear_arith.specs.Inequality.{Inequality}
use Rattle.linear_arith.specs.declared.rows.Fraction.{Fraction}
use Rattle.linear_arith.specs.Answer.{IsSolution}
use Rattle.step_checks.specs.GivenValues.{AreGivenValues}
use Rattle.step_checks.specs.declared.elimination.GivenElimination.{GivenElimination}
use Rattle.term_pool.specs.declared.node.Node.{Node}
use Rattle.certificates.specs.BranchesBranch.{Branch, formulas}
use Rattle.certificates.specs.Names.{above_all}
use Rattle.certificates.specs.Due.{IsSaturated}
use Rattle.certificates.specs.Rows.{AreBranchRows, IsWholeIfNumber}
use Rattle.certificates.specs.ProofTraces.{IsBetween}
use Rattle.row_reasoning.specs.Rows.{AreNames}
use Rattle.search.specs.declared.values.OpenValues.{OpenValues}

-- the first value, in the order in which the values were chosen, that belongs to a number and is not whole: it is the
-- value of the term's class, and lies between k and k + 1
pub record IsFirstBetween (b : Branch) (class : TermData → ℕ) (classes : List ℕ) (t : TermData) (k : ℤ) (values : List Fraction) : Type 0 where
  pub before : List Fraction
  pub value : Fraction
  pub after : List Fraction
  pub parts : values ≡ before ++ value ∷ after
  pub whole_before : All (IsWholeIfNumber b class classes) before
  pub of_term : slice_get classes value.unknown ≡ Some (class t)
  pub between : IsBetween k value

-- the term may be split at k: nothing else is due and nothing closes the branch, and the values that the elimination
-- gives for its rows, over the classes of the values and with their representatives, require it. This holds only while
-- a variable number is left above those of the branch
pub record IsBoundBy (shapes : List Shape) (ns : List Node) (b : Branch) (t : TermData) (k : ℤ) (v : OpenValues) (given : GivenElimination) : Type 0 where
  pub room : above_all (formulas b) < 2 ^ 32
  pub saturated : IsSaturated shapes b
  pub class : TermData → ℕ
  pub named : AreNames ns b class v.names.items
  pub rows : List Inequality
  pub are_rows : AreBranchRows b class v.classes.items rows
  pub chosen : AreGivenValues rows given v.values
  pub solution : IsSolution rows v.values
  pub first : IsFirstBetween b class v.classes.items t k v.values
