-- Given open branches: the steps that lead to them, and their values.
use Rattle.std.specs.Prelude.{◌<◌, ◌^◌, List}
use Rattle.fol.specs.declared.shapes.Shape.{Shape}
use Rattle.fol.specs.FormulaData.{FormulaData}
use Rattle.linear_arith.specs.declared.rows.Fraction.{Fraction}
use Rattle.term_pool.specs.declared.node.Node.{Node}
use Rattle.certificates.specs.BranchesBranch.{Branch, formulas}
use Rattle.certificates.specs.Due.{IsSaturated}
use Rattle.certificates.specs.Names.{above_all}
use Rattle.certificates.specs.Rows.{MeetsWhole}
use Rattle.search.specs.Decisions.{IsValued}
use Rattle.search.specs.declared.values.OpenValues.{OpenValues}
use Rattle.tree_checks.specs.Grown.{IsGrown}
use Rattle.tree_checks.specs.Steps.{LeadsTo}
use Rattle.tree_checks.specs.declared.grown.steps.GrownStep.{GrownStep}

-- a variable number is left above those of the branch
pub record HasNumberLeft (b : Branch) : Type 0 where
  pub left : above_all (formulas b) < 2 ^ 32

-- the steps lead from the first branch to one that is open with the values, as the end of a search shows it, and that
-- has a variable number left
pub record LeadsToOpen (shapes : List Shape) (ns : List Node) (start : Branch) (ss : List GrownStep) (v : OpenValues) : Type 0 where
  pub branch : Branch
  pub leads : LeadsTo shapes ns start ss branch
  pub room : HasNumberLeft branch
  pub saturated : IsSaturated shapes branch
  pub valued : IsValued ns branch v

-- some branch of the formula is open: it is saturated, and the values satisfy its rows, whole ones for numbers
pub record IsOpenGrown (shapes : List Shape) (p : FormulaData) (values : List Fraction) : Type 0 where
  pub branch : Branch
  pub grown : IsGrown shapes p branch
  pub saturated : IsSaturated shapes branch
  pub met : MeetsWhole branch values
