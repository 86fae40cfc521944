-- The application that splits a branch at a bound (A. Schrijver, Theory of Linear and Integer Programming, section
-- 24.1).
use Rattle.std.specs.Prelude.{◌≡◌, ℕ, ℤ, List, [], ◌∷◌}
use Rattle.fol.specs.FormulaData.{NumTerm, LeFormula}
use Rattle.term_pool.specs.declared.node.Node.{Node}
use Rattle.certificates.specs.BranchesBranch.{Branch}
use Rattle.certificates.specs.ProofTraces.{generation_at}
use Rattle.tableau.specs.PoolBranches.{IsTermNumber}
use Rattle.tableau.specs.Numbers.{AreNumbersOf}
use Rattle.row_reasoning.specs.Numbers.{term_at}
use Rattle.row_reasoning.specs.declared.values.bounds.Bound.{Bound as BoundData}
use Rattle.search.specs.declared.trees.application.Extension.{Extension}
use Rattle.search.specs.declared.trees.application.Reason.TheVariants.{Bound}

-- the number of the numeral with this value
pub record IsNumeral (ns : List Node) (value : ℤ) (n : ℕ) : Type 0 where
  pub number : IsTermNumber ns n
  pub is : term_at ns n ≡ NumTerm value

-- the application adds that the term is at most the one number, or at least the other
pub record IsBoundApplication (ns ms : List Node) (b : Branch) (bound : BoundData) (g : Extension) : Type 0 where
  pub reason : g.reason ≡ Bound bound.entry bound.term bound.below
  pub generation : g.generation ≡ generation_at b bound.entry
  pub formulas : AreNumbersOf ms (LeFormula (term_at ns bound.term) (NumTerm bound.below) ∷ LeFormula (NumTerm bound.above) (term_at ns bound.term) ∷ []) g.formulas.items
