-- Terms that entries state to be whole numbers.
use Rattle.std.specs.Prelude.{◌≡◌, ◌↔◌, ℕ, Bool, true, false, List, length, slice_index_or}
use Rattle.base.specs.TypeData.{NumType}
use Rattle.fol.specs.FormulaData.{TermData, IsFormula}
use Rattle.term_pool.specs.declared.node.Node.{Node}
use Rattle.certificates.specs.BranchesBranch.{Branch, Says, Stands}
use Rattle.tableau.specs.PoolBranches.{IsTermNumber}
use Rattle.tableau.specs.Terms.{term_at}

-- the entry states that the term is a whole number
pub record SaysNumber (ns : List Node) (b : Branch) (i term : ℕ) : Type 0 where
  pub number : IsTermNumber ns term
  pub says : Says b i (IsFormula NumType (term_at ns term))

pub record SaysNoNumber (b : Branch) (i : ℕ) : Type 0 where
  pub none : (t : TermData) → Says b i (IsFormula NumType t) → ⊥

abbrev pub mark_at : List Bool → ℕ → Bool
mark_at marks n = slice_index_or marks n false

pub record AreBothMarked (marks : List Bool) (t u : ℕ) : Type 0 where
  pub left : mark_at marks t ≡ true
  pub right : mark_at marks u ≡ true

-- the marked numbers are those of these terms
pub record AreNumberMarks (ns : List Node) (b : Branch) (marks : List Bool) : Type 0 where
  pub one_each : length marks ≡ length ns
  pub each : (n : ℕ) → IsTermNumber ns n → (mark_at marks n ≡ true) ↔ Stands b (IsFormula NumType (term_at ns n))
