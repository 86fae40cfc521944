-- The terms of a trigger, each with its candidates: the terms of the branch that it may match.
use Rattle.std.specs.Prelude.{◌≡◌, ℕ, ◌<◌, List, ◌∷◌, map}
use Rattle.fol.specs.FormulaData.{TermData, list_of_terms}
use Rattle.term_pool.specs.Items.{TermsSort}
use Rattle.term_pool.specs.declared.node.Node.{Node}
use Rattle.certificates.specs.BranchesBranch.{Branch, IsTerm}
use Rattle.certificates.specs.Match.{IsFilled}
use Rattle.tableau.specs.PoolBranches.{IsTermNumber}
use Rattle.tableau.specs.Terms.{IsBranchTerm}
use Rattle.ematching.specs.Numbers.{IsAmong, AreAll, IsOfSort, term_at, terms_at}
use Rattle.ematching.specs.declared.rows.Row.{Row}

-- a number of the term is among these
pub record HasNumberAmong (ns : List Node) (numbers : List ℕ) (t : TermData) : Type 0 where
  pub number : ℕ
  pub among : IsAmong number numbers
  pub is : term_at ns number ≡ t

-- terms of the branch, among them all that the pattern may match
pub record AreCandidates (ns : List Node) (b : Branch) (bound : List ℕ) (pattern : ℕ) (numbers : List ℕ) : Type 0 where
  pub only : (n : ℕ) → IsAmong n numbers → IsBranchTerm ns b n
  pub all : (t : TermData) (at : ℕ → TermData) → IsTerm b t → IsFilled bound at (term_at ns pattern) t → HasNumberAmong ns numbers t

-- ---- the rows of a trigger

pub record IsRow (ns : List Node) (b : Branch) (bound : List ℕ) (row : Row) : Type 0 where
  pub pattern : IsTermNumber ns row.pattern
  pub candidates : AreCandidates ns b bound row.pattern row.candidates.items

-- the pattern and the candidates are numbers of terms
pub record IsNumbered (ns : List Node) (row : Row) : Type 0 where
  pub pattern : IsTermNumber ns row.pattern
  pub candidates : (n : ℕ) → IsAmong n row.candidates.items → IsTermNumber ns n

abbrev pub pattern_in : List Node → Row → TermData
pattern_in ns row = term_at ns row.pattern

abbrev pub patterns_in : List Node → List Row → List TermData
patterns_in ns rows = map (pattern_in ns) rows

pub record AreRows (ns : List Node) (b : Branch) (bound : List ℕ) (ts : List TermData) (rows : List Row) : Type 0 where
  pub each : AreAll (IsRow ns b bound) rows
  pub are : patterns_in ns rows ≡ ts

-- the numbers of the first term of a list and of the rest
pub record IsFirstOf (ns : List Node) (list : ℕ) (p : ℕ × ℕ) : Type 0 where
  pub first : IsTermNumber ns p.0
  pub rest : IsOfSort ns TermsSort p.1
  pub earlier : p.1 < list
  pub is : list_of_terms (terms_at ns list) ≡ term_at ns p.0 ∷ list_of_terms (terms_at ns p.1)
