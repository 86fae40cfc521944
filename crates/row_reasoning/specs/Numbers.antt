-- The classes of whole numbers: an entry states that one of their terms is a whole number.
use Rattle.std.specs.Prelude.{◌≡◌, ℕ, List, slice_index, Option, Some, None}
use Rattle.base.specs.TypeData.{NumType}
use Rattle.fol.specs.FormulaData.{TermData, FormulaData, IsFormula}
use Rattle.term_pool.specs.Items.{term_in, formula_in}
use Rattle.term_pool.specs.Pools.{item_at}
use Rattle.term_pool.specs.declared.node.Node.{Node}
use Rattle.certificates.specs.BranchesBranch.{Branch, Says, Stands}
use Rattle.tableau.specs.PoolBranches.{IsTermNumber}
use Rattle.row_reasoning.specs.declared.values.numbers.NumberEntry.{NumberEntry}

abbrev pub term_at : List Node → ℕ → TermData
term_at ns n = term_in (item_at ns n)

abbrev pub formula_at : List Node → ℕ → FormulaData
formula_at ns n = formula_in (item_at ns n)

-- the entry states that the term is a whole number
pub record IsNumberEntry (ns : List Node) (b : Branch) (entry : NumberEntry) : Type 0 where
  pub number : IsTermNumber ns entry.term
  pub says : Says b entry.entry (IsFormula NumType (term_at ns entry.term))

-- the entry states that a term is a whole number whose class has the representative
pub record IsNumberOf (ns : List Node) (b : Branch) (names : List ℕ) (name : ℕ) (entry : NumberEntry) : Type 0 where
  pub is_number : IsNumberEntry ns b entry
  pub named : slice_index names entry.term ≡ name

-- the class of the term, by one of its numbers, has an entry
pub record HasEntry (ns : List Node) (names : List ℕ) (found : ℕ → Option NumberEntry) (t : TermData) : Type 0 where
  pub number : ℕ
  pub is_number : IsTermNumber ns number
  pub is : term_at ns number ≡ t
  pub has : found (slice_index names number) ≡ None → ⊥

-- for the representatives of classes, an entry stating that one of their terms is a whole number
pub record AreNumberEntries (ns : List Node) (b : Branch) (names : List ℕ) (found : ℕ → Option NumberEntry) : Type 0 where
  pub right : (name : ℕ) (entry : NumberEntry) → found name ≡ Some entry → IsNumberOf ns b names name entry
  pub all : (t : TermData) → Stands b (IsFormula NumType t) → HasEntry ns names found t
