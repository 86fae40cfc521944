-- Branches of an analytic tableau (R. Smullyan, First-Order Logic, chapter II), the terms that occur on them, and
-- generations: the number of gamma instances that led to an entry or a term.
use Rattle.std.specs.Prelude.{◌≡◌, ℕ, ◌≤◌, List, map, slice_get, Some}
use Rattle.base.specs.TypeData.{TypeData}
use Rattle.fol.specs.FormulaData.{TermData, FormulaData, IsFormula, NotFormula}
use Rattle.certificates.specs.BranchesParts.{IsInFormula}
use Rattle.certificates.specs.declared.branches.origin.Origin.{Origin}

pub record Entry : Type 0 where
  pub formula : FormulaData
  pub generation : ℕ
  pub origin : Origin

abbrev pub Branch : Type 0
Branch = List Entry

abbrev pub formula_of : Entry → FormulaData
formula_of e = e.formula

abbrev pub formulas : Branch → List FormulaData
formulas b = map formula_of b

-- the entry with this number is this formula
pub record Says (b : Branch) (i : ℕ) (p : FormulaData) : Type 0 where
  pub entry : Entry
  pub found : slice_get b i ≡ Some entry
  pub is : entry.formula ≡ p

-- the formula is on the branch
pub record Stands (b : Branch) (p : FormulaData) : Type 0 where
  pub position : ℕ
  pub says : Says b position p

-- the formula is not on the branch
pub record IsNew (b : Branch) (p : FormulaData) : Type 0 where
  pub new : Stands b p → ⊥

-- an entry states that the term has the type, or denies it
pub data IsTyped (b : Branch) (a : TypeData) (t : TermData) : Type 0 where
  Said : Stands b (IsFormula a t) → IsTyped b a t
  Denied : Stands b (NotFormula (IsFormula a t)) → IsTyped b a t

-- the term occurs on the branch outside quantifiers, in an entry of this generation
pub record Holds (b : Branch) (t : TermData) (generation : ℕ) : Type 0 where
  pub position : ℕ
  pub entry : Entry
  pub found : slice_get b position ≡ Some entry
  pub inside : IsInFormula t entry.formula
  pub same : entry.generation ≡ generation

pub record IsTerm (b : Branch) (t : TermData) : Type 0 where
  pub generation : ℕ
  pub holds : Holds b t generation

-- the generation of a term: the least of the entries in which it occurs
pub record IsGeneration (b : Branch) (t : TermData) (g : ℕ) : Type 0 where
  pub holds : Holds b t g
  pub least : (n : ℕ) → Holds b t n → g ≤ n
