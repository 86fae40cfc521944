-- The two numbers in an instance of the trichotomy axiom, by number.
use Rattle.std.specs.Prelude.{◌≡◌, ℕ, List, Option, Some, None}
use Rattle.fol.specs.declared.operators.Junction.{Junction}
use Rattle.fol.specs.FormulaData.{TermData, FormulaData, JoinFormula, FormulasData, MoreFormulas}
use Rattle.term_pool.specs.Items.{formulas_in}
use Rattle.term_pool.specs.Pools.{item_at}
use Rattle.term_pool.specs.declared.node.Node.{Node}
use Rattle.certificates.specs.Due.{trichotomy_axiom}
use Rattle.tableau.specs.PoolBranches.{IsTermNumber}
use Rattle.tableau.specs.Numbers.{formula_at}
use Rattle.tableau.specs.declared.rules.compounds.Compound.{Compound}
use Rattle.tableau.specs.declared.rules.compounds.Compound.TheVariants.{Join}
use Rattle.tableau.specs.Terms.{term_at}

-- the formula joins no list of formulas; it joins the list with this number
pub record IsNotJoined (p : FormulaData) : Type 0 where
  pub none : (o : Junction) (ps : FormulasData) → p ≡ JoinFormula o ps → ⊥

pub record IsJoinedOf (ns : List Node) (p : FormulaData) (list : ℕ) : Type 0 where
  pub operator : Junction
  pub is : p ≡ JoinFormula operator (formulas_in (item_at ns list))

-- the number of the list in what a connective makes
abbrev pub list_in : Compound → Option ℕ
list_in (Join o list) = Some list
list_in _ = None

-- the list has fewer than two formulas; these are the numbers of its first two
pub record HasFewer (ps : FormulasData) : Type 0 where
  pub none : (p q : FormulaData) (rest : FormulasData) → ps ≡ MoreFormulas p (MoreFormulas q rest) → ⊥

pub record AreFirstTwo (ns : List Node) (ps : FormulasData) (pair : ℕ × ℕ) : Type 0 where
  pub rest : FormulasData
  pub is : ps ≡ MoreFormulas (formula_at ns pair.0) (MoreFormulas (formula_at ns pair.1) rest)

-- the formula is no instance of the axiom; if it is one, these are its two terms
pub record HasNoSides (p : FormulaData) : Type 0 where
  pub none : (t u : TermData) → p ≡ trichotomy_axiom t u → ⊥

pub record AreSides (ns : List Node) (p : FormulaData) (pair : ℕ × ℕ) : Type 0 where
  pub left : IsTermNumber ns pair.0
  pub right : IsTermNumber ns pair.1
  pub only : (t u : TermData) → p ≡ trichotomy_axiom t u → (term_at ns pair.0 ≡ t) × (term_at ns pair.1 ≡ u)
