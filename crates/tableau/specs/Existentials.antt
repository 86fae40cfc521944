-- Existential formulas, by number.
use Rattle.std.specs.Prelude.{◌≡◌, ℕ, Bool, true, false, List}
use Rattle.fol.specs.declared.operators.Quantifier.TheVariants.{ForAll, Exists}
use Rattle.fol.specs.FormulaData.{FormulaData, NotFormula, QuantifyFormula, TriggersData}
use Rattle.term_pool.specs.declared.node.Node.{Node}
use Rattle.certificates.specs.BranchesBranch.{Branch, Says}
use Rattle.certificates.specs.Due.{IsNamed, IsShallow}
use Rattle.tableau.specs.PoolBranches.{IsFormulaNumber}
use Rattle.tableau.specs.Numbers.{formula_at}
use Rattle.tableau.specs.declared.names.existentials.Existential.{Existential}
use Rattle.tableau.specs.declared.names.existentials.Unnamed.{Unnamed}
use Rattle.tableau.specs.Names.{NoNameBefore}

-- the body holds for some value, or does not hold for all values
abbrev pub quantified : Bool → ℕ → TriggersData → FormulaData → FormulaData
quantified false n ts p = QuantifyFormula Exists n ts p
quantified true n ts p = NotFormula (QuantifyFormula ForAll n ts p)

-- the formula that then holds for that value: the body, or its negation
abbrev pub body_of : Bool → FormulaData → FormulaData
body_of false p = p
body_of true p = NotFormula p

abbrev pub IsNotForAll : FormulaData → Type 0
IsNotForAll (QuantifyFormula ForAll n ts p) = ⊥
IsNotForAll _ = Unit {0}

abbrev pub IsNotExistential : FormulaData → Type 0
IsNotExistential (QuantifyFormula Exists n ts p) = ⊥
IsNotExistential (NotFormula p) = IsNotForAll p
IsNotExistential _ = Unit {0}

-- the formula is existential, with this variable and this body
pub record IsExistential (ns : List Node) (p : FormulaData) (e : Existential) : Type 0 where
  pub body : IsFormulaNumber ns e.body
  pub triggers : TriggersData
  pub is : p ≡ quantified e.is_negated e.variable triggers (formula_at ns e.body)

-- ---- entries

-- the entry is existential, and a name is due if there is a number for it
pub record IsUnnamed (ns : List Node) (b : Branch) (i : ℕ) (e : Existential) : Type 0 where
  pub formula : FormulaData
  pub says : Says b i formula
  pub is : IsExistential ns formula e
  pub unnamed : IsNamed b i → ⊥
  pub shallow : IsShallow (body_of e.is_negated (formula_at ns e.body))

-- the first such entry
pub record IsFirstUnnamed (ns : List Node) (b : Branch) (u : Unnamed) : Type 0 where
  pub unnamed : IsUnnamed ns b u.entry u.existential
  pub first : NoNameBefore b u.entry
