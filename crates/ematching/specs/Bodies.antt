-- Instances of universal formulas for a term, by number.
use Rattle.std.specs.Prelude.{◌≡◌, ℕ, Bool, true, false, List}
use Rattle.fol.specs.declared.operators.Quantifier.TheVariants.{ForAll}
use Rattle.fol.specs.FormulaData.{TermData, FormulaData, NotFormula}
use Rattle.term_pool.specs.declared.node.Node.{Node}
use Rattle.substitution.specs.Instances.{IsInstance}
use Rattle.certificates.specs.Quantified.{IsBodyWith}
use Rattle.certificates.specs.BranchesBranch.{Branch, Says}
use Rattle.tableau.specs.PoolBranches.{IsFormulaNumber}
use Rattle.ematching.specs.Numbers.{triggers_at, formula_at}
use Rattle.ematching.specs.Quantified.{for_all}
use Rattle.ematching.specs.declared.quantified.Universal.{Universal}

-- the instance of such a formula for one value: the body, or its negation
abbrev pub said_as : Bool → FormulaData → FormulaData
said_as false p = p
said_as true p = NotFormula p

-- the formula itself
abbrev pub universal_at : List Node → Universal → FormulaData
universal_at ns q = for_all q.is_denied q.variable (triggers_at ns q.triggers) (formula_at ns q.body)

-- the number of the body with the term substituted for the variable
pub record IsInstanceNumber (ns : List Node) (x : ℕ) (t : TermData) (body : FormulaData) (n : ℕ) : Type 0 where
  pub number : IsFormulaNumber ns n
  pub instance : IsInstance x t body (formula_at ns n)

-- the number of the instance of the formula for the term
pub record IsSaidNumber (ns : List Node) (p : FormulaData) (t : TermData) (n : ℕ) : Type 0 where
  pub number : IsFormulaNumber ns n
  pub is_body : IsBodyWith ForAll t p (formula_at ns n)

-- ---- candidates for the instance

-- the number of the formula with a number, or of its operand if it must be a negation
pub record IsInner (ns : List Node) (denied : Bool) (formula inner : ℕ) : Type 0 where
  pub number : IsFormulaNumber ns inner
  pub is : formula_at ns formula ≡ said_as denied (formula_at ns inner)

pub record HasNoInner (denied : Bool) (p : FormulaData) : Type 0 where
  pub none : (q : FormulaData) → p ≡ said_as denied q → ⊥

-- the entry with this number is the instance of the formula for the term
pub record IsSaidAt (b : Branch) (p : FormulaData) (t : TermData) (i : ℕ) : Type 0 where
  pub formula : FormulaData
  pub says : Says b i formula
  pub is_body : IsBodyWith ForAll t p formula
