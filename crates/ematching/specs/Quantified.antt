-- Universal formulas, by number.
use Rattle.std.specs.Prelude.{◌≡◌, ℕ, Bool, true, false, List, Option, Some, None}
use Rattle.fol.specs.declared.operators.Quantifier.{Quantifier}
use Rattle.fol.specs.declared.operators.Quantifier.TheVariants.{ForAll, Exists}
use Rattle.fol.specs.FormulaData.{TriggersData, FormulaData, NotFormula, QuantifyFormula}
use Rattle.term_pool.specs.Items.{TriggersSort}
use Rattle.term_pool.specs.declared.node.Two.TheVariants.{Quantify as QuantifyHead}
use Rattle.term_pool.specs.declared.node.Node.{Node}
use Rattle.term_pool.specs.declared.node.Node.TheVariants.{Two as TwoNode}
use Rattle.tableau.specs.PoolBranches.{IsFormulaNumber}
use Rattle.ematching.specs.Numbers.{triggers_at, formula_at, IsOfSort}
use Rattle.ematching.specs.declared.quantified.Universal.{Universal}

-- for all values the body holds, or its negation
abbrev pub for_all : Bool → ℕ → TriggersData → FormulaData → FormulaData
for_all false n ts p = QuantifyFormula ForAll n ts p
for_all true n ts p = NotFormula (QuantifyFormula Exists n ts p)

pub record IsQuantified (ns : List Node) (p : FormulaData) (q : Universal) : Type 0 where
  pub triggers : IsOfSort ns TriggersSort q.triggers
  pub body : IsFormulaNumber ns q.body
  pub is : p ≡ for_all q.is_denied q.variable (triggers_at ns q.triggers) (formula_at ns q.body)

pub record IsNotQuantified (p : FormulaData) : Type 0 where
  pub none : (denied : Bool) (n : ℕ) (ts : TriggersData) (body : FormulaData) → p ≡ for_all denied n ts body → ⊥

-- ---- the same of a node

-- the body of an existential quantification is negated
abbrev pub denies : Quantifier → Bool
denies ForAll = false
denies Exists = true

-- the quantification at the node, if it is by this quantifier
abbrev pub quantifier_of : Quantifier → Node → Option Universal
quantifier_of ForAll (TwoNode (QuantifyHead ForAll n) ts p) = Some (record { variable = n; triggers = ts; body = p; is_denied = false })
quantifier_of Exists (TwoNode (QuantifyHead Exists n) ts p) = Some (record { variable = n; triggers = ts; body = p; is_denied = true })
quantifier_of o _ = None

-- the formula begins with the quantifier
pub record IsQuantifier (ns : List Node) (o : Quantifier) (p : FormulaData) (q : Universal) : Type 0 where
  pub triggers : IsOfSort ns TriggersSort q.triggers
  pub body : IsFormulaNumber ns q.body
  pub kind : q.is_denied ≡ denies o
  pub is : p ≡ QuantifyFormula o q.variable (triggers_at ns q.triggers) (formula_at ns q.body)

pub record HasNoQuantifier (o : Quantifier) (p : FormulaData) : Type 0 where
  pub none : (n : ℕ) (ts : TriggersData) (body : FormulaData) → p ≡ QuantifyFormula o n ts body → ⊥
