-- The steps of an explanation by number: the formulas in them, and when a step is valid after the formulas before it.
use Rattle.std.specs.Prelude.{◌≡◌, ◌↔◌, ℕ, List, drop, Option, Some, None, All, cond, nat_eq}
use Rattle.fol.specs.declared.shapes.Shape.{Shape}
use Rattle.fol.specs.declared.operators.Comparison.TheVariants.{Eq}
use Rattle.fol.specs.FormulaData.{TermData, FormulaData, EqFormula}
use Rattle.certificates.specs.CertData.{StepData}
use Rattle.certificates.specs.Closes.{IsEntry, IsStep}
use Rattle.certificates.specs.Rewriting.{IsRewriting}
use Rattle.term_pool.specs.declared.node.Two.TheVariants.{Compare}
use Rattle.term_pool.specs.declared.node.Node.{Node}
use Rattle.term_pool.specs.declared.node.Node.TheVariants.{Two as TwoNode}
use Rattle.certificates.specs.BranchesBranch.{Branch}
use Rattle.certificates.specs.Due.{IsShallow}
use Rattle.certificates.specs.ProofTraces.{IsLink, AreLinks, after_links}
use Rattle.tableau.specs.PoolBranches.{IsFormulaNumber, IsTermNumber}
use Rattle.tableau.specs.Numbers.{formula_at}
use Rattle.explanations.specs.Chains.{term_at}
use Rattle.explanations.specs.declared.chain.Rewriting.{Rewriting}
use Rattle.explanations.specs.declared.chain.ChainStep.{ChainStep}
use Rattle.explanations.specs.declared.chain.ChainStep.TheVariants.{Itself, Rewritten}

-- ---- the formulas in a step

-- the number of the formula that it adds
abbrev pub number_of : ChainStep → ℕ
number_of (Itself k) = k
number_of (Rewritten r) = r.formula

abbrev pub formula_added : List Node → ChainStep → FormulaData
formula_added ns s = formula_at ns (number_of s)

-- the numbers in the step are those of formulas
abbrev pub IsNamed : List Node → ChainStep → Type 0
IsNamed ns (Itself k) = IsFormulaNumber ns k
IsNamed ns (Rewritten r) = IsFormulaNumber ns r.pattern × IsFormulaNumber ns r.formula

pub record AreNamed (ns : List Node) (steps : List ChainStep) : Type 0 where
  pub each : All (IsNamed ns) steps

-- these formulas are no deeper than a step may use
abbrev pub IsShallowStep : List Node → ChainStep → Type 0
IsShallowStep ns (Itself k) = IsShallow (formula_at ns k)
IsShallowStep ns (Rewritten r) = IsShallow (formula_at ns r.pattern) × IsShallow (formula_at ns r.formula)

pub record AreShallow (ns : List Node) (steps : List ChainStep) : Type 0 where
  pub each : All (IsShallowStep ns) steps

-- ---- equations of a term with itself

-- the term on both sides of the equation that the node is
abbrev pub both_sides : Node → Option ℕ
both_sides (TwoNode (Compare Eq) t u) = cond (nat_eq t u) (Some t) None
both_sides _ = None

pub record IsNotReflexive (p : FormulaData) : Type 0 where
  pub none : (t : TermData) → p ≡ EqFormula t t → ⊥

-- the formula states that the term with this number equals itself
pub record IsReflexiveAt (ns : List Node) (p : FormulaData) (n : ℕ) : Type 0 where
  pub number : IsTermNumber ns n
  pub is : p ≡ EqFormula (term_at ns n) (term_at ns n)

-- ---- valid steps

-- replacing equals by equals in these formulas, at the pattern's variable, yields the formula
pub record IsRewritten (ps : List FormulaData) (r : Rewriting) (pattern p : FormulaData) : Type 0 where
  pub equation : FormulaData
  pub source : FormulaData
  pub is_equation : IsEntry ps r.equation equation
  pub is_source : IsEntry ps r.source source
  pub rewriting : IsRewriting r.variable pattern equation source p

-- the step is valid after these formulas, whatever the shapes of structs are
pub record IsNextLink (b : Branch) (ps : List FormulaData) (s : StepData) : Type 0 where
  pub link : IsLink b ps s
  pub step : (shapes : List Shape) → IsStep shapes ps s

-- after these formulas the steps from a number on are valid exactly if all are after those at the start, and lead to
-- the same formulas
pub record LinksFrom (b : Branch) (start ps : List FormulaData) (ss : List StepData) (i : ℕ) : Type 0 where
  pub rest : (shapes : List Shape) → AreLinks shapes b ps (drop i ss) ↔ AreLinks shapes b start ss
  pub leads : after_links ps (drop i ss) ≡ after_links start ss
