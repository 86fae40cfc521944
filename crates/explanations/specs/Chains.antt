-- Explanations over a pool: the formulas of a branch by number, and after them those that steps add.
use Rattle.std.specs.Prelude.{◌≡◌, ◌⊎◌, ℕ, ◌<◌, ◌≤◌, nat_eq, List, map, length, slice_get, Option, Some, MatchOption}
use Rattle.std.specs.Map.{lookup}
use Rattle.fol.specs.declared.shapes.Shape.{Shape}
use Rattle.fol.specs.FormulaData.{TermData, VarTerm, FormulaData, EqFormula}
use Rattle.axioms.specs.declared.axiom.Axiom.TheVariants.{Equal}
use Rattle.axioms.specs.declared.axiom.Equation.TheVariants.{Itself as SameTerm}
use Rattle.certificates.specs.CertData.{StepData, AxiomStep, RewriteStep}
use Rattle.term_pool.specs.Items.{TermItem, FormulaSort, term_in, formula_in}
use Rattle.term_pool.specs.Pools.{item_at, HasPart}
use Rattle.term_pool.specs.declared.node.Node.{Node}
use Rattle.certificates.specs.BranchesBranch.{Branch, formulas}
use Rattle.certificates.specs.Due.{IsShallow}
use Rattle.certificates.specs.Inside.{StandsInside}
use Rattle.certificates.specs.Joined.{IsFreeOf}
use Rattle.certificates.specs.Names.{above_term, above}
use Rattle.certificates.specs.ProofTraces.{AreLinks, after_links}
use Rattle.explanations.specs.Frames.{filled, bound_on}
use Rattle.explanations.specs.declared.frame.Frame.{Frame}
use Rattle.explanations.specs.declared.chain.ChainStep.{ChainStep}
use Rattle.explanations.specs.declared.chain.ChainStep.TheVariants.{Itself, Rewritten}
use Rattle.explanations.specs.declared.chain.Swap.{Swap}

abbrev pub term_at : List Node → ℕ → TermData
term_at ns k = term_in (item_at ns k)

abbrev pub formula_at : List Node → ℕ → FormulaData
formula_at ns k = formula_in (item_at ns k)

-- ---- the data of an explanation

-- the numbers of its formulas, those of the branch first; the index of each; its steps; and the variable of its
-- patterns
pub record ChainData : Type 0 where
  pub formulas : List ℕ
  pub positions : List (ℕ × ℕ)
  pub steps : List ChainStep
  pub variable : ℕ

pub record IsNotAmong (ks : List ℕ) (k : ℕ) : Type 0 where
  pub none : (position : ℕ) → slice_get ks position ≡ Some k → ⊥

abbrev pub IsPositionOf : List ℕ → ℕ → ℕ → Type 0
IsPositionOf ks k position = slice_get ks position ≡ Some k

abbrev pub position_in : ChainData → ℕ → Option ℕ
position_in d k = lookup (nat_eq k) d.positions

-- the index of each formula is known
pub record ArePositions (ks : List ℕ) (find : ℕ → Option ℕ) : Type 0 where
  pub each : (k : ℕ) → MatchOption (find k) (IsNotAmong ks k) (IsPositionOf ks k)

abbrev pub HasPositions : ChainData → Type 0
HasPositions d = ArePositions d.formulas (position_in d)

-- the formulas keep their indices
pub record Keeps (d e : ChainData) : Type 0 where
  pub kept : (position k : ℕ) → slice_get d.formulas position ≡ Some k → slice_get e.formulas position ≡ Some k
  pub variable : e.variable ≡ d.variable

-- the formula is at this index
pub record IsAt (ns : List Node) (d : ChainData) (position : ℕ) (p : FormulaData) : Type 0 where
  pub number : ℕ
  pub found : slice_get d.formulas position ≡ Some number
  pub is : formula_at ns number ≡ p

-- ---- valid explanations

abbrev pub step_in : List Node → ChainStep → StepData
step_in ns (Itself k) = AxiomStep (Equal SameTerm) (formula_at ns k)
step_in ns (Rewritten r) = RewriteStep r.equation r.source r.variable (formula_at ns r.pattern) (formula_at ns r.formula)

-- the numbers of the step occur in the pool
abbrev pub NamesInPool : List Node → ChainStep → Type 0
NamesInPool ns (Itself k) = k < length ns
NamesInPool ns (Rewritten r) = (r.pattern < length ns) × (r.formula < length ns)

-- each step is an explanation step that adds a new formula, and the formulas are those of the branch and those that
-- the steps add; all variables are below that of the patterns
pub record IsChain (ns : List Node) (b : Branch) (d : ChainData) : Type 0 where
  pub numbers : (position k : ℕ) → slice_get d.formulas position ≡ Some k → HasPart ns (length ns) k FormulaSort
  pub below : (position k : ℕ) → slice_get d.formulas position ≡ Some k → above (formula_at ns k) ≤ d.variable
  pub named : (i : ℕ) (s : ChainStep) → slice_get d.steps i ≡ Some s → NamesInPool ns s
  pub stand : map (formula_at ns) d.formulas ≡ after_links (formulas b) (map (step_in ns) d.steps)
  pub links : (shapes : List Shape) → AreLinks shapes b (formulas b) (map (step_in ns) d.steps)

-- these are the numbers of the formulas of the branch
pub record AreEntries (ns : List Node) (ks : List ℕ) (b : Branch) : Type 0 where
  pub numbers : (position k : ℕ) → slice_get ks position ≡ Some k → HasPart ns (length ns) k FormulaSort
  pub are : map (formula_at ns) ks ≡ formulas b

-- ---- steps that may be added

-- the term occurs in an entry, and the depth of its equation with itself is within the limit
pub record CanBegin (b : Branch) (d : ChainData) (t : TermData) : Type 0 where
  pub stands : StandsInside b t
  pub shallow : IsShallow (EqFormula t t)
  pub below : above_term t ≤ d.variable

-- the formula is the equation of the terms, in either order
abbrev pub Equates : FormulaData → TermData → TermData → Type 0
Equates p t u = (p ≡ EqFormula t u) ⊎ (p ≡ EqFormula u t)

-- the source is the context with the one term in its hole, and the explanation has the equation with the other one;
-- the context binds no variable of theirs, and the depths of the formulas of the step are within the limit
pub record CanSwap (ns : List Node) (d : ChainData) (way : List Frame) (swap : Swap) (source : ℕ) : Type 0 where
  pub equation : FormulaData
  pub is_equation : IsAt ns d swap.equation equation
  pub equates : Equates equation (term_at ns swap.from) (term_at ns swap.to)
  pub is_source : IsAt ns d source (formula_in (filled ns way (item_at ns swap.from)))
  pub free : IsFreeOf (bound_on way) (term_at ns swap.from)
  pub other_free : IsFreeOf (bound_on way) (term_at ns swap.to)
  pub shallow : IsShallow (formula_in (filled ns way (item_at ns swap.to)))
  pub pattern_shallow : IsShallow (formula_in (filled ns way (TermItem (VarTerm d.variable))))

-- the source is the equation of the left term with the one, and the explanation has the equation of the one with the
-- other
pub record CanPutRight (ns : List Node) (d : ChainData) (left : ℕ) (swap : Swap) (source : ℕ) : Type 0 where
  pub equation : FormulaData
  pub is_equation : IsAt ns d swap.equation equation
  pub equates : Equates equation (term_at ns swap.from) (term_at ns swap.to)
  pub is_source : IsAt ns d source (EqFormula (term_at ns left) (term_at ns swap.from))
  pub shallow : IsShallow (EqFormula (term_at ns left) (term_at ns swap.to))
