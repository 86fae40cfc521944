-- Instances of the axiom on ranges, and case splits at such entries, by number.
use Rattle.std.specs.Prelude.{◌≡◌, ℕ, Bool, true, false, List, slice_get, Option, Some, None}
use Rattle.fol.specs.declared.operators.Connective.TheVariants.{Iff}
use Rattle.fol.specs.FormulaData.{FormulaData, IffFormula}
use Rattle.axioms.specs.declared.axiom.Axiom.{Axiom}
use Rattle.axioms.specs.declared.axiom.Axiom.TheVariants.{Exactly}
use Rattle.axioms.specs.declared.axiom.Equivalence.TheVariants.{Range}
use Rattle.term_pool.specs.declared.node.Node.{Node}
use Rattle.certificates.specs.BranchesBranch.{Branch, Says}
use Rattle.certificates.specs.Due.{IsRange}
use Rattle.tableau.specs.PoolBranches.{IsFormulaNumber}
use Rattle.tableau.specs.Numbers.{formula_at}
use Rattle.tableau.specs.Steps.{AreCasesDue}
use Rattle.tableau.specs.declared.rules.compounds.Compound.{Compound}
use Rattle.tableau.specs.declared.rules.compounds.Compound.TheVariants.{Connect}
use Rattle.tableau.specs.declared.rules.formulas.EntryStep.{EntryStep}
use Rattle.axiom_instances.specs.declared.triggered.TriggeredAxiom.{TriggeredAxiom}
use Rattle.tableau.specs.States.{NoRangeSplitAt, NoRangeSplitBefore}

-- ---- equivalences

pub record IsNoEquivalence (p : FormulaData) : Type 0 where
  pub none : (q r : FormulaData) → p ≡ IffFormula q r → ⊥

-- the formula is an equivalence, and this is the number of its left side
pub record IsLeftSide (ns : List Node) (p : FormulaData) (left : ℕ) : Type 0 where
  pub number : IsFormulaNumber ns left
  pub right : FormulaData
  pub is : p ≡ IffFormula (formula_at ns left) right

abbrev pub left_of : Compound → Option ℕ
left_of (Connect Iff left right) = Some left
left_of _ = None

-- ---- instances of the axiom on ranges

abbrev pub is_range_axiom : Axiom → Bool
is_range_axiom (Exactly Range) = true
is_range_axiom _ = false

-- the instance has this number, and is one of the axiom on ranges
pub record IsRangeInstance (x : TriggeredAxiom) (formula : ℕ) : Type 0 where
  pub is_formula : x.formula ≡ formula
  pub is_range : x.name ≡ Exactly Range

-- some instance of the list has this number and is one of the axiom on ranges
pub record ListsRange (instances : List TriggeredAxiom) (formula : ℕ) : Type 0 where
  pub position : ℕ
  pub instance : TriggeredAxiom
  pub found : slice_get instances position ≡ Some instance
  pub is : IsRangeInstance instance formula

-- ---- case splits

-- no case split is due at an entry that is an instance of the axiom on ranges
pub record NoRangeSplit (b : Branch) : Type 0 where
  pub each : (i : ℕ) → NoRangeSplitAt b i

-- the entry is such an instance, and these are the numbers of the cases of a split that is due there
pub record IsRangeSplitAt (ns : List Node) (b : Branch) (i : ℕ) (numbers : List ℕ) : Type 0 where
  pub formula : FormulaData
  pub says : Says b i formula
  pub is_range : IsRange formula
  pub cases : AreCasesDue ns b i numbers

-- the first such entry, with these numbers
pub record IsRangeSplitStep (ns : List Node) (b : Branch) (step : EntryStep) : Type 0 where
  pub split : IsRangeSplitAt ns b step.entry step.formulas.items
  pub first : NoRangeSplitBefore b step.entry
