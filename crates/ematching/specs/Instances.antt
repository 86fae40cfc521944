-- Due instances of quantified entries, by number.
use Rattle.std.specs.Prelude.{◌≡◌, ℕ, ◌+◌, ◌≤◌, ◌<◌, max, List, slice_get, Some}
use Rattle.fol.specs.Depth.{term_depth}
use Rattle.fol.specs.FormulaData.{TermData, FormulaData}
use Rattle.term_pool.specs.declared.node.Node.{Node}
use Rattle.certificates.specs.Closes.{most_deep}
use Rattle.certificates.specs.BranchesBranch.{Branch, Entry, IsGeneration}
use Rattle.certificates.specs.Due.{InstanceDue, most_generations}
use Rattle.tableau.specs.PoolBranches.{IsFormulaNumber, IsTermNumber}
use Rattle.ematching.specs.Numbers.{term_at, formula_at}
use Rattle.ematching.specs.Quantified.{IsQuantified}
use Rattle.ematching.specs.QuantifierFree.{quantifier_free}
use Rattle.ematching.specs.declared.instances.due.InstanceStep.{InstanceStep}
use Rattle.ematching.specs.declared.instances.due.QuantifiedEntry.{QuantifiedEntry}

-- ---- no instance is due

-- no instance of the entry for the term is due
pub record NoInstanceFor (b : Branch) (i : ℕ) (t : TermData) : Type 0 where
  pub none : (p : FormulaData) (g : ℕ) → InstanceDue b i t p g → ⊥

-- no instance of the entry is due
pub record NoInstanceAt (b : Branch) (i : ℕ) : Type 0 where
  pub none : (t : TermData) (p : FormulaData) (g : ℕ) → InstanceDue b i t p g → ⊥

-- no instance of any entry before this one is due
pub record NoInstanceBefore (b : Branch) (count : ℕ) : Type 0 where
  pub each : (i : ℕ) → i < count → NoInstanceAt b i

-- no instance of any entry is due
pub record NoInstance (b : Branch) : Type 0 where
  pub each : (i : ℕ) → NoInstanceAt b i

-- ---- an instance is due

pub record IsInstanceOf (ns : List Node) (b : Branch) (step : InstanceStep) : Type 0 where
  pub term : IsTermNumber ns step.term
  pub formula : IsFormulaNumber ns step.formula
  pub due : InstanceDue b step.entry (term_at ns step.term) (formula_at ns step.formula) step.generation

-- an instance of this entry is due
pub record IsInstanceAt (ns : List Node) (b : Branch) (i : ℕ) (step : InstanceStep) : Type 0 where
  pub position : step.entry ≡ i
  pub instance : IsInstanceOf ns b step

-- an instance of the first entry that has one is due
pub record IsInstanceStep (ns : List Node) (b : Branch) (step : InstanceStep) : Type 0 where
  pub instance : IsInstanceOf ns b step
  pub first : NoInstanceBefore b step.entry

-- ---- intermediate results

-- an instance for the term of an entry with the first generation may be due, and has the second generation
pub record IsNextGeneration (b : Branch) (generation : ℕ) (t : TermData) (next : ℕ) : Type 0 where
  pub older : ℕ
  pub is_older : IsGeneration b t older
  pub is_next : next ≡ max generation older + 1
  pub few : next ≤ most_generations
  pub shallow : term_depth t ≤ most_deep

pub record HasNoGeneration (b : Branch) (generation : ℕ) (t : TermData) : Type 0 where
  pub none : (next : ℕ) → IsNextGeneration b generation t next → ⊥

-- a universal entry
pub record IsQuantifiedEntry (ns : List Node) (b : Branch) (q : QuantifiedEntry) : Type 0 where
  pub entry : Entry
  pub found : slice_get b q.entry ≡ Some entry
  pub generation : entry.generation ≡ q.generation
  pub formula : IsFormulaNumber ns q.formula
  pub says : entry.formula ≡ formula_at ns q.formula
  pub quantified : IsQuantified ns (formula_at ns q.formula) q.universal
  pub free : q.is_free ≡ quantifier_free (formula_at ns q.universal.body)

-- the entry with this number is universal
pub record IsQuantifiedAt (ns : List Node) (b : Branch) (i : ℕ) (q : QuantifiedEntry) : Type 0 where
  pub position : q.entry ≡ i
  pub is : IsQuantifiedEntry ns b q
