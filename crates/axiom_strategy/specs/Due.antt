-- Instances of axioms that are due on a branch, among those triggered.
use Rattle.std.specs.Prelude.{◌≡◌, ◌⊎◌, ℕ, ◌<◌, List}
use Rattle.fol.specs.declared.shapes.Shape.{Shape}
use Rattle.fol.specs.FormulaData.{TermData, FormulaData}
use Rattle.axioms.specs.declared.axiom.Axiom.{Axiom}
use Rattle.axioms.specs.declared.axiom.Axiom.TheVariants.{Exactly, Plain}
use Rattle.axioms.specs.declared.axiom.Equivalence.TheVariants.{Range}
use Rattle.axioms.specs.declared.axiom.Fact.TheVariants.{Whole}
use Rattle.term_pool.specs.Items.{FormulaItem}
use Rattle.term_pool.specs.Pools.{IsItem}
use Rattle.term_pool.specs.declared.node.Node.{Node}
use Rattle.certificates.specs.BranchesBranch.{Branch, IsNew}
use Rattle.certificates.specs.Due.{IsShallow, AreGenerations, AxiomDue}
use Rattle.certificates.specs.Table.{Asks}
use Rattle.axiom_strategy.specs.declared.due.WantedAxioms.{WantedAxioms}
use Rattle.axiom_strategy.specs.declared.due.WantedAxioms.TheVariants.{Ranges, All}
use Rattle.axiom_strategy.specs.declared.due.AxiomStep.{AxiomStep}

-- which instances are triggered: an axiom, the terms that it is instantiated with, and the formula
abbrev pub Asking : Type 1
Asking = Axiom → List TermData → FormulaData → Type 0

-- the wanted axioms: the range axioms, which state which terms are whole numbers of a range, or all axioms
abbrev pub IsWanted : WantedAxioms → Axiom → Type 0
IsWanted Ranges name = (name ≡ Exactly Range) ⊎ (name ≡ Plain Whole)
IsWanted All name = Unit {0}

-- a triggered instance is due: it is new on the branch and does not exceed the maximal depth of a formula
pub record IsDue (b : Branch) (asks : Asking) (name : Axiom) (p : FormulaData) (generation : ℕ) : Type 0 where
  pub terms : List TermData
  pub triggered : asks name terms p
  pub generations : AreGenerations b terms generation
  pub is_new : IsNew b p
  pub shallow : IsShallow p

-- no triggered instance of a wanted axiom is due
pub record NoneDue (b : Branch) (wanted : WantedAxioms) (asks : Asking) : Type 0 where
  pub none : (name : Axiom) (p : FormulaData) (generation : ℕ) → IsWanted wanted name → IsDue b asks name p generation → ⊥

-- a triggered instance of a wanted axiom is due, with the number of its formula
pub record IsDueStep (ns : List Node) (b : Branch) (wanted : WantedAxioms) (asks : Asking) (step : AxiomStep) : Type 0 where
  pub formula : FormulaData
  pub number : IsItem ns step.formula (FormulaItem formula)
  pub is_wanted : IsWanted wanted step.name
  pub due : IsDue b asks step.name formula step.generation

-- one of the first `count` triggers triggers it
pub record AsksOfSome (count : ℕ) (asks : ℕ → Asking) (name : Axiom) (ts : List TermData) (p : FormulaData) : Type 0 where
  pub position : ℕ
  pub before : position < count
  pub triggered : asks position name ts p

-- ---- by the table of axioms

-- no instance of a wanted axiom that the table triggers on the branch is due
abbrev pub NoAxiom : List Shape → Branch → WantedAxioms → Type 0
NoAxiom shapes b wanted = NoneDue b wanted (Asks shapes b)

-- an instance of a wanted axiom is due, with the number of its formula
pub record IsAxiomStep (ns : List Node) (shapes : List Shape) (b : Branch) (wanted : WantedAxioms) (step : AxiomStep) : Type 0 where
  pub formula : FormulaData
  pub number : IsItem ns step.formula (FormulaItem formula)
  pub is_wanted : IsWanted wanted step.name
  pub due : AxiomDue shapes b step.name formula step.generation

-- ---- what comes first in a search

-- no range axiom is due, neither by the table nor as a decision
pub record NothingOfRanges (shapes : List Shape) (b : Branch) : Type 0 where
  pub no_range : (p : FormulaData) (g : ℕ) → AxiomDue shapes b (Exactly Range) p g → ⊥
  pub no_whole : (p : FormulaData) (g : ℕ) → AxiomDue shapes b (Plain Whole) p g → ⊥
