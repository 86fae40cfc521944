-- The list of all due instances of axioms on a branch.
use Rattle.std.specs.Prelude.{◌≡◌, ℕ, List, ◌++◌, All, Contains}
use Rattle.fol.specs.declared.shapes.Shape.{Shape}
use Rattle.fol.specs.FormulaData.{FormulaData}
use Rattle.axioms.specs.declared.axiom.Axiom.{Axiom}
use Rattle.term_pool.specs.Items.{FormulaItem}
use Rattle.term_pool.specs.Pools.{IsItem}
use Rattle.term_pool.specs.declared.node.Node.{Node}
use Rattle.certificates.specs.BranchesBranch.{Branch}
use Rattle.certificates.specs.Table.{Asks}
use Rattle.axiom_strategy.specs.declared.due.WantedAxioms.TheVariants.{All as AllAxioms}
use Rattle.axiom_strategy.specs.declared.due.AxiomStep.{AxiomStep}
use Rattle.axiom_strategy.specs.Due.{Asking, IsDue, IsDueStep}

-- the list contains the instance, with the number of its formula
pub record IsListedStep (ns : List Node) (steps : List AxiomStep) (name : Axiom) (p : FormulaData) (generation : ℕ) : Type 0 where
  pub step : AxiomStep
  pub among : Contains steps step
  pub same_name : step.name ≡ name
  pub number : IsItem ns step.formula (FormulaItem p)
  pub same_generation : step.generation ≡ generation

-- exactly the triggered instances that are due
pub record AreDueSteps (ns : List Node) (b : Branch) (asks : Asking) (steps : List AxiomStep) : Type 0 where
  pub due : All (IsDueStep ns b AllAxioms asks) steps
  pub all : (name : Axiom) (p : FormulaData) (generation : ℕ) → IsDue b asks name p generation → IsListedStep ns steps name p generation

-- exactly these are appended
pub record AddsDueSteps (ns : List Node) (b : Branch) (asks : Asking) (old new : List AxiomStep) : Type 0 where
  pub more : List AxiomStep
  pub is : new ≡ old ++ more
  pub are_due : AreDueSteps ns b asks more

-- exactly the due instances of the table of axioms on the branch
abbrev pub AreDueInstances : List Node → List Shape → Branch → List AxiomStep → Type 0
AreDueInstances ns shapes b steps = AreDueSteps ns b (Asks shapes b) steps
