-- Number literals at nodes, and those that are no values of their types.
use Rattle.std.specs.Prelude.{◌≡◌, ℕ, false, List, Some, slice_get}
use Rattle.program.specs.declared.arena.Node.TheVariants.{Leaf}
use Rattle.program.specs.declared.code.CodeLeaf.TheVariants.{Number}
use Rattle.program.specs.declared.code.Number.{Number as NumberData}
use Rattle.program.specs.CodeNodes.{CodeNode}
use Rattle.typing_rules.specs.Constraint.{Typing}
use Rattle.typing_rules.specs.Answers.{System, IsDefaulted}
use Rattle.typing_rules.specs.Fitting.{number_fits}

abbrev pub IsNoNumber : CodeNode → Type 0
IsNoNumber node = (number : NumberData) → node ≡ Leaf (Number number) → ⊥

pub record IsNumber (node : CodeNode) (value : ℕ) : Type 0 where
  pub number : NumberData
  pub is : node ≡ Leaf (Number number)
  pub value_is : number.value ≡ value

-- the number is no value of the type of the type variable, in every typing with default integer types
pub record NumberMisfits (s : System) (variable value : ℕ) : Type 0 where
  pub each : (t : Typing) → IsDefaulted s t → number_fits value (t variable) ≡ false

-- the node is such a number literal
pub record MisfitAt (s : System) (nodes : List CodeNode) (variable : ℕ) : Type 0 where
  pub number : NumberData
  pub stands : slice_get nodes variable ≡ Some (Leaf (Number number))
  pub misfits : NumberMisfits s variable number.value
