-- Runs of the initialisers of constants, in the typings with default integer types.
use Rattle.std.specs.Prelude.{◌≡◌, ℕ, ◌<◌, List, [], ◌∷◌, length, None, Some, slice_get, slice_index_or}
use Rattle.base.specs.TypeData.{TypeData, IntType}
use Rattle.base.specs.declared.types.Width.TheVariants.{U8, U16, U32, U64, U128}
use Rattle.program.specs.declared.arena.Node.TheVariants.{Leaf}
use Rattle.program.specs.declared.code.CodeLeaf.TheVariants.{Number}
use Rattle.program.specs.declared.code.Number.{Number as NumberData}
use Rattle.program.specs.CodeNodes.{CodeNode}
use Rattle.typing_rules.specs.Constraint.{Typing}
use Rattle.typing_rules.specs.Answers.{System, IsDefaulted}
use Rattle.typing_rules.specs.ConstantRuns.{run_of}
use Rattle.typing_rules.specs.Pools.{type_at}

abbrev pub integer_types : List TypeData
integer_types = IntType U8 ∷ IntType U16 ∷ IntType U32 ∷ IntType U64 ∷ IntType U128 ∷ []

-- the type variable has the integer type with this number
pub record IsNumberType (s : System) (variable number : ℕ) : Type 0 where
  pub is : (t : Typing) → IsDefaulted s t → t variable ≡ type_at integer_types number

-- the type variable of a node that is a number literal has this type
pub record IsNodeType (s : System) (nodes : List CodeNode) (variable number : ℕ) : Type 0 where
  pub is : (value : NumberData) → slice_get nodes variable ≡ Some (Leaf (Number value)) → IsNumberType s variable number

-- the types of the first nodes, as many as there are numbers
pub record AreNodeTypes (s : System) (nodes : List CodeNode) (numbers : List ℕ) : Type 0 where
  pub each : (variable : ℕ) → variable < length numbers → IsNodeType s nodes variable (slice_index_or numbers variable 0)

-- a run of these nodes does not return
pub record FailsToRun (s : System) (nodes : List CodeNode) : Type 0 where
  pub typing : Typing
  pub chosen : IsDefaulted s typing
  pub fails : (t : Typing) → IsDefaulted s t → run_of nodes t ≡ None
