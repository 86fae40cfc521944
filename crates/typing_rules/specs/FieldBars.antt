-- Accesses to fields of structs of other modules, and storage operations with inferred type arguments that are such
-- structs or type parameters. Source: The Move Book, "Structs and Resources", on privileged struct operations, and
-- "Global Storage Operators".
use Rattle.std.specs.Prelude.{◌≡◌, ◌⊎◌, ℕ, suc, List, take, Some, slice_get}
use Rattle.base.specs.TypeData.{TypeData}
use Rattle.base.specs.declared.types.StructId.{StructId}
use Rattle.program.specs.declared.arena.Node.TheVariants.{Unary, Many}
use Rattle.program.specs.declared.code.CodeUnary.TheVariants.{Field}
use Rattle.program.specs.declared.code.CodeMany.TheVariants.{Call as call_form}
use Rattle.program.specs.declared.code.Call.{Call}
use Rattle.program.specs.declared.code.Callee.TheVariants.{Storage}
use Rattle.program.specs.declared.operator.StorageOperation.{StorageOperation}
use Rattle.program.specs.declared.declaration.Function.{Function}
use Rattle.program.specs.declared.program.ModuleId.{ModuleId}
use Rattle.program.specs.declared.program.Program.{Program}
use Rattle.program.specs.Homes.{struct_home}
use Rattle.program.specs.StorageTypes.{TypeIsVisible}
use Rattle.typing_rules.specs.Sorts.{behind, struct_in}
use Rattle.typing_rules.specs.Constraint.{Typing}
use Rattle.typing_rules.specs.Settings.{first_argument}
use Rattle.typing_rules.specs.Answers.{System, Typings, HasTyping, NodeIsRead}
use Rattle.typing_rules.specs.CodeSystems.{function_setting, function_system}

-- the system of the first so many steps alone
abbrev pub first_steps : System → ℕ → System
first_steps s k = record { reading = s.reading; steps = take k s.steps; variables = s.variables; dropped = s.dropped; open_integer = s.open_integer }

-- The first so many nodes have typings, and the node with this number is among them and read.
pub record IsJudged (s : System) (count node : ℕ) : Type 0 where
  pub exists : HasTyping (first_steps s (suc count))
  pub is_read : NodeIsRead (first_steps s (suc count)) node

-- an access to a field of a struct of another module, before the first node at which no typing is left
pub record BarsField (program : Program) (own : ModuleId) (f : Function) : Type 0 where
  pub count : ℕ
  pub node : ℕ
  pub name : List ℕ
  pub base : ℕ
  pub stands : slice_get f.body.nodes node ≡ Some (Unary (Field name) base)
  pub judged : IsJudged (function_system program f) count node
  pub owner : StructId
  pub settled : (t : Typing) → Typings (first_steps (function_system program f) (suc count)) t → struct_in (behind (t base)) ≡ Some owner
  pub elsewhere : struct_home owner ≡ own → ⊥

-- a storage operation whose type argument, which is settled, the own module may not use in storage operations
pub record BarsStorage (program : Program) (own : ModuleId) (f : Function) : Type 0 where
  pub count : ℕ
  pub node : ℕ
  pub call : Call
  pub parts : List ℕ
  pub stands : slice_get f.body.nodes node ≡ Some (Many (call_form call) parts)
  pub operation : StorageOperation
  pub callee_is : call.callee ≡ Storage operation
  pub judged : IsJudged (function_system program f) count node
  pub of : TypeData
  pub settled : (t : Typing) → Typings (first_steps (function_system program f) (suc count)) t → t (first_argument (function_setting program f) node) ≡ of
  pub barred : TypeIsVisible own f.type_parameters of → ⊥

abbrev pub BarsUse : Program → ModuleId → Function → Type 0
BarsUse program own f = BarsField program own f ⊎ BarsStorage program own f
