-- Nodes that access a field of a struct of another module, or storage at a type that is not visible, in all of some
-- typings.
use Rattle.std.specs.Prelude.{◌≡◌, ℕ, ◌<◌, List, length, Option, Some, slice_get}
use Rattle.base.specs.TypeData.{TypeData}
use Rattle.base.specs.declared.types.StructId.{StructId}
use Rattle.program.specs.Trees.{IsBelow}
use Rattle.program.specs.declared.arena.Node.TheVariants.{Unary, Many}
use Rattle.program.specs.declared.code.CodeUnary.TheVariants.{Field}
use Rattle.program.specs.declared.code.CodeMany.TheVariants.{Call}
use Rattle.program.specs.declared.code.Callee.{Callee}
use Rattle.program.specs.declared.code.Callee.TheVariants.{Storage}
use Rattle.program.specs.declared.declaration.Function.{Function}
use Rattle.program.specs.declared.declaration.TypeParameter.{TypeParameter}
use Rattle.program.specs.declared.program.ModuleId.{ModuleId}
use Rattle.program.specs.declared.program.Program.{Program}
use Rattle.program.specs.Homes.{struct_home}
use Rattle.program.specs.CodeNodes.{CodeNode}
use Rattle.program.specs.StorageTypes.{TypeIsVisible}
use Rattle.unification.specs.Slots.{Typing, Fits}
use Rattle.unification.specs.Ranks.{IsRank}
use Rattle.unification.specs.declared.type_variables.slots.Slot.{Slot}
use Rattle.typing_rules.specs.CodeSystems.{function_setting}
use Rattle.typing_rules.specs.Settings.{first_argument}
use Rattle.typing_rules.specs.Sorts.{behind, struct_in}
use Rattle.typing_rules.specs.declared.type_pool.PoolType.{PoolType}
use Rattle.unification.specs.Roots.{AreRoots}
use Rattle.unification.specs.Numbers.{TableSays}

-- the type of a variable is, or points at, a struct of another module
abbrev pub FieldBars : ModuleId → (Typing → Type 0) → ℕ → Type 0
FieldBars own These base = (owner : StructId) × (((t : Typing) → These t → struct_in (behind (t base)) ≡ Some owner) × (struct_home owner ≡ own → ⊥))

-- the type of a variable is not visible
abbrev pub StorageBars : ModuleId → List TypeParameter → (Typing → Type 0) → ℕ → Type 0
StorageBars own types These first = (of : TypeData) × (((t : Typing) → These t → t first ≡ of) × (TypeIsVisible own types of → ⊥))

abbrev pub CallBars : ModuleId → List TypeParameter → (Typing → Type 0) → ℕ → Callee → Type 0
CallBars own types These first (Storage operation) = StorageBars own types These first
CallBars own types These first _ = ⊥

-- a node whose type arguments are the type variables from this one on
abbrev pub NodeBars : ModuleId → List TypeParameter → (Typing → Type 0) → ℕ → CodeNode → Type 0
NodeBars own types These first (Unary (Field name) base) = FieldBars own These base
NodeBars own types These first (Many (Call c) parts) = CallBars own types These first c.callee
NodeBars own types These first _ = ⊥

-- the node with this number
pub record BarsAt (program : Program) (f : Function) (own : ModuleId) (types : List TypeParameter) (These : Typing → Type 0) (n : ℕ) : Type 0 where
  pub form : CodeNode
  pub stands : slice_get f.body.nodes n ≡ Some form
  pub below : IsBelow n form
  pub bars : NodeBars own types These (first_argument (function_setting program f) n) form

-- one of the first so many nodes
pub record SomeBars (program : Program) (f : Function) (own : ModuleId) (types : List TypeParameter) (These : Typing → Type 0) (read : ℕ) : Type 0 where
  pub node : ℕ
  pub within : node < read
  pub at : BarsAt program f own types These node

-- none of them
pub record NoneBars (program : Program) (f : Function) (own : ModuleId) (types : List TypeParameter) (These : Typing → Type 0) (read : ℕ) : Type 0 where
  pub each : (n : ℕ) (form : CodeNode) → n < read → slice_get f.body.nodes n ≡ Some form → NodeBars own types These (first_argument (function_setting program f) n) form → ⊥

-- what is known of the types of type variables: the representative of each, and the number of its type in the pool, if
-- it has one
pub record IsListed (slots : List Slot) (roots : List ℕ) (pool : List PoolType) (numbers : List (Option ℕ)) : Type 0 where
  pub fits : Fits slots
  pub roots_are : AreRoots slots roots (length slots)
  pub ranked : (r : ℕ → ℕ) × IsRank slots r
  pub table : TableSays slots (length slots) pool numbers
