-- Structs that must be listed and are not, node by node.
use Rattle.std.specs.Prelude.{◌≡◌, ◌↔◌, IsTrue, ℕ, Bool, true, false, List, Option, Some, None, Contains, is_some, slice_index_or}
use Rattle.std.specs.Map.{lookup}
use Rattle.base.specs.TypeData.{TypeData, StructType}
use Rattle.base.specs.declared.types.FunctionId.{FunctionId}
use Rattle.base.specs.declared.types.StructId.{StructId}
use Rattle.program.specs.declared.arena.Node.TheVariants.{Many}
use Rattle.program.specs.declared.code.Callee.{Callee}
use Rattle.program.specs.declared.code.Callee.TheVariants.{Function as plain_function, Storage}
use Rattle.program.specs.declared.code.CodeMany.{CodeMany}
use Rattle.program.specs.declared.code.CodeMany.TheVariants.{Call}
use Rattle.program.specs.declared.declaration.Function.{Function}
use Rattle.program.specs.declared.program.ModuleId.{ModuleId}
use Rattle.program.specs.declared.program.Program.{Program}
use Rattle.program.specs.Homes.{function_home}
use Rattle.program.specs.Same.{same_function, same_struct}
use Rattle.program.specs.CodeNodes.{CodeNode}
use Rattle.typing_rules.specs.Acquires.{Takes}
use Rattle.typing_rules.specs.Pools.{type_at, types}
use Rattle.typing_rules.specs.declared.type_pool.PoolType.{PoolType}

-- ---- sets

abbrev pub StructSet : Type 0
StructSet = List (StructId × Unit {0})

abbrev pub has_struct : StructSet → StructId → Bool
has_struct set s = is_some (lookup (same_struct s) set)

-- exactly these structs are in the set
pub record IsSetOf (set : StructSet) (structs : List StructId) : Type 0 where
  pub has : (s : StructId) → Contains structs s → has_struct set s ≡ true
  pub only : (s : StructId) → has_struct set s ≡ true → Contains structs s

abbrev pub FunctionSet : Type 0
FunctionSet = List (FunctionId × Unit {0})

abbrev pub has_function : FunctionSet → FunctionId → Bool
has_function set f = is_some (lookup (same_function f) set)

-- ---- what is missing in the list of structs

-- one of these structs is missing
abbrev pub HasMissing : List StructId → List StructId → Type 0
HasMissing listed structs = (s : StructId) × Contains structs s × (Contains listed s → ⊥)

-- the type is a struct that is missing
abbrev pub IsMissing : List StructId → TypeData → Type 0
IsMissing listed (StructType s ts) = Contains listed s → ⊥
IsMissing listed _ = ⊥

-- a struct that a declared function lists is missing
abbrev pub DeclaredLacks : List StructId → Option Function → Type 0
DeclaredLacks listed None = ⊥
DeclaredLacks listed (Some f) = HasMissing listed f.acquires

-- a struct that a function of this module lists is missing
abbrev pub CalleeLacks : Program → ModuleId → List StructId → FunctionId → Type 0
CalleeLacks program own listed callee = (function_home callee ≡ own) × DeclaredLacks listed (lookup (same_function callee) program.functions)

-- a struct that this call, with this first type argument, requires to be listed is missing
abbrev pub CallLacks : Program → ModuleId → List StructId → TypeData → Callee → Type 0
CallLacks program own listed of (plain_function callee) = CalleeLacks program own listed callee
CallLacks program own listed of (Storage operation) = Takes operation × IsMissing listed of
CallLacks program own listed of _ = ⊥

abbrev pub FormLacks : Program → ModuleId → List StructId → TypeData → CodeMany → Type 0
FormLacks program own listed of (Call c) = CallLacks program own listed of c.callee
FormLacks program own listed of _ = ⊥

abbrev pub NodeLacks : Program → ModuleId → List StructId → TypeData → CodeNode → Type 0
NodeLacks program own listed of (Many form parts) = FormLacks program own listed of form
NodeLacks program own listed of _ = ⊥

-- the type of a type variable, by its number in the pool
abbrev pub type_of_variable : List PoolType → List ℕ → ℕ → TypeData
type_of_variable pool variables p = type_at (types pool) (slice_index_or variables p 0)

-- ---- functions that were examined

-- no function in the set lists a struct that is missing
pub record AreLooked (program : Program) (own : ModuleId) (listed : List StructId) (seen : FunctionSet) : Type 0 where
  pub each : (f : FunctionId) → has_function seen f ≡ true → CalleeLacks program own listed f → ⊥

-- whether something is missing is decided; and if nothing is, each function in the set has been examined
pub record Answers (program : Program) (own : ModuleId) (listed : List StructId) (seen : FunctionSet) (Lacks : Type 0) (lacks : Bool) : Type 0 where
  pub answer : IsTrue lacks ↔ Lacks
  pub looked : lacks ≡ false → AreLooked program own listed seen

-- for each list of the structs in the set
pub record Tells (program : Program) (own : ModuleId) (set : StructSet) (old new : FunctionSet) (Lacks : List StructId → Type 0) (lacks : Bool) : Type 0 where
  pub each : (listed : List StructId) → IsSetOf set listed → AreLooked program own listed old → Answers program own listed new (Lacks listed) lacks
