-- Which structs a function must list in `acquires`. Source: The Move Book, "Annotating functions with acquires".
use Rattle.std.specs.Prelude.{◌≡◌, ◌⊎◌, ℕ, Contains, Some}
use Rattle.std.specs.Map.{lookup}
use Rattle.base.specs.TypeData.{TypesData, StructType}
use Rattle.base.specs.declared.types.FunctionId.{FunctionId}
use Rattle.base.specs.declared.types.StructId.{StructId}
use Rattle.program.specs.declared.code.Callee.TheVariants.{Function as plain_function, Storage}
use Rattle.program.specs.declared.operator.StorageOperation.{StorageOperation}
use Rattle.program.specs.declared.operator.StorageOperation.TheVariants.{MoveTo, MoveFrom, BorrowGlobal, BorrowGlobalMut, Exists}
use Rattle.program.specs.declared.declaration.Function.{Function}
use Rattle.program.specs.declared.program.Program.{Program}
use Rattle.program.specs.Homes.{function_home}
use Rattle.program.specs.Same.{same_function}
use Rattle.typing_rules.specs.Calls.{CallsAt, HasArgument}

-- the operation moves a value out of storage, or borrows it there
abbrev pub Takes : StorageOperation → Type 0
Takes MoveTo = ⊥
Takes MoveFrom = Unit {0}
Takes BorrowGlobal = Unit {0}
Takes BorrowGlobalMut = Unit {0}
Takes Exists = ⊥

-- the body moves a struct out of storage, or borrows it there
pub record TakesStruct (program : Program) (f : Function) (s : StructId) : Type 0 where
  pub node : ℕ
  pub operation : StorageOperation
  pub calls : CallsAt program f node (Storage operation)
  pub takes : Takes operation
  pub arguments : TypesData
  pub given : HasArgument program f node 0 (StructType s arguments)

-- the body calls a function of its module that lists the struct
pub record CallsLister (program : Program) (id : FunctionId) (f : Function) (s : StructId) : Type 0 where
  pub node : ℕ
  pub callee : FunctionId
  pub calls : CallsAt program f node (plain_function callee)
  pub same_module : function_home callee ≡ function_home id
  pub declaration : Function
  pub declared : lookup (same_function callee) program.functions ≡ Some declaration
  pub lists : Contains declaration.acquires s

-- the function must list the struct
abbrev pub Acquires : Program → FunctionId → Function → StructId → Type 0
Acquires program id f s = TakesStruct program f s ⊎ CallsLister program id f s

-- a struct that it must list is missing
abbrev pub LacksAcquires : Program → FunctionId → Function → Type 0
LacksAcquires program id f = (s : StructId) × Acquires program id f s × (Contains f.acquires s → ⊥)
