-- The functions of a program with their contracts, from the types of all its code and clauses.
use Rattle.std.specs.Prelude.{◌≡◌, ℕ, List, Some, slice_get}
use Rattle.base.specs.TypeData.{TypeData, ParamType}
use Rattle.base.specs.declared.types.FunctionId.{FunctionId}
use Rattle.program.specs.declared.declaration.Function.{Function}
use Rattle.program.specs.declared.program.Program.{Program}
use Rattle.semantics.specs.TypedBodies.{CodeTypes, constants_of, functions_of}
use Rattle.semantics.specs.SpecTrees.{SpecTypes, spec_declarations, typed_clauses}
use Rattle.semantics.specs.Keeping.{Setting, Contract, contract_of, KeepsContract}

-- the types of the type variables of all declarations; of functions also those of the clauses of each, in order
pub record ProgramTypes : Type 0 where
  pub code : CodeTypes
  pub spec : SpecTypes
  pub clauses : List (List (ℕ → TypeData))

abbrev pub setting_of : Program → ProgramTypes → Setting
setting_of program types = record {
  functions = functions_of program types.code;
  declarations = spec_declarations program (constants_of program types.code) types.spec;
  structs = program.structs;
}

abbrev pub contract_in : Program → ProgramTypes → FunctionId → Function → List (ℕ → TypeData) → Contract
contract_in program types name f clauses = contract_of name f (typed_clauses program (constants_of program types.code) ParamType f.clauses clauses)

-- the k-th function keeps its contract in runs of n turns
pub record Keeps (program : Program) (types : ProgramTypes) (k n : ℕ) : Type 0 where
  pub name : FunctionId
  pub function : Function
  pub clauses : List (ℕ → TypeData)
  pub is_declared : slice_get program.functions k ≡ Some (name, function)
  pub are_typed : slice_get types.clauses k ≡ Some clauses
  pub keeps : KeepsContract (setting_of program types) (contract_in program types name function clauses) n
