-- A program with its type tables.
use Rattle.std.specs.Prelude.{◌≡◌}
use Rattle.base.specs.Pairs.{Paired}
use Rattle.base.specs.TypeData.{NoTypes}
use Rattle.program.specs.declared.program.Program.{Program}
use Rattle.program.specs.FieldNumbers.{AreFieldNumbers}
use Rattle.typing_rules.specs.CodeSystems.{function_system, constant_system}
use Rattle.typing_rules.specs.Clauses.{StructBlock, ModuleBlock, module_names, spec_function_system, struct_names}
use Rattle.type_check.specs.Clauses.{AreClauseTables, AreFunctionClauses}
use Rattle.type_check.specs.TypedProgramInstances.{AreInstanceTables}
use Rattle.type_check.specs.Tables.{IsTable}
use Rattle.type_check.specs.declared.typed_program.TypedProgram.{TypedProgram}

-- the tables of each declaration of the program, in their order
pub record IsTypedProgram (program : Program) (typed : TypedProgram) : Type 0 where
  pub same : typed.program ≡ program
  pub functions : Paired (λ f t. IsTable (function_system program f.1) t) program.functions typed.functions.items
  pub constants : Paired (λ c t. IsTable (constant_system program c.1) t) program.constants typed.constants.items
  pub spec_functions : Paired (λ f t. IsTable (spec_function_system program f.1) t) program.spec_functions typed.spec_functions.items
  pub function_clauses : Paired (λ f c. AreFunctionClauses program f.1 c) program.functions typed.function_clauses.items
  pub struct_clauses : Paired (λ s t. AreClauseTables program (struct_names s.1) StructBlock NoTypes s.1.clauses t) program.structs typed.struct_clauses.items
  pub module_clauses : Paired (λ m t. AreClauseTables program module_names ModuleBlock NoTypes m.1.clauses t) program.modules typed.module_clauses.items
  pub instances : AreInstanceTables program typed.instances
  pub fields : AreFieldNumbers program.structs typed.fields
