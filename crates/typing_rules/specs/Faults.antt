-- Which declaration of a program breaks a typing rule, and which of them is the first one. A declaration is identified
-- by the span of its first token; a clause by that of its spec block.
use Rattle.std.specs.Prelude.{◌≡◌, ℕ, ◌+◌, Bool, false, ◌&&◌, List, length, map, take, Contains, Option, Some, None, slice_get}
use Rattle.std.specs.Map.{lookup}
use Rattle.std.specs.List.{list_all}
use Rattle.base.specs.TypeData.{TypeData, TypesData, NoTypes, list_of_types}
use Rattle.base.specs.declared.span.Span.{Span}
use Rattle.base.specs.declared.types.FunctionId.{FunctionId}
use Rattle.base.specs.declared.types.StructId.{StructId}
use Rattle.program.specs.declared.clause.Clause.{Clause}
use Rattle.program.specs.declared.clause.ClauseForm.TheVariants.{Include}
use Rattle.program.specs.declared.declaration.Constant.{Constant}
use Rattle.program.specs.declared.declaration.Function.{Function}
use Rattle.program.specs.declared.declaration.Module.{Module}
use Rattle.program.specs.declared.declaration.Schema.{Schema}
use Rattle.program.specs.declared.declaration.SpecFunction.{SpecFunction}
use Rattle.program.specs.declared.declaration.Struct.{Struct}
use Rattle.program.specs.declared.program.ConstantId.{ConstantId}
use Rattle.program.specs.declared.program.ModuleId.{ModuleId}
use Rattle.program.specs.declared.program.Program.{Program}
use Rattle.program.specs.declared.program.SchemaId.{SchemaId}
use Rattle.program.specs.Homes.{function_home}
use Rattle.program.specs.Same.{same_schema}
use Rattle.typing_rules.specs.ProperTypes.{is_proper_single, is_proper_value}
use Rattle.typing_rules.specs.Constraint.{Typing}
use Rattle.typing_rules.specs.Settings.{variable_of_local}
use Rattle.typing_rules.specs.Answers.{System, HasType, IsDefaulted, IsUntypable, IsAmbiguous}
use Rattle.typing_rules.specs.CodeSystems.{function_setting, function_system, constant_system}
use Rattle.typing_rules.specs.SpecConstraints.{spec_variable_count}
use Rattle.typing_rules.specs.Clauses.{Block, FunctionBlock, StructBlock, ModuleBlock, LoopBlock, Names, LetType, AreLets, clause_setting, clause_system, function_names, struct_names, module_names, loop_names, schema_arity, schema_names, spec_function_system}
use Rattle.typing_rules.specs.Fitting.{Misfits}
use Rattle.typing_rules.specs.ConstantRuns.{run_of}
use Rattle.typing_rules.specs.Calls.{IsWrapping}
use Rattle.typing_rules.specs.Required.{FunctionLacksAbility, StructLacksAbility}
use Rattle.typing_rules.specs.Acquires.{LacksAcquires}
use Rattle.typing_rules.specs.FieldBars.{BarsUse}

-- ---- the clauses of a program, in their blocks

-- a clause of an owner with these names, in a block of this kind, where a clause of an included schema has these types
-- substituted for the schema's type parameters
pub record Stated : Type 0 where
  pub names : Names
  pub block : Block
  pub types : TypesData
  pub clause : Clause
  -- the span of its block, or of the block that includes its schema
  pub span : Span

abbrev pub stated_system : Program → Stated → System
stated_system program c = clause_system program c.names c.block c.types c.clause

-- a clause of an owner: the `let`s of the clauses before it are in scope
pub record IsOwned (program : Program) (block : Block) (names : List (Option LetType) → Names) (clauses : List Clause) (c : Stated) : Type 0 where
  pub lets : List (Option LetType)
  pub are_lets : AreLets (λ before. clause_system program (names before) block NoTypes) clauses lets
  pub number : ℕ
  pub one : slice_get clauses number ≡ Some c.clause
  pub names_are : c.names ≡ names (take number lets)
  pub block_is : c.block ≡ block
  pub types_are : c.types ≡ NoTypes
  pub span_is : c.span ≡ c.clause.block

-- a clause of a loop: the locals have the types that the typing of the function gives them
pub record IsOfLoop (program : Program) (f : Function) (c : Stated) : Type 0 where
  pub locals : List TypeData
  pub same_length : length locals ≡ length f.locals
  pub each : (l : ℕ) (of : TypeData) → slice_get locals l ≡ Some of → HasType (function_system program f) (variable_of_local (function_setting program f) l) of
  pub names_are : c.names ≡ loop_names f.result locals
  pub block_is : c.block ≡ LoopBlock
  pub types_are : c.types ≡ NoTypes
  pub one : Contains (map (λ l. l.clause) f.loop_clauses) c.clause
  pub span_is : c.span ≡ c.clause.block

-- a clause of a schema that this clause includes, with the types of the type arguments given there
pub record IsIncluded (program : Program) (from c : Stated) : Type 0 where
  pub schema : SchemaId
  pub types : TypesData
  pub given : List ℕ
  pub form_is : from.clause.form ≡ Include schema types given
  pub declared : Schema
  pub lookup_is : lookup (same_schema schema) program.schemas ≡ Some declared
  pub same_length : schema_arity (Some declared) ≡ length (list_of_types c.types)
  pub arguments : (i : ℕ) (of : TypeData) → slice_get (list_of_types c.types) i ≡ Some of
      → HasType (stated_system program from) (spec_variable_count (clause_setting program from.names from.block from.types from.clause) + i) of
  pub lets : List (Option LetType)
  pub are_lets : AreLets (λ before. clause_system program (schema_names declared c.types before) from.block c.types) declared.clauses lets
  pub number : ℕ
  pub one : slice_get declared.clauses number ≡ Some c.clause
  pub names_are : c.names ≡ schema_names declared c.types (take number lets)
  pub block_is : c.block ≡ from.block
  pub span_is : c.span ≡ from.span

-- the clauses of a program, each with its setting
pub data IsStated (program : Program) : Stated → Type 0 where
  OfFunction : (id : FunctionId) (f : Function) (c : Stated) → Contains program.functions (id, f)
      → IsOwned program FunctionBlock (function_names f) f.clauses c → IsStated program c
  OfLoop : (id : FunctionId) (f : Function) (c : Stated) → Contains program.functions (id, f) → IsOfLoop program f c → IsStated program c
  OfStruct : (id : StructId) (s : Struct) (c : Stated) → Contains program.structs (id, s)
      → IsOwned program StructBlock (struct_names s) s.clauses c → IsStated program c
  OfModule : (id : ModuleId) (m : Module) (c : Stated) → Contains program.modules (id, m)
      → IsOwned program ModuleBlock module_names m.clauses c → IsStated program c
  OfSchema : (from c : Stated) → IsStated program from → IsIncluded program from c → IsStated program c

-- ---- the rules one by one

-- each declared type is proper
abbrev pub fields_are_proper : Program → Struct → Bool
fields_are_proper program s = list_all (λ f. is_proper_value program.structs f.annotation) s.fields

abbrev pub spec_signature_is_proper : Program → SpecFunction → Bool
spec_signature_is_proper program f =
    list_all (λ p. is_proper_single program.structs p.annotation) f.parameters && is_proper_single program.structs f.result

abbrev pub variables_are_proper : Program → Schema → Bool
variables_are_proper program s = list_all (λ v. is_proper_single program.structs v.annotation) s.variables

-- a run of the initialiser does not return
pub record RunFails (program : Program) (c : Constant) : Type 0 where
  pub typing : Typing
  pub chosen : IsDefaulted (constant_system program c) typing
  pub fails : (t : Typing) → IsDefaulted (constant_system program c) t → run_of c.value.nodes t ≡ None

-- no typing, or one that breaks the rule on number literals or the rule against polymorphic recursion
pub data BreaksTyping (program : Program) (span : Span) : Type 0 where
  NoFunction : (id : FunctionId) (f : Function) → Contains program.functions (id, f) → f.span ≡ span → IsUntypable (function_system program f) → BreaksTyping program span
  MisfitFunction : (id : FunctionId) (f : Function) → Contains program.functions (id, f) → f.span ≡ span → Misfits (function_system program f) f.body.nodes → BreaksTyping program span
  WrappingFunction : (id : FunctionId) (f : Function) → Contains program.functions (id, f) → f.span ≡ span → IsWrapping program id → BreaksTyping program span
  NoConstant : (id : ConstantId) (c : Constant) → Contains program.constants (id, c) → c.span ≡ span → IsUntypable (constant_system program c) → BreaksTyping program span
  MisfitConstant : (id : ConstantId) (c : Constant) → Contains program.constants (id, c) → c.span ≡ span → Misfits (constant_system program c) c.value.nodes → BreaksTyping program span
  FailingConstant : (id : ConstantId) (c : Constant) → Contains program.constants (id, c) → c.span ≡ span → RunFails program c → BreaksTyping program span
  BadStruct : (id : StructId) (s : Struct) → Contains program.structs (id, s) → s.span ≡ span → fields_are_proper program s ≡ false → BreaksTyping program span
  NoSpecFunction : (id : FunctionId) (f : SpecFunction) → Contains program.spec_functions (id, f) → f.span ≡ span → IsUntypable (spec_function_system program f) → BreaksTyping program span
  BadSpecFunction : (id : FunctionId) (f : SpecFunction) → Contains program.spec_functions (id, f) → f.span ≡ span → spec_signature_is_proper program f ≡ false → BreaksTyping program span
  NoClause : (c : Stated) → IsStated program c → c.span ≡ span → IsUntypable (stated_system program c) → BreaksTyping program span
  BadSchema : (c : Stated) (schema : SchemaId) (types : TypesData) (given : List ℕ) (s : Schema) → IsStated program c → c.span ≡ span
      → c.clause.form ≡ Include schema types given → lookup (same_schema schema) program.schemas ≡ Some s → variables_are_proper program s ≡ false → BreaksTyping program span

-- typings exist, and the type of a type variable that must be forced is not
pub data IsUnsettled (program : Program) (span : Span) : Type 0 where
  OpenFunction : (id : FunctionId) (f : Function) → Contains program.functions (id, f) → f.span ≡ span → IsAmbiguous (function_system program f) → IsUnsettled program span
  OpenConstant : (id : ConstantId) (c : Constant) → Contains program.constants (id, c) → c.span ≡ span → IsAmbiguous (constant_system program c) → IsUnsettled program span
  OpenSpecFunction : (id : FunctionId) (f : SpecFunction) → Contains program.spec_functions (id, f) → f.span ≡ span → IsAmbiguous (spec_function_system program f) → IsUnsettled program span
  OpenClause : (c : Stated) → IsStated program c → c.span ≡ span → IsAmbiguous (stated_system program c) → IsUnsettled program span

-- a required ability is missing
pub data BreaksAbility (program : Program) (span : Span) : Type 0 where
  LackingFunction : (id : FunctionId) (f : Function) → Contains program.functions (id, f) → f.span ≡ span → FunctionLacksAbility program f → BreaksAbility program span
  LackingStruct : (id : StructId) (s : Struct) → Contains program.structs (id, s) → s.span ≡ span → StructLacksAbility program s → BreaksAbility program span

-- a struct that must be listed in `acquires` is not
pub record BreaksAcquires (program : Program) (span : Span) : Type 0 where
  pub id : FunctionId
  pub function : Function
  pub declared : Contains program.functions (id, function)
  pub span_is : function.span ≡ span
  pub lacks : LacksAcquires program id function

-- a field access or a storage operation that visibility forbids
pub record BreaksVisibility (program : Program) (span : Span) : Type 0 where
  pub id : FunctionId
  pub function : Function
  pub declared : Contains program.functions (id, function)
  pub span_is : function.span ≡ span
  pub bars : BarsUse program (function_home id) function

-- ---- the first fault: the rules in this order, each over all declarations before the next

abbrev pub BreaksNone : (Span → Type 0) → Type 0
BreaksNone Breaks = (span : Span) → Breaks span → ⊥
