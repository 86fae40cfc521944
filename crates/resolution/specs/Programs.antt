-- The program of sources: each declaration with its names resolved, in the order of the files and of their texts, and
-- in each table the first one with each name.
use Rattle.std.specs.Prelude.{◌≡◌, ℕ, ◌+◌, Bool, ◌&&◌, ◌==◌, List, [], ◌∷◌, ◌++◌, length, map, Option, Some, None}
use Rattle.std.specs.List.{filter_map, flat_map}
use Rattle.base.specs.Pairs.{Paired}
use Rattle.base.specs.Names.{same_name}
use Rattle.base.specs.declared.span.Span.{Span}
use Rattle.base.specs.declared.types.FunctionId.{FunctionId}
use Rattle.base.specs.declared.types.StructId.{StructId}
use Rattle.syntax_tree.specs.declared.member.Constant.{Constant as ConstantTree}
use Rattle.syntax_tree.specs.declared.member.Function.{Function as FunctionTree}
use Rattle.syntax_tree.specs.declared.member.Struct.{Struct as StructTree}
use Rattle.syntax_tree.specs.declared.clause.Spec.{Spec as SpecTree}
use Rattle.syntax_tree.specs.declared.clause.Spec.TheVariants.{Module as module_spec, Named as named_spec, Schema as schema_spec, Function as function_spec, Loop as loop_spec}
use Rattle.syntax_tree.specs.SourceData.{SourceMemberData}
use Rattle.syntax_tree.specs.SourceModuleData.{SourceModuleData}
use Rattle.syntax_tree.specs.Spans.{function_span}
use Rattle.syntax_tree.specs.declared.source.SourceForm.{SourceForm}
use Rattle.syntax_tree.specs.declared.source.SourceForm.TheVariants.{Use, Friend, Struct, Constant, Function, Spec}
use Rattle.program.specs.declared.clause.Clause.{Clause}
use Rattle.program.specs.declared.clause.LoopClause.{LoopClause}
use Rattle.program.specs.declared.declaration.Constant.{Constant as ConstantData}
use Rattle.program.specs.declared.declaration.Function.{Function as FunctionData}
use Rattle.program.specs.declared.declaration.Module.{Module as ModuleData}
use Rattle.program.specs.declared.declaration.Schema.{Schema as SchemaData}
use Rattle.program.specs.declared.declaration.SpecFunction.{SpecFunction as SpecFunctionData}
use Rattle.program.specs.declared.declaration.Struct.{Struct as StructData}
use Rattle.program.specs.declared.program.ConstantId.{ConstantId}
use Rattle.program.specs.declared.program.ModuleId.{ModuleId}
use Rattle.program.specs.declared.program.Program.{Program}
use Rattle.program.specs.declared.program.SchemaId.{SchemaId}
use Rattle.scopes.specs.declared.member.MemberId.{MemberId}
use Rattle.scopes.specs.MemberNames.{same_module}
use Rattle.scopes.specs.Meanings.{constant_of, function_of, module_meaning, schema_of, struct_of}
use Rattle.body_names.specs.CodeNames.{names_of_block}
use Rattle.body_names.specs.CodeSpans.{spans_of_block}
use Rattle.body_names.specs.CodeResolved.{IsResolved}
use Rattle.resolution.specs.Declarations.{IsConstantOf, IsHeadOf, IsStructOf, body_of, parameter_names_of}
use Rattle.resolution.specs.Imports.{among_these}
use Rattle.scopes.specs.Brings.{firsts}
use Rattle.syntax_tree.specs.declared.clause.Schema.{Schema as SchemaTree}
use Rattle.syntax_tree.specs.declared.clause.SpecFunction.{SpecFunction as SpecFunctionTree}
use Rattle.body_names.specs.declared.spec.outer.OuterName.{OuterName}
use Rattle.resolution.specs.ClauseForms.{IsClauseOf}
use Rattle.resolution.specs.Clauses.{AreClausesOf, PlacedClause}
use Rattle.resolution.specs.Pragmas.{pragmas_of}
use Rattle.resolution.specs.Setting.{ClauseScope, same_schema}
use Rattle.resolution.specs.SpecDeclarations.{IsSchemaOf, IsSpecFunctionOf}
use Rattle.body_names.specs.declared.code.loops.LoopScope.{LoopScope}
use Rattle.resolution.specs.declared.declared.DeclaredForm.{DeclaredForm}
use Rattle.resolution.specs.declared.declared.DeclaredForm.TheVariants.{Module, Struct as struct_form, Constant as constant_form, Function as function_form, SpecFunction as spec_function_form, Schema as schema_form}
use Rattle.resolution.specs.declared.declared.Declared.{Declared}
use Rattle.resolution.specs.Known.{KnownData, known_of}
use Rattle.resolution.specs.Owners.{OwnerScope, blocks_of, module_scope, owner_scope, placed_in, settings_in, sources_in}
use Rattle.resolution.specs.Items.{Here, around_loop_of, function_scope, here, loops_of}

-- ---- the trees of declarations

pub data DeclarationTree : Type 0 where
  ModuleTree : Here → Span → DeclarationTree
  -- a struct and a function with the index of their member, a function with the spec blocks of its loops
  StructOf : Here → ℕ → StructTree → DeclarationTree
  ConstantOf : Here → ConstantTree → DeclarationTree
  FunctionOf : Here → ℕ → FunctionTree → List SpecTree → DeclarationTree
  SpecFunctionOf : Here → SpecFunctionTree → DeclarationTree
  SchemaOf : Here → SchemaTree → DeclarationTree

abbrev pub spec_declaration : Here → SpecTree → List DeclarationTree
spec_declaration w (module_spec span clauses) = []
spec_declaration w (named_spec span name clauses) = []
spec_declaration w (schema_spec s) = SchemaOf w s ∷ []
spec_declaration w (function_spec f) = SpecFunctionOf w f ∷ []
spec_declaration w (loop_spec span clauses) = []

abbrev pub form_declaration : Here → ℕ → SourceForm → List SpecTree → List DeclarationTree
form_declaration w n (Use u) loops = []
form_declaration w n (Friend f) loops = []
form_declaration w n (Struct s) loops = StructOf w n s ∷ []
form_declaration w n (Constant c) loops = ConstantOf w c ∷ []
form_declaration w n (Function f) loops = FunctionOf w n f loops ∷ []
form_declaration w n (Spec s) loops = spec_declaration w s

-- the declarations of members, the first of which has index n
abbrev pub declarations_from : Here → ℕ → List SourceMemberData → List DeclarationTree
declarations_from w n [] = []
declarations_from w n (m ∷ ms) = form_declaration w n m.form m.loops ++ declarations_from w (n + 1) ms

abbrev pub declarations_in : KnownData → SourceModuleData → Option ModuleId → List DeclarationTree
declarations_in known m None = []
declarations_in known m (Some own) =
    declarations_from (here known own m.members) 0 m.members ++ ModuleTree (here known own m.members) m.span ∷ []

abbrev pub module_declarations : KnownData → SourceModuleData → List DeclarationTree
module_declarations known m = declarations_in known m (module_meaning known.environment m.name)

abbrev pub source_declarations : KnownData → List SourceModuleData → List DeclarationTree
source_declarations known source = flat_map (module_declarations known) source

abbrev pub declarations_of : KnownData → List (List SourceModuleData) → List DeclarationTree
declarations_of known sources = flat_map (source_declarations known) sources

-- ---- the meaning of each declaration

abbrev pub own_member : Here → List ℕ → MemberId
own_member w name = record { owner = w.environment.own; name = name }

-- all clauses of the owner with index n
abbrev pub AreClausesOfOwner : Here → OwnerScope → ℕ → List Clause → Type 0
AreClausesOfOwner w owner n clauses = AreClausesOf owner.scope owner.around 0 (sources_in (blocks_of w.members n)) clauses

abbrev pub friend_of_form : Here → SourceForm → Option ModuleId
friend_of_form w (Friend f) = among_these w.modules (module_meaning w.environment f.owner)
friend_of_form w _ = None

abbrev pub friend_of_member : Here → SourceMemberData → Option ModuleId
friend_of_member w m = friend_of_form w m.form

pub record IsModuleOf (w : Here) (span : Span) (id : ModuleId) (resolved : ModuleData) : Type 0 where
  pub id_is : id ≡ w.environment.own
  pub span_is : resolved.span ≡ span
  pub friends : resolved.friends ≡ filter_map (friend_of_member w) w.members
  pub clauses : AreClausesOfOwner w (module_scope w.environment w.schemas) (length w.members) resolved.clauses

abbrev pub without_clauses : StructData → StructData
without_clauses s = record { span = s.span; type_parameters = s.type_parameters; abilities = s.abilities; fields = s.fields; clauses = [] }

-- the context of the clauses of a member with this form
abbrev pub form_scope : Here → SourceForm → OwnerScope
form_scope w form = owner_scope w.environment w.schemas form

pub record IsOwnStruct (w : Here) (n : ℕ) (tree : StructTree) (id : StructId) (resolved : StructData) : Type 0 where
  pub id_is : id ≡ struct_of (own_member w tree.name.text)
  pub is_struct : IsStructOf w.environment tree (without_clauses resolved)
  pub clauses : AreClausesOfOwner w (form_scope w (Struct tree)) n resolved.clauses

pub record IsOwnConstant (w : Here) (tree : ConstantTree) (id : ConstantId) (resolved : ConstantData) : Type 0 where
  pub id_is : id ≡ constant_of (own_member w tree.name.text)
  pub is_constant : IsConstantOf w.environment tree resolved

-- a clause of the spec block of a loop
pub record LoopSource : Type 0 where
  pub loop : LoopScope
  pub source : PlacedClause

abbrev pub loop_source : LoopScope → PlacedClause → LoopSource
loop_source loop source = record { loop = loop; source = source }

abbrev pub sources_of_loop : LoopScope × SpecTree → List LoopSource
sources_of_loop loop = map (loop_source loop.0) (placed_in loop.1)

-- the clause of this source, with the index of the loop's node
pub record IsClauseAt (scope : ClauseScope) (outer : List OuterName) (at : ℕ) (source : PlacedClause) (resolved : LoopClause) : Type 0 where
  pub at_is : resolved.at ≡ at
  pub is_clause : IsClauseOf scope outer source.block source.tree resolved.clause

abbrev pub IsLoopClauseOf : Here → FunctionTree → LoopSource → LoopClause → Type 0
IsLoopClauseOf w f s resolved = IsClauseAt (function_scope w f) (around_loop_of w f s.loop) s.loop.at s.source resolved

-- the clauses of all loops of a function, one block after another
abbrev pub AreLoopsOf : Here → FunctionTree → List SpecTree → List LoopClause → Type 0
AreLoopsOf w f loops resolved = Paired (IsLoopClauseOf w f) (flat_map sources_of_loop (loops_of f loops)) resolved

pub record IsOwnFunction (w : Here) (n : ℕ) (tree : FunctionTree) (loops : List SpecTree) (id : FunctionId) (resolved : FunctionData) : Type 0 where
  pub id_is : id ≡ function_of (own_member w tree.name.text)
  pub span_is : resolved.span ≡ function_span tree
  pub head : IsHeadOf w.environment tree (record { visibility = resolved.visibility; type_parameters = resolved.type_parameters; parameters = resolved.parameters; result_type = resolved.result; acquires = resolved.acquires })
  pub body : IsResolved (body_of w.environment tree) (spans_of_block tree.body) (parameter_names_of tree ++ names_of_block tree.body) (record { body = resolved.body; locals = resolved.locals })
  pub pragmas : resolved.pragmas ≡ pragmas_of (settings_in (blocks_of w.members n)) (settings_in (blocks_of w.members (length w.members)))
  pub clauses : AreClausesOfOwner w (form_scope w (Function tree)) n resolved.clauses
  pub loop_clauses : AreLoopsOf w tree loops resolved.loop_clauses

pub record IsOwnSpecFunction (w : Here) (tree : SpecFunctionTree) (id : FunctionId) (resolved : SpecFunctionData) : Type 0 where
  pub id_is : id ≡ function_of (own_member w tree.name.text)
  pub is_function : IsSpecFunctionOf w.environment tree resolved

pub record IsOwnSchema (w : Here) (tree : SchemaTree) (id : SchemaId) (resolved : SchemaData) : Type 0 where
  pub id_is : id ≡ schema_of (own_member w tree.name.text)
  pub is_schema : IsSchemaOf w.environment w.schemas tree resolved

abbrev pub IsDeclared : DeclarationTree → DeclaredForm → Type 0
IsDeclared (ModuleTree w span) (Module id m) = IsModuleOf w span id m
IsDeclared (StructOf w n s) (struct_form id r) = IsOwnStruct w n s id r
IsDeclared (ConstantOf w c) (constant_form id r) = IsOwnConstant w c id r
IsDeclared (FunctionOf w n f loops) (function_form id r) = IsOwnFunction w n f loops id r
IsDeclared (SpecFunctionOf w f) (spec_function_form id r) = IsOwnSpecFunction w f id r
IsDeclared (SchemaOf w s) (schema_form id r) = IsOwnSchema w s id r
IsDeclared _ _ = ⊥

abbrev pub IsDeclaredAs : DeclarationTree → Declared → Type 0
IsDeclaredAs tree d = IsDeclared tree d.form

-- ---- tables

abbrev pub module_in : DeclaredForm → Option (ModuleId × ModuleData)
module_in (Module id m) = Some (id, m)
module_in _ = None

abbrev pub struct_in : DeclaredForm → Option (StructId × StructData)
struct_in (struct_form id r) = Some (id, r)
struct_in _ = None

abbrev pub constant_in : DeclaredForm → Option (ConstantId × ConstantData)
constant_in (constant_form id r) = Some (id, r)
constant_in _ = None

abbrev pub function_in : DeclaredForm → Option (FunctionId × FunctionData)
function_in (function_form id r) = Some (id, r)
function_in _ = None

abbrev pub spec_function_in : DeclaredForm → Option (FunctionId × SpecFunctionData)
spec_function_in (spec_function_form id r) = Some (id, r)
spec_function_in _ = None

abbrev pub schema_in : DeclaredForm → Option (SchemaId × SchemaData)
schema_in (schema_form id r) = Some (id, r)
schema_in _ = None

abbrev pub same_struct : StructId → StructId → Bool
same_struct x y = (x.address == y.address) && (same_name x.«module» y.«module» && same_name x.name y.name)

abbrev pub same_constant : ConstantId → ConstantId → Bool
same_constant x y = (x.address == y.address) && (same_name x.«module» y.«module» && same_name x.name y.name)

abbrev pub same_function : FunctionId → FunctionId → Bool
same_function x y = (x.address == y.address) && (same_name x.«module» y.«module» && same_name x.name y.name)

-- in each table, of two declarations with the same name, the first counts
pub record AreTablesOf (declared : List Declared) (program : Program) : Type 0 where
  pub modules : program.modules ≡ firsts same_module [] (filter_map (λ d. module_in d.form) declared)
  pub structs : program.structs ≡ firsts same_struct [] (filter_map (λ d. struct_in d.form) declared)
  pub constants : program.constants ≡ firsts same_constant [] (filter_map (λ d. constant_in d.form) declared)
  pub functions : program.functions ≡ firsts same_function [] (filter_map (λ d. function_in d.form) declared)
  pub spec_functions : program.spec_functions ≡ firsts same_function [] (filter_map (λ d. spec_function_in d.form) declared)
  pub schemas : program.schemas ≡ firsts same_schema [] (filter_map (λ d. schema_in d.form) declared)

pub record IsProgramOf (sources : List (List SourceModuleData)) (program : Program) : Type 0 where
  pub declared : List Declared
  pub are : Paired IsDeclaredAs (declarations_of (known_of sources) sources) declared
  pub tables : AreTablesOf declared program
