-- Declarations whose owners do not have all their clauses yet, and additions to the tables of a program.
use Rattle.std.specs.Prelude.{◌≡◌, ℕ, ◌+◌, List, [], ◌∷◌, ◌++◌, Option}
use Rattle.std.specs.List.{filter_map}
use Rattle.base.specs.Pairs.{Paired}
use Rattle.base.specs.declared.types.FunctionId.{FunctionId}
use Rattle.base.specs.declared.types.StructId.{StructId}
use Rattle.syntax_tree.specs.declared.member.Function.{Function as FunctionTree}
use Rattle.syntax_tree.specs.declared.member.Struct.{Struct as StructTree}
use Rattle.syntax_tree.specs.declared.clause.Spec.{Spec as SpecTree}
use Rattle.syntax_tree.specs.SourceData.{SourceMemberData}
use Rattle.syntax_tree.specs.declared.source.SourceForm.{SourceForm}
use Rattle.syntax_tree.specs.declared.source.SourceForm.TheVariants.{Use, Friend, Struct, Constant, Function, Spec}
use Rattle.syntax_tree.specs.Spans.{function_span}
use Rattle.program.specs.declared.declaration.Function.{Function as FunctionData}
use Rattle.program.specs.declared.declaration.Struct.{Struct as StructData}
use Rattle.program.specs.declared.program.ModuleId.{ModuleId}
use Rattle.program.specs.declared.program.Program.{Program}
use Rattle.scopes.specs.MemberNames.{same_module}
use Rattle.scopes.specs.Meanings.{function_of, struct_of}
use Rattle.scopes.specs.Declares.{listed}
use Rattle.scopes.specs.Brings.{firsts}
use Rattle.body_names.specs.CodeNames.{names_of_block}
use Rattle.body_names.specs.CodeSpans.{spans_of_block}
use Rattle.body_names.specs.CodeResolved.{IsResolved}
use Rattle.resolution.specs.Declarations.{IsHeadOf, IsStructOf, body_of, parameter_names_of}
use Rattle.resolution.specs.Pragmas.{pragmas_of}
use Rattle.resolution.specs.Setting.{same_schema}
use Rattle.resolution.specs.declared.clauses.pragmas.Settings.{Settings}
use Rattle.program.specs.declared.clause.Clause.{Clause}
use Rattle.program.specs.declared.declaration.Pragmas.{Pragmas}
use Rattle.resolution.specs.declared.declared.Declared.{Declared}
use Rattle.resolution.specs.declared.declared.DeclaredForm.{DeclaredForm}
use Rattle.resolution.specs.declared.declared.DeclaredForm.TheVariants.{Module, Struct as struct_form, Constant as constant_form, Function as function_form, SpecFunction as spec_function_form, Schema as schema_form}
use Rattle.resolution.specs.declared.members.ModuleContext.{ModuleContext}
use Rattle.resolution.specs.Items.{AreKnown, Here, form_items}
use Rattle.resolution.specs.Programs.{AreLoopsOf, DeclarationTree, StructOf, ConstantOf, FunctionOf, SpecFunctionOf, SchemaOf, IsDeclaredAs, IsOwnConstant, IsOwnSchema, IsOwnSpecFunction, constant_in, form_declaration, friend_of_form, function_in, module_in, own_member, same_constant, same_function, same_struct, schema_in, spec_function_in, struct_in}

-- the module in which the code resolves names
abbrev pub here_of : ModuleContext → Here
here_of p = record { environment = p.environment.now; modules = p.modules.now.keys; schemas = p.schemas.now; members = p.members.now }

-- ---- without the clauses of their blocks

pub record IsBareStruct (w : Here) (tree : StructTree) (id : StructId) (resolved : StructData) : Type 0 where
  pub id_is : id ≡ struct_of (own_member w tree.name.text)
  pub is_struct : IsStructOf w.environment tree resolved

pub record IsBareFunction (w : Here) (tree : FunctionTree) (loops : List SpecTree) (id : FunctionId) (resolved : FunctionData) : Type 0 where
  pub id_is : id ≡ function_of (own_member w tree.name.text)
  pub span_is : resolved.span ≡ function_span tree
  pub head : IsHeadOf w.environment tree (record { visibility = resolved.visibility; type_parameters = resolved.type_parameters; parameters = resolved.parameters; result_type = resolved.result; acquires = resolved.acquires })
  pub body : IsResolved (body_of w.environment tree) (spans_of_block tree.body) (parameter_names_of tree ++ names_of_block tree.body) (record { body = resolved.body; locals = resolved.locals })
  pub loop_clauses : AreLoopsOf w tree loops resolved.loop_clauses

abbrev pub IsBare : DeclarationTree → DeclaredForm → Type 0
IsBare (StructOf w n s) (struct_form id r) = IsBareStruct w s id r
IsBare (ConstantOf w c) (constant_form id r) = IsOwnConstant w c id r
IsBare (FunctionOf w n f loops) (function_form id r) = IsBareFunction w f loops id r
IsBare (SpecFunctionOf w f) (spec_function_form id r) = IsOwnSpecFunction w f id r
IsBare (SchemaOf w s) (schema_form id r) = IsOwnSchema w s id r
IsBare _ _ = ⊥

abbrev pub IsBareAs : DeclarationTree → Declared → Type 0
IsBareAs tree d = IsBare tree d.form

-- the declaration of the member with index n, if it has one
abbrev pub IsPartOf : Here → ℕ → SourceMemberData → Option Declared → Type 0
IsPartOf w n m part = Paired IsBareAs (form_declaration w n m.form m.loops) (listed part)

-- the declarations of members, the first of which has index n
abbrev pub ArePartsFrom : Here → ℕ → List SourceMemberData → List (Option Declared) → Type 0
ArePartsFrom w n [] [] = Unit {0}
ArePartsFrom w n [] (p ∷ ps) = ⊥
ArePartsFrom w n (m ∷ ms) [] = ⊥
ArePartsFrom w n (m ∷ ms) (p ∷ ps) = IsPartOf w n m p × ArePartsFrom w (n + 1) ms ps

-- ---- with the clauses of their blocks

abbrev pub struct_with : StructData → List Clause → StructData
struct_with s clauses = record { span = s.span; type_parameters = s.type_parameters; abilities = s.abilities; fields = s.fields; clauses = clauses }

abbrev pub function_with : FunctionData → Pragmas → List Clause → FunctionData
function_with f pragmas clauses = record { span = f.span; visibility = f.visibility; type_parameters = f.type_parameters; parameters = f.parameters; result = f.result; acquires = f.acquires; locals = f.locals; body = f.body; pragmas = pragmas; clauses = clauses; loop_clauses = f.loop_clauses }

-- a declaration with the clauses of its owner, the settings of its pragmas and those of its module
abbrev pub finished : DeclaredForm → List Clause → Settings → Settings → DeclaredForm
finished (Module id m) clauses own of_module = Module id m
finished (struct_form id r) clauses own of_module = struct_form id (struct_with r clauses)
finished (constant_form id r) clauses own of_module = constant_form id r
finished (function_form id r) clauses own of_module = function_form id (function_with r (pragmas_of own of_module) clauses)
finished (spec_function_form id r) clauses own of_module = spec_function_form id r
finished (schema_form id r) clauses own of_module = schema_form id r

-- ---- one member

-- the member is neither a function nor a spec block
abbrev pub IsSimple : SourceForm → Type 0
IsSimple (Use u) = Unit {0}
IsSimple (Friend f) = Unit {0}
IsSimple (Struct s) = Unit {0}
IsSimple (Constant c) = Unit {0}
IsSimple (Function f) = ⊥
IsSimple (Spec s) = ⊥

-- the declaration of a member of this form with index n after others, and the friend module that it names
pub record IsMade (w : Here) (n : ℕ) (before : List SourceMemberData) (form : SourceForm) (loops : List SpecTree) (old new : List ModuleId) (part : Option Declared) : Type 0 where
  pub known : AreKnown (form_items w before form loops)
  pub part_is : Paired IsBareAs (form_declaration w n form loops) (listed part)
  pub friends : new ≡ old ++ listed (friend_of_form w form)

-- ---- tables

-- these are added to tables; of two with the same name, the first counts
pub record Entered (more : List Declared) (old new : Program) : Type 0 where
  pub modules : new.modules ≡ firsts same_module old.modules (filter_map (λ d. module_in d.form) more)
  pub structs : new.structs ≡ firsts same_struct old.structs (filter_map (λ d. struct_in d.form) more)
  pub constants : new.constants ≡ firsts same_constant old.constants (filter_map (λ d. constant_in d.form) more)
  pub functions : new.functions ≡ firsts same_function old.functions (filter_map (λ d. function_in d.form) more)
  pub spec_functions : new.spec_functions ≡ firsts same_function old.spec_functions (filter_map (λ d. spec_function_in d.form) more)
  pub schemas : new.schemas ≡ firsts same_schema old.schemas (filter_map (λ d. schema_in d.form) more)

-- the declarations of these sources are added to tables
pub record EnteredOf (trees : List DeclarationTree) (old new : Program) : Type 0 where
  pub more : List Declared
  pub are : Paired IsDeclaredAs trees more
  pub entered : Entered more old new
