-- The declarations of files, in the order of the files and of their texts, and the first of them with a use that has no
-- meaning. A declaration is a member of a module, or the spec block of a loop, which comes after its function; a module
-- with an unknown address comes alone.
use Rattle.std.specs.Prelude.{◌≡◌, ◌⊎◌, ℕ, ◌+◌, false, List, [], ◌∷◌, ◌++◌, length, map, Option, Some, None, slice_index_or}
use Rattle.std.specs.List.{flat_map, zip}
use Rattle.base.specs.declared.span.Span.{Span}
use Rattle.syntax_tree.specs.declared.member.Function.{Function as FunctionTree}
use Rattle.syntax_tree.specs.declared.clause.Spec.{Spec as SpecTree}
use Rattle.syntax_tree.specs.declared.clause.Spec.TheVariants.{Module as module_spec, Named as named_spec, Schema as schema_spec, Function as function_spec, Loop as loop_spec}
use Rattle.syntax_tree.specs.SourceData.{SourceMemberData}
use Rattle.syntax_tree.specs.SourceModuleData.{SourceModuleData}
use Rattle.syntax_tree.specs.Spans.{form_span, spec_span}
use Rattle.syntax_tree.specs.declared.source.SourceForm.{SourceForm}
use Rattle.syntax_tree.specs.declared.source.SourceForm.TheVariants.{Use, Friend, Struct, Constant, Function, Spec}
use Rattle.program.specs.declared.program.ModuleId.{ModuleId}
use Rattle.scopes.specs.EnvironmentData.{EnvironmentData}
use Rattle.scopes.specs.Meanings.{module_meaning}
use Rattle.resolution.specs.Declarations.{HasUnknownInConstant, HasUnknownInFunction, HasUnknownInStruct, parameter_names_of}
use Rattle.resolution.specs.Imports.{among_these, use_is_known}
use Rattle.resolution.specs.Around.{around_loop}
use Rattle.body_names.specs.declared.spec.outer.OuterName.{OuterName}
use Rattle.resolution.specs.ClauseForms.{HasUnknown as ClauseUnknown}
use Rattle.resolution.specs.Clauses.{PlacedClause}
use Rattle.resolution.specs.Setting.{ClauseScope}
use Rattle.resolution.specs.SpecDeclarations.{HasUnknownInSchema, HasUnknownInSpecFunction}
use Rattle.body_names.specs.declared.code.loops.LoopScope.{LoopScope}
use Rattle.body_names.specs.LoopScopes.{loops_of_body}
use Rattle.resolution.specs.Known.{KnownData, Schemas, inside}
use Rattle.resolution.specs.Owners.{HasUnknownInBlock, blocks_among, clause_scope, member_numbers, module_scope, outcome_of, owner_of, owner_scopes, placed_in}

-- ---- modules

-- a module from within
pub record Here : Type 0 where
  -- the meaning of names in it
  pub environment : EnvironmentData
  -- all modules, and the variables of all schemas
  pub modules : List ModuleId
  pub schemas : Schemas
  pub members : List SourceMemberData

abbrev pub here : KnownData → ModuleId → List SourceMemberData → Here
here known own members = record { environment = inside known own members; modules = known.modules; schemas = known.schemas; members = members }

-- ---- loops

-- the loops of a function, each with its spec block
abbrev pub loops_of : FunctionTree → List SpecTree → List (LoopScope × SpecTree)
loops_of f loops = zip (loops_of_body (parameter_names_of f) f.body) loops

-- the context of the clauses of a function
abbrev pub function_scope : Here → FunctionTree → ClauseScope
function_scope w f = clause_scope w.environment w.schemas f.parameters

-- the names around the clauses of a loop
abbrev pub around_loop_of : Here → FunctionTree → LoopScope → List OuterName
around_loop_of w f loop = around_loop (outcome_of w.environment f) loop.names

-- some use in one of these clauses has no meaning; a loop's block has no `let`
abbrev pub HasUnknownInOne : ClauseScope → List OuterName → List PlacedClause → Type 0
HasUnknownInOne scope outer [] = ⊥
HasUnknownInOne scope outer (one ∷ more) = ClauseUnknown scope outer one.tree ⊎ HasUnknownInOne scope outer more

abbrev pub HasUnknownInLoop : Here → FunctionTree → LoopScope × SpecTree → Type 0
HasUnknownInLoop w f loop = HasUnknownInOne (function_scope w f) (around_loop_of w f loop.0) (placed_in loop.1)

-- ---- members

-- the owner of a spec block after these members
abbrev pub HasUnknownOf : Here → List SourceMemberData → SpecTree → Option ℕ → Type 0
HasUnknownOf w before block None = Unit {0}
HasUnknownOf w before block (Some n) =
    HasUnknownInBlock (slice_index_or (owner_scopes w.environment w.schemas w.members) n (module_scope w.environment w.schemas))
    (blocks_among (member_numbers w.members) (length w.members) n before) block

abbrev pub HasUnknownInOwned : Here → List SourceMemberData → SpecTree → Type 0
HasUnknownInOwned w before block = HasUnknownOf w before block (owner_of (member_numbers w.members) (length w.members) block)

-- a named block without an owner has no meaning; a loop's block is not a member
abbrev pub HasUnknownInSpec : Here → List SourceMemberData → SpecTree → Type 0
HasUnknownInSpec w before (module_spec span clauses) = HasUnknownInOwned w before (module_spec span clauses)
HasUnknownInSpec w before (named_spec span name clauses) = HasUnknownInOwned w before (named_spec span name clauses)
HasUnknownInSpec w before (schema_spec s) = HasUnknownInSchema w.environment w.schemas s
HasUnknownInSpec w before (function_spec f) = HasUnknownInSpecFunction w.environment f
HasUnknownInSpec w before (loop_spec span clauses) = ⊥

-- some use in a member after these has no meaning, apart from those in its loops
abbrev pub HasUnknownInForm : Here → List SourceMemberData → SourceForm → Type 0
HasUnknownInForm w before (Use u) = use_is_known w.environment w.modules u ≡ false
HasUnknownInForm w before (Friend f) = among_these w.modules (module_meaning w.environment f.owner) ≡ None
HasUnknownInForm w before (Struct s) = HasUnknownInStruct w.environment s
HasUnknownInForm w before (Constant c) = HasUnknownInConstant w.environment c
HasUnknownInForm w before (Function f) = HasUnknownInFunction w.environment f
HasUnknownInForm w before (Spec s) = HasUnknownInSpec w before s

-- ---- all declarations

pub data Item : Type 0 where
  -- a module with an unknown address, by the span of its keyword `module`
  NoModule : Span → Item
  -- a member of a module after others, apart from its loops
  MemberItem : Here → List SourceMemberData → SourceForm → Item
  -- a loop of a function
  LoopItem : Here → FunctionTree → LoopScope × SpecTree → Item

abbrev pub item_span : Item → Span
item_span (NoModule span) = span
item_span (MemberItem w before form) = form_span form
item_span (LoopItem w f loop) = spec_span loop.1

abbrev pub HasUnknown : Item → Type 0
HasUnknown (NoModule span) = Unit {0}
HasUnknown (MemberItem w before form) = HasUnknownInForm w before form
HasUnknown (LoopItem w f loop) = HasUnknownInLoop w f loop

abbrev pub loop_items : Here → SourceForm → List SpecTree → List Item
loop_items w (Function f) loops = map (LoopItem w f) (loops_of f loops)
loop_items w _ loops = []

-- a member after others, and its loops
abbrev pub form_items : Here → List SourceMemberData → SourceForm → List SpecTree → List Item
form_items w before form loops = MemberItem w before form ∷ loop_items w form loops

abbrev pub member_items : Here → List SourceMemberData → SourceMemberData → List Item
member_items w before m = form_items w before m.form m.loops

-- members after others
abbrev pub items_behind : Here → List SourceMemberData → List SourceMemberData → List Item
items_behind w before [] = []
items_behind w before (m ∷ ms) = member_items w before m ++ items_behind w (before ++ m ∷ []) ms

abbrev pub items_in : KnownData → SourceModuleData → Option ModuleId → List Item
items_in known m None = NoModule m.span ∷ []
items_in known m (Some own) = items_behind (here known own m.members) [] m.members

abbrev pub module_items : KnownData → SourceModuleData → List Item
module_items known m = items_in known m (module_meaning known.environment m.name)

abbrev pub source_items : KnownData → List SourceModuleData → List Item
source_items known source = flat_map (module_items known) source

-- ---- the first declaration with a use that has no meaning

-- each use has a meaning
abbrev pub AreKnown : List Item → Type 0
AreKnown [] = Unit {0}
AreKnown (x ∷ xs) = (HasUnknown x → ⊥) × AreKnown xs

-- the first one in which some use has no meaning begins here
abbrev pub IsFirstUnknown : List Item → Span → Type 0
IsFirstUnknown [] span = ⊥
IsFirstUnknown (x ∷ xs) span = (HasUnknown x × (span ≡ item_span x)) ⊎ ((HasUnknown x → ⊥) × IsFirstUnknown xs span)

-- in each of these sources each use has a meaning
abbrev pub AreKnownIn : KnownData → List (List SourceModuleData) → Type 0
AreKnownIn known [] = Unit {0}
AreKnownIn known (s ∷ ss) = AreKnown (source_items known s) × AreKnownIn known ss

-- for sources the first of which has index n: the index of the file, and the span where the first declaration begins in
-- which some use has no meaning
abbrev pub IsFirstUnknownIn : KnownData → ℕ → List (List SourceModuleData) → ℕ → Span → Type 0
IsFirstUnknownIn known n [] file span = ⊥
IsFirstUnknownIn known n (s ∷ ss) file span =
    ((file ≡ n) × IsFirstUnknown (source_items known s) span)
    ⊎ (AreKnown (source_items known s) × IsFirstUnknownIn known (n + 1) ss file span)
