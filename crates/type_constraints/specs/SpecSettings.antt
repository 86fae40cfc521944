-- Settings in the program as settings of the typing rules.
use Rattle.std.specs.Prelude.{ℕ, List, [], length, map, sum_by, Option, Some, None}
use Rattle.base.specs.TypeData.{TypeData, TypesData, NoTypes, types_of}
use Rattle.program.specs.declared.declaration.SpecFunction.{SpecFunction}
use Rattle.typing_rules.specs.Clauses as C
use Rattle.typing_rules.specs.SpecConstraints as S
use Rattle.type_constraints.specs.declared.spec.setting.Owner.{Owner}
use Rattle.type_constraints.specs.declared.spec.setting.Owner.TheVariants.{Function, Struct, Module, Loop, Schema, SpecFunction as spec_function}
use Rattle.type_constraints.specs.declared.spec.setting.LetType.{LetType}
use Rattle.type_constraints.specs.declared.spec.setting.Names.{Names}
use Rattle.type_constraints.specs.declared.spec.setting.Allowed.{Allowed}
use Rattle.type_constraints.specs.declared.spec.setting.SpecSetting.{SpecSetting}

-- the type of a clause's `let`
abbrev pub let_of : Option LetType → Option C.LetType
let_of None = None
let_of (Some l) = Some (l.is_post, l.of)

abbrev pub lets_of : List (Option LetType) → List (Option C.LetType)
lets_of lets = map let_of lets

-- a spec function has only parameters
abbrev pub spec_function_names : SpecFunction → C.Names
spec_function_names f = record { parameters = C.spec_types_of f.parameters; locals = []; results = []; fields = []; variables = []; lets = [] }

-- the names that an owner gives to its specifications
abbrev pub owner_names : Owner → List (Option C.LetType) → C.Names
owner_names (Function f) lets = C.function_names f.now lets
owner_names (Struct s) lets = C.struct_names s.now lets
owner_names Module lets = C.module_names lets
owner_names (Loop returned locals) lets = C.loop_names returned.now locals.now
owner_names (Schema s types) lets = C.schema_names s.now (types_of types.now) lets
owner_names (spec_function f) lets = spec_function_names f.now

abbrev pub names_of : Names → C.Names
names_of n = owner_names n.owner (lets_of n.lets.now)

-- the types substituted for the type parameters of a schema
abbrev pub owner_types : Owner → TypesData
owner_types (Schema s types) = types_of types.now
owner_types _ = NoTypes

abbrev pub allowed_of : Allowed → C.Allowed
allowed_of a = record { old = a.old; results = a.results; exits = a.exits }

abbrev pub setting_of : SpecSetting → S.SpecSetting
setting_of s = record {
  program = s.program.now;
  nodes = s.body.now.nodes;
  named = C.named_by (names_of s.names) (allowed_of s.allowed);
  may_be_old = s.allowed.old;
  variables = s.variables;
  types = owner_types s.names.owner;
}

-- the number of variables that the quantifiers among these nodes bind
abbrev pub variables_of : List S.SpecNode → ℕ
variables_of nodes = sum_by (λ node. length (S.binds_in node)) nodes
