-- The constraint systems of clauses in their blocks. Source: the Move Specification Language reference, "Spec Blocks
-- and Conditions", "Pre and Post State", "Let Bindings", "Invariants" and "Schemas".
use Rattle.std.specs.Prelude.{◌≡◌, ℕ, ◌+◌, Bool, true, false, List, [], ◌∷◌, ◌++◌, length, map, take, Option, Some, None, slice_get, sum_by, if◌then◌else◌}
use Rattle.std.specs.Map.{lookup}
use Rattle.std.specs.List.{flat_map}
use Rattle.base.specs.TypeData.{TypeData, TypesData, NoTypes, BoolType, TupleType, list_of_types}
use Rattle.program.specs.declared.arena.Node.TheVariants.{Many}
use Rattle.program.specs.declared.clause.Clause.{Clause}
use Rattle.program.specs.declared.clause.ClauseForm.{ClauseForm}
use Rattle.program.specs.declared.clause.ClauseForm.TheVariants.{Condition, Modifies, Let, Include}
use Rattle.program.specs.declared.clause.ConditionKind.{ConditionKind}
use Rattle.program.specs.declared.clause.ConditionKind.TheVariants.{Requires, Ensures, AbortsIf, Invariant, UpdateInvariant}
use Rattle.program.specs.declared.operator.SpecBuiltin.TheVariants.{Global}
use Rattle.program.specs.declared.spec.SpecCallee.{SpecCallee}
use Rattle.program.specs.declared.spec.SpecCallee.TheVariants.{Builtin}
use Rattle.program.specs.declared.spec.SpecMany.TheVariants.{Call}
use Rattle.program.specs.declared.spec.SpecName.{SpecName}
use Rattle.program.specs.declared.spec.SpecName.TheVariants.{Parameter, Local, Result, Let as let_name, Variable, Field, Quantified}
use Rattle.program.specs.declared.declaration.Function.{Function}
use Rattle.program.specs.declared.declaration.Schema.{Schema}
use Rattle.program.specs.declared.declaration.SpecFunction.{SpecFunction}
use Rattle.program.specs.declared.declaration.Struct.{Struct}
use Rattle.program.specs.declared.declaration.TypedName.{TypedName}
use Rattle.program.specs.declared.program.Program.{Program}
use Rattle.program.specs.Same.{same_schema}
use Rattle.typing_rules.specs.Instances.{instance, argument_in, spec_type}
use Rattle.typing_rules.specs.declared.sort.Sort.TheVariants.{Value}
use Rattle.typing_rules.specs.Constraint.{Constraint, IsOf, Barred}
use Rattle.typing_rules.specs.CodeConstraints.{has, barred_unless}
use Rattle.typing_rules.specs.CodeSystems.{last_by}
use Rattle.typing_rules.specs.SpecConstraints.{SpecNode, SpecSetting, binds_in, declared_variables, spec_argument_constraints, spec_constraints_from, spec_given_constraints, spec_variable_count}
use Rattle.typing_rules.specs.Answers.{System, HasType}

-- ---- names

-- the type of a `let`, as specifications read it, and whether the `let` is of the state at the exit (`let post`)
abbrev pub LetType : Type 0
LetType = Bool × TypeData

-- The types of the names that clauses may use, as specifications read them: of parameters, locals, results, fields and
-- variables, by their numbers, and for each earlier clause that is a `let` with a type, that type.
pub record Names : Type 0 where
  pub parameters : List TypeData
  pub locals : List TypeData
  pub results : List TypeData
  pub fields : List TypeData
  pub variables : List TypeData
  pub lets : List (Option LetType)

-- what else may occur in an expression: `old`, the results, and names of the state at the exit
pub record Allowed : Type 0 where
  pub old : Bool
  pub results : Bool
  pub exits : Bool

abbrev pub only_if : Bool → Option TypeData → Option TypeData
only_if may of = if may then of else None

abbrev pub let_type : Bool → Option (Option LetType) → Option TypeData
let_type exits None = None
let_type exits (Some None) = None
let_type exits (Some (Some (false, of))) = Some of
let_type exits (Some (Some (true, of))) = only_if exits (Some of)

abbrev pub named_by : Names → Allowed → SpecName → Option TypeData
named_by names may (Parameter k) = slice_get names.parameters k
named_by names may (Local k) = slice_get names.locals k
named_by names may (Result k) = only_if may.results (slice_get names.results k)
named_by names may (let_name k) = let_type may.exits (slice_get names.lets k)
named_by names may (Variable k) = slice_get names.variables k
named_by names may (Field k) = slice_get names.fields k
named_by names may (Quantified v) = None

abbrev pub entry_alone : Allowed
entry_alone = record { old = false; results = false; exits = false }

abbrev pub both_states : Allowed
both_states = record { old = true; results = true; exits = true }

-- ---- what a block may hold

pub data Block : Type 0 where
  FunctionBlock : Block
  StructBlock : Block
  ModuleBlock : Block
  LoopBlock : Block

-- the conditions that a block may hold
abbrev pub may_hold : Block → ConditionKind → Bool
may_hold FunctionBlock Requires = true
may_hold FunctionBlock Ensures = true
may_hold FunctionBlock AbortsIf = true
may_hold FunctionBlock _ = false
may_hold StructBlock Invariant = true
may_hold StructBlock _ = false
may_hold ModuleBlock Invariant = true
may_hold ModuleBlock UpdateInvariant = true
may_hold ModuleBlock _ = false
may_hold LoopBlock Invariant = true
may_hold LoopBlock _ = false

abbrev pub is_function_block : Block → Bool
is_function_block FunctionBlock = true
is_function_block _ = false

-- `old` occurs in `ensures`, in update invariants and in loop invariants; results in `ensures`
abbrev pub allowed_in : Block → ConditionKind → Allowed
allowed_in block Ensures = both_states
allowed_in block UpdateInvariant = record { old = true; results = false; exits = true }
allowed_in LoopBlock Invariant = record { old = true; results = false; exits = false }
allowed_in block _ = entry_alone

abbrev pub allowed_by : Block → ClauseForm → Allowed
allowed_by block (Condition kind root) = allowed_in block kind
allowed_by block (Modifies roots) = entry_alone
allowed_by block (Let true value) = both_states
allowed_by block (Let false value) = entry_alone
allowed_by block (Include schema types given) = both_states

-- ---- clauses as a whole

abbrev pub is_global_callee : SpecCallee → Bool
is_global_callee (Builtin Global) = true
is_global_callee _ = false

abbrev pub is_global : Option SpecNode → Bool
is_global (Some (Many (Call c) parts)) = is_global_callee c.callee
is_global _ = false

-- `modifies` names global resources
abbrev pub modified : List SpecNode → ℕ → List Constraint
modified nodes root = barred_unless (is_global (slice_get nodes root))

abbrev pub given_to : ℕ → Option Schema → List ℕ → List Constraint
given_to first None given = Barred ∷ []
given_to first (Some s) given = spec_given_constraints first (length s.type_parameters) given (map (λ v. spec_type v.annotation) s.variables)

abbrev pub schema_arity : Option Schema → ℕ
schema_arity None = 0
schema_arity (Some s) = length s.type_parameters

-- the constraints on a clause as a whole, in a block that may hold it; an `include` is like a call of its schema, whose
-- type arguments are the type variables from `first` on
abbrev pub whole_constraints : SpecSetting → Block → ℕ → ClauseForm → List Constraint
whole_constraints s block first (Condition kind root) = barred_unless (may_hold block kind) ++ has root BoolType ∷ []
whole_constraints s block first (Modifies roots) = barred_unless (is_function_block block) ++ flat_map (modified s.nodes) roots
whole_constraints s block first (Let is_post value) = IsOf Value value ∷ []
whole_constraints s block first (Include schema types given) =
    let d = lookup (same_schema schema) s.program.schemas in
    spec_argument_constraints s first (schema_arity d) (list_of_types types) ++ given_to first d given

abbrev pub form_arguments : Program → ClauseForm → ℕ
form_arguments program (Include schema types given) = schema_arity (lookup (same_schema schema) program.schemas)
form_arguments program _ = 0

-- ---- systems

abbrev pub spec_system : SpecSetting → ℕ → List Constraint → System
spec_system s more whole = record {
  reading = record { structs = s.program.structs; is_spec = true };
  steps = declared_variables s ∷ (spec_constraints_from s 0 s.nodes ++ whole ∷ []);
  variables = spec_variable_count s + more;
  dropped = [];
  open_integer = None;
}

abbrev pub clause_setting : Program → Names → Block → TypesData → Clause → SpecSetting
clause_setting program names block types c = record {
  program = program;
  nodes = c.body.nodes;
  named = named_by names (allowed_by block c.form);
  may_be_old = (allowed_by block c.form).old;
  variables = sum_by (λ node. length (binds_in node)) c.body.nodes;
  types = types;
}

-- a clause in a block with these names, where a clause of a schema has these types substituted for type parameters
abbrev pub clause_system : Program → Names → Block → TypesData → Clause → System
clause_system program names block types c =
    let s = clause_setting program names block types c in
    spec_system s (form_arguments program c.form) (whole_constraints s block (spec_variable_count s) c.form)

-- ---- names in scope of owners

abbrev pub spec_types_of : List TypedName → List TypeData
spec_types_of names = map (λ n. spec_type n.annotation) names

-- a tuple has one result for each of its parts
abbrev pub results_of : TypeData → List TypeData
results_of (TupleType ts) = map spec_type (list_of_types ts)
results_of of = spec_type of ∷ []

abbrev pub function_names : Function → List (Option LetType) → Names
function_names f lets = record { parameters = spec_types_of f.parameters; locals = []; results = results_of f.result; fields = []; variables = []; lets = lets }

abbrev pub struct_names : Struct → List (Option LetType) → Names
struct_names s lets = record { parameters = []; locals = []; results = []; fields = spec_types_of s.fields; variables = []; lets = lets }

abbrev pub module_names : List (Option LetType) → Names
module_names lets = record { parameters = []; locals = []; results = []; fields = []; variables = []; lets = lets }

-- the locals of the function have the types that its typing gives them
abbrev pub loop_names : TypeData → List TypeData → Names
loop_names returned locals = record { parameters = []; locals = map spec_type locals; results = results_of returned; fields = []; variables = []; lets = [] }

abbrev pub schema_names : Schema → TypesData → List (Option LetType) → Names
schema_names s types lets = record { parameters = []; locals = []; results = []; fields = []; variables = map (instance (argument_in types)) (spec_types_of s.variables); lets = lets }

-- a spec function
abbrev pub spec_function_system : Program → SpecFunction → System
spec_function_system program f =
    let s : SpecSetting = record {
      program = program;
      nodes = f.body.nodes;
      named = named_by (record { parameters = spec_types_of f.parameters; locals = []; results = []; fields = []; variables = []; lets = [] }) entry_alone;
      may_be_old = false;
      variables = sum_by (λ node. length (binds_in node)) f.body.nodes;
      types = NoTypes;
    } in
    spec_system s 0 (last_by (λ n. has n (spec_type f.result)) s.nodes 0 ∷ [])

-- ---- lets

-- The types of the `let`s of an owner, one for each clause: a `let` has the type of its value, in the scope of exactly
-- the `let`s of the clauses before it, if its value has a type; any other clause has none.
pub record AreLets (system : List (Option LetType) → Clause → System) (clauses : List Clause) (lets : List (Option LetType)) : Type 0 where
  pub same_length : length lets ≡ length clauses
  pub known : (k : ℕ) (is_post : Bool) (of : TypeData) → slice_get lets k ≡ Some (Some (is_post, of))
      → (clause : Clause) × (value : ℕ) × (slice_get clauses k ≡ Some clause) × (clause.form ≡ Let is_post value) × HasType (system (take k lets) clause) value of
  pub typed : (k : ℕ) (clause : Clause) (is_post : Bool) (value : ℕ) (of : TypeData) → slice_get clauses k ≡ Some clause → clause.form ≡ Let is_post value
      → HasType (system (take k lets) clause) value of → slice_get lets k ≡ Some (Some (is_post, of))
