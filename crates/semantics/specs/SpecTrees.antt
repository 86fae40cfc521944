-- The typed trees of resolved clauses and spec functions, from the types of their nodes. Source: the Move Specification Language
-- reference, "Expressions", "Type System" and "Schemas".
use Rattle.std.specs.Prelude.{ℕ, ◌+◌, ◌-◌, ◌^◌, ◌==◌, true, pos, List, [], ◌∷◌, length, map, sum_by, Option, Some, None, if◌then◌else◌}
use Rattle.std.specs.Map.{lookup}
use Rattle.base.specs.TypeData.{TypeData, TypesData, NoTypes, types_of, list_of_types}
use Rattle.base.specs.declared.types.FunctionId.{FunctionId}
use Rattle.base.specs.declared.types.StructId.{StructId}
use Rattle.program.specs.Trees.{ManyTree, MoreTrees, at, trees}
use Rattle.program.specs.declared.arena.Node.{Node}
use Rattle.program.specs.declared.arena.Node.TheVariants.{Leaf, Unary, Binary, If, Many}
use Rattle.program.specs.declared.clause.Clause.{Clause}
use Rattle.program.specs.declared.clause.ClauseForm.{ClauseForm}
use Rattle.program.specs.declared.clause.ClauseForm.TheVariants.{Condition as condition_form, Modifies as modifies_form, Let as let_form, Include as include_form}
use Rattle.program.specs.declared.declaration.Schema.{Schema}
use Rattle.program.specs.declared.declaration.SpecFunction.{SpecFunction}
use Rattle.program.specs.declared.operator.SpecBuiltin.{SpecBuiltin}
use Rattle.program.specs.declared.operator.SpecBuiltin.TheVariants.{Old as old_call, Length as length_call, InRange as range_call, Exists as exists_call, Global as global_call, AddressOf as address_call}
use Rattle.program.specs.declared.program.ConstantId.{ConstantId}
use Rattle.program.specs.declared.program.Program.{Program}
use Rattle.program.specs.declared.program.SchemaId.{SchemaId}
use Rattle.program.specs.declared.spec.Bind.{Bind}
use Rattle.program.specs.declared.spec.Domain.{Domain}
use Rattle.program.specs.declared.spec.Domain.TheVariants.{Of, In}
use Rattle.program.specs.declared.spec.SpecBinary.{SpecBinary}
use Rattle.program.specs.declared.spec.SpecCallee.{SpecCallee}
use Rattle.program.specs.declared.spec.SpecCallee.TheVariants.{Function, Builtin}
use Rattle.program.specs.declared.spec.SpecLeaf.{SpecLeaf}
use Rattle.program.specs.declared.spec.SpecLeaf.TheVariants.{Number, Truth, Address, Name, Constant, Max}
use Rattle.program.specs.declared.spec.SpecMany.{SpecMany}
use Rattle.program.specs.declared.spec.SpecMany.TheVariants.{Call, Pack, Quantified}
use Rattle.program.specs.declared.spec.SpecUnary.{SpecUnary}
use Rattle.program.specs.declared.spec.SpecUnary.TheVariants.{Not, Field}
use Rattle.program.specs.FieldNumbers.{field_number_in}
use Rattle.program.specs.Same.{same_function, same_schema}
use Rattle.typing_rules.specs.SpecConstraints.{SpecNode, SpecSetting, binds_in, spec_first_argument, spec_node_arity, spec_variable_count}
use Rattle.typing_rules.specs.Clauses.{form_arguments}
use Rattle.fol.specs.Val.{Val, NumberValue, TruthValue}
use Rattle.fol.specs.TypedValue.{argument, put_types}
use Rattle.fol.specs.Whole.{bits_of}
use Rattle.semantics.specs.TypedBodies.{declared_fields, only, or_zero, part_numbers, struct_of, types_from}
use Rattle.semantics.specs.SpecTruth.{SpecLeafForm, Value, Named, SpecUnaryForm, Denies, FieldOf, Over, Values, Numbers, Bound, SpecManyForm, Old, LengthOf, InRange, AddressOf, ExistsAt, GlobalAt, Packed, Invokes, Quantifies, SpecTree, SpecFunctions}
use Rattle.semantics.specs.Clauses.{TypedClause, Condition, Modifies, LetIs, Includes, Location, SchemaInstance, SchemaClauses, SpecDeclarations}

abbrev pub TypedSpecNode : Type 0
TypedSpecNode = Node SpecLeafForm SpecUnaryForm SpecBinary SpecManyForm

-- The expressions of a clause or of a spec function: their nodes, the types of their type variables (nodes by their numbers, variables of
-- quantifiers, type arguments of nodes), what the type parameters of a schema name where it is included, and the values of constants.
pub record SpecBody : Type 0 where
  pub program : Program
  pub nodes : List SpecNode
  pub types : ℕ → TypeData
  pub named : ℕ → TypeData
  pub constants : ConstantId → Val

-- ---- type arguments

-- the number of variables that quantifiers bind
abbrev pub variables : SpecBody → ℕ
variables b = sum_by (λ node. length (binds_in node)) b.nodes

-- a setting of these nodes, for the numbers of their type variables, on which names have no influence
abbrev pub setting : SpecBody → SpecSetting
setting b = record { program = b.program; nodes = b.nodes; named = λ name. None; may_be_old = true; variables = variables b; types = NoTypes }

-- Resource types and type arguments stay as they are written, though elsewhere specifications read each integer type as `num`. Where none
-- are written they are those of the typing, from this type variable on.
abbrev pub arguments_from : SpecBody → ℕ → ℕ → TypesData → List TypeData
arguments_from b first count written =
    if length (list_of_types written) == 0 then types_from b.types first count else map (put_types b.named) (list_of_types written)

abbrev pub spec_type_arguments : SpecBody → ℕ → SpecNode → TypesData → List TypeData
spec_type_arguments b n node written = arguments_from b (spec_first_argument (setting b) n) (spec_node_arity b.program node) written

-- ---- nodes

abbrev pub typed_spec_leaf : SpecBody → SpecLeaf → SpecLeafForm
typed_spec_leaf b (Number x) = Value (NumberValue (pos x.value))
typed_spec_leaf b (Truth value) = Value (TruthValue value)
typed_spec_leaf b (Address value) = Value (NumberValue (pos value))
typed_spec_leaf b (Name name) = Named name
typed_spec_leaf b (Constant c) = Value (b.constants c)
typed_spec_leaf b (Max w) = Value (NumberValue (pos (2 ^ bits_of w - 1)))

-- no value is of a struct without a name
abbrev pub field_named : Program → Option StructId → List ℕ → SpecUnaryForm
field_named program None name = FieldOf (record { address = 0; «module» = []; name = [] }) 0
field_named program (Some s) name = FieldOf s (or_zero (field_number_in program.structs s name))

abbrev pub typed_spec_unary : SpecBody → SpecUnary → ℕ → SpecUnaryForm
typed_spec_unary b Not a = Denies
typed_spec_unary b (Field name) a = field_named b.program (struct_of (b.types a)) name

abbrev pub builtin_called : SpecBuiltin → List TypeData → SpecManyForm
builtin_called old_call ts = Old
builtin_called length_call ts = LengthOf
builtin_called range_call ts = InRange
builtin_called exists_call ts = ExistsAt (only ts)
builtin_called global_call ts = GlobalAt (only ts)
builtin_called address_call ts = AddressOf

abbrev pub spec_called : SpecCallee → List TypeData → SpecManyForm
spec_called (Function f) ts = Invokes f ts
spec_called (Builtin b) ts = builtin_called b ts

abbrev pub typed_domain : SpecBody → Domain → Over
typed_domain b (Of t) = Values (put_types b.named t)
typed_domain b In = Numbers

abbrev pub typed_bind : SpecBody → Bind → Bound
typed_bind b bind = record { variable = bind.variable; over = typed_domain b bind.domain }

abbrev pub typed_spec_many : SpecBody → ℕ → SpecMany → List ℕ → SpecManyForm
typed_spec_many b n (Call c) parts = spec_called c.callee (spec_type_arguments b n (Many (Call c) parts) c.types)
typed_spec_many b n (Pack fields) parts = Packed fields.owner (part_numbers (declared_fields b.program fields.owner) fields.fields)
typed_spec_many b n (Quantified quantifier binds triggers) parts = Quantifies quantifier (map (typed_bind b) binds)

-- the node with the number n
abbrev pub typed_spec_node : SpecBody → ℕ → SpecNode → TypedSpecNode
typed_spec_node b n (Leaf l) = Leaf (typed_spec_leaf b l)
typed_spec_node b n (Unary u a) = Unary (typed_spec_unary b u a) a
typed_spec_node b n (Binary o x y) = Binary o x y
typed_spec_node b n (If c x y) = If c x y
typed_spec_node b n (Many m parts) = Many (typed_spec_many b n m parts) parts

abbrev pub typed_spec_nodes : SpecBody → ℕ → List SpecNode → List TypedSpecNode
typed_spec_nodes b n [] = []
typed_spec_nodes b n (node ∷ nodes) = typed_spec_node b n node ∷ typed_spec_nodes b (n + 1) nodes

abbrev pub spec_tree_at : SpecBody → ℕ → SpecTree
spec_tree_at b n = at (trees (typed_spec_nodes b 0 b.nodes)) n

-- ---- clauses

-- `global<R>(a)`
abbrev pub location : SpecTree → Location
location (ManyTree (GlobalAt t) (MoreTrees a ts)) = record { resource = t; address = a }
location t = record { resource = only []; address = t }

-- the type arguments of an `include` are the last type variables
abbrev pub schema_instance : SpecBody → ClauseForm → SchemaId → TypesData → SchemaInstance
schema_instance b form schema written =
    let first = spec_variable_count (setting b) in
    let count = form_arguments b.program form in
    record { schema = schema; read = types_from b.types first count; named = arguments_from b first count written }

abbrev pub typed_form : SpecBody → ClauseForm → TypedClause
typed_form b (condition_form kind root) = Condition kind (spec_tree_at b root)
typed_form b (modifies_form roots) = Modifies (map (λ root. location (spec_tree_at b root)) roots)
typed_form b (let_form is_post value) = LetIs is_post (spec_tree_at b value)
typed_form b (include_form schema types given) = Includes (schema_instance b (include_form schema types given) schema types) (map (spec_tree_at b) given)

-- clauses with the types of the type variables of each
abbrev pub typed_clauses : Program → (ConstantId → Val) → (ℕ → TypeData) → List Clause → List (ℕ → TypeData) → List TypedClause
typed_clauses program constants named (c ∷ cs) (t ∷ ts) =
    typed_form (record { program = program; nodes = c.body.nodes; types = t; named = named; constants = constants }) c.form ∷ typed_clauses program constants named cs ts
typed_clauses program constants named _ ts = []

-- ---- programs

-- the types of the type variables of spec functions, in the order of their declarations, and of the clauses of each schema at each list of
-- type arguments, as specifications read them
pub record SpecTypes : Type 0 where
  pub functions : List (ℕ → TypeData)
  pub schemas : SchemaId → List TypeData → List (ℕ → TypeData)

abbrev pub spec_function_tree : Program → (ConstantId → Val) → SpecFunction → (ℕ → TypeData) → SpecTree
spec_function_tree program constants f types =
    spec_tree_at (record { program = program; nodes = f.body.nodes; types = types; named = argument NoTypes; constants = constants }) (length f.body.nodes - 1)

abbrev pub spec_function_in : Program → (ConstantId → Val) → List (FunctionId × SpecFunction) → List (ℕ → TypeData) → SpecFunctions
spec_function_in program constants (f ∷ fs) (t ∷ ts) name =
    if same_function name f.0 then Some (spec_function_tree program constants f.1 t) else spec_function_in program constants fs ts name
spec_function_in program constants _ ts name = None

abbrev pub clauses_of_schema : Option Schema → List Clause
clauses_of_schema None = []
clauses_of_schema (Some s) = s.clauses

-- in the clauses of a schema its type arguments stand for its type parameters
abbrev pub schema_clauses : Program → (ConstantId → Val) → SpecTypes → SchemaClauses
schema_clauses program constants types i =
    typed_clauses program constants (argument (types_of i.named)) (clauses_of_schema (lookup (same_schema i.schema) program.schemas)) (types.schemas i.schema i.read)

-- the declarations of a program, whose names have no cycles
abbrev pub spec_declarations : Program → (ConstantId → Val) → SpecTypes → SpecDeclarations
spec_declarations program constants types = record {
  functions = spec_function_in program constants program.spec_functions types.functions;
  schemas = schema_clauses program constants types;
  levels = length program.spec_functions + length program.schemas;
}
