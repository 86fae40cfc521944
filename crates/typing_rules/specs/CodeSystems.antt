-- The constraint systems of functions and of constants. Source: The Move Book, "Functions" and "Constants".
use Rattle.std.specs.Prelude.{ℕ, ◌+◌, Bool, true, false, List, [], ◌∷◌, ◌++◌, length, Some, None, if◌then◌else◌}
use Rattle.std.specs.List.{flat_map}
use Rattle.base.specs.TypeData.{TypeData, BoolType, IntType, AddressType}
use Rattle.program.specs.declared.arena.Node.TheVariants.{Leaf, Unary, Binary}
use Rattle.program.specs.declared.code.CodeLeaf.TheVariants.{Number, Truth, Address}
use Rattle.program.specs.declared.code.CodeUnary.TheVariants.{Not, Cast, Discard}
use Rattle.program.specs.declared.code.CodeBinary.TheVariants.{Operator}
use Rattle.program.specs.declared.declaration.Constant.{Constant}
use Rattle.program.specs.declared.declaration.Function.{Function}
use Rattle.program.specs.declared.declaration.TypedName.{TypedName}
use Rattle.program.specs.declared.program.Program.{Program}
use Rattle.program.specs.CodeNodes.{CodeNode}
use Rattle.typing_rules.specs.ProperTypes.{is_proper, is_proper_single}
use Rattle.typing_rules.specs.Constraint.{Constraint, Returns, Barred, Written}
use Rattle.typing_rules.specs.Settings.{CodeSetting, variable_of_local, first_argument, variable_count, u64_type}
use Rattle.typing_rules.specs.CodeConstraints.{has, barred_unless, constraints_at, constraints_from}
use Rattle.typing_rules.specs.Answers.{System}

-- ---- what both share

-- the type variables of the whole values of `e;`
abbrev pub dropped_by : CodeNode → List ℕ
dropped_by (Unary Discard a) = a ∷ []
dropped_by _ = []

abbrev pub code_system : CodeSetting → List Constraint → List (List Constraint) → List Constraint → System
code_system s declared nodes whole = record {
  reading = record { structs = s.program.structs; is_spec = false };
  steps = declared ∷ (nodes ++ whole ∷ []);
  variables = variable_count s;
  dropped = flat_map dropped_by s.nodes;
  open_integer = Some u64_type;
}

-- the constraint on the whole, which is the last node
abbrev pub last_by : {A : Type 0} → (ℕ → Constraint) → List A → ℕ → Constraint
last_by ask [] n = Barred
last_by ask (node ∷ []) n = ask n
last_by ask (node ∷ more ∷ rest) n = last_by ask (more ∷ rest) (n + 1)

-- ---- functions

abbrev pub function_setting : Program → Function → CodeSetting
function_setting program f = record { program = program; nodes = f.body.nodes; locals = length f.locals; result = Some f.result }

-- parameters, the first of which is the local with the number l
abbrev pub parameter_constraints : CodeSetting → ℕ → List TypedName → List Constraint
parameter_constraints s l [] = []
parameter_constraints s l (p ∷ ps) =
    (if is_proper_single s.program.structs p.annotation then has (variable_of_local s l) p.annotation else Barred) ∷ parameter_constraints s (l + 1) ps

abbrev pub signature_constraints : CodeSetting → Function → List Constraint
signature_constraints s f = parameter_constraints s 0 f.parameters ++ barred_unless (is_proper s.program.structs f.result)

abbrev pub function_system : Program → Function → System
function_system program f =
    let s = function_setting program f in
    code_system s (signature_constraints s f) (constraints_from s 0 s.nodes) (last_by (λ n. Returns n (Written f.result)) s.nodes 0 ∷ [])

-- ---- constants

abbrev pub constant_setting : Program → Constant → CodeSetting
constant_setting program c = record { program = program; nodes = c.value.nodes; locals = 0; result = None }

-- the value consists of literals, operators and casts
abbrev pub is_constant_node : CodeNode → Bool
is_constant_node (Leaf (Number x)) = true
is_constant_node (Leaf (Truth value)) = true
is_constant_node (Leaf (Address value)) = true
is_constant_node (Unary Not a) = true
is_constant_node (Unary (Cast of) a) = true
is_constant_node (Binary (Operator operator) a b) = true
is_constant_node _ = false

abbrev pub value_constraints : CodeSetting → ℕ → CodeNode → List Constraint
value_constraints s n node = if is_constant_node node then constraints_at s n (first_argument s n) node else Barred ∷ []

abbrev pub values_from : CodeSetting → ℕ → List CodeNode → List (List Constraint)
values_from s n [] = []
values_from s n (node ∷ rest) = value_constraints s n node ∷ values_from s (n + 1) rest

-- the types that a constant may have
abbrev pub is_constant_type : TypeData → Bool
is_constant_type BoolType = true
is_constant_type (IntType w) = true
is_constant_type AddressType = true
is_constant_type _ = false

abbrev pub constant_system : Program → Constant → System
constant_system program c =
    let s = constant_setting program c in
    code_system s (barred_unless (is_constant_type c.annotation)) (values_from s 0 s.nodes) (last_by (λ n. has n c.annotation) s.nodes 0 ∷ [])
