-- The graph of type parameters and types. Its vertices are, function by function, the numbers of the function's type
-- parameters and then those of the types in its pool.
use Rattle.std.specs.Prelude.{ℕ, zero, suc, ◌+◌, ◌==◌, nat_lt, Bool, true, false, List, [], ◌∷◌, ◌++◌, length, map, Option, Some, None, slice_get, if◌then◌else◌}
use Rattle.std.specs.List.{position}
use Rattle.std.specs.Map.{keys_of}
use Rattle.base.specs.declared.types.FunctionId.{FunctionId}
use Rattle.program.specs.declared.arena.Node.TheVariants.{Many}
use Rattle.program.specs.declared.code.CodeMany.{CodeMany}
use Rattle.program.specs.declared.code.CodeMany.TheVariants.{Call as call_form}
use Rattle.program.specs.declared.code.Callee.{Callee}
use Rattle.program.specs.declared.code.Callee.TheVariants.{Function as plain_function}
use Rattle.program.specs.declared.declaration.Function.{Function}
use Rattle.program.specs.declared.program.Program.{Program}
use Rattle.program.specs.Same.{same_function}
use Rattle.program.specs.CodeNodes.{CodeNode}
use Rattle.typing_rules.specs.Settings.{first_argument}
use Rattle.typing_rules.specs.CodeSystems.{function_setting}
use Rattle.typing_rules.specs.declared.type_pool.PlainType.{PlainType}
use Rattle.typing_rules.specs.declared.type_pool.PlainType.TheVariants.{Param}
use Rattle.typing_rules.specs.declared.type_pool.PoolType.{PoolType}
use Rattle.typing_rules.specs.declared.type_pool.PoolType.TheVariants.{Plain, Made, Struct, Tuple}
use Rattle.base.specs.declared.marked_cycles.edge.MarkedEdge.{MarkedEdge}
use Rattle.ability_rules.specs.declared.polymorphic_recursion.rows.Row.{Row}
use Rattle.ability_rules.specs.declared.polymorphic_recursion.known.VariableTypes.{VariableTypes}

-- the number of a type parameter of a function, and that of a type in its pool
abbrev pub parameter_node : Row → ℕ → ℕ
parameter_node r k = r.first + k

abbrev pub type_node : Row → ℕ → ℕ
type_node r n = (r.first + r.parameters) + n

abbrev pub marked_edge : ℕ → ℕ → Bool → MarkedEdge
marked_edge i j marked = record { from = i; to = j; is_marked = marked }

-- the edges of something that may not exist
abbrev pub of_option : {A : Type 0} → (A → List MarkedEdge) → Option A → List MarkedEdge
of_option f None = []
of_option f (Some a) = f a

-- the edges of the numbers below a count
abbrev pub pieces : (ℕ → List MarkedEdge) → ℕ → List MarkedEdge
pieces f zero = []
pieces f (suc n) = pieces f n ++ f n

-- ---- types: an edge from a type parameter to the type that is just that parameter; a marked one from each part to its
-- type

abbrev pub part_edges : Row → ℕ → List ℕ → List MarkedEdge
part_edges r n parts = map (λ m. marked_edge (type_node r m) (type_node r n) true) parts

abbrev pub plain_edges : Row → ℕ → PlainType → List MarkedEdge
plain_edges r n (Param k) = if nat_lt k r.parameters then marked_edge (parameter_node r k) (type_node r n) false ∷ [] else []
plain_edges r n _ = []

abbrev pub entry_edges : Row → ℕ → PoolType → List MarkedEdge
entry_edges r n (Plain p) = plain_edges r n p
entry_edges r n (Made wrap m) = part_edges r n (m ∷ [])
entry_edges r n (Struct s parts) = part_edges r n parts
entry_edges r n (Tuple parts) = part_edges r n parts

abbrev pub at_entry : Row → List PoolType → ℕ → List MarkedEdge
at_entry r pool n = of_option (entry_edges r n) (slice_get pool n)

-- ---- calls: an edge from the type of a type argument to the type parameter that it is for

abbrev pub argument_edge : Row → ℕ → Option ℕ → List MarkedEdge
argument_edge r to None = []
argument_edge r to (Some m) = marked_edge (type_node r m) to false ∷ []

abbrev pub argument_edges : Row → List (Option ℕ) → ℕ → Row → List MarkedEdge
argument_edges r types first to = pieces (λ i. of_option (argument_edge r (parameter_node to i)) (slice_get types (first + i))) to.parameters

abbrev pub number : Program → FunctionId → Option ℕ
number program id = position (same_function id) (keys_of program.functions)

abbrev pub callee_edges : Program → List Row → Row → List (Option ℕ) → ℕ → Callee → List MarkedEdge
callee_edges program rows r types first (plain_function id) = of_option (λ j. of_option (argument_edges r types first) (slice_get rows j)) (number program id)
callee_edges program rows r types first _ = []

abbrev pub form_edges : Program → List Row → Row → List (Option ℕ) → ℕ → CodeMany → List MarkedEdge
form_edges program rows r types first (call_form c) = callee_edges program rows r types first c.callee
form_edges program rows r types first _ = []

abbrev pub node_edges : Program → List Row → Row → List (Option ℕ) → ℕ → CodeNode → List MarkedEdge
node_edges program rows r types first (Many form parts) = form_edges program rows r types first form
node_edges program rows r types first _ = []

abbrev pub at_node : Program → List Row → Row → Function → VariableTypes → ℕ → List MarkedEdge
at_node program rows r f p n =
    if nat_lt n p.read then of_option (node_edges program rows r p.types.now (first_argument (function_setting program f) n)) (slice_get f.body.nodes n) else []

-- ---- functions

-- the number is that of the first one with its name
abbrev pub is_number : ℕ → Option ℕ → Bool
is_number n None = false
is_number n (Some m) = m == n

abbrev pub body_edges : Program → List Row → Row → VariableTypes → ℕ → FunctionId → Function → List MarkedEdge
body_edges program rows r p n id f = if is_number n (number program id) then pieces (at_node program rows r f p) (length f.body.nodes) else []

abbrev pub function_edges : Program → List Row → Row → VariableTypes → ℕ → FunctionId × Function → List MarkedEdge
function_edges program rows r p n e = pieces (at_entry r p.pool.now) (length p.pool.now) ++ body_edges program rows r p n e.0 e.1

abbrev pub at_function : Program → List Row → List VariableTypes → ℕ → List MarkedEdge
at_function program rows known n =
    of_option (λ r. of_option (λ p. of_option (function_edges program rows r p n) (slice_get program.functions n)) (slice_get known n)) (slice_get rows n)

abbrev pub edges_of : Program → List Row → List VariableTypes → List MarkedEdge
edges_of program rows known = pieces (at_function program rows known) (length rows)
