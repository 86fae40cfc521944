-- The dependencies between declarations, kind by kind, by their indices in the tables of a program.
use Rattle.std.specs.Prelude.{ℕ, ◌+◌, ◌==◌, Bool, List, [], ◌∷◌, ◌++◌, Option, Some, None, if◌then◌else◌}
use Rattle.std.specs.List.{flat_map, position}
use Rattle.std.specs.Map.{keys_of}
use Rattle.program.specs.declared.program.ModuleId.{ModuleId}
use Rattle.program.specs.declared.program.Program.{Program}
use Rattle.program.specs.declared.declaration.Module.{Module}
use Rattle.scopes.specs.MemberNames.{same_module}
use Rattle.program.specs.Same.{same_struct, same_function, same_schema}
use Rattle.program.specs.Homes.{struct_home, constant_home, function_home, schema_home}
use Rattle.declaration_cycles.specs.declared.edges.Edge.{Edge}
use Rattle.declaration_cycles.specs.Naming.{homes_in_clauses, homes_in_struct, homes_in_constant, homes_in_function, homes_in_spec_function, homes_in_schema, structs_of_fields, functions_called, schemas_included}

-- an edge between two indices, if both are present
abbrev pub edge : Option ℕ → Option ℕ → List Edge
edge None to = []
edge (Some i) None = []
edge (Some i) (Some j) = record { from = i; to = j } ∷ []

-- an edge between two different indices
abbrev pub edge_apart : Option ℕ → Option ℕ → List Edge
edge_apart None to = []
edge_apart (Some i) None = []
edge_apart (Some i) (Some j) = if i == j then [] else record { from = i; to = j } ∷ []

-- the index of a name in a table
abbrev pub number : {K V : Type 0} → (K → K → Bool) → List (K × V) → K → Option ℕ
number same table name = position (same name) (keys_of table)

-- edges from one name to others
abbrev pub edges_to : {K V : Type 0} → (K → K → Bool) → List (K × V) → K → List K → List Edge
edges_to same table from names = flat_map (λ name. edge (number same table from) (number same table name)) names

-- edges from each declaration to those of its kind that it names
abbrev pub struct_edges : Program → List Edge
struct_edges p = flat_map (λ e. edges_to same_struct p.structs e.0 (structs_of_fields e.1)) p.structs

abbrev pub spec_function_edges : Program → List Edge
spec_function_edges p = flat_map (λ e. edges_to same_function p.spec_functions e.0 (functions_called e.1)) p.spec_functions

abbrev pub schema_edges : Program → List Edge
schema_edges p = flat_map (λ e. edges_to same_schema p.schemas e.0 (schemas_included e.1)) p.schemas

-- ---- modules

-- edges from a module to other modules; its use of itself gives none
abbrev pub edges_apart : List (ModuleId × Module) → Option ℕ → List ModuleId → List Edge
edges_apart modules from names = flat_map (λ name. edge_apart from (number same_module modules name)) names

-- the edges given by `use`s, for the lists of the modules from this index on
abbrev pub use_edges : List (ModuleId × Module) → ℕ → List (List ModuleId) → List Edge
use_edges modules n [] = []
use_edges modules n (names ∷ uses) = edges_apart modules (Some n) names ++ use_edges modules (1 + n) uses

-- the edges to the modules whose members a declaration names, from the module of the declaration
abbrev pub member_edges : {K V : Type 0} → List (ModuleId × Module) → (K → ModuleId) → (V → List ModuleId) → List (K × V) → List Edge
member_edges modules home named table = flat_map (λ e. edges_apart modules (number same_module modules (home e.0)) (named e.1)) table

abbrev pub own_home : ModuleId → ModuleId
own_home m = m

abbrev pub homes_in_module : Module → List ModuleId
homes_in_module m = homes_in_clauses m.clauses

abbrev pub module_edges : Program → List (List ModuleId) → List Edge
module_edges p uses =
    use_edges p.modules 0 uses
    ++ (member_edges p.modules own_home homes_in_module p.modules
    ++ (member_edges p.modules struct_home homes_in_struct p.structs
    ++ (member_edges p.modules constant_home homes_in_constant p.constants
    ++ (member_edges p.modules function_home homes_in_function p.functions
    ++ (member_edges p.modules function_home homes_in_spec_function p.spec_functions
    ++ member_edges p.modules schema_home homes_in_schema p.schemas)))))
