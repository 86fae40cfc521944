-- Edges between declarations join indices of their table.
use Rattle.std.proofs.Common.{◌≡◌, ℕ, ◌+◌, ◌<◌, ◌≤◌, List, [], ◌∷◌, length, Bool, true, false, nat_eq, Option, Some, None, refl, arith}
use Rattle.std.specs.Prelude.{All, IfSome, if◌then◌else◌}
use Rattle.std.specs.List.{flat_map}
use Rattle.std.specs.Map.{keys_of}
use Rattle.std.proofs.lemmas.List.{length-map}
use Rattle.std.proofs.lemmas.List.Quantifiers.{position-Some}
use Rattle.std.proofs.lemmas.List.Elements.{All-append, All-nil, All-push}
use Rattle.program.specs.declared.program.ModuleId.{ModuleId}
use Rattle.program.specs.declared.declaration.Module.{Module}
use Rattle.program.specs.declared.program.Program.{Program}
use Rattle.scopes.specs.MemberNames.{same_module}
use Rattle.declaration_cycles.specs.Edges.{edge, edge_apart, number, edges_to, edges_apart, own_home, homes_in_module, use_edges, member_edges, module_edges}
use Rattle.program.specs.Homes.{struct_home, constant_home, function_home, schema_home}
use Rattle.declaration_cycles.specs.Naming.{homes_in_struct, homes_in_constant, homes_in_function, homes_in_spec_function, homes_in_schema}
use Rattle.declaration_cycles.specs.Within.{IsWithin}

pub all_pieces : {A B : Type 0} (P : B → Type 0) (f : A → List B) (xs : List A) → ((x : A) → All P (f x)) → All P (flat_map f xs)
all_pieces P f [] h = All-nil P
all_pieces P f (x ∷ xs) h = All-append P (f x) (flat_map f xs) (h x) (all_pieces P f xs h)

one : (count i j : ℕ) → i < count → j < count → All (IsWithin count) (record { from = i; to = j } ∷ [])
one count i j b c = All-push (IsWithin count) [] (record { from = i; to = j }) (All-nil (IsWithin count)) (record { begins = b; ends = c })

edge_within : (count : ℕ) (a b : Option ℕ) → IfSome a (λ i. i < count) → IfSome b (λ j. j < count) → All (IsWithin count) (edge a b)
edge_within count None b f g = All-nil (IsWithin count)
edge_within count (Some i) None f g = All-nil (IsWithin count)
edge_within count (Some i) (Some j) f g = one count i j f g

cond_within : (count i j : ℕ) (same : Bool) → i < count → j < count
    → All (IsWithin count) (if same then [] else record { from = i; to = j } ∷ [])
cond_within count i j true b c = All-nil (IsWithin count)
cond_within count i j false b c = one count i j b c

apart_within : (count : ℕ) (a b : Option ℕ) → IfSome a (λ i. i < count) → IfSome b (λ j. j < count) → All (IsWithin count) (edge_apart a b)
apart_within count None b f g = All-nil (IsWithin count)
apart_within count (Some i) None f g = All-nil (IsWithin count)
apart_within count (Some i) (Some j) f g = cond_within count i j (nat_eq i j) f g

module _ {K V : Type 0} (same : K → K → Bool) (table : List (K × V)) where
  found_below : (name : K) (o : Option ℕ) → number same table name ≡ o → IfSome o (λ i. i < length table)
  found_below name None e = tt
  found_below name (Some i) e =
      let b = position-Some (same name) (keys_of table) i name e in
      let l = length-map table (λ (x : K × V). x.0) in
      let c = b.0 in
      omega arith

  pub number_below : (name : K) → IfSome (number same table name) (λ i. i < length table)
  number_below name = found_below name (number same table name) refl

  pub to_within : (from : K) (names : List K) → All (IsWithin (length table)) (edges_to same table from names)
  to_within from names =
      all_pieces (IsWithin (length table)) (λ name. edge (number same table from) (number same table name)) names
      (λ name. edge_within (length table) (number same table from) (number same table name) (number_below from) (number_below name))

  pub kind_within : (named : V → List K) (entries : List (K × V)) → All (IsWithin (length table)) (flat_map (λ e. edges_to same table e.0 (named e.1)) entries)
  kind_within named entries =
      all_pieces (IsWithin (length table)) (λ e. edges_to same table e.0 (named e.1)) entries (λ e. to_within e.0 (named e.1))

module _ (modules : List (ModuleId × Module)) where
  others_within : (from : Option ℕ) (names : List ModuleId) → IfSome from (λ i. i < length modules)
      → All (IsWithin (length modules)) (edges_apart modules from names)
  others_within from names b =
      all_pieces (IsWithin (length modules)) (λ name. edge_apart from (number same_module modules name)) names
      (λ name. apart_within (length modules) from (number same_module modules name) b (number_below same_module modules name))

  uses_within : (n : ℕ) (uses : List (List ModuleId)) → n + length uses ≤ length modules → All (IsWithin (length modules)) (use_edges modules n uses)
  uses_within n [] b = All-nil (IsWithin (length modules))
  uses_within n (names ∷ uses) b =
      All-append (IsWithin (length modules)) (edges_apart modules (Some n) names) (use_edges modules (1 + n) uses)
      (others_within (Some n) names (omega arith))
      (uses_within (1 + n) uses (omega arith))

  members_within : {K V : Type 0} (home : K → ModuleId) (named : V → List ModuleId) (table : List (K × V))
      → All (IsWithin (length modules)) (member_edges modules home named table)
  members_within home named table =
      all_pieces (IsWithin (length modules)) (λ e. edges_apart modules (number same_module modules (home e.0)) (named e.1)) table
      (λ e. others_within (number same_module modules (home e.0)) (named e.1) (number_below same_module modules (home e.0)))

pub modules_within : (p : Program) (uses : List (List ModuleId)) → length uses ≡ length p.modules
    → All (IsWithin (length p.modules)) (module_edges p uses)
modules_within p uses e =
    let W = IsWithin (length p.modules) in
    let m = p.modules in
    All-append W _ _ (uses_within m 0 uses (omega arith))
    (All-append W _ _ (members_within m own_home homes_in_module p.modules)
    (All-append W _ _ (members_within m struct_home homes_in_struct p.structs)
    (All-append W _ _ (members_within m constant_home homes_in_constant p.constants)
    (All-append W _ _ (members_within m function_home homes_in_function p.functions)
    (All-append W _ _ (members_within m function_home homes_in_spec_function p.spec_functions)
    (members_within m schema_home homes_in_schema p.schemas))))))
