-- The edges of the graph.
use Rattle.std.proofs.Common.{◌≡◌, ◌⊎◌, inl, inr, ℕ, ◌+◌, ◌<◌, Bool, true, false, List, [], ◌∷◌, length, Option, Some, None, refl, sym, ap, subst, ◌∙◌}
use Rattle.std.specs.Prelude.{Contains, slice_get, nat_lt, if◌then◌else◌}
use Rattle.std.proofs.lemmas.Bool.{ltb-true, lt-ltb, eqb-true, eq-eqb}
use Rattle.std.proofs.lemmas.Option.{slice_get_within}
use Rattle.std.proofs.lemmas.List.Elements.{Contains-append_left, Contains-append_right, Contains-append_cases}
use Rattle.base.specs.declared.types.FunctionId.{FunctionId}
use Rattle.program.specs.declared.arena.Node.TheVariants.{Leaf, Unary, Binary, If, Many}
use Rattle.program.specs.declared.code.Call.{Call}
use Rattle.program.specs.declared.code.CodeMany.{CodeMany}
use Rattle.program.specs.declared.code.CodeMany.TheVariants.{Call as call_form, Vector, Pack, Unpack, Tuple as tuple_form, TuplePattern, Block}
use Rattle.program.specs.declared.code.Callee.{Callee}
use Rattle.program.specs.declared.code.Callee.TheVariants.{Function as plain_function, Storage, Vector as vector_callee, AddressOf}
use Rattle.program.specs.declared.declaration.Function.{Function}
use Rattle.program.specs.declared.program.Program.{Program}
use Rattle.program.specs.CodeNodes.{CodeNode}
use Rattle.typing_rules.specs.Settings.{first_argument}
use Rattle.typing_rules.specs.CodeSystems.{function_setting}
use Rattle.typing_rules.specs.declared.type_pool.PlainType.{PlainType}
use Rattle.typing_rules.specs.declared.type_pool.PlainType.TheVariants.{Bool as bool_type, Int, Num, Address, Signer, Param}
use Rattle.typing_rules.specs.declared.type_pool.PoolType.{PoolType}
use Rattle.typing_rules.specs.declared.type_pool.PoolType.TheVariants.{Plain, Made, Struct, Tuple}
use Rattle.base.specs.declared.marked_cycles.edge.MarkedEdge.{MarkedEdge}
use Rattle.ability_rules.specs.declared.polymorphic_recursion.rows.Row.{Row}
use Rattle.ability_rules.specs.declared.polymorphic_recursion.known.VariableTypes.{VariableTypes}
use Rattle.ability_rules.specs.Edges.{parameter_node, type_node, marked_edge, of_option, pieces, part_edges, plain_edges, entry_edges, at_entry, argument_edge, argument_edges, number, callee_edges, form_edges, node_edges, at_node, is_number, body_edges, function_edges, at_function, edges_of}
use Rattle.ability_rules.proofs.Pieces.{not_in_none, in_one, has_one, in_pieces, has_piece, in_option, has_option, in_mapped, has_mapped}

-- a part of a type in a pool
abbrev pub IsPart : PoolType → ℕ → Type 0
IsPart (Plain p) m = ⊥
IsPart (Made wrap n) m = Contains (n ∷ []) m
IsPart (Struct s ns) m = Contains ns m
IsPart (Tuple ns) m = Contains ns m

module _ (program : Program) (rows : List Row) (given : List VariableTypes) where
  -- a function, its numbers and what is known of it
  pub record Stated : Type 0 where
    pub at : ℕ
    pub id : FunctionId
    pub function : Function
    pub row : Row
    pub types : VariableTypes
    pub row_is : slice_get rows at ≡ Some row
    pub types_are : slice_get given at ≡ Some types
    pub function_is : slice_get program.functions at ≡ Some (id, function)

  -- a type parameter, and the type that is just that parameter
  pub record Alone (e : MarkedEdge) : Type 0 where
    pub of : Stated
    pub parameter : ℕ
    pub number_is : ℕ
    pub stands : slice_get of.types.pool.now number_is ≡ Some (Plain (Param parameter))
    pub within : parameter < of.row.parameters
    pub is : e ≡ marked_edge (parameter_node of.row parameter) (type_node of.row number_is) false

  -- a part of a type, and the type
  pub record Inside (e : MarkedEdge) : Type 0 where
    pub of : Stated
    pub part : ℕ
    pub number_is : ℕ
    pub entry : PoolType
    pub stands : slice_get of.types.pool.now number_is ≡ Some entry
    pub is_part : IsPart entry part
    pub is : e ≡ marked_edge (type_node of.row part) (type_node of.row number_is) true

  -- a type argument, and the type parameter that it is for
  pub record Given (e : MarkedEdge) : Type 0 where
    pub of : Stated
    pub first : number program of.id ≡ Some of.at
    pub node : ℕ
    pub call : Call
    pub parts : List ℕ
    pub stands : slice_get of.function.body.nodes node ≡ Some (Many (call_form call) parts)
    pub read : node < of.types.read
    pub callee : FunctionId
    pub callee_is : call.callee ≡ plain_function callee
    pub to : ℕ
    pub to_is : number program callee ≡ Some to
    pub row : Row
    pub row_is : slice_get rows to ≡ Some row
    pub parameter : ℕ
    pub within : parameter < row.parameters
    pub type_is : ℕ
    pub known : slice_get of.types.types.now (first_argument (function_setting program of.function) node + parameter) ≡ Some (Some type_is)
    pub is : e ≡ marked_edge (type_node of.row type_is) (parameter_node row parameter) false

  abbrev pub Shape : MarkedEdge → Type 0
  Shape e = Alone e ⊎ (Inside e ⊎ Given e)

  -- ---- each edge is one of these

  alone_edge : (s : Stated) (n : ℕ) (p : PlainType) (e : MarkedEdge) → slice_get s.types.pool.now n ≡ Some (Plain p) → Contains (plain_edges s.row n p) e → Alone e
  alone_edge s n (Param k) e at c = go (nat_lt k s.row.parameters) refl c
    where
      go : (b : Bool) → nat_lt k s.row.parameters ≡ b → Contains (if b then marked_edge (parameter_node s.row k) (type_node s.row n) false ∷ [] else []) e → Alone e
      go true h d = record { of = s; parameter = k; number_is = n; stands = at; within = ltb-true _ _ h; is = in_one _ e d }
      go false h d = absurd (not_in_none e d)
  alone_edge s n bool_type e at c = absurd (not_in_none e c)
  alone_edge s n (Int w) e at c = absurd (not_in_none e c)
  alone_edge s n Num e at c = absurd (not_in_none e c)
  alone_edge s n Address e at c = absurd (not_in_none e c)
  alone_edge s n Signer e at c = absurd (not_in_none e c)

  inside_edge : (s : Stated) (n : ℕ) (entry : PoolType) (ms : List ℕ) (e : MarkedEdge) → slice_get s.types.pool.now n ≡ Some entry → ((m : ℕ) → Contains ms m → IsPart entry m)
      → Contains (part_edges s.row n ms) e → Inside e
  inside_edge s n entry ms e at are c =
      let r = in_mapped (λ m. marked_edge (type_node s.row m) (type_node s.row n) true) ms e c in
      record { of = s; part = r.0; number_is = n; entry = entry; stands = at; is_part = are r.0 r.1; is = r.2 }

  entry_edge : (s : Stated) (n : ℕ) (entry : PoolType) (e : MarkedEdge) → slice_get s.types.pool.now n ≡ Some entry → Contains (entry_edges s.row n entry) e → Shape e
  entry_edge s n (Plain p) e at c = inl (alone_edge s n p e at c)
  entry_edge s n (Made wrap m) e at c = inr (inl (inside_edge s n (Made wrap m) (m ∷ []) e at (λ q d. d) c))
  entry_edge s n (Struct id ms) e at c = inr (inl (inside_edge s n (Struct id ms) ms e at (λ q d. d) c))
  entry_edge s n (Tuple ms) e at c = inr (inl (inside_edge s n (Tuple ms) ms e at (λ q d. d) c))

  -- a call at a node of the function, as its edges are made
  record Calling (s : Stated) (node : ℕ) (call : Call) (parts : List ℕ) : Type 0 where
    pub first : number program s.id ≡ Some s.at
    pub stands : slice_get s.function.body.nodes node ≡ Some (Many (call_form call) parts)
    pub read : node < s.types.read

  given_edge : (s : Stated) (node : ℕ) (call : Call) (parts : List ℕ) (id : FunctionId) (j : ℕ) (to : Row) (e : MarkedEdge) → Calling s node call parts → call.callee ≡ plain_function id
      → number program id ≡ Some j → slice_get rows j ≡ Some to → Contains (argument_edges s.row s.types.types.now (first_argument (function_setting program s.function) node) to) e → Given e
  given_edge s node call parts id j to e calling callee_is to_is row_is c =
      let first = first_argument (function_setting program s.function) node in
      let r = in_pieces (λ i. of_option (argument_edge s.row (parameter_node to i)) (slice_get s.types.types.now (first + i))) to.parameters e c in
      let o = in_option (argument_edge s.row (parameter_node to r.0)) (slice_get s.types.types.now (first + r.0)) e r.2 in
      go r.0 r.1 o.0 o.1 o.2
    where
      go : (i : ℕ) → i < to.parameters → (found : Option ℕ) → slice_get s.types.types.now (first_argument (function_setting program s.function) node + i) ≡ Some found
          → Contains (argument_edge s.row (parameter_node to i) found) e → Given e
      go i b None at d = absurd (not_in_none e d)
      go i b (Some m) at d = record {
        of = s;
        first = calling.first;
        node = node;
        call = call;
        parts = parts;
        stands = calling.stands;
        read = calling.read;
        callee = id;
        callee_is = callee_is;
        to = j;
        to_is = to_is;
        row = to;
        row_is = row_is;
        parameter = i;
        within = b;
        type_is = m;
        known = at;
        is = in_one _ e d;
      }

  call_edge : (s : Stated) (node : ℕ) (call : Call) (parts : List ℕ) (callee : Callee) (e : MarkedEdge) → Calling s node call parts → call.callee ≡ callee
      → Contains (callee_edges program rows s.row s.types.types.now (first_argument (function_setting program s.function) node) callee) e → Given e
  call_edge s node call parts (plain_function id) e calling is c =
      let first = first_argument (function_setting program s.function) node in
      let r = in_option (λ j. of_option (argument_edges s.row s.types.types.now first) (slice_get rows j)) (number program id) e c in
      let o = in_option (argument_edges s.row s.types.types.now first) (slice_get rows r.0) e r.2 in
      given_edge s node call parts id r.0 o.0 e calling is r.1 o.1 o.2
  call_edge s node call parts (Storage operation) e calling is c = absurd (not_in_none e c)
  call_edge s node call parts (vector_callee f) e calling is c = absurd (not_in_none e c)
  call_edge s node call parts AddressOf e calling is c = absurd (not_in_none e c)

  form_edge : (s : Stated) (node : ℕ) (form : CodeMany) (parts : List ℕ) (e : MarkedEdge) → number program s.id ≡ Some s.at → slice_get s.function.body.nodes node ≡ Some (Many form parts) → node < s.types.read
      → Contains (form_edges program rows s.row s.types.types.now (first_argument (function_setting program s.function) node) form) e → Given e
  form_edge s node (call_form call) parts e first at b c = call_edge s node call parts call.callee e (record { first = first; stands = at; read = b }) refl c
  form_edge s node (Vector types) parts e first at b c = absurd (not_in_none e c)
  form_edge s node (Pack fields) parts e first at b c = absurd (not_in_none e c)
  form_edge s node (Unpack fields) parts e first at b c = absurd (not_in_none e c)
  form_edge s node tuple_form parts e first at b c = absurd (not_in_none e c)
  form_edge s node TuplePattern parts e first at b c = absurd (not_in_none e c)
  form_edge s node (Block has_value) parts e first at b c = absurd (not_in_none e c)

  node_edge : (s : Stated) (n : ℕ) (node : CodeNode) (e : MarkedEdge) → number program s.id ≡ Some s.at → slice_get s.function.body.nodes n ≡ Some node → n < s.types.read
      → Contains (node_edges program rows s.row s.types.types.now (first_argument (function_setting program s.function) n) node) e → Given e
  node_edge s n (Many form parts) e first at b c = form_edge s n form parts e first at b c
  node_edge s n (Leaf l) e first at b c = absurd (not_in_none e c)
  node_edge s n (Unary u a) e first at b c = absurd (not_in_none e c)
  node_edge s n (Binary o x y) e first at b c = absurd (not_in_none e c)
  node_edge s n (If x y z) e first at b c = absurd (not_in_none e c)

  body_edge : (s : Stated) (n : ℕ) (e : MarkedEdge) → number program s.id ≡ Some s.at → Contains (at_node program rows s.row s.function s.types n) e → Given e
  body_edge s n e first c = go (nat_lt n s.types.read) refl c
    where
      go : (b : Bool) → nat_lt n s.types.read ≡ b → Contains (if b then of_option (node_edges program rows s.row s.types.types.now (first_argument (function_setting program s.function) n)) (slice_get s.function.body.nodes n) else []) e → Given e
      go true h d =
          let o = in_option (node_edges program rows s.row s.types.types.now (first_argument (function_setting program s.function) n)) (slice_get s.function.body.nodes n) e d in
          node_edge s n o.0 e first o.1 (ltb-true _ _ h) o.2
      go false h d = absurd (not_in_none e d)

  is_number-true : (n : ℕ) (o : Option ℕ) → is_number n o ≡ true → o ≡ Some n
  is_number-true n None h = cc
  is_number-true n (Some m) h = ap Some (eqb-true _ _ h)

  bodies_edge : (s : Stated) (e : MarkedEdge) → Contains (body_edges program rows s.row s.types s.at s.id s.function) e → Given e
  bodies_edge s e c = go (is_number s.at (number program s.id)) refl c
    where
      go : (b : Bool) → is_number s.at (number program s.id) ≡ b → Contains (if b then pieces (at_node program rows s.row s.function s.types) (length s.function.body.nodes) else []) e → Given e
      go true h d =
          let r = in_pieces (at_node program rows s.row s.function s.types) (length s.function.body.nodes) e d in
          body_edge s r.0 e (is_number-true s.at (number program s.id) h) r.2
      go false h d = absurd (not_in_none e d)

  stated_edge : (s : Stated) (e : MarkedEdge) → Contains (function_edges program rows s.row s.types s.at (s.id, s.function)) e → Shape e
  stated_edge s e c = elim (Contains-append_cases (pieces (at_entry s.row s.types.pool.now) (length s.types.pool.now)) (body_edges program rows s.row s.types s.at s.id s.function) e c) [
    | inl one ↦ (
        let r = in_pieces (at_entry s.row s.types.pool.now) (length s.types.pool.now) e one in
        let o = in_option (entry_edges s.row r.0) (slice_get s.types.pool.now r.0) e r.2 in
        entry_edge s r.0 o.0 e o.1 o.2)
    | inr other ↦ inr (inr (bodies_edge s e other))
  ]

  pub shape_of : (e : MarkedEdge) → Contains (edges_of program rows given) e → Shape e
  shape_of e c =
      let r = in_pieces (at_function program rows given) (length rows) e c in
      let n = r.0 in
      let a = in_option (λ row. of_option (λ p. of_option (function_edges program rows row p n) (slice_get program.functions n)) (slice_get given n)) (slice_get rows n) e r.2 in
      let b = in_option (λ p. of_option (function_edges program rows a.0 p n) (slice_get program.functions n)) (slice_get given n) e a.2 in
      let d = in_option (function_edges program rows a.0 b.0 n) (slice_get program.functions n) e b.2 in
      stated_edge (record { at = n; id = d.0.0; function = d.0.1; row = a.0; types = b.0; row_is = a.1; types_are = b.1; function_is = d.1 }) e d.2

  -- ---- each of these is an edge

  stated_there : (s : Stated) (e : MarkedEdge) → Contains (function_edges program rows s.row s.types s.at (s.id, s.function)) e → Contains (edges_of program rows given) e
  stated_there s e c =
      has_piece (at_function program rows given) (length rows) s.at e (slice_get_within rows s.at s.row s.row_is)
      (has_option (λ row. of_option (λ p. of_option (function_edges program rows row p s.at) (slice_get program.functions s.at)) (slice_get given s.at)) (slice_get rows s.at) s.row e s.row_is
      (has_option (λ p. of_option (function_edges program rows s.row p s.at) (slice_get program.functions s.at)) (slice_get given s.at) s.types e s.types_are
      (has_option (function_edges program rows s.row s.types s.at) (slice_get program.functions s.at) (s.id, s.function) e s.function_is c)))

  entry_there : (s : Stated) (n : ℕ) (entry : PoolType) (e : MarkedEdge) → slice_get s.types.pool.now n ≡ Some entry → Contains (entry_edges s.row n entry) e → Contains (edges_of program rows given) e
  entry_there s n entry e at c =
      stated_there s e (Contains-append_left (pieces (at_entry s.row s.types.pool.now) (length s.types.pool.now)) (body_edges program rows s.row s.types s.at s.id s.function) e
      (has_piece (at_entry s.row s.types.pool.now) (length s.types.pool.now) n e (slice_get_within s.types.pool.now n entry at)
      (has_option (entry_edges s.row n) (slice_get s.types.pool.now n) entry e at c)))

  pub alone_there : (e : MarkedEdge) → Alone e → Contains (edges_of program rows given) e
  alone_there e a =
      entry_there a.of a.number_is (Plain (Param a.parameter)) e a.stands
      (subst (λ (b : Bool). Contains (if b then marked_edge (parameter_node a.of.row a.parameter) (type_node a.of.row a.number_is) false ∷ [] else []) e) (sym (lt-ltb _ _ a.within))
      (has_one _ e a.is))

  parts_there : (s : Stated) (n m : ℕ) (entry : PoolType) (e : MarkedEdge) → IsPart entry m → e ≡ marked_edge (type_node s.row m) (type_node s.row n) true → Contains (entry_edges s.row n entry) e
  parts_there s n m (Plain p) e is h = absurd is
  parts_there s n m (Made wrap k) e is h = has_mapped (λ q. marked_edge (type_node s.row q) (type_node s.row n) true) (k ∷ []) m e is h
  parts_there s n m (Struct id ks) e is h = has_mapped (λ q. marked_edge (type_node s.row q) (type_node s.row n) true) ks m e is h
  parts_there s n m (Tuple ks) e is h = has_mapped (λ q. marked_edge (type_node s.row q) (type_node s.row n) true) ks m e is h

  pub inside_there : (e : MarkedEdge) → Inside e → Contains (edges_of program rows given) e
  inside_there e a = entry_there a.of a.number_is a.entry e a.stands (parts_there a.of a.number_is a.part a.entry e a.is_part a.is)

  pub given_there : (e : MarkedEdge) → Given e → Contains (edges_of program rows given) e
  given_there e a =
      let s = a.of in
      let first = first_argument (function_setting program s.function) a.node in
      let argument = has_one _ e a.is in
      let arguments =
      has_piece (λ i. of_option (argument_edge s.row (parameter_node a.row i)) (slice_get s.types.types.now (first + i))) a.row.parameters a.parameter e a.within
      (has_option (argument_edge s.row (parameter_node a.row a.parameter)) (slice_get s.types.types.now (first + a.parameter)) (Some a.type_is) e a.known argument) in
      let called : Contains (callee_edges program rows s.row s.types.types.now first (plain_function a.callee)) e =
      has_option (λ j. of_option (argument_edges s.row s.types.types.now first) (slice_get rows j)) (number program a.callee) a.to e a.to_is
      (has_option (argument_edges s.row s.types.types.now first) (slice_get rows a.to) a.row e a.row_is arguments) in
      let formed : Contains (form_edges program rows s.row s.types.types.now first (call_form a.call)) e =
      subst (λ (c : Callee). Contains (callee_edges program rows s.row s.types.types.now first c) e) (sym a.callee_is) called in
      let noded : Contains (at_node program rows s.row s.function s.types a.node) e =
      subst (λ (b : Bool). Contains (if b then of_option (node_edges program rows s.row s.types.types.now first) (slice_get s.function.body.nodes a.node) else []) e) (sym (lt-ltb _ _ a.read))
      (has_option (node_edges program rows s.row s.types.types.now first) (slice_get s.function.body.nodes a.node) (Many (call_form a.call) a.parts) e a.stands formed) in
      let bodied =
      has_piece (at_node program rows s.row s.function s.types) (length s.function.body.nodes) a.node e (slice_get_within s.function.body.nodes a.node (Many (call_form a.call) a.parts) a.stands) noded in
      let is : is_number s.at (number program s.id) ≡ true = ap (is_number s.at) a.first ∙ eq-eqb s.at s.at refl in
      let body : Contains (body_edges program rows s.row s.types s.at s.id s.function) e =
      subst (λ (b : Bool). Contains (if b then pieces (at_node program rows s.row s.function s.types) (length s.function.body.nodes) else []) e) (sym is) bodied in
      stated_there s e (Contains-append_right (pieces (at_entry s.row s.types.pool.now) (length s.types.pool.now)) (body_edges program rows s.row s.types s.at s.id s.function) e body)
