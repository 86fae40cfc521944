-- A type parameter is connected to another one in the graph if and only if calls carry it there.
use Rattle.std.proofs.Common.{◌≡◌, ◌⊎◌, inl, inr, ◌↔◌, ℕ, zero, suc, ◌+◌, ◌<◌, ◌≤◌, Bool, true, false, ◌||◌, List, length, get_or, Option, Some, None, refl, sym, ap, subst, ◌∙◌, arith}
use Rattle.std.specs.Prelude.{slice_get, slice_index_or, IsTrue}
use Rattle.std.specs.Map.{lookup}
use Rattle.std.specs.Option.{option_map}
use Rattle.std.proofs.lemmas.Option.{slice_get_within, slice_get_cases}
use Rattle.base.specs.TypeData.{TypeData, ParamType}
use Rattle.base.specs.declared.types.FunctionId.{FunctionId}
use Rattle.program.specs.declared.arena.Node.TheVariants.{Many}
use Rattle.program.specs.declared.code.Call.{Call}
use Rattle.program.specs.declared.code.CodeMany.TheVariants.{Call as call_form}
use Rattle.program.specs.declared.code.Callee.{Callee}
use Rattle.program.specs.declared.code.Callee.TheVariants.{Function as plain_function}
use Rattle.program.specs.declared.declaration.Function.{Function}
use Rattle.program.specs.declared.program.Program.{Program}
use Rattle.program.specs.Same.{same_function}
use Rattle.program.specs.CodeNodes.{CodeNode}
use Rattle.typing_rules.specs.Settings.{first_argument, node_arity, arity_of, callee_signature, function_signature}
use Rattle.typing_rules.specs.Answers.{System, HasType, HasTyping, NodeIsRead}
use Rattle.typing_rules.specs.CodeSystems.{function_setting, function_system}
use Rattle.typing_rules.specs.Calls.{Mentions, Parameter, is_wrapped, CarriesIn, Carries, Once, Then, IsWrapping}
use Rattle.typing_rules.specs.Pools.{type_at, type_of, types}
use Rattle.typing_rules.specs.declared.type_pool.PlainType.TheVariants.{Param}
use Rattle.typing_rules.specs.declared.type_pool.PoolType.{PoolType}
use Rattle.typing_rules.specs.declared.type_pool.PoolType.TheVariants.{Plain}
use Rattle.typing_rules.proofs.Stated.{type_read}
use Rattle.base.specs.declared.marked_cycles.edge.MarkedEdge.{MarkedEdge}
use Rattle.base.specs.MarkedCycles.{IsEdge, Leads, Directly, Over, IsOnMarkedCycle}
use Rattle.base.proofs.MadeGraphs.{leads_join}
use Rattle.ability_rules.specs.declared.polymorphic_recursion.rows.Row.{Row}
use Rattle.ability_rules.specs.declared.polymorphic_recursion.known.VariableTypes.{VariableTypes}
use Rattle.ability_rules.specs.KnownTypes.{IsListed, AreKnown}
use Rattle.ability_rules.specs.Edges.{parameter_node, type_node, marked_edge, number, edges_of}
use Rattle.ability_rules.specs.Rows.{AreRows, PartsAreBelow, IsAnyFound}
use Rattle.ability_rules.proofs.Tables.{found_there, number_there, entry_there, same_is}
use Rattle.ability_rules.proofs.Variables.{arguments_within}
use Rattle.ability_rules.proofs.Shapes.{IsPart, Stated, Alone, Inside, Given, Shape, shape_of, alone_there, inside_there, given_there}
use Rattle.ability_rules.proofs.Numbers.{same_row, same_types, same_function as same_declared, same_id, one_type, one_parameter, type_or_parameter}
use Rattle.ability_rules.proofs.Mentioned.{part_below, mentions_there, mentions_back, wrapped_part}

or_true : (b : Bool) → (b || true) ≡ true
or_true true = refl
or_true false = refl

or_false : (b : Bool) → (b || false) ≡ b
or_false true = refl
or_false false = refl

same_some : {A : Type 0} (a b : A) → Some a ≡ Some b → a ≡ b
same_some a b h = cc

-- there are typings if a type variable has a type
has_typing : (s : System) (p : ℕ) (of : TypeData) → HasType s p of → HasTyping s
has_typing s p of h = (h.typing, h.settled.defaulted.typing)

module _ (program : Program) (rows : List Row) (stated : List VariableTypes) (count : ℕ) (are : AreRows program stated rows (length stated) count) (known : AreKnown program stated)
    (below : (k : ℕ) (p : VariableTypes) → slice_get stated k ≡ Some p → PartsAreBelow p.pool.now) where
  abbrev S : Type 0
  S = Stated program rows stated

  abbrev E : List MarkedEdge
  E = edges_of program rows stated

  known_of : (s : S) → IsListed program s.function s.types
  known_of s = known.each s.at s.types s.types_are s.id s.function s.function_is

  type_stands : (s : S) (n : ℕ) (e : PoolType) → slice_get s.types.pool.now n ≡ Some e → type_at (types s.types.pool.now) n ≡ type_of (types s.types.pool.now) e
  type_stands s n e at = type_read s.types.pool.now n e at (below s.at s.types s.types_are n e at)

  -- the function with this name, and its numbers
  record Found (id : FunctionId) : Type 0 where
    pub listed : S
    pub number_is : number program id ≡ Some listed.at
    pub declared : lookup (same_function id) program.functions ≡ Some listed.function
    pub named : id ≡ listed.id
    pub parameters : listed.row.parameters ≡ length listed.function.type_parameters

  found : (id : FunctionId) (n : ℕ) → number program id ≡ Some n → (f : Found id) × (f.listed.at ≡ n)
  found id n h =
      let e = entry_there (same_function id) program.functions n id h in
      let w = slice_get_within program.functions n e.0 e.1 in
      let there = found_there (same_function id) program.functions n e.0 h e.1 in
      let sized = known.same_length in
      let long = are.same_length in
      go e.0.0 e.0.1 e.1 there.0 (same_is id e.0.0 there.1) (slice_get_cases rows n).1 (slice_get_cases stated n).1 (omega (arith, w, sized, long)) (omega (arith, w, sized))
    where
      go : (key : FunctionId) (f : Function) → slice_get program.functions n ≡ Some (key, f) → lookup (same_function id) program.functions ≡ Some f → id ≡ key
          → (((x : Row) × (n < length rows) × (slice_get rows n ≡ Some x) × (get_or rows n x ≡ x)) ⊎ ((length rows ≤ n) × (slice_get rows n ≡ None)))
          → (((x : VariableTypes) × (n < length stated) × (slice_get stated n ≡ Some x) × (get_or stated n x ≡ x)) ⊎ ((length stated ≤ n) × (slice_get stated n ≡ None)))
          → n < length rows → n < length stated → (f : Found id) × (f.listed.at ≡ n)
      go key f at declared named (inl r) (inl p) b c = (
        record {
          listed = record { at = n; id = key; function = f; row = r.0; types = p.0; row_is = r.2; types_are = p.2; function_is = at };
          number_is = h;
          declared = declared;
          named = named;
          parameters = are.parameters n r.0 key f r.2 at;
        },
        refl,
      )
      go key f at declared named (inr r) p b c = absurd (let x = r.0 in omega (arith, x, b))
      go key f at declared named (inl r) (inr p) b c = absurd (let x = p.0 in omega (arith, x, c))

  -- ---- the source of an edge to a type, or from a type parameter

  record ToType (s : S) (n : ℕ) (e : MarkedEdge) : Type 0 where
    pub number_is : ℕ
    pub entry : PoolType
    pub stands : slice_get s.types.pool.now number_is ≡ Some entry
    pub is_part : IsPart entry n
    pub target : e.to ≡ type_node s.row number_is
    pub marked : e.is_marked ≡ true

  record ToParameter (s : S) (n : ℕ) (e : MarkedEdge) : Type 0 where
    pub node : ℕ
    pub call : Call
    pub parts : List ℕ
    pub stands : slice_get s.function.body.nodes node ≡ Some (Many (call_form call) parts)
    pub read : node < s.types.read
    pub callee : FunctionId
    pub callee_is : call.callee ≡ plain_function callee
    pub to : Found callee
    pub parameter : ℕ
    pub within : parameter < to.listed.row.parameters
    pub type_known : slice_get s.types.types.now (first_argument (function_setting program s.function) node + parameter) ≡ Some (Some n)
    pub target : e.to ≡ parameter_node to.listed.row parameter
    pub marked : e.is_marked ≡ false

  record ToAlone (s : S) (k : ℕ) (e : MarkedEdge) : Type 0 where
    pub number_is : ℕ
    pub stands : slice_get s.types.pool.now number_is ≡ Some (Plain (Param k))
    pub target : e.to ≡ type_node s.row number_is
    pub marked : e.is_marked ≡ false

  part_within : (a : S) (n m : ℕ) (e : PoolType) → slice_get a.types.pool.now n ≡ Some e → IsPart e m → m < length a.types.pool.now
  part_within a n m e at is =
      let b = slice_get_within a.types.pool.now n e at in
      let lt = part_below n m e (below a.at a.types a.types_are n e at) is in
      omega (arith, b, lt)

  given_within : (e : MarkedEdge) (a : Given program rows stated e) → a.type_is < length a.of.types.pool.now
  given_within e a = (known_of a.of).within _ a.type_is a.known

  from_inside : (e : MarkedEdge) (a : Inside program rows stated e) (s : S) (n : ℕ) → n < length s.types.pool.now → e.from ≡ type_node s.row n → ToType s n e
  from_inside e a s n b same =
      let from : e.from ≡ type_node a.of.row a.part = ap (λ (x : MarkedEdge). x.from) a.is in
      let one = one_type program rows stated count are s a.of n a.part b (part_within a.of a.number_is a.part a.entry a.stands a.is_part) (sym same ∙ from) in
      let row : a.of.row ≡ s.row = sym (same_row program rows stated count are s a.of one.0) in
      let kept : a.of.types ≡ s.types = sym (same_types program rows stated count are s a.of one.0) in
      record {
        number_is = a.number_is;
        entry = a.entry;
        stands = subst (λ (p : VariableTypes). slice_get p.pool.now a.number_is ≡ Some a.entry) kept a.stands;
        is_part = subst (λ (m : ℕ). IsPart a.entry m) (sym one.1) a.is_part;
        target = ap (λ (x : MarkedEdge). x.to) a.is ∙ ap (λ (r : Row). type_node r a.number_is) row;
        marked = ap (λ (x : MarkedEdge). x.is_marked) a.is;
      }

  from_given : (e : MarkedEdge) (a : Given program rows stated e) (s : S) (n : ℕ) → n < length s.types.pool.now → e.from ≡ type_node s.row n → ToParameter s n e
  from_given e a s n b same =
      let from : e.from ≡ type_node a.of.row a.type_is = ap (λ (x : MarkedEdge). x.from) a.is in
      let one = one_type program rows stated count are s a.of n a.type_is b (given_within e a) (sym same ∙ from) in
      let kept : a.of.types ≡ s.types = sym (same_types program rows stated count are s a.of one.0) in
      let f : a.of.function ≡ s.function = sym (same_declared program rows stated count are s a.of one.0) in
      let to = found a.callee a.to a.to_is in
      let row : a.row ≡ to.0.listed.row = same_some a.row to.0.listed.row (sym a.row_is ∙ ap (slice_get rows) (sym to.1) ∙ to.0.listed.row_is) in
      record {
        node = a.node;
        call = a.call;
        parts = a.parts;
        stands = subst (λ (x : Function). slice_get x.body.nodes a.node ≡ Some (Many (call_form a.call) a.parts)) f a.stands;
        read = subst (λ (p : VariableTypes). a.node < p.read) kept a.read;
        callee = a.callee;
        callee_is = a.callee_is;
        to = to.0;
        parameter = a.parameter;
        within = subst (λ (r : Row). a.parameter < r.parameters) row a.within;
        type_known =
            subst (λ (m : ℕ). slice_get s.types.types.now (first_argument (function_setting program s.function) a.node + a.parameter) ≡ Some (Some m)) (sym one.1)
            (subst (λ (x : Function). slice_get s.types.types.now (first_argument (function_setting program x) a.node + a.parameter) ≡ Some (Some a.type_is)) f
            (subst (λ (p : VariableTypes). slice_get p.types.now (first_argument (function_setting program a.of.function) a.node + a.parameter) ≡ Some (Some a.type_is)) kept a.known));
        target = ap (λ (x : MarkedEdge). x.to) a.is ∙ ap (λ (r : Row). parameter_node r a.parameter) row;
        marked = ap (λ (x : MarkedEdge). x.is_marked) a.is;
      }

  from_type : (e : MarkedEdge) → Shape program rows stated e → (s : S) (n : ℕ) → n < length s.types.pool.now → e.from ≡ type_node s.row n → ToType s n e ⊎ ToParameter s n e
  from_type e (inl a) s n b same =
      let from : e.from ≡ parameter_node a.of.row a.parameter = ap (λ (x : MarkedEdge). x.from) a.is in
      absurd (type_or_parameter program rows stated count are s a.of n a.parameter b a.within (sym same ∙ from))
  from_type e (inr (inl a)) s n b same = inl (from_inside e a s n b same)
  from_type e (inr (inr a)) s n b same = inr (from_given e a s n b same)

  from_alone : (e : MarkedEdge) (a : Alone program rows stated e) (s : S) (k : ℕ) → k < s.row.parameters → e.from ≡ parameter_node s.row k → ToAlone s k e
  from_alone e a s k b same =
      let from : e.from ≡ parameter_node a.of.row a.parameter = ap (λ (x : MarkedEdge). x.from) a.is in
      let one = one_parameter program rows stated count are s a.of k a.parameter b a.within (sym same ∙ from) in
      let row : a.of.row ≡ s.row = sym (same_row program rows stated count are s a.of one.0) in
      let kept : a.of.types ≡ s.types = sym (same_types program rows stated count are s a.of one.0) in
      record {
        number_is = a.number_is;
        stands =
            subst (λ (m : ℕ). slice_get s.types.pool.now a.number_is ≡ Some (Plain (Param m))) (sym one.1)
            (subst (λ (p : VariableTypes). slice_get p.pool.now a.number_is ≡ Some (Plain (Param a.parameter))) kept a.stands);
        target = ap (λ (x : MarkedEdge). x.to) a.is ∙ ap (λ (r : Row). type_node r a.number_is) row;
        marked = ap (λ (x : MarkedEdge). x.is_marked) a.is;
      }

  from_parameter : (e : MarkedEdge) → Shape program rows stated e → (s : S) (k : ℕ) → k < s.row.parameters → e.from ≡ parameter_node s.row k → ToAlone s k e
  from_parameter e (inl a) s k b same = from_alone e a s k b same
  from_parameter e (inr (inl a)) s k b same =
      let from : e.from ≡ type_node a.of.row a.part = ap (λ (x : MarkedEdge). x.from) a.is in
      absurd (type_or_parameter program rows stated count are a.of s a.part k (part_within a.of a.number_is a.part a.entry a.stands a.is_part) b (sym from ∙ same))
  from_parameter e (inr (inr a)) s k b same =
      let from : e.from ≡ type_node a.of.row a.type_is = ap (λ (x : MarkedEdge). x.from) a.is in
      absurd (type_or_parameter program rows stated count are a.of s a.type_is k (given_within e a) b (sym from ∙ same))

  -- ---- one call

  arity_is : (call : Call) (parts : List ℕ) (id : FunctionId) (f : Function) → call.callee ≡ plain_function id → lookup (same_function id) program.functions ≡ Some f
      → node_arity program (Many (call_form call) parts) ≡ length f.type_parameters
  arity_is call parts id f is declared =
      ap (λ (c : Callee). arity_of (callee_signature program c)) is
      ∙ ap (λ (o : Option Function). arity_of (option_map function_signature o)) declared

  carried : (q r : Parameter) (s : S) (n : ℕ) (e : MarkedEdge) → number program q.owner ≡ Some s.at → (t : ToParameter s n e) → t.callee ≡ r.owner → t.parameter ≡ r.number
      → Mentions q.number (type_at (types s.types.pool.now) n) → CarriesIn program q r (is_wrapped (type_at (types s.types.pool.now) n))
  carried q r s n e at t callee parameter mentions = record {
    function = s.function;
    declared = (found_there (same_function q.owner) program.functions s.at (s.id, s.function) at s.function_is).0;
    node = t.node;
    calls = record {
      call = t.call;
      parts = t.parts;
      stands = t.stands;
      callee_is = t.callee_is ∙ ap plain_function callee;
      is_read =
          ((known_of s).read (has_typing (function_system program s.function) _ _ ((known_of s).has _ n t.type_known)) t.node (slice_get_within s.function.body.nodes t.node _ t.stands)).0 t.read;
    };
    argument = type_at (types s.types.pool.now) n;
    given = record {
      form = Many (call_form t.call) t.parts;
      stands = t.stands;
      within = (
          let arity = arity_is t.call t.parts t.callee t.to.listed.function t.callee_is t.to.declared in
          let parameters = t.to.parameters in
          let within = t.within in
          omega (arith, arity, parameters, within, parameter));
      is_type = subst (λ (i : ℕ). HasType (function_system program s.function) (first_argument (function_setting program s.function) t.node + i) (type_at (types s.types.pool.now) n)) parameter
          ((known_of s).has _ n t.type_known);
    };
    mentions = mentions;
    wraps_is = refl;
  }

  -- ---- a path to a type parameter carries

  abbrev FromParameter : ℕ → ℕ → Bool → Type 0
  FromParameter i j b =
      (q r : Parameter) (s t : S) → number program q.owner ≡ Some s.at → q.number < s.row.parameters → r.owner ≡ t.id → number program r.owner ≡ Some t.at → r.number < t.row.parameters
      → i ≡ parameter_node s.row q.number → j ≡ parameter_node t.row r.number → Carries program q r b

  abbrev FromType : ℕ → ℕ → Bool → Type 0
  FromType i j b =
      (q r : Parameter) (s t : S) → number program q.owner ≡ Some s.at → r.owner ≡ t.id → number program r.owner ≡ Some t.at → r.number < t.row.parameters
      → (n : ℕ) → n < length s.types.pool.now → Mentions q.number (type_at (types s.types.pool.now) n)
      → i ≡ type_node s.row n → j ≡ parameter_node t.row r.number → Carries program q r (is_wrapped (type_at (types s.types.pool.now) n) || b)

  no_type : (s t : S) (n k : ℕ) (e : PoolType) → slice_get s.types.pool.now n ≡ Some e → k < t.row.parameters → type_node s.row n ≡ parameter_node t.row k → ⊥
  no_type s t n k e at b same = type_or_parameter program rows stated count are s t n k (slice_get_within s.types.pool.now n e at) b same

  directly_from_parameter : (i j : ℕ) (b : Bool) → IsEdge E i j b → FromParameter i j b
  directly_from_parameter i j b c q r s t at within named to bound from target =
      let e = from_parameter (marked_edge i j b) (shape_of program rows stated _ c) s q.number within from in
      absurd (no_type s t e.number_is r.number (Plain (Param q.number)) e.stands bound (sym e.target ∙ target))

  arrives : (q r : Parameter) (s t : S) (n : ℕ) (e : MarkedEdge) → number program q.owner ≡ Some s.at → r.owner ≡ t.id → r.number < t.row.parameters → (p : ToParameter s n e) → e.to ≡ parameter_node t.row r.number
      → Mentions q.number (type_at (types s.types.pool.now) n) → CarriesIn program q r (is_wrapped (type_at (types s.types.pool.now) n))
  arrives q r s t n e at named bound p target mentions =
      let one = one_parameter program rows stated count are p.to.listed t p.parameter r.number p.within bound (sym p.target ∙ target) in
      carried q r s n e at p (p.to.named ∙ same_id program rows stated count are p.to.listed t one.0 ∙ sym named) one.1 mentions

  directly_from_type : (i j : ℕ) (b : Bool) → IsEdge E i j b → FromType i j b
  directly_from_type i j b c q r s t at named to bound n inside mentions from target = elim (from_type (marked_edge i j b) (shape_of program rows stated _ c) s n inside from) [
    | inl e ↦ absurd (no_type s t e.number_is r.number e.entry e.stands bound (sym e.target ∙ target))
    | inr e ↦ (
        let one = arrives q r s t n (marked_edge i j b) at named bound e target mentions in
        let w = is_wrapped (type_at (types s.types.pool.now) n) in
        subst (λ (x : Bool). Carries program q r x) (sym (ap (λ (x : Bool). w || x) e.marked ∙ or_false w)) (Once q r w one))
  ]

  over_from_parameter : (i k j : ℕ) (one more : Bool) → IsEdge E i k one → FromType k j more → FromParameter i j (one || more)
  over_from_parameter i k j one more c rest q r s t at within named to bound from target =
      let e = from_parameter (marked_edge i k one) (shape_of program rows stated _ c) s q.number within from in
      let is : type_at (types s.types.pool.now) e.number_is ≡ ParamType q.number = type_stands s e.number_is (Plain (Param q.number)) e.stands in
      let carries = rest q r s t at named to bound e.number_is (slice_get_within s.types.pool.now e.number_is _ e.stands)
      (subst (λ (x : TypeData). Mentions q.number x) (sym is) refl) e.target target in
      subst (λ (x : Bool). Carries program q r x) (ap (λ (x : TypeData). is_wrapped x || more) is ∙ ap (λ (x : Bool). x || more) (sym e.marked)) carries

  over_from_type : (i k j : ℕ) (one more : Bool) → IsEdge E i k one → FromParameter k j more → FromType k j more → FromType i j (one || more)
  over_from_type i k j one more c first rest q r s t at named to bound n inside mentions from target = elim (from_type (marked_edge i k one) (shape_of program rows stated _ c) s n inside from) [
    | inl e ↦ (
        let is = type_stands s e.number_is e.entry e.stands in
        let ts = types s.types.pool.now in
        let carries = rest q r s t at named to bound e.number_is (slice_get_within s.types.pool.now e.number_is _ e.stands)
        (subst (λ (x : TypeData). Mentions q.number x) (sym is) (mentions_there ts q.number n e.entry e.is_part mentions)) e.target target in
        let wraps : is_wrapped (type_at ts e.number_is) ≡ true = ap is_wrapped is ∙ wrapped_part ts n e.entry e.is_part in
        let w = is_wrapped (type_at ts n) in
        subst (λ (x : Bool). Carries program q r x) (ap (λ (x : Bool). x || more) wraps ∙ sym (ap (λ (x : Bool). w || (x || more)) e.marked ∙ or_true w)) carries)
    | inr e ↦ (
        let mid : Parameter = record { owner = e.callee; number = e.parameter } in
        let w = is_wrapped (type_at (types s.types.pool.now) n) in
        let begun = carried q mid s n (marked_edge i k one) at e refl refl mentions in
        let carries = first mid r e.to.listed t e.to.number_is e.within named to bound e.target target in
        subst (λ (x : Bool). Carries program q r x) (ap (λ (x : Bool). w || (x || more)) (sym e.marked)) (Then q mid r w more begun carries))
  ]

  leads_carries : {i j : ℕ} {b : Bool} → Leads E i j b → FromParameter i j b × FromType i j b
  leads_carries {i} {j} {b} (Directly c) = (directly_from_parameter i j b c, directly_from_type i j b c)
  leads_carries {i} {j} {b} (Over {j = k} {one = one} {more = more} c rest) =
      let r = leads_carries rest in
      (over_from_parameter i k j one more c r.1, over_from_type i k j one more c r.0 r.1)

  -- ---- what is carried has a path to the type parameter

  leads_further : (i j k : ℕ) (a b : Bool) → Leads E i j a → IsEdge E j k b → Leads E i k (a || b)
  leads_further i j k a b l e = leads_join E l (Directly e)

  -- a type parameter has a path to a part of a type, if it has one to each type before that
  part_leads : (s : S) (k n : ℕ) → ((m : ℕ) → m < n → (e : PoolType) → slice_get s.types.pool.now m ≡ Some e → Mentions k (type_of (types s.types.pool.now) e)
      → Leads E (parameter_node s.row k) (type_node s.row m) (is_wrapped (type_of (types s.types.pool.now) e)))
      → (m : ℕ) → (((x : PoolType) × (m < length s.types.pool.now) × (slice_get s.types.pool.now m ≡ Some x) × (get_or s.types.pool.now m x ≡ x)) ⊎ ((length s.types.pool.now ≤ m) × (slice_get s.types.pool.now m ≡ None)))
      → m < n → n < length s.types.pool.now → Mentions k (type_at (types s.types.pool.now) m) → (w : Bool) × Leads E (parameter_node s.row k) (type_node s.row m) w
  part_leads s k n before m (inr none) less within h = absurd (let p = none.0 in omega (arith, p, less, within))
  part_leads s k n before m (inl some) less within h =
      let x = some.0 in
      (is_wrapped (type_of (types s.types.pool.now) x), before m less x some.2 (subst (λ (t : TypeData). Mentions k t) (type_stands s m x some.2) h))

  -- a type parameter has a path to each type in which it occurs
  to_types : (s : S) (k : ℕ) → k < s.row.parameters → (fuel n : ℕ) → n < fuel → (e : PoolType) → slice_get s.types.pool.now n ≡ Some e → Mentions k (type_of (types s.types.pool.now) e)
      → Leads E (parameter_node s.row k) (type_node s.row n) (is_wrapped (type_of (types s.types.pool.now) e))
  to_types s k b zero n lt e at mentions = absurd (omega (arith, lt))
  to_types s k b (suc fuel) n lt e at mentions = elim (mentions_back (types s.types.pool.now) k e mentions) [
    | inl alone ↦ (
        let stands : slice_get s.types.pool.now n ≡ Some (Plain (Param k)) = at ∙ ap Some alone in
        let edge : IsEdge E (parameter_node s.row k) (type_node s.row n) false =
        alone_there program rows stated _ (record { of = s; parameter = k; number_is = n; stands = stands; within = b; is = refl }) in
        subst (λ (x : Bool). Leads E (parameter_node s.row k) (type_node s.row n) x) (ap (λ (x : PoolType). is_wrapped (type_of (types s.types.pool.now) x)) (sym alone)) (Directly edge))
    | inr part ↦ (
        let m = part.0 in
        let is_part = part.1 in
        let less = part_below n m e (below s.at s.types s.types_are n e at) is_part in
        let within = slice_get_within s.types.pool.now n e at in
        let inner = part_leads s k n (λ q lq x at_q h. to_types s k b fuel q (omega (arith, lt, lq)) x at_q h) m (slice_get_cases s.types.pool.now m).1 less within part.2 in
        let edge : IsEdge E (type_node s.row m) (type_node s.row n) true =
        inside_there program rows stated _ (record { of = s; part = m; number_is = n; entry = e; stands = at; is_part = is_part; is = refl }) in
        subst (λ (x : Bool). Leads E (parameter_node s.row k) (type_node s.row n) x) (or_true inner.0 ∙ sym (wrapped_part (types s.types.pool.now) m e is_part))
        (leads_further (parameter_node s.row k) (type_node s.row m) (type_node s.row n) inner.0 true inner.1 edge))
  ]

  -- ---- one call gives a path

  one_type_alone : (s : S) (p : ℕ) (a b : TypeData) → HasType (function_system program s.function) p a → HasType (function_system program s.function) p b → a ≡ b
  one_type_alone s p a b x y = sym (x.each y.typing y.settled) ∙ y.each y.typing y.settled

  -- the type argument has a number
  known_at : (s : S) (p : ℕ) (of : TypeData) → p < length s.types.types.now → HasType (function_system program s.function) p of
      → (m : ℕ) × (slice_get s.types.types.now p ≡ Some (Some m)) × (type_at (types s.types.pool.now) m ≡ of)
  known_at s p of within h = go (slice_get_cases s.types.types.now p).1
    where
      go : (((x : Option ℕ) × (p < length s.types.types.now) × (slice_get s.types.types.now p ≡ Some x) × (get_or s.types.types.now p x ≡ x)) ⊎ ((length s.types.types.now ≤ p) × (slice_get s.types.types.now p ≡ None)))
          → (m : ℕ) × (slice_get s.types.types.now p ≡ Some (Some m)) × (type_at (types s.types.pool.now) m ≡ of)
      go (inr none) = absurd (let x = none.0 in omega (arith, x, within))
      go (inl (None, lt, at, same)) = absurd ((known_of s).lacks p of at h)
      go (inl (Some m, lt, at, same)) = (m, at, one_type_alone s p _ of ((known_of s).has p m at) h)

  -- the callee, if it has type parameters
  called : (call : Call) (parts : List ℕ) (id : FunctionId) (i : ℕ) → call.callee ≡ plain_function id → i < node_arity program (Many (call_form call) parts) → (f : Found id) × (i < f.listed.row.parameters)
  called call parts id i is within = go (lookup (same_function id) program.functions) refl
    where
      go : (o : Option Function) → lookup (same_function id) program.functions ≡ o → (f : Found id) × (i < f.listed.row.parameters)
      go None h =
          let none : node_arity program (Many (call_form call) parts) ≡ 0 =
          ap (λ (c : Callee). arity_of (callee_signature program c)) is ∙ ap (λ (x : Option Function). arity_of (option_map function_signature x)) h in
          absurd (omega (arith, within, none))
      go (Some f) h =
          let n = number_there (same_function id) program.functions f id h in
          let there = found id n.0 n.1 in
          let arity = arity_is call parts id there.0.listed.function is there.0.declared in
          let parameters = there.0.parameters in
          (there.0, omega (arith, within, arity, parameters))

  record Leading (q r : Parameter) (s : S) (w : Bool) : Type 0 where
    pub to : Found r.owner
    pub within : r.number < to.listed.row.parameters
    pub leads : Leads E (parameter_node s.row q.number) (parameter_node to.listed.row r.number) w

  carried_within : (q r : Parameter) (w : Bool) → CarriesIn program q r w → (f : Found r.owner) × (r.number < f.listed.row.parameters)
  carried_within q r w c =
      let same : c.given.form ≡ Many (call_form c.calls.call) c.calls.parts = same_some c.given.form (Many (call_form c.calls.call) c.calls.parts) (sym c.given.stands ∙ c.calls.stands) in
      called c.calls.call c.calls.parts r.owner r.number c.calls.callee_is (subst (λ (x : CodeNode). r.number < node_arity program x) same c.given.within)

  leading : (q r : Parameter) (w : Bool) → (from : Found q.owner) → q.number < from.listed.row.parameters → CarriesIn program q r w → Leading q r from.listed w
  leading q r w from bound c =
      let s = from.listed in
      let f : c.function ≡ s.function = same_some c.function s.function (sym c.declared ∙ from.declared) in
      let to = carried_within q r w c in
      let stands : slice_get s.function.body.nodes c.node ≡ Some (Many (call_form c.calls.call) c.calls.parts) =
      subst (λ (x : Function). slice_get x.body.nodes c.node ≡ Some (Many (call_form c.calls.call) c.calls.parts)) f c.calls.stands in
      let p = first_argument (function_setting program s.function) c.node + r.number in
      let typed : HasType (function_system program s.function) p c.argument =
      subst (λ (x : Function). HasType (function_system program x) (first_argument (function_setting program x) c.node + r.number) c.argument) f c.given.is_type in
      let arity = arity_is c.calls.call c.calls.parts r.owner to.0.listed.function c.calls.callee_is to.0.declared in
      let parameters = to.0.parameters in
      let inside = to.1 in
      let variables = arguments_within (function_setting program s.function) c.node _ stands in
      let long = (known_of s).variables in
      let m = known_at s p c.argument (omega (arith, arity, parameters, inside, variables, long)) typed in
      let read : c.node < s.types.read =
      ((known_of s).read (has_typing (function_system program s.function) p c.argument typed) c.node (slice_get_within s.function.body.nodes c.node _ stands)).1 (subst (λ (x : Function). NodeIsRead (function_system program x) c.node) f c.calls.is_read) in
      let entry = slice_get_cases s.types.pool.now m.0 in
      let own : number program s.id ≡ Some s.at = subst (λ (x : FunctionId). number program x ≡ Some s.at) from.named from.number_is in
      let edge : IsEdge E (type_node s.row m.0) (parameter_node to.0.listed.row r.number) false =
      given_there program rows stated _ (record {
        of = s;
        first = own;
        node = c.node;
        call = c.calls.call;
        parts = c.calls.parts;
        stands = stands;
        read = read;
        callee = r.owner;
        callee_is = c.calls.callee_is;
        to = to.0.listed.at;
        to_is = to.0.number_is;
        row = to.0.listed.row;
        row_is = to.0.listed.row_is;
        parameter = r.number;
        within = to.1;
        type_is = m.0;
        known = m.1;
        is = refl;
      }) in
      let up = type_leads s q.number bound m.0 ((known_of s).within p m.0 m.1) (subst (λ (x : TypeData). Mentions q.number x) (sym m.2) c.mentions) in
      let flag : (is_wrapped (type_at (types s.types.pool.now) m.0) || false) ≡ w = or_false _ ∙ ap is_wrapped m.2 ∙ sym c.wraps_is in
      record {
        to = to.0;
        within = to.1;
        leads = subst (λ (x : Bool). Leads E (parameter_node s.row q.number) (parameter_node to.0.listed.row r.number) x) flag
            (leads_further (parameter_node s.row q.number) (type_node s.row m.0) (parameter_node to.0.listed.row r.number) (is_wrapped (type_at (types s.types.pool.now) m.0)) false up edge);
      }
    where
      type_leads : (s : S) (k : ℕ) → k < s.row.parameters → (m : ℕ) → m < length s.types.pool.now → Mentions k (type_at (types s.types.pool.now) m)
          → Leads E (parameter_node s.row k) (type_node s.row m) (is_wrapped (type_at (types s.types.pool.now) m))
      type_leads s k b m within h = go (slice_get_cases s.types.pool.now m).1
        where
          go : (((x : PoolType) × (m < length s.types.pool.now) × (slice_get s.types.pool.now m ≡ Some x) × (get_or s.types.pool.now m x ≡ x)) ⊎ ((length s.types.pool.now ≤ m) × (slice_get s.types.pool.now m ≡ None)))
              → Leads E (parameter_node s.row k) (type_node s.row m) (is_wrapped (type_at (types s.types.pool.now) m))
          go (inr none) = absurd (let x = none.0 in omega (arith, x, within))
          go (inl some) =
              let is = type_stands s m some.0 some.2 in
              subst (λ (x : TypeData). Leads E (parameter_node s.row k) (type_node s.row m) (is_wrapped x)) (sym is)
              (to_types s k b (suc m) m (omega arith) some.0 some.2 (subst (λ (x : TypeData). Mentions k x) is h))

  carries_leads : {q r : Parameter} {b : Bool} → Carries program q r b → (from : Found q.owner) → q.number < from.listed.row.parameters → Leading q r from.listed b
  carries_leads (Once q r w c) from bound = leading q r w from bound c
  carries_leads (Then q mid r one more c rest) from bound =
      let l = leading q mid one from bound c in
      let m = carries_leads rest l.to l.within in
      record { to = m.to; within = m.within; leads = leads_join E l.leads m.leads }

  carries_within : {q r : Parameter} {b : Bool} → Carries program q r b → (f : Found r.owner) × (r.number < f.listed.row.parameters)
  carries_within (Once q r w c) = carried_within q r w c
  carries_within (Then q mid r one more c rest) = carries_within rest

  -- ---- the functions with polymorphic recursion

  same_found : (id : FunctionId) (f g : Found id) → f.listed.at ≡ g.listed.at
  same_found id f g = same_some f.listed.at g.listed.at (sym f.number_is ∙ g.number_is)

  lies_on_cycle : (id : FunctionId) (f : Found id) (k : ℕ) → k < f.listed.row.parameters → IsOnMarkedCycle E (parameter_node f.listed.row k) → IsWrapping program id
  lies_on_cycle id f k b l =
      let q : Parameter = record { owner = id; number = k } in
      (k, (leads_carries l).0 q q f.listed f.listed f.number_is b f.named f.number_is b refl refl)

  wraps_on : (id : FunctionId) (f : Found id) → (w : IsWrapping program id) → (w.0 < f.listed.row.parameters) × IsOnMarkedCycle E (parameter_node f.listed.row w.0)
  wraps_on id f w =
      let k = w.0 in
      let to = carries_within w.1 in
      let row : to.0.listed.row ≡ f.listed.row = same_row program rows stated count are to.0.listed f.listed (same_found id to.0 f) in
      let bound : k < f.listed.row.parameters = subst (λ (r : Row). k < r.parameters) row to.1 in
      let l = carries_leads w.1 f bound in
      let end : l.to.listed.row ≡ f.listed.row = same_row program rows stated count are l.to.listed f.listed (same_found id l.to f) in
      (bound, subst (λ (r : Row). Leads E (parameter_node f.listed.row k) (parameter_node r k) true) end l.leads)

  -- a type parameter of the function with this number is on a marked cycle
  pub wrapping_is : (marks : List Bool) → length marks ≡ count → ((i : ℕ) → i < count → IsTrue (slice_index_or marks i false) ↔ IsOnMarkedCycle E i)
      → (id : FunctionId) (n : ℕ) (row : Row) → number program id ≡ Some n → slice_get rows n ≡ Some row
      → ((k : ℕ) × ((k < row.parameters) × IsTrue (slice_index_or marks (row.first + k) false))) ↔ IsWrapping program id
  wrapping_is marks sized is id n row at row_at =
      let f = found id n at in
      let s = f.0.listed in
      let same : row ≡ s.row = same_some row s.row (sym row_at ∙ ap (slice_get rows) (sym f.1) ∙ s.row_is) in
      let end = are.within s.at s.row s.types s.row_is s.types_are in (
        λ h. (
            let b : h.0 < s.row.parameters = subst (λ (r : Row). h.0 < r.parameters) same h.1.0 in
            let t : IsTrue (slice_index_or marks (s.row.first + h.0) false) = subst (λ (r : Row). IsTrue (slice_index_or marks (r.first + h.0) false)) same h.1.1 in
            lies_on_cycle id f.0 h.0 b ((is (s.row.first + h.0) (omega (arith, b, end))).0 t)),
        λ w. (
            let o = wraps_on id f.0 w in
            let b = o.0 in (
              w.0,
              subst (λ (r : Row). (w.0 < r.parameters) × IsTrue (slice_index_or marks (r.first + w.0) false)) (sym same)
                  (o.0, (is (s.row.first + w.0) (omega (arith, b, end))).1 o.1),
            )),
      )

  pub any_found : (marks : List Bool) → length marks ≡ count → ((i : ℕ) → i < count → IsTrue (slice_index_or marks i false) ↔ IsOnMarkedCycle E i) → (id : FunctionId)
      → IsAnyFound program rows marks id ↔ IsWrapping program id
  any_found marks sized is id = (
    λ a. (wrapping_is marks sized is id a.at a.row a.number_is a.row_is).0 (a.parameter, (a.within, a.found_is)),
    λ w. (
        let f = (carries_within w.1).0 in
        let h = (wrapping_is marks sized is id f.listed.at f.listed.row f.number_is f.listed.row_is).1 w in
        record { at = f.listed.at; number_is = f.number_is; row = f.listed.row; row_is = f.listed.row_is; parameter = h.0; within = h.1.0; found_is = h.1.1 }),
  )

-- the same for the values in the code
pub known_wrapping : (program : Program) (stated : List VariableTypes) (rows slice : List Row) (count : ℕ) → slice ≡ rows → AreRows program stated rows (length stated) count → AreKnown program stated
    → (edges given : List MarkedEdge) → given ≡ edges → edges ≡ edges_of program slice stated → ((k : ℕ) (p : VariableTypes) → slice_get stated k ≡ Some p → PartsAreBelow p.pool.now)
    → (marks known_marks : List Bool) → known_marks ≡ marks → length marks ≡ count → ((i : ℕ) → i < count → IsTrue (slice_index_or marks i false) ↔ IsOnMarkedCycle given i)
    → (id : FunctionId) → IsAnyFound program slice known_marks id ↔ IsWrapping program id
known_wrapping program stated rows slice count same are known edges given is made below marks known_marks marked sized its_cycle id =
    let kept = subst (λ (xs : List Row). AreRows program stated xs (length stated) count) (sym same) are in
    subst (λ (ms : List Bool). IsAnyFound program slice ms id ↔ IsWrapping program id) (sym marked)
    (any_found program slice stated count kept known below marks sized
    (λ i b. subst (λ (es : List MarkedEdge). IsTrue (slice_index_or marks i false) ↔ IsOnMarkedCycle es i) (is ∙ made) (its_cycle i b)) id)
