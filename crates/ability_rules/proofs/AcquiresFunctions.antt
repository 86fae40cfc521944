-- A function lacks a struct that it must list if and only if one of its nodes requires one that is missing.
use Rattle.std.proofs.Common.{◌≡◌, ◌↔◌, inl, inr, ℕ, ◌+◌, ◌<◌, ◌≤◌, Bool, true, false, List, [], length, map, Option, Some, None, refl, sym, ◌∙◌, ap, subst, arith}
use Rattle.std.specs.Prelude.{Contains, slice_get}
use Rattle.std.specs.Bool.{IsTrue}
use Rattle.std.specs.Map.{lookup}
use Rattle.std.proofs.lemmas.Bool.{cases_lt}
use Rattle.std.proofs.lemmas.Option.{slice_get_within}
use Rattle.base.specs.TypeData.{TypeData, TypesData, BoolType, IntType, NumType, AddressType, SignerType, VectorType, StructType, ParamType, SharedType, MutableType, TupleType}
use Rattle.base.specs.declared.types.FunctionId.{FunctionId}
use Rattle.base.specs.declared.types.StructId.{StructId}
use Rattle.program.specs.declared.arena.Node.TheVariants.{Leaf, Unary, Binary, If, Many}
use Rattle.program.specs.declared.code.Call.{Call as CallData}
use Rattle.program.specs.declared.code.Callee.{Callee}
use Rattle.program.specs.declared.code.Callee.TheVariants.{Function as plain_function, Storage, Vector as vector_callee, AddressOf}
use Rattle.program.specs.declared.code.CodeMany.{CodeMany}
use Rattle.program.specs.declared.code.CodeMany.TheVariants.{Call, Vector, Pack, Unpack, Tuple, TuplePattern, Block}
use Rattle.program.specs.declared.operator.StorageOperation.{StorageOperation}
use Rattle.program.specs.declared.declaration.Function.{Function}
use Rattle.program.specs.declared.program.ModuleId.{ModuleId}
use Rattle.program.specs.declared.program.Program.{Program}
use Rattle.program.specs.Homes.{function_home}
use Rattle.program.specs.Same.{same_function}
use Rattle.program.specs.CodeNodes.{CodeNode}
use Rattle.typing_rules.specs.Acquires.{CallsLister, LacksAcquires, Takes, TakesStruct}
use Rattle.typing_rules.specs.Answers.{HasType, IsTyped}
use Rattle.typing_rules.specs.Calls.{CallsAt}
use Rattle.typing_rules.specs.CodeSystems.{function_setting, function_system}
use Rattle.typing_rules.specs.Settings.{first_argument}
use Rattle.typing_rules.specs.Pools.{type_at, types}
use Rattle.typing_rules.specs.declared.type_pool.PoolType.{PoolType}
use Rattle.type_constraints.specs.Storage.{IsStorageNode}
use Rattle.type_constraints.proofs.Variables.{argument_within, one_type, variable_type, storage_node_arity, storage_within}
use Rattle.type_constraints.proofs.TypedNodesReading.{typed_read}
use Rattle.ability_rules.specs.Missing.{AreLooked, Answers, CallLacks, DeclaredLacks, FormLacks, FunctionSet, IsMissing, IsSetOf, NodeLacks, StructSet, Tells, has_function, type_of_variable}

-- a type that is a struct which is missing
record MissingStruct (listed : List StructId) (of : TypeData) : Type 0 where
  id : StructId
  arguments : TypesData
  is_struct : of ≡ StructType id arguments
  missing : Contains listed id → ⊥

missing_struct : (listed : List StructId) (of : TypeData) → IsMissing listed of → MissingStruct listed of
missing_struct listed BoolType h = absurd h
missing_struct listed (IntType w) h = absurd h
missing_struct listed NumType h = absurd h
missing_struct listed AddressType h = absurd h
missing_struct listed SignerType h = absurd h
missing_struct listed (VectorType t) h = absurd h
missing_struct listed (StructType s ts) h = record { id = s; arguments = ts; is_struct = refl; missing = h }
missing_struct listed (ParamType n) h = absurd h
missing_struct listed (SharedType t) h = absurd h
missing_struct listed (MutableType t) h = absurd h
missing_struct listed (TupleType ts) h = absurd h

-- ---- node by node

module _ (program : Program) (id : FunctionId) (f : Function) (pool : List PoolType) (variables : List ℕ) where
  abbrev first : ℕ → ℕ
  first n = first_argument (function_setting program f) n

  abbrev of : ℕ → TypeData
  of p = type_of_variable pool variables p

  -- the node with this number lacks a struct
  abbrev pub LacksAt : ℕ → CodeNode → Type 0
  LacksAt n form = NodeLacks program (function_home id) f.acquires (of (first n)) form

  pub record AreClear (n : ℕ) : Type 0 where
    pub each : (k : ℕ) (form : CodeNode) → k < n → slice_get f.body.nodes k ≡ Some form → LacksAt k form → ⊥

  pub none_clear : AreClear 0
  none_clear = record { each = λ k form lt. absurd (omega (arith, lt)) }

  some_same : (found : Option CodeNode) (a b : CodeNode) → found ≡ Some a → found ≡ Some b → a ≡ b
  some_same found a b e g = cc

  pub more_clear : (n : ℕ) (form : CodeNode) → slice_get f.body.nodes n ≡ Some form → (LacksAt n form → ⊥) → AreClear n → AreClear (n + 1)
  more_clear n form stands clean clear = record {
    each = λ k g lt at h. elim (cases_lt k n) [
      | inl less ↦ clear.each k g less at h
      | inr more ↦ (
          let same : k ≡ n = omega (arith, lt, more) in
          let one : g ≡ form = some_same (slice_get f.body.nodes n) g form (subst (λ (m : ℕ). slice_get f.body.nodes m ≡ Some g) same at) stands in
          clean (subst (λ (y : CodeNode). LacksAt n y) one (subst (λ (m : ℕ). LacksAt m g) same h)))
    ];
  }

  -- the result for a node, from the module and the list
  pub node_step : (own : ModuleId) (set : StructSet) (structs : List StructId) (old new : FunctionSet) (n start : ℕ) (form : CodeNode) (lacks : Bool)
      → Tells program own set old new (λ listed. NodeLacks program own listed (of start) form) lacks → own ≡ function_home id → IsSetOf set structs → structs ≡ f.acquires → AreLooked program (function_home id) f.acquires old → start ≡ first n
      → Answers program (function_home id) f.acquires new (LacksAt n form) lacks
  node_step own set structs old new n start form lacks tells home is same looked at =
      subst (λ (k : ℕ). Answers program (function_home id) f.acquires new (NodeLacks program (function_home id) f.acquires (of k) form) lacks) at
      ((subst (λ (m : ModuleId). Tells program m set old new (λ listed. NodeLacks program m listed (of start) form) lacks) home tells).each f.acquires
      (subst (λ (xs : List StructId). IsSetOf set xs) same is) looked)

  pub none_looked : (seen : FunctionSet) → seen ≡ [] → AreLooked program (function_home id) f.acquires seen
  none_looked seen e = record { each = λ g there. (let none = ap (λ (xs : FunctionSet). has_function xs g) e in absurd (no_truth (sym none ∙ there))) }
    where
      no_truth : false ≡ true → ⊥
      no_truth t = cc

module _ (program : Program) (id : FunctionId) (f : Function) (pool : List PoolType) (variables : List ℕ) (typed : IsTyped (function_system program f) (map (type_at (types pool)) variables)) where
  abbrev at : ℕ → ℕ
  at n = first_argument (function_setting program f) n

  abbrev variable_of : ℕ → TypeData
  variable_of p = type_of_variable pool variables p

  abbrev Lacking : ℕ → CodeNode → Type 0
  Lacking n form = NodeLacks program (function_home id) f.acquires (variable_of (at n)) form

  calls_at : (n : ℕ) (c : CallData) (parts : List ℕ) (callee : Callee) → slice_get f.body.nodes n ≡ Some (Many (Call c) parts) → c.callee ≡ callee → CallsAt program f n callee
  calls_at n c parts callee stands is = record { call = c; parts = parts; stands = stands; callee_is = is; is_read = typed_read program f _ typed n (slice_get_within f.body.nodes n (Many (Call c) parts) stands) }

  -- ---- what a node lacks the function lacks

  storage_found : (n : ℕ) (c : CallData) (parts : List ℕ) (operation : StorageOperation) → slice_get f.body.nodes n ≡ Some (Many (Call c) parts) → c.callee ≡ Storage operation → Takes operation → MissingStruct f.acquires (variable_of (at n)) → LacksAcquires program id f
  storage_found n c parts operation stands is takes m =
      let form : CodeNode = Many (Call c) parts in
      let storage : IsStorageNode form = subst (λ (x : Callee). IsStorageNode (Many (Call (record { callee = x; types = c.types })) parts)) (sym is) tt in
      let arity = storage_node_arity program form storage in
      let there = storage_within program f (types pool) variables typed n form stands storage in
      let none : at n ≡ at n + 0 = omega arith in (
        m.id,
        inl (record {
          node = n;
          operation = operation;
          calls = calls_at n c parts (Storage operation) stands is;
          takes = takes;
          arguments = m.arguments;
          given = record {
            form = form;
            stands = stands;
            within = omega (arith, arity);
            is_type = subst (λ (p : ℕ). HasType (function_system program f) p (StructType m.id m.arguments)) none
                (subst (λ (t : TypeData). HasType (function_system program f) (at n) t) m.is_struct (variable_type program f (types pool) variables typed (at n) there));
          };
        }),
        m.missing,
      )

  lister_found : (n : ℕ) (c : CallData) (parts : List ℕ) (callee : FunctionId) (found : Option Function) → slice_get f.body.nodes n ≡ Some (Many (Call c) parts) → c.callee ≡ plain_function callee → function_home callee ≡ function_home id
      → lookup (same_function callee) program.functions ≡ found → DeclaredLacks f.acquires found → LacksAcquires program id f
  lister_found n c parts callee None stands is home e h = absurd h
  lister_found n c parts callee (Some d) stands is home e h =
      (h.0, inr (record { node = n; callee = callee; calls = calls_at n c parts (plain_function callee) stands is; same_module = home; declaration = d; declared = e; lists = h.1 }), h.2)

  call_found : (n : ℕ) (c : CallData) (parts : List ℕ) (callee : Callee) → slice_get f.body.nodes n ≡ Some (Many (Call c) parts) → c.callee ≡ callee → CallLacks program (function_home id) f.acquires (variable_of (at n)) callee → LacksAcquires program id f
  call_found n c parts (plain_function callee) stands is h = lister_found n c parts callee (lookup (same_function callee) program.functions) stands is h.0 refl h.1
  call_found n c parts (Storage operation) stands is h = storage_found n c parts operation stands is h.0 (missing_struct f.acquires (variable_of (at n)) h.1)
  call_found n c parts (vector_callee function) stands is h = absurd h
  call_found n c parts AddressOf stands is h = absurd h

  form_found : (n : ℕ) (form : CodeMany) (parts : List ℕ) → slice_get f.body.nodes n ≡ Some (Many form parts) → FormLacks program (function_home id) f.acquires (variable_of (at n)) form → LacksAcquires program id f
  form_found n (Call c) parts stands h = call_found n c parts c.callee stands refl h
  form_found n (Vector ts) parts stands h = absurd h
  form_found n (Pack fields) parts stands h = absurd h
  form_found n (Unpack fields) parts stands h = absurd h
  form_found n Tuple parts stands h = absurd h
  form_found n TuplePattern parts stands h = absurd h
  form_found n (Block has_value) parts stands h = absurd h

  node_found : (n : ℕ) (form : CodeNode) → slice_get f.body.nodes n ≡ Some form → Lacking n form → LacksAcquires program id f
  node_found n (Leaf l) stands h = absurd h
  node_found n (Unary u a) stands h = absurd h
  node_found n (Binary o a b) stands h = absurd h
  node_found n (If a b c) stands h = absurd h
  node_found n (Many form parts) stands h = form_found n form parts stands h

  -- ---- what the function lacks a node lacks

  record SomeNode : Type 0 where
    node : ℕ
    form : CodeNode
    stands : slice_get f.body.nodes node ≡ Some form
    lacks : Lacking node form

  taken_at : (s : StructId) → TakesStruct program f s → (Contains f.acquires s → ⊥) → SomeNode
  taken_at s t absent =
      let n = t.node in
      let within = argument_within program f (types pool) variables typed n t.given.form t.given.stands 0 t.given.within in
      let none : at n + 0 ≡ at n = omega arith in
      let there : at n < length variables = omega (arith, within) in
      let has : HasType (function_system program f) (at n) (StructType s t.arguments) = subst (λ (p : ℕ). HasType (function_system program f) p (StructType s t.arguments)) none t.given.is_type in
      let same = one_type program f (at n) (variable_of (at n)) (StructType s t.arguments) (variable_type program f (types pool) variables typed (at n) there) has in
      record {
        node = n;
        form = Many (Call t.calls.call) t.calls.parts;
        stands = t.calls.stands;
        lacks = subst (λ (callee : Callee). CallLacks program (function_home id) f.acquires (variable_of (at n)) callee) (sym t.calls.callee_is)
            (t.takes, subst (λ (x : TypeData). IsMissing f.acquires x) (sym same) absent);
      }

  called_at : (s : StructId) → CallsLister program id f s → (Contains f.acquires s → ⊥) → SomeNode
  called_at s l absent = record {
    node = l.node;
    form = Many (Call l.calls.call) l.calls.parts;
    stands = l.calls.stands;
    lacks = subst (λ (callee : Callee). CallLacks program (function_home id) f.acquires (variable_of (at l.node)) callee) (sym l.calls.callee_is)
        (l.same_module, subst (λ (found : Option Function). DeclaredLacks f.acquires found) (sym l.declared) (s, l.lists, absent));
  }

  some_node : LacksAcquires program id f → SomeNode
  some_node h = elim h.1 [ inl t ↦ taken_at h.0 t h.2 | inr l ↦ called_at h.0 l h.2 ]

  pub lacks_found : (n : ℕ) (form : CodeNode) → slice_get f.body.nodes n ≡ Some form → Lacking n form → IsTrue true ↔ LacksAcquires program id f
  lacks_found n form stands h = (λ t. node_found n form stands h, λ l. refl)

  pub lacks_nothing : (n : ℕ) → length f.body.nodes ≤ n → AreClear program id f pool variables n → IsTrue false ↔ LacksAcquires program id f
  lacks_nothing n end clear = (
    λ t. absurd (cc),
    λ h. (let s = some_node h in let b = slice_get_within f.body.nodes s.node s.form s.stands in absurd (clear.each s.node s.form (omega (arith, b, end)) s.stands s.lacks)),
  )
