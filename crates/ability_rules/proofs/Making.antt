-- Invariants of making rows and edges.
use Rattle.std.proofs.Common.{◌≡◌, ◌⊎◌, inl, inr, ◌↔◌, ℕ, zero, suc, ◌+◌, ◌<◌, ◌≤◌, Bool, true, false, List, [], ◌∷◌, ◌++◌, length, get_or, Option, Some, None, Result, Ok, Err, IfOk, refl, sym, ap, subst, ◌∙◌, arith, append_assoc, length-append}
use Rattle.std.specs.Prelude.{slice_get, slice_index_or, nat_lt, if◌then◌else◌, IsTrue, All}
use Rattle.std.specs.Option.{option_map}
use Rattle.std.proofs.lemmas.Bool.{lt-ltb, cases_lt, true≢false}
use Rattle.std.proofs.lemmas.Option.{slice_get_within, slice_get_cases, slice_get_read}
use Rattle.std.proofs.lemmas.List.{append-nil, get_or_append_left, get_or_push}
use Rattle.std.proofs.lemmas.List.Elements.{Contains-get_or}
use Rattle.base.specs.declared.types.FunctionId.{FunctionId}
use Rattle.program.specs.declared.code.Callee.TheVariants.{Function as plain_function}
use Rattle.program.specs.declared.declaration.Function.{Function}
use Rattle.program.specs.declared.program.Program.{Program}
use Rattle.program.specs.Same.{same_function}
use Rattle.program.specs.CodeNodes.{CodeNode}
use Rattle.typing_rules.specs.Settings.{first_argument, arity_of, callee_signature, function_signature}
use Rattle.typing_rules.specs.CodeSystems.{function_setting}
use Rattle.base.specs.declared.marked_cycles.edge.MarkedEdge.{MarkedEdge}
use Rattle.base.specs.MarkedCycles.{IsWithin}
use Rattle.ability_rules.specs.declared.polymorphic_recursion.rows.Row.{Row}
use Rattle.ability_rules.specs.declared.polymorphic_recursion.known.VariableTypes.{VariableTypes}
use Rattle.ability_rules.specs.KnownTypes.{AreKnown}
use Rattle.ability_rules.specs.Edges.{parameter_node, type_node, of_option, pieces, at_entry, at_node, node_edges, number, is_number, body_edges, function_edges, at_function, edges_of}
use Rattle.ability_rules.specs.Rows.{AreRows, ParameterCount, PartsAreBelow, row_end, IsAnyFound}
use Rattle.ability_rules.proofs.Tables.{found_there, entry_there}
use Rattle.ability_rules.proofs.Pieces.{option_some}
use Rattle.ability_rules.proofs.Shapes.{Stated, Shape, shape_of}
use Rattle.ability_rules.proofs.Mentioned.{part_below}

same_some : {A : Type 0} (a b : A) → Some a ≡ Some b → a ≡ b
same_some a b h = cc

-- equal entries have one name
pub same_key : (a b : FunctionId) (x y : Function) → ◌≡◌ {A = Option (FunctionId × Function)} (Some (a, x)) (Some (b, y)) → a ≡ b
same_key a b x y h =
    let one : FunctionId × Function = (a, x) in
    let other : FunctionId × Function = (b, y) in
    ap (λ (e : FunctionId × Function). e.0) (same_some one other h)

-- reading an index within a list
pub got : {A : Type 0} (xs : List A) (i : ℕ) (x : A) → i < length xs → x ≡ get_or xs i x → slice_get xs i ≡ Some x
got xs i x lt is = slice_get_read xs (length xs) i x refl lt is

-- ---- rows

module _ (program : Program) (given : List VariableTypes) (rows : List Row) (count : ℕ) (are : AreRows program given rows (length given) count) where
  pub called_parameters : (id : FunctionId) (n : ℕ) (row : Row) → number program id ≡ Some n → slice_get rows n ≡ Some row → arity_of (callee_signature program (plain_function id)) ≡ row.parameters
  called_parameters id n row at row_at =
      let e = entry_there (same_function id) program.functions n id at in
      let there = found_there (same_function id) program.functions n e.0 at e.1 in
      ap (λ (o : Option Function). arity_of (option_map function_signature o)) there.0 ∙ sym (are.parameters n row e.0.0 e.0.1 row_at e.1)

  pub row_within : (n : ℕ) (row : Row) → slice_get rows n ≡ Some row → row.first + row.parameters ≤ count
  row_within n row row_at = go (slice_get_cases given n).1
    where
      go : (((x : VariableTypes) × (n < length given) × (slice_get given n ≡ Some x) × (get_or given n x ≡ x)) ⊎ ((length given ≤ n) × (slice_get given n ≡ None))) → row.first + row.parameters ≤ count
      go (inl (p, lt, at, same)) = let end = are.within n row p row_at at in omega (arith, end)
      go (inr (past, none)) = let b = slice_get_within rows n row row_at in let long = are.same_length in absurd (omega (arith, b, long, past))

  pub edges_within : (below : (k : ℕ) (p : VariableTypes) → slice_get given k ≡ Some p → PartsAreBelow p.pool.now) → AreKnown program given → All (IsWithin count) (edges_of program rows given)
  edges_within below known k d lt = one (get_or (edges_of program rows given) k d) (shape_of program rows given _ (Contains-get_or (edges_of program rows given) k d lt))
    where
      parameter_in : (s : Stated program rows given) (i : ℕ) → i < s.row.parameters → parameter_node s.row i < count
      parameter_in s i b = let end = are.within s.at s.row s.types s.row_is s.types_are in omega (arith, b, end)

      type_in : (s : Stated program rows given) (i : ℕ) → i < length s.types.pool.now → type_node s.row i < count
      type_in s i b = let end = are.within s.at s.row s.types s.row_is s.types_are in omega (arith, b, end)

      made : (e f : MarkedEdge) → e ≡ f → f.from < count → f.to < count → IsWithin count e
      made e f is b c = subst (λ (x : MarkedEdge). IsWithin count x) (sym is) (record { begins = b; ends = c })

      one : (e : MarkedEdge) → Shape program rows given e → IsWithin count e
      one e (inl a) = made e _ a.is (parameter_in a.of a.parameter a.within) (type_in a.of a.number_is (slice_get_within a.of.types.pool.now a.number_is _ a.stands))
      one e (inr (inl a)) =
          let b = slice_get_within a.of.types.pool.now a.number_is a.entry a.stands in
          let less = part_below a.number_is a.part a.entry (below a.of.at a.of.types a.of.types_are a.number_is a.entry a.stands) a.is_part in
          made e _ a.is (type_in a.of a.part (omega (arith, b, less))) (type_in a.of a.number_is b)
      one e (inr (inr a)) =
          let end = row_within a.to a.row a.row_is in
          let b = a.within in
          made e _ a.is (type_in a.of a.type_is ((known.each a.of.at a.of.types a.of.types_are a.of.id a.of.function a.of.function_is).within _ a.type_is a.known)) (omega (arith, end, b))

pushed_row : (rows : List Row) (row r : Row) (k : ℕ) → slice_get (rows ++ row ∷ []) k ≡ Some r → ((k < length rows) × (slice_get rows k ≡ Some r)) ⊎ ((k ≡ length rows) × (row ≡ r))
pushed_row [] row r zero at = inr (refl, same_some row r at)
pushed_row [] row r (suc k) at = cc
pushed_row (x ∷ rows) row r zero at = inl (omega arith, at)
pushed_row (x ∷ rows) row r (suc k) at = elim (pushed_row rows row r k at) [
  | inl old ↦ (let b = old.0 in inl (omega (arith, b), old.1))
  | inr new ↦ (let e = new.0 in inr (omega (arith, e), new.1))
]

module _ (program : Program) (known : List VariableTypes) (rows more : List Row) (n count end : ℕ) (row : Row) (p : VariableTypes) (are : AreRows program known rows n count)
    (there : slice_get known n ≡ Some p) (first : row.first ≡ count) (sized : ParameterCount program n row.parameters) (ends : end ≡ row_end row p) (pushed : more ≡ rows ++ row ∷ []) where
  last_types : (q : VariableTypes) (k : ℕ) → k ≡ n → slice_get known k ≡ Some q → row_end row q ≡ end
  last_types q k e at = ap (row_end row) (same_some q p (sym at ∙ ap (slice_get known) e ∙ there)) ∙ sym ends

  cases : (k : ℕ) (r : Row) → slice_get more k ≡ Some r → ((k < length rows) × (slice_get rows k ≡ Some r)) ⊎ ((k ≡ length rows) × (row ≡ r))
  cases k r at = pushed_row rows row r k (subst (λ (xs : List Row). slice_get xs k ≡ Some r) pushed at)

  parameters_more : (k : ℕ) (r : Row) (id : FunctionId) (f : Function) → slice_get more k ≡ Some r → slice_get program.functions k ≡ Some (id, f) → r.parameters ≡ length f.type_parameters
  parameters_more k r id f at entry = elim (cases k r at) [
    | inl old ↦ are.parameters k r id f old.1 entry
    | inr new ↦ (
        let here : k ≡ n = new.0 ∙ are.same_length in
        ap (λ (x : Row). x.parameters) (sym new.1) ∙ sized id f (ap (slice_get program.functions) (sym here) ∙ entry))
  ]

  apart_more : (k l : ℕ) (r s : Row) (q : VariableTypes) → k < l → slice_get more k ≡ Some r → slice_get more l ≡ Some s → slice_get known k ≡ Some q → row_end r q ≤ s.first
  apart_more k l r s q lt at other types = elim (cases l s other) [
    | inl old ↦ elim (cases k r at) [
      | inl before ↦ are.apart k l r s q lt before.1 old.1 types
      | inr new ↦ (let a = new.0 in let b = old.0 in absurd (omega (arith, a, b, lt)))
    ]
    | inr new ↦ elim (cases k r at) [
      | inl before ↦ (
          let b = are.within k r q before.1 types in
          let s_first : s.first ≡ count = ap (λ (x : Row). x.first) (sym new.1) ∙ first in
          omega (arith, b, s_first))
      | inr also ↦ (let a = also.0 in let b = new.0 in absurd (omega (arith, a, b, lt)))
    ]
  ]

  within_more : (k : ℕ) (r : Row) (q : VariableTypes) → slice_get more k ≡ Some r → slice_get known k ≡ Some q → row_end r q ≤ end
  within_more k r q at types = elim (cases k r at) [
    | inl old ↦ (let b = are.within k r q old.1 types in omega (arith, b, first, ends))
    | inr new ↦ (
        let here : k ≡ n = new.0 ∙ are.same_length in
        let e = last_types q k here types in
        let r_is : row_end r q ≡ row_end row q = ap (λ (x : Row). row_end x q) (sym new.1) in
        omega (arith, e, r_is))
  ]

  pub more_rows : AreRows program known more (n + 1) end
  more_rows = record {
    same_length = (
        let long = length-append rows (row ∷ []) in
        let e : length more ≡ length (rows ++ row ∷ []) = ap length pushed in
        let old = are.same_length in
        omega (arith, long, e, old));
    parameters = parameters_more;
    apart = apart_more;
    within = within_more;
  }

-- ---- edges

pub node_more : (program : Program) (rows : List Row) (r : Row) (f : Function) (p : VariableTypes) (n : ℕ) (node : CodeNode) (first : ℕ) (now new : List MarkedEdge) → slice_get f.body.nodes n ≡ Some node → n < p.read
    → first ≡ first_argument (function_setting program f) n → new ≡ now ++ node_edges program rows r p.types.now first node → new ≡ now ++ at_node program rows r f p n
node_more program rows r f p n node first now new at b is more =
    let variable = first_argument (function_setting program f) n in
    option_some (node_edges program rows r p.types.now variable) now new (slice_get f.body.nodes n) node at (more ∙ ap (λ (k : ℕ). now ++ node_edges program rows r p.types.now k node) is)
    ∙ ap (λ (x : Bool). now ++ (if x then of_option (node_edges program rows r p.types.now variable) (slice_get f.body.nodes n) else [])) (sym (lt-ltb _ _ b))

pub node_none : (program : Program) (rows : List Row) (r : Row) (f : Function) (p : VariableTypes) (n : ℕ) (now : List MarkedEdge) → nat_lt n p.read ≡ false → now ≡ now ++ at_node program rows r f p n
node_none program rows r f p n now isnt =
    sym (append-nil now)
    ∙ ap (λ (x : Bool). now ++ (if x then of_option (node_edges program rows r p.types.now (first_argument (function_setting program f) n)) (slice_get f.body.nodes n) else [])) (sym isnt)

module _ (program : Program) (rows : List Row) (known : List VariableTypes) (n : ℕ) (r : Row) (p : VariableTypes) (id : FunctionId) (f : Function) (row_at : slice_get rows n ≡ Some r) (stated_at : slice_get known n ≡ Some p)
    (entry : slice_get program.functions n ≡ Some (id, f)) (start mid new : List MarkedEdge) (entries : mid ≡ start ++ pieces (at_entry r p.pool.now) (length p.pool.now)) where
  function_more : new ≡ mid ++ body_edges program rows r p n id f → new ≡ start ++ at_function program rows known n
  function_more body =
      option_some (λ row. of_option (λ q. of_option (function_edges program rows row q n) (slice_get program.functions n)) (slice_get known n)) start new (slice_get rows n) r row_at
      (option_some (λ q. of_option (function_edges program rows r q n) (slice_get program.functions n)) start new (slice_get known n) p stated_at
      (option_some (function_edges program rows r p n) start new (slice_get program.functions n) (id, f) entry
      (body ∙ ap (λ (xs : List MarkedEdge). xs ++ body_edges program rows r p n id f) entries
      ∙ append_assoc start (pieces (at_entry r p.pool.now) (length p.pool.now)) (body_edges program rows r p n id f))))

  pub with_body : is_number n (number program id) ≡ true → new ≡ mid ++ pieces (at_node program rows r f p) (length f.body.nodes) → new ≡ start ++ at_function program rows known n
  with_body is body =
      function_more (body ∙ ap (λ (x : Bool). mid ++ (if x then pieces (at_node program rows r f p) (length f.body.nodes) else [])) (sym is))

  pub without_body : is_number n (number program id) ≡ false → new ≡ mid → new ≡ start ++ at_function program rows known n
  without_body is body =
      function_more (body ∙ sym (append-nil mid) ∙ ap (λ (x : Bool). mid ++ (if x then pieces (at_node program rows r f p) (length f.body.nodes) else [])) (sym is))

-- ---- what was found

pub found_more : (P : ℕ → Bool → Type 0) (xs ys : List Bool) (x : Bool) (k : ℕ) → length xs ≡ k → ys ≡ xs ++ x ∷ [] → ((n : ℕ) → n < k → P n (get_or xs n false)) → P k x
    → (length ys ≡ k + 1) × ((n : ℕ) → n < k + 1 → P n (get_or ys n false))
found_more P xs ys x k sized is old new = (
  (let long = length-append xs (x ∷ []) in let e : length ys ≡ length (xs ++ x ∷ []) = ap length is in omega (arith, long, e, sized)),
  λ n lt. elim (cases_lt n k) [
    | inl less ↦ subst (λ (b : Bool). P n b) (sym (ap (λ (l : List Bool). get_or l n false) is ∙ get_or_append_left xs (x ∷ []) false n (omega (arith, less, sized)))) (old n less)
    | inr past ↦ (
        let here : k ≡ n = omega (arith, past, lt) in
        let read : get_or ys n false ≡ x = ap (λ (l : List Bool). get_or l n false) is ∙ get_or_push xs x false n (omega (arith, here, sized)) in
        subst (λ (b : Bool). P n b) (sym read) (subst (λ (m : ℕ). P m x) here new))
  ],
)

pub any_at : (program : Program) (rows : List Row) (found : List Bool) (id given : FunctionId) (n : ℕ) (row : Row) (b : Bool) → given ≡ id → number program given ≡ Some n → slice_get rows n ≡ Some row
    → IsTrue b ↔ ((k : ℕ) × ((k < row.parameters) × IsTrue (slice_index_or found (row.first + k) false))) → IsTrue b ↔ IsAnyFound program rows found id
any_at program rows found id given n row b same at row_at is = (
  λ t. (
      let h = is.0 t in
      record { at = n; number_is = ap (number program) (sym same) ∙ at; row = row; row_is = row_at; parameter = h.0; within = h.1.0; found_is = h.1.1 }),
  λ a. (
      let here : a.at ≡ n = same_some a.at n (sym a.number_is ∙ ap (number program) (sym same) ∙ at) in
      let row_is : a.row ≡ row = same_some a.row row (sym a.row_is ∙ ap (slice_get rows) here ∙ row_at) in
      is.1 (a.parameter, subst (λ (r : Row). (a.parameter < r.parameters) × IsTrue (slice_index_or found (r.first + a.parameter) false)) row_is (a.within, a.found_is))),
)

pub none_at : (program : Program) (rows : List Row) (found : List Bool) (id given : FunctionId) → given ≡ id → number program given ≡ None → IsTrue false ↔ IsAnyFound program rows found id
none_at program rows found id given same at = (
  λ t. absurd (true≢false (sym t)),
  λ a. absurd (some_none a.at (sym a.number_is ∙ ap (number program) (sym same) ∙ at)),
)
  where
    some_none : (n : ℕ) → Some n ≡ None → ⊥
    some_none n h = cc

pub if_both : {A F : Type 0} (P Q R : A → Type 0) → ((a : A) → P a → Q a → R a) → (r : Result A F) → IfOk r P → IfOk r Q → IfOk r R
if_both P Q R h (Ok a) p q = h a p q
if_both P Q R h (Err e) p q = tt
