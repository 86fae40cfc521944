-- The type variables of type arguments, and the one type of each type variable.
use Rattle.std.proofs.Common.{◌≡◌, ℕ, ◌+◌, ◌<◌, ◌≤◌, List, [], ◌∷◌, ◌++◌, length, get_or, map, take, Some, add-one, refl, sym, ◌∙◌, ap, subst, arith}
use Rattle.std.specs.Prelude.{slice_get, sum_by}
use Rattle.std.proofs.lemmas.Option.{get_or_from_slice_get, slice_get_within}
use Rattle.std.proofs.lemmas.List.{get_or-map, length-map}
use Rattle.std.proofs.lemmas.List.Sums.{sum_by-take-le, sum_by_push}
use Rattle.std.proofs.Math.Seq.{take-suc}
use Rattle.base.specs.TypeData.{TypeData}
use Rattle.program.specs.declared.arena.Node.TheVariants.{Leaf, Unary, Binary, If, Many}
use Rattle.program.specs.declared.code.Callee.{Callee}
use Rattle.program.specs.declared.code.Callee.TheVariants.{Function as plain_function, Storage, Vector as vector_callee, AddressOf}
use Rattle.program.specs.declared.code.CodeMany.{CodeMany}
use Rattle.program.specs.declared.code.CodeMany.TheVariants.{Call, Vector, Pack, Unpack, Tuple, TuplePattern, Block}
use Rattle.program.specs.declared.operator.StorageOperation.TheVariants.{MoveTo, MoveFrom, BorrowGlobal, BorrowGlobalMut, Exists}
use Rattle.program.specs.declared.declaration.Function.{Function}
use Rattle.program.specs.declared.program.Program.{Program}
use Rattle.program.specs.CodeNodes.{CodeNode}
use Rattle.typing_rules.specs.Answers.{HasType, IsTyped}
use Rattle.typing_rules.specs.CodeSystems.{function_setting, function_system}
use Rattle.typing_rules.specs.Settings.{arity_of, callee_signature, first_argument, form_arity, node_arity, variable_count, unit_type}
use Rattle.typing_rules.specs.Pools.{type_at}
use Rattle.type_constraints.specs.Storage.{IsStorage, IsStorageCall, IsStorageNode}

-- ---- the number of type arguments

callee_arity : (program : Program) (callee : Callee) → IsStorageCall callee → arity_of (callee_signature program callee) ≡ 1
callee_arity program (plain_function f) h = absurd h
callee_arity program (Storage MoveTo) h = refl
callee_arity program (Storage MoveFrom) h = refl
callee_arity program (Storage BorrowGlobal) h = refl
callee_arity program (Storage BorrowGlobalMut) h = refl
callee_arity program (Storage Exists) h = refl
callee_arity program (vector_callee f) h = absurd h
callee_arity program AddressOf h = absurd h

storage_arity : (program : Program) (form : CodeMany) → IsStorage form → form_arity program form ≡ 1
storage_arity program (Call c) h = callee_arity program c.callee h
storage_arity program (Vector ts) h = absurd h
storage_arity program (Pack fields) h = absurd h
storage_arity program (Unpack fields) h = absurd h
storage_arity program Tuple h = absurd h
storage_arity program TuplePattern h = absurd h
storage_arity program (Block has_value) h = absurd h

pub storage_node_arity : (program : Program) (form : CodeNode) → IsStorageNode form → node_arity program form ≡ 1
storage_node_arity program (Leaf l) h = absurd h
storage_node_arity program (Unary u a) h = absurd h
storage_node_arity program (Binary o a b) h = absurd h
storage_node_arity program (If a b c) h = absurd h
storage_node_arity program (Many g parts) h = storage_arity program g h

-- ---- type variables

module _ (program : Program) (f : Function) where
  pub next_first : (n : ℕ) (form : CodeNode) → slice_get f.body.nodes n ≡ Some form
      → first_argument (function_setting program f) (n + 1) ≡ first_argument (function_setting program f) n + node_arity program form
  next_first n form e =
      let b = slice_get_within f.body.nodes n form e in
      let same = get_or_from_slice_get f.body.nodes n form form e in
      let taken : take (n + 1) f.body.nodes ≡ take n f.body.nodes ++ form ∷ [] =
      ap (λ (m : ℕ). take m f.body.nodes) (add-one n) ∙ take-suc f.body.nodes n form b ∙ ap (λ (y : CodeNode). take n f.body.nodes ++ y ∷ []) same in
      let sum = ap (λ (xs : List CodeNode). sum_by (node_arity program) xs) taken ∙ sum_by_push (node_arity program) (take n f.body.nodes) form in
      omega (arith, sum)

  pub first_within : (n : ℕ) → first_argument (function_setting program f) n ≤ variable_count (function_setting program f)
  first_within n =
      let less = sum_by-take-le (node_arity program) f.body.nodes n in
      omega (arith, less)

  -- a type variable has one type
  pub one_type : (p : ℕ) (a b : TypeData) → HasType (function_system program f) p a → HasType (function_system program f) p b → a ≡ b
  one_type p a b h g = sym (h.each g.typing g.settled) ∙ g.each g.typing g.settled

  module _ (types : List TypeData) (variables : List ℕ) (typed : IsTyped (function_system program f) (map (type_at types) variables)) where
    pub count : length variables ≡ variable_count (function_setting program f)
    count = sym (length-map variables (type_at types)) ∙ typed.same_length

    pub variable_type : (p : ℕ) → p < length variables → HasType (function_system program f) p (type_at types (get_or variables p 0))
    variable_type p h =
        let long = count in
        subst (λ (t : TypeData). HasType (function_system program f) p t) (get_or-map (type_at types) variables p 0 unit_type h)
        (typed.each p (omega (arith, h, long)))

    -- the type arguments of a node are type variables of the system
    pub argument_within : (n : ℕ) (form : CodeNode) → slice_get f.body.nodes n ≡ Some form → (i : ℕ) → i < node_arity program form → first_argument (function_setting program f) n + i < length variables
    argument_within n form e i lt =
        let next = next_first n form e in
        let end = first_within (n + 1) in
        let all = count in
        omega (arith, next, end, all, lt)

    pub storage_within : (n : ℕ) (form : CodeNode) → slice_get f.body.nodes n ≡ Some form → IsStorageNode form → first_argument (function_setting program f) n < length variables
    storage_within n form e h =
        let arity = storage_node_arity program form h in
        let within = argument_within n form e 0 (omega (arith, arity)) in
        omega (arith, within)

    pub nodes_within : length f.body.nodes + length f.locals ≤ length variables
    nodes_within = let all = count in omega (arith, all)
