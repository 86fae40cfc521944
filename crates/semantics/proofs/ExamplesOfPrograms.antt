-- Functions as people write them, with their specs: runs of them meet or break what the clauses say.
use Rattle.std.proofs.Common.{◌≡◌, ℕ, true, false, List, [], ◌∷◌, Some, None, refl, sym}
use Rattle.program.specs.Trees.{LeafTree, UnaryTree, BinaryTree, ManyTree, trees_of}
use Rattle.program.specs.declared.clause.ConditionKind.TheVariants.{Ensures, AbortsIf}
use Rattle.program.specs.declared.operator.BinaryOperator.TheVariants.{Comparison, Equal, And}
use Rattle.program.specs.declared.operator.Comparison.TheVariants.{GreaterEqual}
use Rattle.program.specs.declared.operator.SpecOperator.TheVariants.{Common}
use Rattle.program.specs.declared.operator.StorageOperation.TheVariants.{MoveTo, MoveFrom}
use Rattle.program.specs.declared.operator.VectorFunction.TheVariants.{BorrowMut}
use Rattle.program.specs.declared.spec.SpecBinary.TheVariants.{Operator, Index}
use Rattle.program.specs.declared.spec.SpecName.TheVariants.{Parameter, Result}
use Rattle.fol.specs.Val.{Val, TruthValue, MemoryValue, NoEntries, same_value, same_type as same_struct_type, compare_values}
use Rattle.fol.specs.Operators.{vector_of}
use Rattle.fol.specs.Truth.{Interpretation}
use Rattle.semantics.specs.States.{Item, Plain, State, same_type, with_stored}
use Rattle.semantics.specs.Operations.{Equals, number}
use Rattle.semantics.specs.TypedTrees.{Unpacks, TypedTree}
use Rattle.semantics.specs.Runs.{run}
use Rattle.semantics.specs.SpecTruth.{SpecTree, Value, Named, FieldOf, Old, LengthOf, AddressOf, ExistsAt, GlobalAt}
use Rattle.semantics.specs.Clauses.{TypedClause, Condition, Modifies}
use Rattle.semantics.specs.Keeping.{Contract, Meets}
use Rattle.semantics.proofs.ExampleParts.{num, local, joins, add, less, abort_by, block, let_be, bind, assign, if_only, loop_do, break_loop, assert_or, borrow, deref, field_behind, pair_name, pack_pair, pair_of, numbers, on_vectors, coin, on_storage, function_named, call, functions, runs_of, no_types, start, to_cell, gave_nothing, aborted}
use Rattle.semantics.proofs.ExamplesOfKeeping.{no_truth, nothing_is_no_number}

abbrev m : Interpretation
m = record { all = λ f. false; shapes = []; named = no_types }

abbrev contract : List TypedClause → Contract
contract clauses = record {
  name = function_named 0;
  type_parameters = [];
  parameters = [];
  pragmas = record { verify = true; is_opaque = false; aborts_if_is_partial = false; aborts_if_is_strict = false };
  clauses = clauses;
}

-- what the run of the function 0 of these came to is as the clauses say
abbrev Met : List TypedTree → List TypedClause → List Item → State → Type 0
Met bodies clauses arguments s =
    Meets (record { functions = functions bodies; declarations = record { functions = λ f. None; schemas = λ i. []; levels = 0 }; structs = [] }) m (contract clauses) arguments s
    (run (functions bodies) 9 (function_named 0) no_types arguments s)

abbrev caller_with : Val → State
caller_with v = record { cells = Some (Plain v) ∷ []; storage = λ t. MemoryValue NoEntries }

abbrev equals : SpecTree → SpecTree → SpecTree
equals a b = BinaryTree (Operator (Common Equal)) a b

abbrev both : SpecTree → SpecTree → SpecTree
both a b = BinaryTree (Operator (Common And)) a b

abbrev parameter : ℕ → SpecTree
parameter k = LeafTree (Named (Parameter k))

abbrev result : SpecTree
result = LeafTree (Named (Result 0))

abbrev field_of : ℕ → SpecTree → SpecTree
field_of k a = UnaryTree (FieldOf pair_name k) a

abbrev old : SpecTree → SpecTree
old a = ManyTree Old (trees_of (a ∷ []))

abbrev never_aborts : TypedClause
never_aborts = Condition AbortsIf (LeafTree (Value (TruthValue false)))

-- ---- `fun swap(x: &mut u64, y: &mut u64) { let t = *x; *x = *y; *y = t; }` and `fun f(s: &mut P) { swap(&mut s.a, &mut s.b) }`, with
-- `ensures s.a == old(s.b) && s.b == old(s.a); aborts_if false`

abbrev swapping : List TypedTree
swapping =
    call 1 (borrow (field_behind 0 (local 0)) ∷ borrow (field_behind 1 (local 0)) ∷ [])
    ∷ block (let_be (bind 2) (deref (local 0)) ∷ assign (deref (local 0)) (deref (local 1)) ∷ assign (deref (local 1)) (local 2) ∷ [])
    ∷ []

fields_are_swapped : Met swapping (Condition Ensures (both (equals (field_of 0 (parameter 0)) (old (field_of 1 (parameter 0)))) (equals (field_of 1 (parameter 0)) (old (field_of 0 (parameter 0))))) ∷ never_aborts ∷ [])
    (to_cell 0 ∷ []) (caller_with (pair_of 1 2))
unfolding same_value same_struct_type
fields_are_swapped = (refl, refl, λ resource a some others. refl)

-- ---- `fun f(p: P): P { let P { a, b } = p; P { a: b, b: a } }`, with `ensures result.a == p.b && result.b == p.a`

parts_change_places : Met (block (let_be (ManyTree (Unpacks (0 ∷ 1 ∷ [])) (trees_of (bind 1 ∷ bind 2 ∷ []))) (local 0) ∷ pack_pair (local 2) (local 1) ∷ []) ∷ [])
    (Condition Ensures (both (equals (field_of 0 result) (field_of 1 (parameter 0))) (equals (field_of 1 result) (field_of 0 (parameter 0)))) ∷ never_aborts ∷ []) (Plain (pair_of 1 2) ∷ []) start
unfolding same_value same_struct_type
parts_change_places = (refl, refl, λ resource a some others. refl)

-- ---- `fun f(v: &mut vector<u64>, i: u64) { *vector::borrow_mut(v, i) = 9 }`, with
-- `aborts_if i >= len(v); ensures v[i] == 9 && len(v) == len(old(v))`

abbrev setting_an_item : List TypedTree
setting_an_item = assign (deref (on_vectors BorrowMut (local 0 ∷ local 1 ∷ []))) (num 9) ∷ []

abbrev length_of : SpecTree → SpecTree
length_of a = ManyTree LengthOf (trees_of (a ∷ []))

abbrev item_clauses : List TypedClause
item_clauses =
    Condition AbortsIf (BinaryTree (Operator (Common (Comparison GreaterEqual))) (parameter 1) (length_of (parameter 0)))
    ∷ Condition Ensures (both (equals (BinaryTree Index (parameter 0) (parameter 1)) (LeafTree (Value (number 9)))) (equals (length_of (parameter 0)) (length_of (old (parameter 0)))))
    ∷ []

item_is_set : Met setting_an_item item_clauses (to_cell 0 ∷ Plain (number 1) ∷ []) (caller_with (vector_of (numbers (4 ∷ 5 ∷ []))))
unfolding same_value
item_is_set = (refl, refl, λ resource a some others. refl)

no_such_item : Met setting_an_item item_clauses (to_cell 0 ∷ Plain (number 2) ∷ []) (caller_with (vector_of (numbers (4 ∷ 5 ∷ []))))
no_such_item = refl

-- ---- `let x = 0; let r = &mut x; loop { if (*r == n) break; *r = *r + 1 }; x`, with `ensures result == n; aborts_if false`

counting_through_a_reference : Met (block (let_be (bind 1) (num 0) ∷ let_be (bind 2) (borrow (local 1))
    ∷ loop_do (block (if_only (joins Equals (deref (local 2)) (local 0)) break_loop ∷ assign (deref (local 2)) (add (deref (local 2)) (num 1)) ∷ [])) ∷ local 1 ∷ []) ∷ [])
    (Condition Ensures (equals result (parameter 0)) ∷ never_aborts ∷ []) (Plain (number 3) ∷ []) start
unfolding same_value
counting_through_a_reference = (refl, refl, λ resource a some others. refl)

-- ---- `fun put(s: &signer) { move_to(s, 1) }`, with `aborts_if exists<R>(signer::address_of(s)); ensures global<R>(signer::address_of(s)) == 1`

abbrev putting : List TypedTree
putting = on_storage MoveTo coin (local 0 ∷ num 1 ∷ []) ∷ []

abbrev address : SpecTree
address = ManyTree AddressOf (trees_of (parameter 0 ∷ []))

abbrev put_clauses : List TypedClause
put_clauses =
    Condition AbortsIf (ManyTree (ExistsAt coin) (trees_of (address ∷ [])))
    ∷ Condition Ensures (equals (ManyTree (GlobalAt coin) (trees_of (address ∷ []))) (LeafTree (Value (number 1))))
    ∷ []

abbrev coin_of_5 : State
coin_of_5 = with_stored coin 5 (number 7) start

value_is_put : Met putting put_clauses (to_cell 0 ∷ []) start
unfolding same_value same_type compare_values
value_is_put = (refl, refl, λ resource a some others. absurd (no_truth some))

value_is_there_already : Met putting put_clauses (to_cell 0 ∷ []) coin_of_5
unfolding same_value same_type compare_values
value_is_there_already = refl

-- ---- `fun take(a: address, b: address): R { move_from<R>(b) }`, with `modifies global<R>(a)`

value_of_another_address_is_taken : Met (on_storage MoveFrom coin (local 1 ∷ []) ∷ []) (Modifies (record { resource = coin; address = parameter 0 } ∷ []) ∷ []) (Plain (number 6) ∷ Plain (number 5) ∷ []) coin_of_5 → ⊥
unfolding same_value same_type compare_values
value_of_another_address_is_taken = λ h. nothing_is_no_number 7 (sym (h.2 coin (number 5) refl refl))

-- ---- `if (x == 0) abort 7; assert!(x < 100, 8);`

abbrev with_codes : List TypedTree
with_codes = block (if_only (joins Equals (local 0) (num 0)) (abort_by 7) ∷ assert_or (less (local 0) (num 100)) (num 8) ∷ []) ∷ []

first_code : runs_of with_codes 1 (Plain (number 0) ∷ []) ≡ aborted 7
unfolding same_value
first_code = refl

second_code : runs_of with_codes 1 (Plain (number 100) ∷ []) ≡ aborted 8
unfolding same_value
second_code = refl

no_code : runs_of with_codes 1 (Plain (number 99) ∷ []) ≡ gave_nothing
unfolding same_value
no_code = refl
