-- Runs of calls, and of operations on global storage.
use Rattle.std.proofs.Common.{◌≡◌, true, false, [], ◌∷◌, Some, None, refl}
use Rattle.base.specs.TypeData.{BoolType, IntType, ParamType}
use Rattle.base.specs.declared.types.Width.TheVariants.{U64}
use Rattle.program.specs.Trees.{LeafTree, IfTree, ManyTree, trees_of}
use Rattle.program.specs.declared.operator.StorageOperation.TheVariants.{MoveTo, MoveFrom, BorrowGlobal, BorrowGlobalMut, Exists}
use Rattle.code_tree.specs.declared.code.Jump.TheVariants.{Break}
use Rattle.fol.specs.Val.{same_value, compare_values}
use Rattle.semantics.specs.States.{Plain, same_type}
use Rattle.semantics.specs.Operations.{AddressCall, Calls, number}
use Rattle.semantics.specs.TypedTrees.{Jumps, Several, TypedTree}
use Rattle.semantics.proofs.ExampleParts.{num, local, works, gives_all, add, subtract, less, abort_by, tuple, block, let_be, bind, discard, assign, loop_do, return_of, borrow, deref, field_behind, pack_pair, pair_of, coin, box_of, on_storage, function_named, call, runs_of, code, leaves_stored, to_cell, gave, said, aborted, failed, Gave, TurnsWereFew, WentWrong}

-- ---- calls

arguments_from_left_to_right : runs_of (call 1 (abort_by 1 ∷ abort_by 2 ∷ []) ∷ local 0 ∷ []) 9 [] ≡ aborted 1
arguments_from_left_to_right = refl

-- `f(x, { x = 5; x })` with 1 in x
argument_is_read_before_the_next : runs_of (block (let_be (bind 0) (num 1) ∷ call 1 (local 0 ∷ block (assign (local 0) (num 5) ∷ local 0 ∷ []) ∷ []) ∷ []) ∷ subtract (local 1) (local 0) ∷ []) 9 [] ≡ gave 4
argument_is_read_before_the_next = refl

return_inside_an_argument : runs_of (call 1 (return_of (num 7) ∷ []) ∷ abort_by 1 ∷ []) 9 [] ≡ gave 7
return_inside_an_argument = refl

-- a `return` of the callee ends the call alone
return_of_the_callee : runs_of (add (call 1 []) (num 1) ∷ return_of (num 7) ∷ []) 9 [] ≡ gave 8
return_of_the_callee = refl

abort_of_the_callee : runs_of (add (call 1 []) (num 1) ∷ abort_by 7 ∷ []) 9 [] ≡ aborted 7
abort_of_the_callee = refl

-- a `break` that no loop of the callee catches is no `break` of a loop around the call
break_of_the_callee : runs_of (loop_do (call 1 []) ∷ LeafTree (Jumps Break) ∷ []) 9 [] ≡ WentWrong
break_of_the_callee = refl

locals_of_the_callee_are_its_own : runs_of (block (let_be (bind 0) (num 3) ∷ discard (call 1 []) ∷ local 0 ∷ []) ∷ block (let_be (bind 0) (num 4) ∷ local 0 ∷ []) ∷ []) 9 [] ≡ gave 3
locals_of_the_callee_are_its_own = refl

callee_begins_without_locals : runs_of (block (let_be (bind 0) (num 3) ∷ call 1 [] ∷ []) ∷ local 0 ∷ []) 9 [] ≡ WentWrong
callee_begins_without_locals = refl

write_through_an_argument : runs_of (block (let_be (bind 0) (num 3) ∷ discard (call 1 (borrow (local 0) ∷ [])) ∷ local 0 ∷ []) ∷ assign (deref (local 0)) (add (deref (local 0)) (num 1)) ∷ []) 9 [] ≡ gave 4
write_through_an_argument = refl

-- a reference that a call gives: `*f(&mut s) = 7` with `fun f(s: &mut P): &mut u64 { &mut s.b }`
write_through_a_result : runs_of (block (let_be (bind 0) (pack_pair (num 1) (num 2)) ∷ assign (deref (call 1 (borrow (local 0) ∷ []))) (num 7) ∷ local 0 ∷ []) ∷ borrow (field_behind 1 (local 0)) ∷ []) 9 []
    ≡ Gave (Plain (pair_of 1 7) ∷ [])
write_through_a_result = refl

several_results : runs_of (block (let_be (ManyTree Several (trees_of (bind 0 ∷ bind 1 ∷ []))) (call 1 []) ∷ add (local 0) (local 1) ∷ []) ∷ tuple (num 3 ∷ num 4 ∷ []) ∷ []) 9 [] ≡ gave 7
several_results = refl

-- `fun f(n: u64): u64 { if (n < 1) 0 else 1 + f(n - 1) }`: each call takes a turn
recursive : TypedTree
recursive = IfTree (less (local 0) (num 1)) (num 0) (add (num 1) (call 0 (subtract (local 0) (num 1) ∷ [])))

recursion : runs_of (recursive ∷ []) 3 (Plain (number 3) ∷ []) ≡ gave 3
unfolding recursive
recursion = refl

recursion_with_too_few_turns : runs_of (recursive ∷ []) 2 (Plain (number 3) ∷ []) ≡ TurnsWereFew
unfolding recursive
recursion_with_too_few_turns = refl

no_such_function : runs_of (call 1 [] ∷ []) 9 [] ≡ WentWrong
no_such_function = refl

address_of_a_signer : runs_of (works AddressCall (local 0) ∷ []) 9 (to_cell 0 ∷ []) ≡ gave 5
address_of_a_signer = refl

-- ---- storage; the local 8 holds the signer 5

publish : TypedTree → TypedTree
publish value = block (let_be (bind 8) (num 5) ∷ on_storage MoveTo coin (borrow (local 8) ∷ value ∷ []) ∷ [])

nothing_is_there : code (on_storage Exists coin (num 5 ∷ [])) ≡ said false
unfolding same_value
nothing_is_there = refl

moved_there : code (block (discard (publish (num 1)) ∷ on_storage Exists coin (num 5 ∷ []) ∷ [])) ≡ said true
unfolding publish same_value same_type compare_values
moved_there = refl

moved_to_that_address_alone : code (block (discard (publish (num 1)) ∷ on_storage Exists coin (num 6 ∷ []) ∷ [])) ≡ said false
unfolding publish same_value same_type compare_values
moved_to_that_address_alone = refl

moved_twice : code (block (discard (publish (num 1)) ∷ publish (num 2) ∷ [])) ≡ failed
unfolding publish same_value same_type compare_values
moved_twice = refl

signer_before_the_value : code (on_storage MoveTo coin (abort_by 1 ∷ abort_by 2 ∷ [])) ≡ aborted 1
signer_before_the_value = refl

moved_from_there : code (block (discard (publish (num 7)) ∷ on_storage MoveFrom coin (num 5 ∷ []) ∷ [])) ≡ gave 7
unfolding publish same_value same_type compare_values
moved_from_there = refl

moved_from_leaves_nothing : code (block (discard (publish (num 7)) ∷ discard (on_storage MoveFrom coin (num 5 ∷ [])) ∷ on_storage Exists coin (num 5 ∷ []) ∷ [])) ≡ said false
unfolding publish same_value same_type compare_values
moved_from_leaves_nothing = refl

moved_from_twice : code (block (discard (publish (num 7)) ∷ discard (on_storage MoveFrom coin (num 5 ∷ [])) ∷ on_storage MoveFrom coin (num 5 ∷ []) ∷ [])) ≡ failed
unfolding publish same_value same_type compare_values
moved_from_twice = refl

moved_from_nothing : code (on_storage MoveFrom coin (num 5 ∷ [])) ≡ failed
unfolding same_value
moved_from_nothing = refl

-- `move_from` and `move_to` at one address
moved_there_again : code (block (discard (publish (num 7)) ∷ discard (publish (add (on_storage MoveFrom coin (num 5 ∷ [])) (num 1))) ∷ on_storage MoveFrom coin (num 5 ∷ []) ∷ [])) ≡ gave 8
unfolding publish same_value same_type compare_values
moved_there_again = refl

borrowed_from_there : code (block (discard (publish (num 7)) ∷ deref (on_storage BorrowGlobal coin (num 5 ∷ [])) ∷ [])) ≡ gave 7
unfolding publish same_value same_type compare_values
borrowed_from_there = refl

borrow_of_nothing : code (discard (on_storage BorrowGlobal coin (num 5 ∷ []))) ≡ failed
unfolding same_value
borrow_of_nothing = refl

mutable_borrow_of_nothing : code (discard (on_storage BorrowGlobalMut coin (num 5 ∷ []))) ≡ failed
unfolding same_value
mutable_borrow_of_nothing = refl

written_there : code (block (discard (publish (pack_pair (num 1) (num 2))) ∷ assign (field_behind 1 (on_storage BorrowGlobalMut coin (num 5 ∷ []))) (num 9) ∷ on_storage MoveFrom coin (num 5 ∷ []) ∷ []))
    ≡ Gave (Plain (pair_of 1 9) ∷ [])
unfolding publish same_value same_type compare_values
written_there = refl

-- a type has its own storage for each choice of type arguments
other_type_arguments : code (block (let_be (bind 8) (num 5) ∷ discard (on_storage MoveTo (box_of BoolType) (borrow (local 8) ∷ num 1 ∷ [])) ∷ on_storage Exists (box_of (IntType U64)) (num 5 ∷ []) ∷ [])) ≡ said false
unfolding same_value same_type compare_values
other_type_arguments = refl

-- a type parameter names the type argument of the call: here `bool`
type_parameter_of_a_resource : code (block (let_be (bind 8) (num 5) ∷ discard (on_storage MoveTo (box_of BoolType) (borrow (local 8) ∷ num 1 ∷ [])) ∷ on_storage Exists (box_of (ParamType 0)) (num 5 ∷ []) ∷ [])) ≡ said true
unfolding same_value same_type compare_values
type_parameter_of_a_resource = refl

type_argument_of_a_call : runs_of (block (let_be (bind 8) (num 5) ∷ discard (on_storage MoveTo (box_of (IntType U64)) (borrow (local 8) ∷ num 1 ∷ [])) ∷ gives_all (Calls (function_named 1) (IntType U64 ∷ [])) [] ∷ [])
    ∷ on_storage Exists (box_of (ParamType 0)) (num 5 ∷ []) ∷ []) 9 [] ≡ said true
unfolding same_value same_type compare_values
type_argument_of_a_call = refl

-- ---- what a run leaves

stored_behind_a_run : leaves_stored (publish (num 7)) coin 5 ≡ Some (number 7)
unfolding publish same_value same_type compare_values
stored_behind_a_run = refl

-- a run that aborts leaves storage as it was at its start
abort_takes_all_back : leaves_stored (block (discard (publish (num 7)) ∷ abort_by 1 ∷ [])) coin 5 ≡ None
unfolding publish same_value same_type compare_values
abort_takes_all_back = refl
