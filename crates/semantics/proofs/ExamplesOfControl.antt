-- Runs of blocks, choices, loops, aborts and returns, and of `let` and assignments.
use Rattle.std.proofs.Common.{◌≡◌, true, false, [], ◌∷◌, refl}
use Rattle.program.specs.Trees.{LeafTree, UnaryTree, IfTree, ManyTree, trees_of}
use Rattle.code_tree.specs.declared.code.Jump.TheVariants.{Return}
use Rattle.semantics.specs.States.{Plain}
use Rattle.semantics.specs.Operations.{AbortsWith, number}
use Rattle.semantics.specs.TypedTrees.{Jumps, Ignored, DeclaresOnly, Unpacks, Several, TypedTree}
use Rattle.semantics.proofs.ExampleParts.{num, bool, local, moved, works, add, less, abort_by, tuple, block, let_be, bind, discard, assign, if_only, while_do, loop_do, break_loop, continue_loop, return_of, assert_or, deref, pack_pair, runs_of, code, gave, gave_nothing, aborted, Gave, TurnsWereFew, WentWrong}

-- ---- blocks, `let` and assignments

value_of_a_block : code (block (discard (num 1) ∷ num 2 ∷ [])) ≡ gave 2
value_of_a_block = refl

block_without_value : code (block (discard (num 1) ∷ [])) ≡ gave_nothing
block_without_value = refl

items_in_order : code (block (discard (abort_by 1) ∷ abort_by 2 ∷ [])) ≡ aborted 1
items_in_order = refl

let_of_a_value : code (block (let_be (bind 0) (num 3) ∷ add (local 0) (local 0) ∷ [])) ≡ gave 6
let_of_a_value = refl

assignment : code (block (let_be (bind 0) (num 3) ∷ assign (local 0) (add (local 0) (num 1)) ∷ local 0 ∷ [])) ≡ gave 4
assignment = refl

-- `let x; x = 3; x`
later_value : code (block (UnaryTree DeclaresOnly (bind 0) ∷ assign (local 0) (num 3) ∷ local 0 ∷ [])) ≡ gave 3
later_value = refl

no_value_yet : code (block (UnaryTree DeclaresOnly (bind 0) ∷ local 0 ∷ [])) ≡ WentWrong
no_value_yet = refl

-- a declaration in a loop's body is a new local in each turn
declared_anew : code (block (let_be (bind 0) (num 3) ∷ UnaryTree DeclaresOnly (bind 0) ∷ local 0 ∷ [])) ≡ WentWrong
declared_anew = refl

copied_twice : code (block (let_be (bind 0) (num 3) ∷ add (local 0) (local 0) ∷ [])) ≡ gave 6
copied_twice = refl

moved_twice : code (block (let_be (bind 0) (num 3) ∷ add (moved 0) (moved 0) ∷ [])) ≡ WentWrong
moved_twice = refl

-- `x + { x = 5; x }` with 1 in x
left_operand_is_read_first : code (block (let_be (bind 0) (num 1) ∷ add (local 0) (block (assign (local 0) (num 5) ∷ local 0 ∷ [])) ∷ [])) ≡ gave 6
left_operand_is_read_first = refl

-- the right side is evaluated before its target: `*{ abort 1 } = { abort 2 }`
right_side_first : code (assign (deref (abort_by 1)) (abort_by 2)) ≡ aborted 2
right_side_first = refl

-- `x = { x = 5; x + 1 }`
target_written_last : code (block (let_be (bind 0) (num 1) ∷ assign (local 0) (block (assign (local 0) (num 5) ∷ add (local 0) (num 1) ∷ [])) ∷ local 0 ∷ [])) ≡ gave 6
target_written_last = refl

let_of_a_tuple : code (block (let_be (ManyTree Several (trees_of (bind 0 ∷ bind 1 ∷ []))) (tuple (num 3 ∷ num 4 ∷ [])) ∷ tuple (local 1 ∷ local 0 ∷ []) ∷ []))
    ≡ Gave (Plain (number 4) ∷ Plain (number 3) ∷ [])
let_of_a_tuple = refl

let_ignores : code (block (let_be (ManyTree Several (trees_of (LeafTree Ignored ∷ bind 1 ∷ []))) (tuple (num 3 ∷ num 4 ∷ [])) ∷ local 1 ∷ [])) ≡ gave 4
let_ignores = refl

-- `let P { b: y, a: x } = P { a: 3, b: 4 }`
let_of_fields : code (block (let_be (ManyTree (Unpacks (1 ∷ 0 ∷ [])) (trees_of (bind 1 ∷ bind 0 ∷ []))) (pack_pair (num 3) (num 4)) ∷ tuple (local 0 ∷ local 1 ∷ []) ∷ []))
    ≡ Gave (Plain (number 3) ∷ Plain (number 4) ∷ [])
let_of_fields = refl

-- `let P { a: _, b: P { a: x, b: _ } } = P { a: 3, b: P { a: 4, b: 5 } }`
let_of_fields_of_fields : code (block (let_be (ManyTree (Unpacks (0 ∷ 1 ∷ [])) (trees_of (LeafTree Ignored ∷ ManyTree (Unpacks (0 ∷ 1 ∷ [])) (trees_of (bind 0 ∷ LeafTree Ignored ∷ [])) ∷ [])))
    (pack_pair (num 3) (pack_pair (num 4) (num 5))) ∷ local 0 ∷ [])) ≡ gave 4
let_of_fields_of_fields = refl

-- ---- choices

then_branch : code (IfTree (bool true) (num 1) (abort_by 2)) ≡ gave 1
then_branch = refl

else_branch : code (IfTree (bool false) (abort_by 1) (num 2)) ≡ gave 2
else_branch = refl

if_without_else : code (if_only (bool true) (abort_by 1)) ≡ aborted 1
if_without_else = refl

if_that_skips : code (if_only (bool false) (abort_by 1)) ≡ gave_nothing
if_that_skips = refl

condition_first : code (IfTree (abort_by 1) (abort_by 2) (abort_by 3)) ≡ aborted 1
condition_first = refl

-- ---- aborts

abort_code : code (abort_by 7) ≡ aborted 7
abort_code = refl

abort_code_is_evaluated : code (works AbortsWith (add (num 3) (num 4))) ≡ aborted 7
abort_code_is_evaluated = refl

assert_that_holds : code (assert_or (bool true) (num 7)) ≡ gave_nothing
assert_that_holds = refl

assert_that_fails : code (assert_or (bool false) (num 7)) ≡ aborted 7
assert_that_fails = refl

code_of_assert_is_needed_only_then : code (assert_or (bool true) (abort_by 8)) ≡ gave_nothing
code_of_assert_is_needed_only_then = refl

code_of_assert_aborts_itself : code (assert_or (bool false) (abort_by 8)) ≡ aborted 8
code_of_assert_aborts_itself = refl

-- ---- loops

-- `let i = 0; while (i < 3) i = i + 1; i`: three turns, and the last look at the condition takes one too
counting : TypedTree
counting = block (let_be (bind 0) (num 0) ∷ while_do (less (local 0) (num 3)) (assign (local 0) (add (local 0) (num 1))) ∷ local 0 ∷ [])

while_with_turns_enough : runs_of (counting ∷ []) 4 [] ≡ gave 3
unfolding counting
while_with_turns_enough = refl

while_with_too_few_turns : runs_of (counting ∷ []) 3 [] ≡ TurnsWereFew
unfolding counting
while_with_too_few_turns = refl

while_without_turn : code (while_do (bool false) (abort_by 1)) ≡ gave_nothing
while_without_turn = refl

while_without_end : code (while_do (bool true) (block [])) ≡ TurnsWereFew
while_without_end = refl

loop_that_breaks : code (block (loop_do break_loop ∷ num 1 ∷ [])) ≡ gave 1
loop_that_breaks = refl

loop_without_end : code (loop_do (block [])) ≡ TurnsWereFew
loop_without_end = refl

-- what stands behind `break` in the body does not run
break_leaves_the_body : code (loop_do (block (discard break_loop ∷ abort_by 1 ∷ []))) ≡ gave_nothing
break_leaves_the_body = refl

-- `while (i < 3) { i = i + 1; if (i < 3) continue; j = j + 1 }`
continue_begins_the_next_turn : code (block (let_be (bind 0) (num 0) ∷ let_be (bind 1) (num 0)
    ∷ while_do (less (local 0) (num 3)) (block (assign (local 0) (add (local 0) (num 1)) ∷ if_only (less (local 0) (num 3)) continue_loop ∷ assign (local 1) (add (local 1) (num 1)) ∷ []))
    ∷ local 1 ∷ [])) ≡ gave 1
continue_begins_the_next_turn = refl

-- the inner loop alone is left: `while (i < 2) { i = i + 1; loop { break }; j = j + 1 }`
break_of_the_inner_loop : code (block (let_be (bind 0) (num 0) ∷ let_be (bind 1) (num 0)
    ∷ while_do (less (local 0) (num 2)) (block (assign (local 0) (add (local 0) (num 1)) ∷ loop_do break_loop ∷ assign (local 1) (add (local 1) (num 1)) ∷ []))
    ∷ local 1 ∷ [])) ≡ gave 2
break_of_the_inner_loop = refl

-- `loop { loop { break }; break }`: one `break` for each loop
break_of_both_loops : code (block (loop_do (block (loop_do break_loop ∷ break_loop ∷ [])) ∷ num 1 ∷ [])) ≡ gave 1
break_of_both_loops = refl

continue_of_the_inner_loop : code (block (let_be (bind 0) (num 0)
    ∷ loop_do (block (while_do (less (local 0) (num 2)) (block (assign (local 0) (add (local 0) (num 1)) ∷ continue_loop ∷ [])) ∷ break_loop ∷ []))
    ∷ local 0 ∷ [])) ≡ gave 2
continue_of_the_inner_loop = refl

-- `break` in the condition of a `while` belongs to the loop around it: `loop { while ({ break; true }) abort 1; abort 2 }`
break_in_a_condition : code (block (loop_do (block (while_do (block (discard break_loop ∷ bool true ∷ [])) (abort_by 1) ∷ abort_by 2 ∷ [])) ∷ num 3 ∷ [])) ≡ gave 3
break_in_a_condition = refl

break_in_an_argument : code (block (loop_do (add (num 1) break_loop) ∷ num 2 ∷ [])) ≡ gave 2
break_in_an_argument = refl

break_outside_a_loop : code (block (break_loop ∷ num 2 ∷ [])) ≡ WentWrong
break_outside_a_loop = refl

-- ---- returns

return_of_a_value : code (block (discard (return_of (num 1)) ∷ abort_by 2 ∷ [])) ≡ gave 1
return_of_a_value = refl

return_without_value : code (block (LeafTree (Jumps Return) ∷ abort_by 2 ∷ [])) ≡ gave_nothing
return_without_value = refl

return_in_an_argument : code (add (num 1) (return_of (num 5))) ≡ gave 5
return_in_an_argument = refl

return_behind_another_operand : code (add (abort_by 1) (return_of (num 5))) ≡ aborted 1
return_behind_another_operand = refl

return_in_a_loop : code (block (loop_do (return_of (num 1)) ∷ abort_by 2 ∷ [])) ≡ gave 1
return_in_a_loop = refl

return_of_a_tuple : code (return_of (tuple (num 1 ∷ num 2 ∷ []))) ≡ Gave (Plain (number 1) ∷ Plain (number 2) ∷ [])
return_of_a_tuple = refl

return_in_the_condition : code (IfTree (return_of (num 1)) (abort_by 2) (abort_by 3)) ≡ gave 1
return_in_the_condition = refl

abort_in_a_loop : code (loop_do (abort_by 4)) ≡ aborted 4
abort_in_a_loop = refl
