-- Runs of structs, fields, references and vectors.
use Rattle.std.proofs.Common.{◌≡◌, true, [], ◌∷◌, Some, refl}
use Rattle.program.specs.Trees.{UnaryTree, LeafTree}
use Rattle.program.specs.declared.operator.VectorFunction.TheVariants.{Empty, Length, Borrow, PushBack, BorrowMut, PopBack, DestroyEmpty, Swap}
use Rattle.code_tree.specs.Outcomes.{Unfinished, Done}
use Rattle.fol.specs.Val.{same_value}
use Rattle.fol.specs.Operators.{vector_of}
use Rattle.semantics.specs.States.{Plain}
use Rattle.semantics.specs.Operations.{Equals, Packs, Lists, number, with_room, gives_number, PointsAt, ReadsAt, WritesAt}
use Rattle.semantics.specs.TypedTrees.{AsTemporary, Borrows, Does}
use Rattle.semantics.proofs.ExampleParts.{num, local, moved, joins, gives_all, add, abort_by, tuple, block, let_be, bind, discard, assign, borrow, deref, field, field_behind, field_of_value, pair_name, pack_pair, pair_of, numbers, vector_literal, on_vectors, code, start, leaves_cells, to_cell, gave, said, gave_vector, gave_nothing, aborted, failed, Gave, WentWrong, works}

-- ---- structs

-- `P { b: 2, a: 1 }`: fields are evaluated as they are written, and stand as they are declared
fields_as_declared : code (gives_all (Packs pair_name (1 ∷ 0 ∷ [])) (num 2 ∷ num 1 ∷ [])) ≡ Gave (Plain (pair_of 1 2) ∷ [])
fields_as_declared = refl

fields_evaluated_as_written : code (gives_all (Packs pair_name (1 ∷ 0 ∷ [])) (abort_by 2 ∷ abort_by 1 ∷ [])) ≡ aborted 2
fields_evaluated_as_written = refl

field_of_a_local : code (block (let_be (bind 0) (pack_pair (num 1) (num 2)) ∷ add (field 0 (local 0)) (field 1 (local 0)) ∷ [])) ≡ gave 3
field_of_a_local = refl

field_of_a_field : code (block (let_be (bind 0) (pack_pair (num 1) (pack_pair (num 2) (num 3))) ∷ field 1 (field 1 (local 0)) ∷ [])) ≡ gave 3
field_of_a_field = refl

field_of_a_value_without_location : code (field_of_value 1 (pack_pair (num 1) (num 2))) ≡ gave 2
field_of_a_value_without_location = refl

-- a field is read by copy: the local keeps its value, also where its type has no copy
field_read_keeps_the_local : code (block (let_be (bind 0) (pack_pair (num 1) (num 2)) ∷ discard (field 0 (moved 0)) ∷ field 1 (moved 0) ∷ [])) ≡ gave 2
field_read_keeps_the_local = refl

assignment_to_a_field : code (block (let_be (bind 0) (pack_pair (num 1) (num 2)) ∷ assign (field 0 (local 0)) (num 7) ∷ local 0 ∷ [])) ≡ Gave (Plain (pair_of 7 2) ∷ [])
assignment_to_a_field = refl

assignment_to_a_field_of_a_field : code (block (let_be (bind 0) (pack_pair (num 1) (pack_pair (num 2) (num 3))) ∷ assign (field 0 (field 1 (local 0))) (num 7) ∷ field 1 (local 0) ∷ []))
    ≡ Gave (Plain (pair_of 7 3) ∷ [])
assignment_to_a_field_of_a_field = refl

field_of_a_number : code (block (let_be (bind 0) (num 1) ∷ field 0 (local 0) ∷ [])) ≡ WentWrong
field_of_a_number = refl

-- ---- references

read_through_a_reference : code (block (let_be (bind 0) (num 3) ∷ let_be (bind 1) (borrow (local 0)) ∷ deref (local 1) ∷ [])) ≡ gave 3
read_through_a_reference = refl

write_through_a_reference : code (block (let_be (bind 0) (num 3) ∷ let_be (bind 1) (borrow (local 0)) ∷ assign (deref (local 1)) (num 4) ∷ local 0 ∷ [])) ≡ gave 4
write_through_a_reference = refl

-- `let r = &mut x; let q = &mut *r; *q = 4`
write_through_a_reborrow : code (block (let_be (bind 0) (num 3) ∷ let_be (bind 1) (borrow (local 0)) ∷ let_be (bind 2) (borrow (deref (local 1))) ∷ assign (deref (local 2)) (num 4) ∷ local 0 ∷ [])) ≡ gave 4
write_through_a_reborrow = refl

-- `let r = &mut s; let q = &mut r.b; *q = 7; r.a`
write_through_a_reborrowed_field : code (block (let_be (bind 0) (pack_pair (num 1) (num 2)) ∷ let_be (bind 1) (borrow (local 0)) ∷ let_be (bind 2) (borrow (field_behind 1 (local 1)))
    ∷ assign (deref (local 2)) (num 7) ∷ tuple (field_behind 0 (local 1) ∷ local 0 ∷ []) ∷ []))
    ≡ Gave (Plain (number 1) ∷ Plain (pair_of 1 7) ∷ [])
write_through_a_reborrowed_field = refl

-- a copy of a mutable reference points at the same value
write_through_a_copy : code (block (let_be (bind 0) (num 3) ∷ let_be (bind 1) (borrow (local 0)) ∷ let_be (bind 2) (local 1) ∷ assign (deref (local 2)) (num 4) ∷ deref (local 1) ∷ [])) ≡ gave 4
write_through_a_copy = refl

-- an assignment to a local that holds a reference moves the reference, not what it points at
assignment_of_a_reference : code (block (let_be (bind 0) (num 3) ∷ let_be (bind 1) (num 4) ∷ let_be (bind 2) (borrow (local 0)) ∷ assign (local 2) (borrow (local 1)) ∷ assign (deref (local 2)) (num 5)
    ∷ tuple (local 0 ∷ local 1 ∷ []) ∷ [])) ≡ Gave (Plain (number 3) ∷ Plain (number 5) ∷ [])
assignment_of_a_reference = refl

field_behind_a_reference : code (block (let_be (bind 0) (pack_pair (num 1) (num 2)) ∷ let_be (bind 1) (borrow (local 0)) ∷ field_behind 1 (local 1) ∷ [])) ≡ gave 2
field_behind_a_reference = refl

-- `(*r).b = 9`
field_of_a_dereference : code (block (let_be (bind 0) (pack_pair (num 1) (num 2)) ∷ let_be (bind 1) (borrow (local 0)) ∷ assign (field 1 (deref (local 1))) (num 9) ∷ local 0 ∷ [])) ≡ Gave (Plain (pair_of 1 9) ∷ [])
field_of_a_dereference = refl

-- `*&5`, by a temporary
borrow_of_a_value : code (deref (UnaryTree (Borrows (AsTemporary 7)) (num 5))) ≡ gave 5
borrow_of_a_value = refl

-- `let r = &mut x; *r + { *r = 5; 1 }`: what is read first stays
read_before_a_write : code (block (let_be (bind 0) (num 3) ∷ let_be (bind 1) (borrow (local 0)) ∷ add (deref (local 1)) (block (assign (deref (local 1)) (num 5) ∷ num 1 ∷ [])) ∷ [])) ≡ gave 4
read_before_a_write = refl

-- references are equal where what they point at is equal
equal_references : code (block (let_be (bind 0) (num 3) ∷ let_be (bind 1) (num 3) ∷ joins Equals (borrow (local 0)) (borrow (local 1)) ∷ [])) ≡ said true
unfolding same_value
equal_references = refl

dereference_of_a_number : code (deref (num 3)) ≡ WentWrong
dereference_of_a_number = refl

read_of_a_moved_local : code (block (let_be (bind 0) (num 3) ∷ let_be (bind 1) (borrow (local 0)) ∷ discard (moved 0) ∷ deref (local 1) ∷ [])) ≡ WentWrong
read_of_a_moved_local = refl

-- an argument that is a reference into a cell of the caller: the write stays there
write_for_the_caller : leaves_cells (assign (field_behind 1 (local 0)) (num 8)) (to_cell 1 ∷ []) ≡ Some (Plain (number 5)) ∷ Some (Plain (pair_of 1 8)) ∷ []
write_for_the_caller = refl

write_of_all_for_the_caller : leaves_cells (assign (deref (local 0)) (num 8)) (to_cell 0 ∷ []) ≡ Some (Plain (number 8)) ∷ Some (Plain (pair_of 1 2)) ∷ []
write_of_all_for_the_caller = refl

-- a parameter by value is the callee's own
parameter_by_value : leaves_cells (assign (local 0) (num 8)) (Plain (number 5) ∷ []) ≡ start.cells
parameter_by_value = refl

-- an abort takes back what was written for the caller
abort_takes_writes_back : leaves_cells (block (assign (deref (local 0)) (num 8) ∷ abort_by 1 ∷ [])) (to_cell 0 ∷ []) ≡ start.cells
abort_takes_writes_back = refl

-- operations on a local, or on a field of it, in one step
read_at_a_field : code (block (let_be (bind 0) (pack_pair (num 1) (num 2)) ∷ LeafTree (Does (ReadsAt 0 (1 ∷ []))) ∷ [])) ≡ gave 2
read_at_a_field = refl

write_at_a_field : code (block (let_be (bind 0) (pack_pair (num 1) (num 2)) ∷ works (WritesAt 0 (1 ∷ [])) (num 7) ∷ local 0 ∷ [])) ≡ Gave (Plain (pair_of 1 7) ∷ [])
write_at_a_field = refl

reference_to_a_field : code (block (let_be (bind 0) (pack_pair (num 1) (num 2)) ∷ deref (LeafTree (Does (PointsAt 0 (1 ∷ [])))) ∷ [])) ≡ gave 2
reference_to_a_field = refl

-- ---- vectors

empty_vector : code (on_vectors Empty []) ≡ gave_vector []
empty_vector = refl

vector_of_items : code (vector_literal (4 ∷ 5 ∷ [])) ≡ gave_vector (4 ∷ 5 ∷ [])
vector_of_items = refl

items_of_a_vector_in_order : code (gives_all Lists (abort_by 1 ∷ abort_by 2 ∷ [])) ≡ aborted 1
items_of_a_vector_in_order = refl

vector_length : code (block (let_be (bind 0) (vector_literal (4 ∷ 5 ∷ [])) ∷ on_vectors Length (borrow (local 0) ∷ []) ∷ [])) ≡ gave 2
vector_length = refl

borrowed_element : code (block (let_be (bind 0) (vector_literal (4 ∷ 5 ∷ [])) ∷ deref (on_vectors Borrow (borrow (local 0) ∷ num 1 ∷ [])) ∷ [])) ≡ gave 5
borrowed_element = refl

borrow_beyond_the_end : code (block (let_be (bind 0) (vector_literal (4 ∷ 5 ∷ [])) ∷ deref (on_vectors Borrow (borrow (local 0) ∷ num 2 ∷ [])) ∷ [])) ≡ failed
borrow_beyond_the_end = refl

mutable_borrow_beyond_the_end : code (block (let_be (bind 0) (vector_literal []) ∷ assign (deref (on_vectors BorrowMut (borrow (local 0) ∷ num 0 ∷ []))) (num 1) ∷ [])) ≡ failed
mutable_borrow_beyond_the_end = refl

write_of_an_element : code (block (let_be (bind 0) (vector_literal (4 ∷ 5 ∷ [])) ∷ assign (deref (on_vectors BorrowMut (borrow (local 0) ∷ num 0 ∷ []))) (num 6) ∷ local 0 ∷ [])) ≡ gave_vector (6 ∷ 5 ∷ [])
write_of_an_element = refl

-- the index is evaluated, and out of range, behind the right side
element_located_last : code (block (let_be (bind 0) (vector_literal []) ∷ assign (deref (on_vectors BorrowMut (borrow (local 0) ∷ num 0 ∷ []))) (abort_by 3) ∷ [])) ≡ aborted 3
element_located_last = refl

write_of_a_field_of_an_element : code (block (let_be (bind 0) (gives_all Lists (pack_pair (num 1) (num 2) ∷ [])) ∷ assign (field_behind 1 (on_vectors BorrowMut (borrow (local 0) ∷ num 0 ∷ []))) (num 6) ∷ local 0 ∷ []))
    ≡ Gave (Plain (vector_of (pair_of 1 6 ∷ [])) ∷ [])
write_of_a_field_of_an_element = refl

pushed_back : code (block (let_be (bind 0) (vector_literal (4 ∷ [])) ∷ on_vectors PushBack (borrow (local 0) ∷ num 5 ∷ []) ∷ local 0 ∷ [])) ≡ gave_vector (4 ∷ 5 ∷ [])
pushed_back = refl

popped_back : code (block (let_be (bind 0) (vector_literal (4 ∷ 5 ∷ [])) ∷ let_be (bind 1) (on_vectors PopBack (borrow (local 0) ∷ [])) ∷ tuple (local 1 ∷ local 0 ∷ []) ∷ []))
    ≡ Gave (Plain (number 5) ∷ Plain (vector_of (numbers (4 ∷ []))) ∷ [])
popped_back = refl

pop_of_an_empty_vector : code (block (let_be (bind 0) (vector_literal []) ∷ on_vectors PopBack (borrow (local 0) ∷ []) ∷ [])) ≡ failed
pop_of_an_empty_vector = refl

destroyed_empty : code (on_vectors DestroyEmpty (vector_literal [] ∷ [])) ≡ gave_nothing
destroyed_empty = refl

destroyed_with_items : code (on_vectors DestroyEmpty (vector_literal (4 ∷ []) ∷ [])) ≡ failed
destroyed_with_items = refl

swapped_items : code (block (let_be (bind 0) (vector_literal (4 ∷ 5 ∷ 6 ∷ [])) ∷ on_vectors Swap (borrow (local 0) ∷ num 0 ∷ num 2 ∷ []) ∷ local 0 ∷ [])) ≡ gave_vector (6 ∷ 5 ∷ 4 ∷ [])
swapped_items = refl

swapped_with_itself : code (block (let_be (bind 0) (vector_literal (4 ∷ 5 ∷ [])) ∷ on_vectors Swap (borrow (local 0) ∷ num 1 ∷ num 1 ∷ []) ∷ local 0 ∷ [])) ≡ gave_vector (4 ∷ 5 ∷ [])
swapped_with_itself = refl

swap_beyond_the_end : code (block (let_be (bind 0) (vector_literal (4 ∷ 5 ∷ [])) ∷ on_vectors Swap (borrow (local 0) ∷ num 0 ∷ num 2 ∷ []) ∷ local 0 ∷ [])) ≡ failed
swap_beyond_the_end = refl

vector_in_a_field : code (block (let_be (bind 0) (pack_pair (vector_literal []) (num 2)) ∷ on_vectors PushBack (borrow (field 0 (local 0)) ∷ num 5 ∷ []) ∷ field 0 (local 0) ∷ [])) ≡ gave_vector (5 ∷ [])
vector_in_a_field = refl

vector_of_vectors : code (block (let_be (bind 0) (gives_all Lists (vector_literal (1 ∷ []) ∷ [])) ∷ on_vectors PushBack (on_vectors BorrowMut (borrow (local 0) ∷ num 0 ∷ []) ∷ num 2 ∷ []) ∷ local 0 ∷ []))
    ≡ Gave (Plain (vector_of (vector_of (numbers (1 ∷ 2 ∷ [])) ∷ [])) ∷ [])
vector_of_vectors = refl

-- a vector of 2^64 - 1 items is the longest: one more, and the run is unfinished, whatever the turns
room_for_the_longest : with_room 18446744073709551615 (gives_number 1) start ≡ Done (Plain (number 1) ∷ []) start
room_for_the_longest = refl

no_room_for_more : with_room 18446744073709551616 (gives_number 1) start ≡ Unfinished
no_room_for_more = refl
