-- What each operation of Move does with the items that it works on. Source: The Move Book, "Integers", "Bool", "Equality", "Abort and
-- Assert", "References", "Structs and Resources", "Vector", "Signer" and "Global Storage Operators".
use Rattle.std.specs.Prelude.{◌≡◌, ℕ, ◌≤◌, ◌+◌, ◌-◌, ◌*◌, ◌/◌, ◌%◌, ◌^◌, ◌==◌, Bool, true, false, not, nat_lt, nat_le, pos, List, [], ◌∷◌, ◌++◌, length, map, take, Option, Some, None, slice_get, slice_set, slice_index_or, option_and_then, bit_and, bit_or, bit_xor, if◌then◌else◌}
use Rattle.std.specs.Option.{option_map}
use Rattle.base.specs.TypeData.{TypeData, ParamType}
use Rattle.base.specs.declared.types.FunctionId.{FunctionId}
use Rattle.base.specs.declared.types.StructId.{StructId}
use Rattle.base.specs.declared.types.Width.{Width}
use Rattle.program.specs.declared.operator.Arithmetic.{Arithmetic}
use Rattle.program.specs.declared.operator.Arithmetic.TheVariants.{Add, Subtract, Multiply, Divide, Remainder}
use Rattle.program.specs.declared.operator.Bitwise.{Bitwise}
use Rattle.program.specs.declared.operator.Bitwise.TheVariants.{BitAnd, BitOr, BitXor}
use Rattle.program.specs.declared.operator.Shift.{Shift}
use Rattle.program.specs.declared.operator.Shift.TheVariants.{Left, Right}
use Rattle.program.specs.declared.operator.Comparison.{Comparison}
use Rattle.program.specs.declared.operator.Comparison.TheVariants.{Less, LessEqual, Greater, GreaterEqual}
use Rattle.program.specs.declared.operator.StorageOperation.{StorageOperation}
use Rattle.program.specs.declared.operator.StorageOperation.TheVariants.{MoveTo, MoveFrom, BorrowGlobal, BorrowGlobalMut, Exists}
use Rattle.program.specs.declared.operator.VectorFunction.{VectorFunction}
use Rattle.program.specs.declared.operator.VectorFunction.TheVariants.{Empty, Length, Borrow, PushBack, BorrowMut, PopBack, DestroyEmpty, Swap}
use Rattle.code_tree.specs.Outcomes.{Done, Unfinished, gives, aborts, aborts_without_code, unfinished, stuck, then_run, with_some, or_aborts, on_one}
use Rattle.fol.specs.Val.{Val, NumberValue, TruthValue, NothingValue, VectorValue, StructValue, list_of_values, same_value}
use Rattle.fol.specs.Operators.{vector_of}
use Rattle.fol.specs.Whole.{bits_of}
use Rattle.fol.specs.TypedValue.{put_types}
use Rattle.semantics.specs.States.{Cell, Stored, Path, Field, Element, Item, Plain, Ref, State, Run, struct_value, gives_value, cell_item, with_cell, stored, with_stored, plain, read, write, write_value, further, part}

-- ---- operations

-- A local that a pattern binds, and what it gets: of the item with this number the value itself, or a field of a field .. of it.
pub record Binding : Type 0 where
  pub local : ℕ
  pub item : ℕ
  pub fields : List ℕ

pub data Operation : Type 0 where
  -- of no items: a value; what a local holds, which stays there or not; the reference to a local, or to a field of a field .. of it;
  -- the value there; locals that hold nothing from now on
  Constant : Val → Operation
  Copies : ℕ → Operation
  Moves : ℕ → Operation
  PointsAt : ℕ → List ℕ → Operation
  ReadsAt : ℕ → List ℕ → Operation
  Declares : List ℕ → Operation
  -- of values
  Negates : Operation
  Calculates : Arithmetic → Width → Operation
  Combines : Bitwise → Operation
  Shifts : Shift → Width → Operation
  Compares : Comparison → Operation
  Casts : Width → Operation
  -- of two values, or of what two references point at
  Equals : Operation
  Differs : Operation
  AbortsWith : Operation
  -- no items in place of these; the same items
  Drops : Operation
  Gathers : Operation
  -- the reference to a field of what a reference points at; to a local that gets this value; the value that a reference points at
  StepsTo : ℕ → Operation
  PutsInto : ℕ → Operation
  Reads : Operation
  -- an item, and a reference to where it is written; an item that is written to a local, or to a field of a field .. of it
  Writes : Operation
  WritesAt : ℕ → List ℕ → Operation
  -- a field of a struct
  Projects : ℕ → Operation
  -- the items of a pattern
  Binds : List Binding → Operation
  -- a struct, with the number of the item for each field, in the order of the fields
  Packs : StructId → List ℕ → Operation
  -- a vector of these items
  Lists : Operation
  VectorCall : VectorFunction → Operation
  StorageCall : StorageOperation → TypeData → Operation
  AddressCall : Operation
  Calls : FunctionId → List TypeData → Operation

-- a call: its first cell, and the types that its type parameters name
pub record Frame : Type 0 where
  pub base : ℕ
  pub named : ℕ → TypeData

-- ---- items as they are needed

abbrev pub on_none : Run → List Item → Run
on_none run [] = run
on_none run (x ∷ xs) = stuck

abbrev pub on_two : (Item → Item → Run) → List Item → Run
on_two run (x ∷ y ∷ []) = run x y
on_two run _ = stuck

abbrev pub on_three : (Item → Item → Item → Run) → List Item → Run
on_three run (x ∷ y ∷ z ∷ []) = run x y z
on_three run _ = stuck

abbrev pub number_in : Item → Option ℕ
number_in (Plain (NumberValue (pos n))) = Some n
number_in _ = None

abbrev pub truth_in : Item → Option Bool
truth_in (Plain (TruthValue b)) = Some b
truth_in _ = None

abbrev pub path_in : Item → Option Path
path_in (Ref p) = Some p
path_in (Plain v) = None

abbrev pub on_number : (ℕ → Run) → Item → Run
on_number run x = with_some (number_in x) run

abbrev pub on_numbers : (ℕ → ℕ → Run) → List Item → Run
on_numbers run xs = on_two (λ x y. on_number (λ a. on_number (run a) y) x) xs

abbrev pub on_path : (Path → Run) → Item → Run
on_path run x = with_some (path_in x) run

abbrev pub on_plain : (Val → Run) → Item → Run
on_plain run x = with_some (plain x) run

abbrev pub elements_in : Val → Option (List Val)
elements_in (VectorValue vs) = Some (list_of_values vs)
elements_in _ = None

abbrev pub fields_in : Val → Option (List Val)
fields_in (StructValue name vs) = Some (list_of_values vs)
fields_in _ = None

-- a reference to a vector, and its elements
abbrev pub on_vector : (Path → List Val → Run) → Item → Run
on_vector run x = on_path (λ p. read p (λ v. with_some (elements_in v) (run p))) x

abbrev pub plain_items : List Item → Option (List Val)
plain_items [] = Some []
plain_items (Plain v ∷ xs) = option_map (λ vs. v ∷ vs) (plain_items xs)
plain_items (Ref p ∷ xs) = None

-- ---- integers

abbrev pub number : ℕ → Val
number n = NumberValue (pos n)

abbrev pub gives_number : ℕ → Run
gives_number n = gives_value (number n)

abbrev pub gives_truth : Bool → Run
gives_truth b = gives_value (TruthValue b)

-- a number, where it is a value of the integer type of this width
abbrev pub fitting : Width → ℕ → Option ℕ
fitting w n = if nat_lt n (2 ^ bits_of w) then Some n else None

-- none where the operation aborts
abbrev pub calculated : Arithmetic → Width → ℕ → ℕ → Option ℕ
calculated Add w a b = fitting w (a + b)
calculated Subtract w a b = if nat_lt a b then None else Some (a - b)
calculated Multiply w a b = fitting w (a * b)
calculated Divide w a b = if b == 0 then None else Some (a / b)
calculated Remainder w a b = if b == 0 then None else Some (a % b)

abbrev pub combined : Bitwise → ℕ → ℕ → ℕ
combined BitAnd a b = bit_and a b
combined BitOr a b = bit_or a b
combined BitXor a b = bit_xor a b

-- a shift to the left drops the bits beyond the width
abbrev pub shifted : Shift → Width → ℕ → ℕ → Option ℕ
shifted Left w a b = if nat_lt b (bits_of w) then Some ((a * 2 ^ b) % 2 ^ bits_of w) else None
shifted Right w a b = if nat_lt b (bits_of w) then Some (a / 2 ^ b) else None

abbrev pub compares : Comparison → ℕ → ℕ → Bool
compares Less a b = nat_lt a b
compares LessEqual a b = nat_le a b
compares Greater a b = nat_lt b a
compares GreaterEqual a b = nat_le b a

-- ---- equality

-- whether two values are equal, or what two references point at, as `told` says it
abbrev pub compared : (Bool → Bool) → Item → Item → Run
compared told (Plain v) (Plain w) = gives_truth (told (same_value v w))
compared told (Ref p) (Ref q) = read p (λ v. read q (λ w. gives_truth (told (same_value v w))))
compared told _ _ = stuck

-- ---- locals

abbrev pub cell_of : Frame → ℕ → ℕ
cell_of f l = f.base + l

abbrev pub path_to : Frame → ℕ → List ℕ → Path
path_to f l ks = record { root = Cell (cell_of f l); steps = map Field ks }

abbrev pub copies_cell : ℕ → Run
copies_cell n s = with_some (cell_item s n) (λ x. gives (x ∷ [])) s

abbrev pub moves_cell : ℕ → Run
moves_cell n s = with_some (cell_item s n) (λ x t. Done (x ∷ []) (with_cell n None t)) s

abbrev pub emptied : Frame → List ℕ → State → State
emptied f [] s = s
emptied f (l ∷ ls) s = emptied f ls (with_cell (cell_of f l) None s)

-- ---- patterns

abbrev pub field_of_field : List ℕ → Val → Option Val
field_of_field [] v = Some v
field_of_field (k ∷ ks) v = option_and_then (λ vs. option_and_then (field_of_field ks) (slice_get vs k)) (fields_in v)

-- a reference is bound as a whole
abbrev pub bound_part : List ℕ → Item → Option Item
bound_part ks (Plain v) = option_map Plain (field_of_field ks v)
bound_part [] (Ref p) = Some (Ref p)
bound_part (k ∷ ks) (Ref p) = None

abbrev pub bind_all : Frame → List Binding → List Item → Run
bind_all f [] xs s = Done [] s
bind_all f (b ∷ bs) xs s =
    with_some (option_and_then (bound_part b.fields) (slice_get xs b.item)) (λ x t. bind_all f bs xs (with_cell (cell_of f b.local) (Some x) t)) s

-- ---- structs

-- the values with these numbers, in this order
abbrev pub in_order : List ℕ → List Val → List Val
in_order ns vs = map (λ n. slice_index_or vs n NothingValue) ns

-- ---- vectors

-- a run that would make a vector longer than 2^64 - 1 counts as one that does not end
abbrev pub with_room : ℕ → Run → Run
with_room n run = if nat_lt n (2 ^ 64) then run else unfinished

abbrev pub gives_vector : List Val → Run
gives_vector vs = with_room (length vs) (gives_value (vector_of vs))

abbrev pub element : Path → List Val → ℕ → Run
element p vs i = if nat_lt i (length vs) then gives (Ref (further (Element i) p) ∷ []) else aborts_without_code

abbrev pub pushed : Path → List Val → Val → Run
pushed p vs v = with_room (length vs + 1) (write_value p (vector_of (vs ++ v ∷ [])))

-- a vector of 2^64 - 1 items takes no more, whatever the turns
abbrev pub IsFull : Type 0
IsFull = (p : Path) (vs : List Val) (v : Val) (s : State) → 2 ^ 64 - 1 ≤ length vs → pushed p vs v s ≡ Unfinished

abbrev pub last_of : List Val → Option Val
last_of vs = slice_get vs (length vs - 1)

abbrev pub popped : Path → List Val → Run
popped p vs = or_aborts (last_of vs) (λ v. then_run (write_value p (vector_of (take (length vs - 1) vs))) (λ none. gives_value v))

abbrev pub destroyed : List Val → Run
destroyed vs = if length vs == 0 then gives [] else aborts_without_code

abbrev pub swapped : List Val → ℕ → ℕ → Option (List Val)
swapped vs i j = option_and_then (λ v. option_map (λ w. slice_set (slice_set vs i w) j v) (slice_get vs j)) (slice_get vs i)

abbrev pub swaps : Path → List Val → ℕ → ℕ → Run
swaps p vs i j = or_aborts (swapped vs i j) (λ ws. write_value p (vector_of ws))

abbrev pub vector_call : VectorFunction → List Item → Run
vector_call Empty xs = on_none (gives_vector []) xs
vector_call Length xs = on_one (on_vector (λ p vs. gives_number (length vs))) xs
vector_call Borrow xs = on_two (λ x y. on_vector (λ p vs. on_number (element p vs) y) x) xs
vector_call BorrowMut xs = on_two (λ x y. on_vector (λ p vs. on_number (element p vs) y) x) xs
vector_call PushBack xs = on_two (λ x y. on_vector (λ p vs. on_plain (pushed p vs) y) x) xs
vector_call PopBack xs = on_one (on_vector popped) xs
vector_call DestroyEmpty xs = on_one (on_plain (λ v. with_some (elements_in v) destroyed)) xs
vector_call Swap xs = on_three (λ x y z. on_vector (λ p vs. on_number (λ i. on_number (swaps p vs i) z) y) x) xs

-- ---- storage

abbrev pub by_stored : Option Val → (Val → Run) → Run → Run
by_stored (Some v) there not_there = there v
by_stored None there not_there = not_there

-- one of two runs, as a value of this type is stored at this address or not
abbrev pub where_stored : TypeData → ℕ → (Val → Run) → Run → Run
where_stored t a there not_there s = by_stored (stored s t a) there not_there s

abbrev pub moved_to : TypeData → Val → ℕ → Run
moved_to t v a = where_stored t a (λ old. aborts_without_code) (λ s. Done [] (with_stored t a v s))

abbrev pub moved_from : TypeData → ℕ → Run
moved_from t a = where_stored t a (λ v s. Done (Plain v ∷ []) (with_stored t a NothingValue s)) aborts_without_code

abbrev pub borrowed : TypeData → ℕ → Run
borrowed t a = where_stored t a (λ v. gives (Ref (record { root = Stored t a; steps = [] }) ∷ [])) aborts_without_code

-- a signer is its address
abbrev pub on_signer : (ℕ → Run) → Item → Run
on_signer run x = on_path (λ p. read p (λ v. on_number run (Plain v))) x

abbrev pub storage_call : StorageOperation → TypeData → List Item → Run
storage_call MoveTo t xs = on_two (λ x y. on_signer (λ a. on_plain (λ v. moved_to t v a) y) x) xs
storage_call MoveFrom t xs = on_one (on_number (moved_from t)) xs
storage_call BorrowGlobal t xs = on_one (on_number (borrowed t)) xs
storage_call BorrowGlobalMut t xs = on_one (on_number (borrowed t)) xs
storage_call Exists t xs = on_one (on_number (λ a. where_stored t a (λ v. gives_truth true) (gives_truth false))) xs

-- ---- all operations

-- what calls do: of a function, with the types that its type parameters name
abbrev pub CallRuns : Type 0
CallRuns = FunctionId → (ℕ → TypeData) → List Item → Run

-- type arguments, in which the caller's type parameters name these types
abbrev pub named_by : (ℕ → TypeData) → List TypeData → ℕ → TypeData
named_by named ts n = put_types named (slice_index_or ts n (ParamType n))

abbrev pub operate : CallRuns → Frame → Operation → List Item → Run
operate calls f (Constant v) xs = on_none (gives_value v) xs
operate calls f (Copies l) xs = on_none (copies_cell (cell_of f l)) xs
operate calls f (Moves l) xs = on_none (moves_cell (cell_of f l)) xs
operate calls f (PointsAt l ks) xs = on_none (gives (Ref (path_to f l ks) ∷ [])) xs
operate calls f (ReadsAt l ks) xs = on_none (read (path_to f l ks) gives_value) xs
operate calls f (Declares ls) xs = on_none (λ s. Done [] (emptied f ls s)) xs
operate calls f Negates xs = on_one (λ x. with_some (truth_in x) (λ b. gives_truth (not b))) xs
operate calls f (Calculates operator w) xs = on_numbers (λ a b. or_aborts (calculated operator w a b) gives_number) xs
operate calls f (Combines operator) xs = on_numbers (λ a b. gives_number (combined operator a b)) xs
operate calls f (Shifts operator w) xs = on_numbers (λ a b. or_aborts (shifted operator w a b) gives_number) xs
operate calls f (Compares operator) xs = on_numbers (λ a b. gives_truth (compares operator a b)) xs
operate calls f (Casts w) xs = on_one (on_number (λ a. or_aborts (fitting w a) gives_number)) xs
operate calls f Equals xs = on_two (compared (λ b. b)) xs
operate calls f Differs xs = on_two (compared not) xs
operate calls f AbortsWith xs = on_one (on_number (λ a. aborts (Some a))) xs
operate calls f Drops xs = gives []
operate calls f Gathers xs = gives xs
operate calls f (StepsTo k) xs = on_one (on_path (λ p. gives (Ref (further (Field k) p) ∷ []))) xs
operate calls f (PutsInto l) xs = on_one (λ x s. Done (Ref (path_to f l []) ∷ []) (with_cell (cell_of f l) (Some x) s)) xs
operate calls f Reads xs = on_one (on_path (λ p. read p gives_value)) xs
operate calls f Writes xs = on_two (λ x y. on_path (λ p. write p x) y) xs
operate calls f (WritesAt l ks) xs = on_one (write (path_to f l ks)) xs
operate calls f (Projects k) xs = on_one (on_plain (λ v. with_some (part (Field k) v) gives_value)) xs
operate calls f (Binds bs) xs = bind_all f bs xs
operate calls f (Packs name ns) xs = with_some (plain_items xs) (λ vs. gives_value (struct_value name (in_order ns vs)))
operate calls f Lists xs = with_some (plain_items xs) gives_vector
operate calls f (VectorCall function) xs = vector_call function xs
operate calls f (StorageCall operation t) xs = storage_call operation (put_types f.named t) xs
operate calls f AddressCall xs = on_one (on_signer gives_number) xs
operate calls f (Calls function ts) xs = calls function (named_by f.named ts) xs
