-- The abilities required at a node are required of existing type variables.
use Rattle.std.proofs.Common.{ℕ, ◌<◌, ◌≤◌, Bool, true, false, List, [], ◌∷◌, length, All, arith, if◌then◌else◌}
use Rattle.std.specs.Prelude.{slice_get}
use Rattle.std.proofs.lemmas.List.Elements.{All-cons, All-append}
use Rattle.program.specs.Trees.{IsBelow}
use Rattle.program.specs.declared.arena.Node.TheVariants.{Leaf, Unary, Binary, If, Many}
use Rattle.program.specs.declared.operator.BinaryOperator.TheVariants.{Arithmetic, Bitwise, Shift, Comparison, Equal, NotEqual, And, Or}
use Rattle.program.specs.declared.code.Callee.{Callee}
use Rattle.program.specs.declared.code.Callee.TheVariants.{Function, Storage, Vector as vector_callee, AddressOf}
use Rattle.program.specs.declared.code.CodeMany.{CodeMany}
use Rattle.program.specs.declared.code.CodeMany.TheVariants.{Call, Vector, Pack, Unpack, Tuple, TuplePattern, Block}
use Rattle.program.specs.declared.code.CodeLeaf.TheVariants.{Number, Truth, Address, Local, Constant, Return, Break, Continue, Bind, Ignore}
use Rattle.program.specs.declared.code.LocalUse.TheVariants.{Plain, Move, Copy as by_copy}
use Rattle.program.specs.declared.code.CodeUnary.TheVariants.{Not, Dereference, Borrow, BorrowMutable, Field, Cast, Return as return_unary, Abort, Loop, Discard, Declare}
use Rattle.program.specs.declared.code.CodeBinary.TheVariants.{Operator, Assign, If as if_binary, While, Assert, Let}
use Rattle.program.specs.CodeNodes.{CodeNode}
use Rattle.typing_rules.specs.Required.{Ability, Copy, Drop, Key, required_at, assigned_asks, call_asks, form_asks, is_local, is_place, is_taken_as_place, read_asks, temporary_asks}
use Rattle.type_constraints.specs.Storage.{IsStorage, IsStorageCall, IsStorageNode}

abbrev Within : ℕ → ℕ × Ability → Type 0
Within count ask = ask.0 < count

none : (count : ℕ) → All (Within count) []
none count k d h = absurd (omega arith)

one : (count p : ℕ) (a : Ability) → p < count → All (Within count) ((p, a) ∷ [])
one count p a h = All-cons (Within count) (p, a) [] h (none count)

maybe : (count p : ℕ) (a : Ability) (b : Bool) → p < count → All (Within count) (if b then [] else (p, a) ∷ [])
maybe count p a true h = none count
maybe count p a false h = one count p a h

module _ (nodes : List CodeNode) (count n first : ℕ) (here : n < length nodes) (long : length nodes ≤ count) where
  reads : All (Within count) (read_asks nodes n)
  reads = maybe count n Copy (is_taken_as_place nodes n) (omega arith)

  temporary : (a : ℕ) → a < n → All (Within count) (temporary_asks nodes a)
  temporary a h = maybe count a Drop (is_place (slice_get nodes a)) (omega arith)

  assigned : (a : ℕ) → a < n → All (Within count) (assigned_asks nodes a)
  assigned a h = maybe count a Drop (is_local (slice_get nodes a)) (omega arith)

  call_within : (callee : Callee) → (IsStorageCall callee → first < count) → All (Within count) (call_asks callee first)
  call_within (Function f) h = none count
  call_within (Storage operation) h = one count first Key (h tt)
  call_within (vector_callee f) h = none count
  call_within AddressOf h = none count

  form_within : (form : CodeMany) → (IsStorage form → first < count) → All (Within count) (form_asks form first)
  form_within (Call c) h = call_within c.callee h
  form_within (Vector ts) h = none count
  form_within (Pack fields) h = none count
  form_within (Unpack fields) h = none count
  form_within Tuple h = none count
  form_within TuplePattern h = none count
  form_within (Block has_value) h = none count

  pub required_within : (form : CodeNode) → IsBelow n form → (IsStorageNode form → first < count) → All (Within count) (required_at nodes n first form)
  required_within (Leaf (Number x)) b h = none count
  required_within (Leaf (Truth x)) b h = none count
  required_within (Leaf (Address x)) b h = none count
  required_within (Leaf (Local Plain l)) b h = none count
  required_within (Leaf (Local Move l)) b h = none count
  required_within (Leaf (Local by_copy l)) b h = one count n Copy (omega arith)
  required_within (Leaf (Constant x)) b h = none count
  required_within (Leaf Return) b h = none count
  required_within (Leaf Break) b h = none count
  required_within (Leaf Continue) b h = none count
  required_within (Leaf (Bind x)) b h = none count
  required_within (Leaf Ignore) b h = one count n Drop (omega arith)
  required_within (Unary Not a) b h = none count
  required_within (Unary Dereference a) b h = reads
  required_within (Unary Borrow a) b h = temporary a b
  required_within (Unary BorrowMutable a) b h = temporary a b
  required_within (Unary (Field name) a) b h = All-append (Within count) (read_asks nodes n) (temporary_asks nodes a) reads (temporary a b)
  required_within (Unary (Cast t) a) b h = none count
  required_within (Unary return_unary a) b h = none count
  required_within (Unary Abort a) b h = none count
  required_within (Unary Loop a) b h = none count
  required_within (Unary Discard a) b h = one count a Drop (omega arith)
  required_within (Unary (Declare t) a) b h = none count
  required_within (Binary (Operator (Arithmetic s)) a c) b h = none count
  required_within (Binary (Operator (Bitwise s)) a c) b h = none count
  required_within (Binary (Operator (Shift s)) a c) b h = none count
  required_within (Binary (Operator (Comparison s)) a c) b h = none count
  required_within (Binary (Operator Equal) a c) b h = (let l = b.0 in let r = b.1 in All-cons (Within count) (a, Drop) ((c, Drop) ∷ []) (omega arith) (one count c Drop (omega arith)))
  required_within (Binary (Operator NotEqual) a c) b h = (let l = b.0 in let r = b.1 in All-cons (Within count) (a, Drop) ((c, Drop) ∷ []) (omega arith) (one count c Drop (omega arith)))
  required_within (Binary (Operator And) a c) b h = none count
  required_within (Binary (Operator Or) a c) b h = none count
  required_within (Binary Assign a c) b h = assigned a b.0
  required_within (Binary if_binary a c) b h = none count
  required_within (Binary While a c) b h = none count
  required_within (Binary Assert a c) b h = none count
  required_within (Binary (Let t) a c) b h = none count
  required_within (If a c d) b h = none count
  required_within (Many f parts) b h = form_within f h
