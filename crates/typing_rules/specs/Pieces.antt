-- The control flow of a resolved body, node by node, each from those before it. Operands are evaluated from left to
-- right; in an assignment and in a `let` the value is evaluated before the target or the pattern. Source: The Move
-- Book, "Local Variables and Scope", "Move and Copy", "Conditionals and Loops", "Abort and Assert", "References",
-- "Structs and Resources".
use Rattle.std.specs.Prelude.{ℕ, ◌-◌, Bool, false, if◌then◌else◌, List, [], ◌∷◌, ◌++◌, map, length, Option, Some, None, slice_get, slice_index_or}
use Rattle.program.specs.declared.arena.Node.{Node}
use Rattle.program.specs.declared.arena.Node.TheVariants.{Leaf, Unary, Binary, If as two_branches, Many}
use Rattle.program.specs.declared.code.CodeLeaf.{CodeLeaf}
use Rattle.program.specs.declared.code.CodeLeaf.TheVariants.{Number, Truth, Address, Local, Constant, Return as return_leaf, Break, Continue, Bind, Ignore}
use Rattle.program.specs.declared.code.LocalUse.{LocalUse}
use Rattle.program.specs.declared.code.LocalUse.TheVariants.{Plain, Move, Copy}
use Rattle.program.specs.declared.code.CodeUnary.{CodeUnary}
use Rattle.program.specs.declared.code.CodeUnary.TheVariants.{Not, Dereference, Borrow, BorrowMutable, Field, Cast, Return, Abort, Loop, Discard, Declare}
use Rattle.program.specs.declared.code.CodeBinary.{CodeBinary}
use Rattle.program.specs.declared.code.CodeBinary.TheVariants.{Operator, Assign, If, While, Assert, Let}
use Rattle.program.specs.declared.code.CodeMany.{CodeMany}
use Rattle.program.specs.declared.code.CodeMany.TheVariants.{Call, Vector, Pack, Unpack, Tuple, TuplePattern, Block}
use Rattle.program.specs.declared.operator.BinaryOperator.{BinaryOperator}
use Rattle.program.specs.declared.operator.BinaryOperator.TheVariants.{Arithmetic, Bitwise, Shift, Comparison, Equal, NotEqual, And, Or}
use Rattle.program.specs.declared.declaration.AbilitySet.{AbilitySet}
use Rattle.typing_rules.specs.Events.{Event, Declared, Assigned, Used, Moved, Overwritten}
use Rattle.typing_rules.specs.Flows.{Broken, Continued, Returned, Flow, Happens, Jump, Aborts, Then, Either, Turns, Scope, At, quiet}

abbrev pub CodeNode : Type 0
CodeNode = Node CodeLeaf CodeUnary CodeBinary CodeMany

-- ---- abilities of the types of locals, by their numbers

abbrev pub copy_of : Option AbilitySet → Bool
copy_of None = false
copy_of (Some a) = a.has_copy

abbrev pub drop_of : Option AbilitySet → Bool
drop_of None = false
drop_of (Some a) = a.has_drop

abbrev pub copies : List AbilitySet → ℕ → Bool
copies types l = copy_of (slice_get types l)

abbrev pub drops : List AbilitySet → ℕ → Bool
drops types l = drop_of (slice_get types l)

-- ---- pieces of code

-- A piece of code: its flow, the locals that it binds as a pattern or a `let`, and, where it is an lvalue that is a
-- whole local, that local.
pub record Piece : Type 0 where
  pub flow : Flow
  pub binds : List ℕ
  pub local : Option ℕ

abbrev pub no_piece : Piece
no_piece = record { flow = quiet; binds = []; local = None }

abbrev pub piece_at : List Piece → ℕ → Piece
piece_at pieces n = slice_index_or pieces n no_piece

-- `copy` copies and `move` moves. A plain use copies if the type has copy, and moves otherwise.
abbrev pub event_of_use : Bool → LocalUse → ℕ → Event
event_of_use has_copy Plain l = if has_copy then Used l else Moved l
event_of_use has_copy Move l = Moved l
event_of_use has_copy Copy l = Used l

abbrev pub leaf_flow : List AbilitySet → CodeLeaf → Flow
leaf_flow types (Local kind l) = Happens (event_of_use (copies types l) kind l ∷ [])
leaf_flow types return_leaf = Jump Returned
leaf_flow types Break = Jump Broken
leaf_flow types Continue = Jump Continued
leaf_flow types (Number n) = quiet
leaf_flow types (Truth b) = quiet
leaf_flow types (Address a) = quiet
leaf_flow types (Constant c) = quiet
leaf_flow types (Bind l) = quiet
leaf_flow types Ignore = quiet

abbrev pub leaf_binds : CodeLeaf → List ℕ
leaf_binds (Bind l) = l ∷ []
leaf_binds _ = []

abbrev pub leaf_local : CodeLeaf → Option ℕ
leaf_local (Local Plain l) = Some l
leaf_local _ = None

-- the operand of a borrow or of a field access: a local is used there
abbrev pub seen_flow : ℕ → Flow → Option ℕ → Flow
seen_flow n flow None = flow
seen_flow n flow (Some l) = At n (Happens (Used l ∷ []))

-- the left side of an assignment: a local is overwritten as a whole; otherwise a part is written
abbrev pub written_flow : ℕ → Flow → Option ℕ → Flow
written_flow n flow None = flow
written_flow n flow (Some l) = At n (Happens (Overwritten l ∷ Assigned l ∷ []))

abbrev pub unary_flow : CodeUnary → ℕ → Piece → Flow
unary_flow (Field name) n a = seen_flow n a.flow a.local
unary_flow Borrow n a = seen_flow n a.flow a.local
unary_flow BorrowMutable n a = seen_flow n a.flow a.local
unary_flow Return n a = Then a.flow (Jump Returned)
unary_flow Abort n a = Then a.flow Aborts
unary_flow Loop n a = Turns quiet a.flow
unary_flow (Declare annotation) n a = Happens (map Declared a.binds)
unary_flow Not n a = a.flow
unary_flow Dereference n a = a.flow
unary_flow (Cast target) n a = a.flow
unary_flow Discard n a = a.flow

abbrev pub unary_binds : CodeUnary → Piece → List ℕ
unary_binds (Declare annotation) a = a.binds
unary_binds _ a = []

-- `&&` and `||` evaluate their right side only if it is needed
abbrev pub operator_flow : BinaryOperator → Flow → Flow → Flow
operator_flow And f g = Then f (Either quiet g)
operator_flow Or f g = Then f (Either quiet g)
operator_flow (Arithmetic o) f g = Then f g
operator_flow (Bitwise o) f g = Then f g
operator_flow (Shift o) f g = Then f g
operator_flow (Comparison o) f g = Then f g
operator_flow Equal f g = Then f g
operator_flow NotEqual f g = Then f g

-- the condition of `while` leaves the loop; `assert!` aborts if its condition is false
abbrev pub binary_flow : CodeBinary → ℕ → Piece → Piece → Flow
binary_flow (Operator o) n a b = operator_flow o a.flow b.flow
binary_flow Assign n a b = Then b.flow (written_flow n a.flow a.local)
binary_flow If n a b = Then a.flow (Either b.flow quiet)
binary_flow While n a b = Turns a.flow (Either (Jump Broken) b.flow)
binary_flow Assert n a b = Then a.flow (Either quiet (Then b.flow Aborts))
binary_flow (Let annotation) n a b = Then b.flow (Happens (map Declared a.binds ++ map Assigned a.binds))

abbrev pub binary_binds : CodeBinary → Piece → List ℕ
binary_binds (Let annotation) a = a.binds
binary_binds _ a = []

-- pieces one after another
abbrev pub in_order : Flow → List Piece → Flow
in_order flow [] = flow
in_order flow (p ∷ ps) = in_order (Then flow p.flow) ps

abbrev pub all_binds : List Piece → List ℕ
all_binds [] = []
all_binds (p ∷ ps) = p.binds ++ all_binds ps

-- the locals of a block are those that its own items bind
abbrev pub many_flow : CodeMany → List Piece → Flow
many_flow (Block has_value) ps = Scope (all_binds ps) (in_order quiet ps)
many_flow (Unpack fields) ps = quiet
many_flow TuplePattern ps = quiet
many_flow (Call call) ps = in_order quiet ps
many_flow (Vector types) ps = in_order quiet ps
many_flow (Pack fields) ps = in_order quiet ps
many_flow Tuple ps = in_order quiet ps

abbrev pub many_binds : CodeMany → List Piece → List ℕ
many_binds (Unpack fields) ps = all_binds ps
many_binds TuplePattern ps = all_binds ps
many_binds _ ps = []

-- the flow of a node itself, from the pieces of its parts
abbrev pub node_flow : List AbilitySet → List Piece → CodeNode → Flow
node_flow types done (Leaf l) = leaf_flow types l
node_flow types done (Unary u a) = unary_flow u a (piece_at done a)
node_flow types done (Binary o a b) = binary_flow o a (piece_at done a) (piece_at done b)
node_flow types done (two_branches c a b) = Then (piece_at done c).flow (Either (piece_at done a).flow (piece_at done b).flow)
node_flow types done (Many m parts) = many_flow m (map (piece_at done) parts)

abbrev pub node_binds : List Piece → CodeNode → List ℕ
node_binds done (Leaf l) = leaf_binds l
node_binds done (Unary u a) = unary_binds u (piece_at done a)
node_binds done (Binary o a b) = binary_binds o (piece_at done a)
node_binds done (two_branches c a b) = []
node_binds done (Many m parts) = many_binds m (map (piece_at done) parts)

abbrev pub node_local : CodeNode → Option ℕ
node_local (Leaf l) = leaf_local l
node_local (Unary u a) = None
node_local (Binary o a b) = None
node_local (two_branches c a b) = None
node_local (Many m parts) = None

abbrev pub piece_of : List AbilitySet → List Piece → CodeNode → Piece
piece_of types done node = record { flow = At (length done) (node_flow types done node); binds = node_binds done node; local = node_local node }

-- the pieces of nodes, each from those before it
abbrev pub pieces_in : List AbilitySet → List Piece → List CodeNode → List Piece
pieces_in types done [] = done
pieces_in types done (node ∷ nodes) = pieces_in types (done ++ piece_of types done node ∷ []) nodes

abbrev pub pieces : List AbilitySet → List CodeNode → List Piece
pieces types nodes = pieces_in types [] nodes

-- the flow of a body is that of its last node
abbrev pub whole_flow : List AbilitySet → List CodeNode → Flow
whole_flow types nodes = (piece_at (pieces types nodes) (length nodes - 1)).flow
