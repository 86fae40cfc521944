-- What the tables of examples are written with: short names for code, and for how its runs end.
use Rattle.std.proofs.Common.{ℕ, zero, suc, Bool, List, [], ◌∷◌, Option, Some, None}
use Rattle.base.specs.TypeData.{TypeData, BoolType, StructType, NoTypes, types_of}
use Rattle.base.specs.declared.types.FunctionId.{FunctionId}
use Rattle.base.specs.declared.types.StructId.{StructId}
use Rattle.base.specs.declared.types.Width.TheVariants.{U64}
use Rattle.program.specs.Trees.{LeafTree, UnaryTree, BinaryTree, ManyTree, trees_of}
use Rattle.program.specs.declared.operator.Arithmetic.TheVariants.{Add, Subtract}
use Rattle.program.specs.declared.operator.Comparison.TheVariants.{Less}
use Rattle.program.specs.declared.operator.StorageOperation.{StorageOperation}
use Rattle.program.specs.declared.operator.VectorFunction.{VectorFunction}
use Rattle.code_tree.specs.declared.code.Jump.TheVariants.{Break, Continue}
use Rattle.fol.specs.Val.{Val, TruthValue, MemoryValue, NoEntries}
use Rattle.fol.specs.Operators.{vector_of}
use Rattle.semantics.specs.States.{Cell, Item, Plain, Ref, State, stored, struct_value}
use Rattle.semantics.specs.Operations.{Operation, Constant, Copies, Moves, Calculates, Compares, AbortsWith, Drops, Gathers, Reads, Packs, Lists, VectorCall, StorageCall, Calls, number}
use Rattle.semantics.specs.TypedTrees.{AsLvalue, AsReference, AsTemporary, Does, Jumps, Binder, Works, Borrows, TakesField, ReturnsValue, Loops, Joins, Assigns, IfOnly, While, Asserts, Lets, Gives, TypedTree, TypedFunction, TypedFunctions}
use Rattle.semantics.specs.Runs.{End, Returned, AbortedWith, OutOfTurns, Wrong, run_to_end}

-- ---- expressions

abbrev pub num : ℕ → TypedTree
num n = LeafTree (Does (Constant (number n)))

abbrev pub bool : Bool → TypedTree
bool b = LeafTree (Does (Constant (TruthValue b)))

-- a local of a type with copy, and one of a type without
abbrev pub local : ℕ → TypedTree
local l = LeafTree (Does (Copies l))

abbrev pub moved : ℕ → TypedTree
moved l = LeafTree (Does (Moves l))

abbrev pub works : Operation → TypedTree → TypedTree
works o a = UnaryTree (Works o) a

abbrev pub joins : Operation → TypedTree → TypedTree → TypedTree
joins o a b = BinaryTree (Joins o) a b

abbrev pub gives_all : Operation → List TypedTree → TypedTree
gives_all o ts = ManyTree (Gives o) (trees_of ts)

abbrev pub add : TypedTree → TypedTree → TypedTree
add a b = joins (Calculates Add U64) a b

abbrev pub subtract : TypedTree → TypedTree → TypedTree
subtract a b = joins (Calculates Subtract U64) a b

abbrev pub less : TypedTree → TypedTree → TypedTree
less a b = joins (Compares Less) a b

abbrev pub abort_by : ℕ → TypedTree
abort_by n = works AbortsWith (num n)

abbrev pub tuple : List TypedTree → TypedTree
tuple ts = gives_all Gathers ts

-- ---- statements

abbrev pub block : List TypedTree → TypedTree
block ts = gives_all Gathers ts

abbrev pub let_be : TypedTree → TypedTree → TypedTree
let_be p e = BinaryTree Lets p e

abbrev pub bind : ℕ → TypedTree
bind l = LeafTree (Binder l)

abbrev pub discard : TypedTree → TypedTree
discard e = works Drops e

abbrev pub assign : TypedTree → TypedTree → TypedTree
assign p e = BinaryTree Assigns p e

abbrev pub if_only : TypedTree → TypedTree → TypedTree
if_only c a = BinaryTree IfOnly c a

abbrev pub while_do : TypedTree → TypedTree → TypedTree
while_do c a = BinaryTree (While 0) c a

abbrev pub loop_do : TypedTree → TypedTree
loop_do a = UnaryTree (Loops 0) a

abbrev pub break_loop : TypedTree
break_loop = LeafTree (Jumps Break)

abbrev pub continue_loop : TypedTree
continue_loop = LeafTree (Jumps Continue)

abbrev pub return_of : TypedTree → TypedTree
return_of a = UnaryTree ReturnsValue a

abbrev pub assert_or : TypedTree → TypedTree → TypedTree
assert_or c a = BinaryTree Asserts c a

-- ---- references

abbrev pub borrow : TypedTree → TypedTree
borrow a = UnaryTree (Borrows AsLvalue) a

abbrev pub deref : TypedTree → TypedTree
deref a = works Reads a

-- the field of a local, of what a reference points at, and of a value
abbrev pub field : ℕ → TypedTree → TypedTree
field k a = UnaryTree (TakesField AsLvalue k) a

abbrev pub field_behind : ℕ → TypedTree → TypedTree
field_behind k a = UnaryTree (TakesField AsReference k) a

abbrev pub field_of_value : ℕ → TypedTree → TypedTree
field_of_value k a = UnaryTree (TakesField (AsTemporary 7) k) a

-- ---- structs, vectors, storage and calls

abbrev pub named : List ℕ → StructId
named name = record { address = 1; «module» = []; name = name }

abbrev pub pair_name : StructId
pair_name = named (1 ∷ [])

-- `P { a: .., b: .. }`
abbrev pub pack_pair : TypedTree → TypedTree → TypedTree
pack_pair a b = gives_all (Packs pair_name (0 ∷ 1 ∷ [])) (a ∷ b ∷ [])

abbrev pub pair_of : ℕ → ℕ → Val
pair_of a b = struct_value pair_name (number a ∷ number b ∷ [])

abbrev pub numbers : List ℕ → List Val
numbers [] = []
numbers (n ∷ ns) = number n ∷ numbers ns

abbrev pub literals : List ℕ → List TypedTree
literals [] = []
literals (n ∷ ns) = num n ∷ literals ns

abbrev pub vector_literal : List ℕ → TypedTree
vector_literal ns = gives_all Lists (literals ns)

abbrev pub on_vectors : VectorFunction → List TypedTree → TypedTree
on_vectors function ts = gives_all (VectorCall function) ts

-- two resource types
abbrev pub coin : TypeData
coin = StructType (named (2 ∷ [])) NoTypes

abbrev pub box_of : TypeData → TypeData
box_of t = StructType (named (3 ∷ [])) (types_of (t ∷ []))

abbrev pub on_storage : StorageOperation → TypeData → List TypedTree → TypedTree
on_storage operation t ts = gives_all (StorageCall operation t) ts

abbrev pub function_named : ℕ → FunctionId
function_named n = record { address = 1; «module» = []; name = n ∷ [] }

abbrev pub call : ℕ → List TypedTree → TypedTree
call n ts = gives_all (Calls (function_named n) []) ts

-- ---- programs

-- each function has nine cells; the one with the number n is the n-th
abbrev pub body_at : List TypedTree → ℕ → Option TypedFunction
body_at [] n = None
body_at (t ∷ ts) zero = Some (record { cells = 9; body = t })
body_at (t ∷ ts) (suc n) = body_at ts n

abbrev pub number_of_function : List ℕ → ℕ
number_of_function [] = 0
number_of_function (n ∷ ns) = n

abbrev pub functions : List TypedTree → TypedFunctions
functions bodies name = body_at bodies (number_of_function name.name)

-- ---- runs

-- the caller has two cells: one with 5, which a signer can be, and one with a pair of 1 and 2; nothing is stored
abbrev pub start : State
start = record { cells = Some (Plain (number 5)) ∷ Some (Plain (pair_of 1 2)) ∷ []; storage = λ t. MemoryValue NoEntries }

abbrev pub no_types : ℕ → TypeData
no_types n = BoolType

-- what a run came to, without its state
pub data Seen : Type 0 where
  Gave : List Item → Seen
  AbortedBy : Option ℕ → Seen
  TurnsWereFew : Seen
  WentWrong : Seen

abbrev pub seen : End → Seen
seen (Returned xs s) = Gave xs
seen (AbortedWith code s) = AbortedBy code
seen OutOfTurns = TurnsWereFew
seen Wrong = WentWrong

-- the function 0 of these, with so many turns and these arguments
abbrev pub runs_of : List TypedTree → ℕ → List Item → Seen
runs_of bodies n arguments = seen (run_to_end (functions bodies) n (function_named 0) no_types arguments start)

-- code without arguments, with turns enough
abbrev pub code : TypedTree → Seen
code t = runs_of (t ∷ []) 9 []

abbrev pub state_of : End → State
state_of (Returned xs s) = s
state_of (AbortedWith code s) = s
state_of OutOfTurns = start
state_of Wrong = start

-- what is stored behind the run of code
abbrev pub leaves_stored : TypedTree → TypeData → ℕ → Option Val
leaves_stored t resource a = stored (state_of (run_to_end (functions (t ∷ [])) 9 (function_named 0) no_types [] start)) resource a

-- what a cell of the caller holds behind the run of code with these arguments
abbrev pub leaves_cells : TypedTree → List Item → List (Option Item)
leaves_cells t arguments = (state_of (run_to_end (functions (t ∷ [])) 9 (function_named 0) no_types arguments start)).cells

abbrev pub to_cell : ℕ → Item
to_cell n = Ref (record { root = Cell n; steps = [] })

-- ---- results

abbrev pub gave : ℕ → Seen
gave n = Gave (Plain (number n) ∷ [])

abbrev pub said : Bool → Seen
said b = Gave (Plain (TruthValue b) ∷ [])

abbrev pub gave_vector : List ℕ → Seen
gave_vector ns = Gave (Plain (vector_of (numbers ns)) ∷ [])

abbrev pub gave_nothing : Seen
gave_nothing = Gave []

abbrev pub aborted : ℕ → Seen
aborted n = AbortedBy (Some n)

-- an abort without a code
abbrev pub failed : Seen
failed = AbortedBy None
