-- Runs of Move, by recursion on typed trees. Operands and arguments are evaluated from left to right; in an assignment the right side is
-- evaluated before its target. Source: The Move Book, "Expressions and Scope", "Conditionals and Loops", "Abort and Assert", "Local
-- Variables and Scope", "References", "Functions" and "Structs and Resources".
use Rattle.std.specs.Prelude.{◌≡◌, ℕ, zero, suc, ◌+◌, ◌-◌, Bool, true, false, List, [], ◌∷◌, ◌++◌, length, map, take, replicate, Option, Some, None, if◌then◌else◌}
use Rattle.base.specs.TypeData.{TypeData}
use Rattle.base.specs.declared.types.FunctionId.{FunctionId}
use Rattle.program.specs.Trees.{LeafTree, UnaryTree, BinaryTree, IfTree, ManyTree, BadTree, NoTrees, MoreTrees}
use Rattle.code_tree.specs.declared.code.Jump.TheVariants.{Return}
use Rattle.code_tree.specs.Outcomes.{Outcome, Done, Left, Aborted, Unfinished, Stuck, gives, leaves, unfinished, stuck, then_run, with_some, chosen, loops, caught}
use Rattle.semantics.specs.States.{Item, Ref, State, Run}
use Rattle.semantics.specs.Operations.{Operation, Copies, Moves, Projects, Declares, AbortsWith, StepsTo, PutsInto, Reads, Writes, Binds, Frame, CallRuns, path_to, gives_truth, truth_in, operate}
use Rattle.semantics.specs.TypedTrees.{Operand, AsLvalue, AsReference, AsTemporary, LeafForm, Does, Jumps, UnaryForm, Works, Borrows, TakesField, ReturnsValue, Loops, DeclaresOnly, BinaryForm, Joins, And, Or, Assigns, IfOnly, While, Asserts, Lets, ManyForm, Gives, TypedTree, TypedTrees, TypedFunction, TypedFunctions, bindings, locals_bound}

-- ---- turns

-- what loops and calls do with the turns that are left: code that a loop runs, and calls
pub record Turns : Type 0 where
  pub again : Frame → TypedTree → Run
  pub calls : CallRuns

-- ---- operands of borrows and field accesses, from the runs of the operand as an lvalue and as a value

-- the reference to the operand
abbrev pub reached : Turns → Frame → Operand → Run → Run → Run
reached w f AsLvalue lvalue value = lvalue
reached w f AsReference lvalue value = value
reached w f (AsTemporary l) lvalue value = then_run value (operate w.calls f (PutsInto l))

abbrev pub field_reached : Turns → Frame → Operand → ℕ → Run → Run → Run
field_reached w f how k lvalue value = then_run (reached w f how lvalue value) (operate w.calls f (StepsTo k))

-- a field is read where it is, but for that of a value without a location
abbrev pub field_read : Turns → Frame → Operand → ℕ → Run → Run → Run
field_read w f (AsTemporary l) k lvalue value = then_run value (operate w.calls f (Projects k))
field_read w f AsLvalue k lvalue value = then_run (field_reached w f AsLvalue k lvalue value) (operate w.calls f Reads)
field_read w f AsReference k lvalue value = then_run (field_reached w f AsReference k lvalue value) (operate w.calls f Reads)

-- ---- forms, from the runs of their parts

abbrev pub leaf_run : Turns → Frame → LeafForm → Run
leaf_run w f (Does o) = operate w.calls f o []
leaf_run w f (Jumps j) = leaves j []
leaf_run w f _ = stuck

-- `a` is the part itself
abbrev pub unary_run : Turns → Frame → UnaryForm → TypedTree → Run → Run → Run
unary_run w f (Works o) a lvalue value = then_run value (operate w.calls f o)
unary_run w f (Borrows how) a lvalue value = reached w f how lvalue value
unary_run w f (TakesField how k) a lvalue value = field_read w f how k lvalue value
unary_run w f ReturnsValue a lvalue value = then_run value (leaves Return)
unary_run w f (Loops i) a lvalue value = loops (w.again f a) (w.again f (UnaryTree (Loops i) a))
unary_run w f DeclaresOnly a lvalue value = operate w.calls f (Declares (locals_bound a)) []

-- the runs of the first part as an lvalue and as a value, and of the second part
abbrev pub binary_run : Turns → Frame → BinaryForm → TypedTree → TypedTree → Run → Run → Run → Run
binary_run w f (Joins o) a b lvalue first second = then_run first (λ vs. then_run second (λ ws. operate w.calls f o (vs ++ ws)))
binary_run w f And a b lvalue first second = then_run first (chosen truth_in second (gives_truth false))
binary_run w f Or a b lvalue first second = then_run first (chosen truth_in (gives_truth true) second)
binary_run w f Assigns a b lvalue first second = then_run second (λ vs. then_run lvalue (λ ps. operate w.calls f Writes (vs ++ ps)))
binary_run w f IfOnly a b lvalue first second = then_run first (chosen truth_in second (gives []))
binary_run w f (While i) a b lvalue first second =
    then_run (w.again f a) (chosen truth_in (loops (w.again f b) (w.again f (BinaryTree (While i) a b))) (gives []))
binary_run w f Asserts a b lvalue first second = then_run first (chosen truth_in (gives []) (then_run second (operate w.calls f AbortsWith)))
binary_run w f Lets a b lvalue first second = then_run second (operate w.calls f (Binds (bindings a)))

abbrev pub many_run : Turns → Frame → ManyForm → Run → Run
many_run w f (Gives o) parts = then_run parts (operate w.calls f o)
many_run w f _ parts = stuck

-- ---- lvalues: a local, what a reference points at, a field

abbrev pub local_named : LeafForm → Option ℕ
local_named (Does (Copies l)) = Some l
local_named (Does (Moves l)) = Some l
local_named _ = None

abbrev pub leaf_lvalue : Frame → LeafForm → Run
leaf_lvalue f l = with_some (local_named l) (λ n. gives (Ref (path_to f n []) ∷ []))

abbrev pub is_dereference : Operation → Bool
is_dereference Reads = true
is_dereference _ = false

abbrev pub unary_lvalue : Turns → Frame → UnaryForm → Run → Run → Run
unary_lvalue w f (Works o) lvalue value = if is_dereference o then value else stuck
unary_lvalue w f (TakesField how k) lvalue value = field_reached w f how k lvalue value
unary_lvalue w f _ lvalue value = stuck

-- ---- trees

abbrev mutual
  -- the items that code gives
  pub evaluate : Turns → Frame → TypedTree → Run
  evaluate w f (LeafTree l) = leaf_run w f l
  evaluate w f (UnaryTree u a) = unary_run w f u a (locate w f a) (evaluate w f a)
  evaluate w f (BinaryTree o a b) = binary_run w f o a b (locate w f a) (evaluate w f a) (evaluate w f b)
  evaluate w f (IfTree c a b) = then_run (evaluate w f c) (chosen truth_in (evaluate w f a) (evaluate w f b))
  evaluate w f (ManyTree m ts) = many_run w f m (evaluate_all w f ts)
  evaluate w f BadTree = stuck

  -- one after another
  pub evaluate_all : Turns → Frame → TypedTrees → Run
  evaluate_all w f NoTrees = gives []
  evaluate_all w f (MoreTrees t ts) = then_run (evaluate w f t) (λ vs. then_run (evaluate_all w f ts) (λ ws. gives (vs ++ ws)))

  -- the reference to an lvalue
  pub locate : Turns → Frame → TypedTree → Run
  locate w f (LeafTree l) = leaf_lvalue f l
  locate w f (UnaryTree u a) = unary_lvalue w f u (locate w f a) (evaluate w f a)
  locate w f _ = stuck

-- ---- functions

abbrev pub entered : ℕ → List Item → State → State
entered cells xs s = record s { cells = s.cells ++ (map Some xs ++ replicate (cells - length xs) None) }

abbrev pub cut_to : ℕ → State → State
cut_to n s = record s { cells = take n s.cells }

-- a call gives what its body gives or returns, and its cells end
abbrev pub left_call : ℕ → Outcome Item State → Outcome Item State
left_call n (Done vs s) = Done vs (cut_to n s)
left_call n (Left j vs s) = Stuck
left_call n (Aborted code) = Aborted code
left_call n Unfinished = Unfinished
left_call n Stuck = Stuck

abbrev pub run_body : Turns → TypedFunction → (ℕ → TypeData) → List Item → Run
run_body w g named xs s = left_call (length s.cells) (caught Return (evaluate w (record { base = length s.cells; named = named }) g.body (entered g.cells xs s)))

abbrev pub run_function : TypedFunctions → Turns → CallRuns
run_function functions w name named xs = with_some (functions name) (λ g. run_body w g named xs)

-- With no turns a loop or a call is unfinished. With one more a loop runs a turn and then itself with one turn less, and a call runs the
-- body with one turn less.
abbrev pub turns : TypedFunctions → ℕ → Turns
turns functions zero = record { again = λ f t. unfinished; calls = λ name named xs. unfinished }
turns functions (suc n) = let w = turns functions n in record { again = evaluate w; calls = run_function functions w }

-- The run of a function with n turns, where its type parameters name these types.
abbrev pub run : TypedFunctions → ℕ → FunctionId → (ℕ → TypeData) → List Item → State → Outcome Item State
run functions n = run_function functions (turns functions n)

-- the turns were enough
abbrev pub IsOver : {I S : Type 0} → Outcome I S → Type 0
IsOver Unfinished = ⊥
IsOver _ = Unit {0}

-- a run that is over is the same with more turns
abbrev pub IsSameWithMore : TypedFunctions → Type 0
IsSameWithMore functions =
    (n k : ℕ) (name : FunctionId) (named : ℕ → TypeData) (arguments : List Item) (s : State) → IsOver (run functions n name named arguments s)
    → run functions (n + k) name named arguments s ≡ run functions n name named arguments s

-- ---- ends of runs

pub data End : Type 0 where
  Returned : List Item → State → End
  -- with a code, or with none
  AbortedWith : Option ℕ → State → End
  OutOfTurns : End
  Wrong : End

-- a run that aborts changes nothing: the state is that of its start
abbrev pub end_of : State → Outcome Item State → End
end_of start (Done vs s) = Returned vs s
end_of start (Left j vs s) = Wrong
end_of start (Aborted code) = AbortedWith code start
end_of start Unfinished = OutOfTurns
end_of start Stuck = Wrong

-- how a run from a state ends, and in which state
abbrev pub run_to_end : TypedFunctions → ℕ → FunctionId → (ℕ → TypeData) → List Item → State → End
run_to_end functions n name named xs s = end_of s (run functions n name named xs s)

abbrev pub ChangesNothingByAborts : TypedFunctions → Type 0
ChangesNothingByAborts functions =
    (n : ℕ) (name : FunctionId) (named : ℕ → TypeData) (arguments : List Item) (start end : State) (code : Option ℕ)
    → run_to_end functions n name named arguments start ≡ AbortedWith code end → end ≡ start
