-- A run that is over is the same with more turns: each piece of code, and each call, either is unfinished with fewer turns or does the same
-- with more.
use Rattle.std.proofs.Common.{◌≡◌, ℕ, zero, suc, ◌+◌, Bool, true, false, List, [], ◌∷◌, ◌++◌, Option, Some, None, if◌then◌else◌, length, refl, ap, sym, subst, ◌∙◌, arith}
use Rattle.base.specs.TypeData.{TypeData}
use Rattle.base.specs.declared.types.FunctionId.{FunctionId}
use Rattle.program.specs.Trees.{LeafTree, UnaryTree, BinaryTree, IfTree, ManyTree, BadTree, NoTrees, MoreTrees}
use Rattle.code_tree.specs.declared.code.Jump.TheVariants.{Break, Continue, Return}
use Rattle.code_tree.specs.Outcomes.{Outcome, Done, Left, Aborted, Unfinished, Stuck, gives, leaves, stuck, after, then_run, with_some, chosen, turned, loops, caught}
use Rattle.semantics.specs.States.{Item, State, Run}
use Rattle.semantics.specs.Operations.{Operation, Constant, Copies, Moves, PointsAt, ReadsAt, Declares, Negates, Calculates, Combines, Shifts, Compares, Casts, Equals, Differs, AbortsWith, Drops, Gathers, StepsTo, PutsInto, Reads, Writes, WritesAt, Projects, Binds, Packs, Lists, VectorCall, StorageCall, AddressCall, Calls, Frame, named_by, truth_in, gives_truth, operate}
use Rattle.semantics.specs.TypedTrees.{Operand, AsLvalue, AsReference, AsTemporary, LeafForm, Does, Jumps, Binder, Ignored, UnaryForm, Works, Borrows, TakesField, ReturnsValue, Loops, DeclaresOnly, BinaryForm, Joins, And, Or, Assigns, IfOnly, While, Asserts, Lets, ManyForm, Gives, Unpacks, Several, TypedTree, TypedTrees, TypedFunction, TypedFunctions, bindings, locals_bound}
use Rattle.semantics.specs.Runs.{Turns, reached, field_reached, field_read, leaf_run, unary_run, binary_run, many_run, leaf_lvalue, is_dereference, unary_lvalue, evaluate, evaluate_all, locate, entered, left_call, run_body, run_function, turns, run, IsOver, IsSameWithMore}

-- ---- outcomes and runs

-- where the first is over, the second is equal to it
abbrev Agrees : Outcome Item State → Outcome Item State → Type 0
Agrees o p = IsOver o → p ≡ o

abbrev AgreeAll : Run → Run → Type 0
AgreeAll r q = (s : State) → Agrees (r s) (q s)

itself : (r : Run) → AgreeAll r r
itself r s over = refl

after_agrees : (o p : Outcome Item State) (next more : List Item → Run) → Agrees o p → ((vs : List Item) → AgreeAll (next vs) (more vs)) → Agrees (after o next) (after p more)
after_agrees (Done vs s) p next more h k over = ap (λ x. after x more) (h tt) ∙ k vs s over
after_agrees (Left j vs s) p next more h k over = ap (λ x. after x more) (h tt)
after_agrees (Aborted code) p next more h k over = ap (λ x. after x more) (h tt)
after_agrees Unfinished p next more h k over = absurd over
after_agrees Stuck p next more h k over = ap (λ x. after x more) (h tt)

then_agree : (r q : Run) (next more : List Item → Run) → AgreeAll r q → ((vs : List Item) → AgreeAll (next vs) (more vs)) → AgreeAll (then_run r next) (then_run q more)
then_agree r q next more h k s = after_agrees (r s) (q s) next more (h s) k

by_truth : (b : Bool) (r q one other : Run) → AgreeAll r q → AgreeAll one other → AgreeAll (if b then r else one) (if b then q else other)
by_truth true r q one other h k = h
by_truth false r q one other h k = k

one_agrees : (b : Option Bool) (r q one other : Run) → AgreeAll r q → AgreeAll one other
    → AgreeAll (with_some b (λ x. if x then r else one)) (with_some b (λ x. if x then q else other))
one_agrees None r q one other h k = λ s over. refl
one_agrees (Some b) r q one other h k = by_truth b r q one other h k

chosen_agree : (r q one other : Run) → AgreeAll r q → AgreeAll one other → (vs : List Item) → AgreeAll (chosen truth_in r one vs) (chosen truth_in q other vs)
chosen_agree r q one other h k [] = λ s over. refl
chosen_agree r q one other h k (x ∷ []) = one_agrees (truth_in x) r q one other h k
chosen_agree r q one other h k (x ∷ y ∷ vs) = λ s over. refl

turn_agrees : (o p : Outcome Item State) (next more : Run) → Agrees o p → AgreeAll next more → Agrees (turned o next) (turned p more)
turn_agrees (Done vs s) p next more h k over = ap (λ x. turned x more) (h tt) ∙ k s over
turn_agrees (Left Break vs s) p next more h k over = ap (λ x. turned x more) (h tt)
turn_agrees (Left Continue vs s) p next more h k over = ap (λ x. turned x more) (h tt) ∙ k s over
turn_agrees (Left Return vs s) p next more h k over = ap (λ x. turned x more) (h tt)
turn_agrees (Aborted code) p next more h k over = ap (λ x. turned x more) (h tt)
turn_agrees Unfinished p next more h k over = absurd over
turn_agrees Stuck p next more h k over = ap (λ x. turned x more) (h tt)

loops_agree : (r q next more : Run) → AgreeAll r q → AgreeAll next more → AgreeAll (loops r next) (loops q more)
loops_agree r q next more h k s = turn_agrees (r s) (q s) next more (h s) k

-- ---- forms

-- what loops and calls do with fewer turns, they do with more
record Extends (w x : Turns) : Type 0 where
  again : (f : Frame) (t : TypedTree) → AgreeAll (w.again f t) (x.again f t)
  calls : (name : FunctionId) (named : ℕ → TypeData) (xs : List Item) → AgreeAll (w.calls name named xs) (x.calls name named xs)

module _ (w x : Turns) (e : Extends w x) (f : Frame) where
  operate_agrees : (o : Operation) (xs : List Item) → AgreeAll (operate w.calls f o xs) (operate x.calls f o xs)
  operate_agrees (Calls name ts) xs = e.calls name (named_by f.named ts) xs
  operate_agrees (Constant v) xs = λ s over. refl
  operate_agrees (Copies l) xs = λ s over. refl
  operate_agrees (Moves l) xs = λ s over. refl
  operate_agrees (PointsAt l ks) xs = λ s over. refl
  operate_agrees (ReadsAt l ks) xs = λ s over. refl
  operate_agrees (Declares ls) xs = λ s over. refl
  operate_agrees Negates xs = λ s over. refl
  operate_agrees (Calculates operator v) xs = λ s over. refl
  operate_agrees (Combines operator) xs = λ s over. refl
  operate_agrees (Shifts operator v) xs = λ s over. refl
  operate_agrees (Compares operator) xs = λ s over. refl
  operate_agrees (Casts v) xs = λ s over. refl
  operate_agrees Equals xs = λ s over. refl
  operate_agrees Differs xs = λ s over. refl
  operate_agrees AbortsWith xs = λ s over. refl
  operate_agrees Drops xs = λ s over. refl
  operate_agrees Gathers xs = λ s over. refl
  operate_agrees (StepsTo k) xs = λ s over. refl
  operate_agrees (PutsInto l) xs = λ s over. refl
  operate_agrees Reads xs = λ s over. refl
  operate_agrees Writes xs = λ s over. refl
  operate_agrees (WritesAt l ks) xs = λ s over. refl
  operate_agrees (Projects k) xs = λ s over. refl
  operate_agrees (Binds bs) xs = λ s over. refl
  operate_agrees (Packs name ns) xs = λ s over. refl
  operate_agrees Lists xs = λ s over. refl
  operate_agrees (VectorCall function) xs = λ s over. refl
  operate_agrees (StorageCall operation t) xs = λ s over. refl
  operate_agrees AddressCall xs = λ s over. refl

  works : (o : Operation) (r q : Run) → AgreeAll r q → AgreeAll (then_run r (operate w.calls f o)) (then_run q (operate x.calls f o))
  works o r q h = then_agree r q (operate w.calls f o) (operate x.calls f o) h (operate_agrees o)

  reached_agree : (how : Operand) (l m v u : Run) → AgreeAll l m → AgreeAll v u → AgreeAll (reached w f how l v) (reached x f how m u)
  reached_agree AsLvalue l m v u h k = h
  reached_agree AsReference l m v u h k = k
  reached_agree (AsTemporary n) l m v u h k = works (PutsInto n) v u k

  field_reached_agree : (how : Operand) (n : ℕ) (l m v u : Run) → AgreeAll l m → AgreeAll v u → AgreeAll (field_reached w f how n l v) (field_reached x f how n m u)
  field_reached_agree how n l m v u h k = works (StepsTo n) (reached w f how l v) (reached x f how m u) (reached_agree how l m v u h k)

  field_agree : (how : Operand) (n : ℕ) (l m v u : Run) → AgreeAll l m → AgreeAll v u → AgreeAll (field_read w f how n l v) (field_read x f how n m u)
  field_agree AsLvalue n l m v u h k = works Reads (field_reached w f AsLvalue n l v) (field_reached x f AsLvalue n m u) (field_reached_agree AsLvalue n l m v u h k)
  field_agree AsReference n l m v u h k = works Reads (field_reached w f AsReference n l v) (field_reached x f AsReference n m u) (field_reached_agree AsReference n l m v u h k)
  field_agree (AsTemporary t) n l m v u h k = works (Projects n) v u k

  leaf_agrees : (l : LeafForm) → AgreeAll (leaf_run w f l) (leaf_run x f l)
  leaf_agrees (Does o) = operate_agrees o []
  leaf_agrees (Jumps j) = λ s over. refl
  leaf_agrees (Binder l) = λ s over. refl
  leaf_agrees Ignored = λ s over. refl

  unary_agrees : (n : UnaryForm) (a : TypedTree) (l m v u : Run) → AgreeAll l m → AgreeAll v u → AgreeAll (unary_run w f n a l v) (unary_run x f n a m u)
  unary_agrees (Works o) a l m v u h k = works o v u k
  unary_agrees (Borrows how) a l m v u h k = reached_agree how l m v u h k
  unary_agrees (TakesField how n) a l m v u h k = field_agree how n l m v u h k
  unary_agrees ReturnsValue a l m v u h k = then_agree v u (leaves Return) (leaves Return) k (λ vs. itself (leaves Return vs))
  unary_agrees (Loops i) a l m v u h k =
      loops_agree (w.again f a) (x.again f a) (w.again f (UnaryTree (Loops i) a)) (x.again f (UnaryTree (Loops i) a)) (e.again f a) (e.again f (UnaryTree (Loops i) a))
  unary_agrees DeclaresOnly a l m v u h k = operate_agrees (Declares (locals_bound a)) []

  binary_agrees : (n : BinaryForm) (a b : TypedTree) (l m v u r q : Run) → AgreeAll l m → AgreeAll v u → AgreeAll r q → AgreeAll (binary_run w f n a b l v r) (binary_run x f n a b m u q)
  binary_agrees (Joins o) a b l m v u r q h k g =
      then_agree v u (λ vs. then_run r (λ ws. operate w.calls f o (vs ++ ws))) (λ vs. then_run q (λ ws. operate x.calls f o (vs ++ ws))) k
      (λ vs. then_agree r q (λ ws. operate w.calls f o (vs ++ ws)) (λ ws. operate x.calls f o (vs ++ ws)) g (λ ws. operate_agrees o (vs ++ ws)))
  binary_agrees And a b l m v u r q h k g =
      then_agree v u (chosen truth_in r (gives_truth false)) (chosen truth_in q (gives_truth false)) k (chosen_agree r q (gives_truth false) (gives_truth false) g (itself (gives_truth false)))
  binary_agrees Or a b l m v u r q h k g =
      then_agree v u (chosen truth_in (gives_truth true) r) (chosen truth_in (gives_truth true) q) k (chosen_agree (gives_truth true) (gives_truth true) r q (itself (gives_truth true)) g)
  binary_agrees Assigns a b l m v u r q h k g =
      then_agree r q (λ vs. then_run l (λ ps. operate w.calls f Writes (vs ++ ps))) (λ vs. then_run m (λ ps. operate x.calls f Writes (vs ++ ps))) g
      (λ vs. then_agree l m (λ ps. operate w.calls f Writes (vs ++ ps)) (λ ps. operate x.calls f Writes (vs ++ ps)) h (λ ps. operate_agrees Writes (vs ++ ps)))
  binary_agrees IfOnly a b l m v u r q h k g =
      then_agree v u (chosen truth_in r (gives [])) (chosen truth_in q (gives [])) k (chosen_agree r q (gives []) (gives []) g (itself (gives [])))
  binary_agrees (While i) a b l m v u r q h k g =
      then_agree (w.again f a) (x.again f a) (chosen truth_in (loops (w.again f b) (w.again f (BinaryTree (While i) a b))) (gives [])) (chosen truth_in (loops (x.again f b) (x.again f (BinaryTree (While i) a b))) (gives [])) (e.again f a)
      (chosen_agree (loops (w.again f b) (w.again f (BinaryTree (While i) a b))) (loops (x.again f b) (x.again f (BinaryTree (While i) a b))) (gives []) (gives [])
      (loops_agree (w.again f b) (x.again f b) (w.again f (BinaryTree (While i) a b)) (x.again f (BinaryTree (While i) a b)) (e.again f b) (e.again f (BinaryTree (While i) a b))) (itself (gives [])))
  binary_agrees Asserts a b l m v u r q h k g =
      then_agree v u (chosen truth_in (gives []) (then_run r (operate w.calls f AbortsWith))) (chosen truth_in (gives []) (then_run q (operate x.calls f AbortsWith))) k
      (chosen_agree (gives []) (gives []) (then_run r (operate w.calls f AbortsWith)) (then_run q (operate x.calls f AbortsWith)) (itself (gives [])) (works AbortsWith r q g))
  binary_agrees Lets a b l m v u r q h k g = works (Binds (bindings a)) r q g

  many_agrees : (n : ManyForm) (r q : Run) → AgreeAll r q → AgreeAll (many_run w f n r) (many_run x f n q)
  many_agrees (Gives o) r q h = works o r q h
  many_agrees (Unpacks ns) r q h = λ s over. refl
  many_agrees Several r q h = λ s over. refl

  unary_lvalue_agrees : (n : UnaryForm) (l m v u : Run) → AgreeAll l m → AgreeAll v u → AgreeAll (unary_lvalue w f n l v) (unary_lvalue x f n m u)
  unary_lvalue_agrees (Works o) l m v u h k = by_truth (is_dereference o) v u stuck stuck k (itself stuck)
  unary_lvalue_agrees (TakesField how n) l m v u h k = field_reached_agree how n l m v u h k
  unary_lvalue_agrees (Borrows how) l m v u h k = λ s over. refl
  unary_lvalue_agrees ReturnsValue l m v u h k = λ s over. refl
  unary_lvalue_agrees (Loops i) l m v u h k = λ s over. refl
  unary_lvalue_agrees DeclaresOnly l m v u h k = λ s over. refl

  -- ---- trees

  mutual
    evaluate_agrees : (t : TypedTree) → AgreeAll (evaluate w f t) (evaluate x f t)
    evaluate_agrees (LeafTree l) = leaf_agrees l
    evaluate_agrees (UnaryTree n a) =
        unary_agrees n a (locate w f a) (locate x f a) (evaluate w f a) (evaluate x f a) (locate_agrees a) (evaluate_agrees a)
    evaluate_agrees (BinaryTree n a b) =
        binary_agrees n a b (locate w f a) (locate x f a) (evaluate w f a) (evaluate x f a) (evaluate w f b) (evaluate x f b) (locate_agrees a) (evaluate_agrees a) (evaluate_agrees b)
    evaluate_agrees (IfTree c a b) =
        then_agree (evaluate w f c) (evaluate x f c) (chosen truth_in (evaluate w f a) (evaluate w f b)) (chosen truth_in (evaluate x f a) (evaluate x f b)) (evaluate_agrees c)
        (chosen_agree (evaluate w f a) (evaluate x f a) (evaluate w f b) (evaluate x f b) (evaluate_agrees a) (evaluate_agrees b))
    evaluate_agrees (ManyTree n ts) = many_agrees n (evaluate_all w f ts) (evaluate_all x f ts) (all_agree ts)
    evaluate_agrees BadTree = λ s over. refl

    all_agree : (ts : TypedTrees) → AgreeAll (evaluate_all w f ts) (evaluate_all x f ts)
    all_agree NoTrees = λ s over. refl
    all_agree (MoreTrees t ts) =
        then_agree (evaluate w f t) (evaluate x f t) (λ vs. then_run (evaluate_all w f ts) (λ ws. gives (vs ++ ws))) (λ vs. then_run (evaluate_all x f ts) (λ ws. gives (vs ++ ws))) (evaluate_agrees t)
        (λ vs. then_agree (evaluate_all w f ts) (evaluate_all x f ts) (λ ws. gives (vs ++ ws)) (λ ws. gives (vs ++ ws)) (all_agree ts) (λ ws. itself (gives (vs ++ ws))))

    locate_agrees : (t : TypedTree) → AgreeAll (locate w f t) (locate x f t)
    locate_agrees (LeafTree l) = itself (leaf_lvalue f l)
    locate_agrees (UnaryTree n a) =
        unary_lvalue_agrees n (locate w f a) (locate x f a) (evaluate w f a) (evaluate x f a) (locate_agrees a) (evaluate_agrees a)
    locate_agrees (BinaryTree n a b) = λ s over. refl
    locate_agrees (IfTree c a b) = λ s over. refl
    locate_agrees (ManyTree n ts) = λ s over. refl
    locate_agrees BadTree = λ s over. refl

-- ---- functions

caught_agrees : (o p : Outcome Item State) → Agrees o p → Agrees (caught Return o) (caught Return p)
caught_agrees (Done vs s) p h over = ap (caught Return) (h tt)
caught_agrees (Left j vs s) p h over = ap (caught Return) (h tt)
caught_agrees (Aborted code) p h over = ap (caught Return) (h tt)
caught_agrees Unfinished p h over = absurd over
caught_agrees Stuck p h over = ap (caught Return) (h tt)

left_agrees : (n : ℕ) (o p : Outcome Item State) → Agrees o p → Agrees (left_call n o) (left_call n p)
left_agrees n (Done vs s) p h over = ap (left_call n) (h tt)
left_agrees n (Left j vs s) p h over = ap (left_call n) (h tt)
left_agrees n (Aborted code) p h over = ap (left_call n) (h tt)
left_agrees n Unfinished p h over = absurd over
left_agrees n Stuck p h over = ap (left_call n) (h tt)

body_agrees : (w x : Turns) → Extends w x → (g : TypedFunction) (named : ℕ → TypeData) (xs : List Item) → AgreeAll (run_body w g named xs) (run_body x g named xs)
body_agrees w x e g named xs s =
    let f : Frame = record { base = length s.cells; named = named } in
    let o = evaluate w f g.body (entered g.cells xs s) in
    let p = evaluate x f g.body (entered g.cells xs s) in
    left_agrees (length s.cells) (caught Return o) (caught Return p) (caught_agrees o p (evaluate_agrees w x e f g.body (entered g.cells xs s)))

function_agrees : (functions : TypedFunctions) (w x : Turns) → Extends w x → (name : FunctionId) (named : ℕ → TypeData) (xs : List Item) → AgreeAll (run_function functions w name named xs) (run_function functions x name named xs)
function_agrees functions w x e name named xs = by_function (functions name)
  where
    by_function : (g : Option TypedFunction) → AgreeAll (with_some g (λ h. run_body w h named xs)) (with_some g (λ h. run_body x h named xs))
    by_function None = λ s over. refl
    by_function (Some g) = body_agrees w x e g named xs

turns_extend : (functions : TypedFunctions) (n : ℕ) → Extends (turns functions n) (turns functions (suc n))
turns_extend functions zero = record { again = λ f t s over. absurd over; calls = λ name named xs s over. absurd over }
turns_extend functions (suc n) =
    let w = turns functions n in
    let x = turns functions (suc n) in
    let e = turns_extend functions n in
    record { again = λ f. evaluate_agrees w x e f; calls = function_agrees functions w x e }

one_more : (functions : TypedFunctions) (n : ℕ) (name : FunctionId) (named : ℕ → TypeData) (arguments : List Item) → AgreeAll (run functions n name named arguments) (run functions (suc n) name named arguments)
one_more functions n name named arguments = function_agrees functions (turns functions n) (turns functions (suc n)) (turns_extend functions n) name named arguments

no_more : (n : ℕ) → n + zero ≡ n
no_more n = omega arith

one_later : (n k : ℕ) → n + suc k ≡ suc (n + k)
one_later n k = omega arith

still_over : (o p : Outcome Item State) → p ≡ o → IsOver o → IsOver p
still_over o p e over = subst IsOver (sym e) over

pub same_with_more : (functions : TypedFunctions) → IsSameWithMore functions
same_with_more functions n zero name named arguments s over = ap (λ j. run functions j name named arguments s) (no_more n)
same_with_more functions n (suc k) name named arguments s over =
    let before = same_with_more functions n k name named arguments s over in
    ap (λ j. run functions j name named arguments s) (one_later n k)
    ∙ (one_more functions (n + k) name named arguments s (still_over (run functions n name named arguments s) (run functions (n + k) name named arguments s) before over) ∙ before)
