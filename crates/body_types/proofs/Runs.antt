-- The value of a node depends only on its parts, and a part needs no more levels than there are nodes before it.
use Rattle.std.proofs.Common.{◌≡◌, ℕ, zero, suc, ◌-◌, ◌<◌, List, [], ◌∷◌, ◌++◌, length, get_or, Option, None, Some, refl, sym, ◌∙◌, ap, arith, below_more, length-append}
use Rattle.std.specs.Prelude.{slice_get}
use Rattle.std.proofs.lemmas.List.{get_or_append_left}
use Rattle.std.proofs.Math.Seq.{get_or-append_seam}
use Rattle.base.specs.TypeData.{TypeData}
use Rattle.program.specs.Trees.{IsBelow}
use Rattle.program.specs.declared.arena.Node.TheVariants.{Leaf, Unary, Binary, If, Many}
use Rattle.program.specs.declared.code.Number.{Number as NumberData}
use Rattle.program.specs.declared.code.CodeLeaf.TheVariants.{Number, Truth, Address, Local, Constant, Return, Break, Continue, Bind, Ignore}
use Rattle.program.specs.declared.code.CodeUnary.TheVariants.{Not, Dereference, Borrow, BorrowMutable, Field, Cast, Return as return_unary, Abort, Loop, Discard, Declare}
use Rattle.program.specs.declared.code.CodeBinary.TheVariants.{Operator, Assign, If as if_binary, While, Assert, Let}
use Rattle.program.specs.CodeNodes.{CodeNode}
use Rattle.typing_rules.specs.declared.constant.ConstantValue.{ConstantValue}
use Rattle.typing_rules.specs.ConstantRuns.{typed_number, negated, cast_to, joined, node_value, value_by, value_at, run_of}
use Rattle.body_types.specs.KnownTypes.{TypesNumbers, TellsRuns}
use Rattle.std.specs.Prelude.{option_and_then}

abbrev Values : Type 0
Values = ℕ → Option ConstantValue

-- assignments of values, and two types, that agree on the parts of the node
same_node : (v w : Values) (of to : TypeData) (n : ℕ) (node : CodeNode) → IsBelow n node → ((k : ℕ) → k < n → v k ≡ w k) → ((x : NumberData) → node ≡ Leaf (Number x) → of ≡ to) → node_value v of node ≡ node_value w to node
same_node v w of to n (Leaf (Number x)) b e h = ap (λ (t : TypeData). typed_number t x.value) (h x refl)
same_node v w of to n (Leaf (Truth x)) b e h = refl
same_node v w of to n (Leaf (Address x)) b e h = refl
same_node v w of to n (Leaf (Local way l)) b e h = refl
same_node v w of to n (Leaf (Constant x)) b e h = refl
same_node v w of to n (Leaf Return) b e h = refl
same_node v w of to n (Leaf Break) b e h = refl
same_node v w of to n (Leaf Continue) b e h = refl
same_node v w of to n (Leaf (Bind x)) b e h = refl
same_node v w of to n (Leaf Ignore) b e h = refl
same_node v w of to n (Unary Not a) b e h = ap (λ (x : Option ConstantValue). option_and_then negated x) (e a b)
same_node v w of to n (Unary Dereference a) b e h = refl
same_node v w of to n (Unary Borrow a) b e h = refl
same_node v w of to n (Unary BorrowMutable a) b e h = refl
same_node v w of to n (Unary (Field name) a) b e h = refl
same_node v w of to n (Unary (Cast t) a) b e h = ap (λ (x : Option ConstantValue). option_and_then (cast_to t) x) (e a b)
same_node v w of to n (Unary return_unary a) b e h = refl
same_node v w of to n (Unary Abort a) b e h = refl
same_node v w of to n (Unary Loop a) b e h = refl
same_node v w of to n (Unary Discard a) b e h = refl
same_node v w of to n (Unary (Declare t) a) b e h = refl
same_node v w of to n (Binary (Operator o) a c) b e h = λ i. joined o (e a b.0 i) (e c b.1 i)
same_node v w of to n (Binary Assign a c) b e h = refl
same_node v w of to n (Binary if_binary a c) b e h = refl
same_node v w of to n (Binary While a c) b e h = refl
same_node v w of to n (Binary Assert a c) b e h = refl
same_node v w of to n (Binary (Let t) a c) b e h = refl
same_node v w of to n (If a c d) b e h = refl
same_node v w of to n (Many m xs) b e h = refl

module _ (nodes : List CodeNode) (t : ℕ → TypeData) where
  -- the next node, from the values of those before it
  next_run : (values : List (Option ConstantValue)) (known : ℕ → TypeData) (node : CodeNode) (levels : ℕ) → IsBelow (length values) node → slice_get nodes (length values) ≡ Some node → TypesNumbers nodes known t
      → ((k : ℕ) → k < length values → get_or values k None ≡ value_at nodes t levels k)
      → node_value (λ k. get_or values k None) (known (length values)) node ≡ value_at nodes t (suc levels) (length values)
  next_run values known node levels below e numbers each =
      let n = length values in
      same_node (λ k. get_or values k None) (value_at nodes t levels) (known n) (t n) n node below each
      (λ x q. sym (numbers.each n x (e ∙ ap (λ (y : CodeNode). Some y) q)))
      ∙ ap (value_by (value_at nodes t levels) (t n)) (sym e)

  next_at : (values : List (Option ConstantValue)) (known : ℕ → TypeData) (node : CodeNode) (levels : ℕ) → length values < levels → IsBelow (length values) node → slice_get nodes (length values) ≡ Some node → TypesNumbers nodes known t
      → TellsRuns values nodes known → node_value (λ k. get_or values k None) (known (length values)) node ≡ value_at nodes t levels (length values)
  next_at values known node zero h below e numbers runs = absurd (omega arith)
  next_at values known node (suc levels) h below e numbers runs =
      next_run values known node levels below e numbers (λ k lt. runs.each t numbers k levels lt (omega arith))

-- the run of one more node
pub one_more : (nodes : List CodeNode) (values : List (Option ConstantValue)) (known : ℕ → TypeData) (node : CodeNode) (value : Option ConstantValue) → IsBelow (length values) node → slice_get nodes (length values) ≡ Some node
    → value ≡ node_value (λ k. get_or values k None) (known (length values)) node → TellsRuns values nodes known → TellsRuns (values ++ value ∷ []) nodes known
one_more nodes values known node value below e is runs = record {
  each = λ t numbers n levels h l.
      below_more (λ k. k < levels → get_or (values ++ value ∷ []) k None ≡ value_at nodes t levels k) (length values)
      (λ k lt more. get_or_append_left values (value ∷ []) None k lt ∙ runs.each t numbers k levels lt more)
      (λ more. get_or-append_seam values value [] None ∙ is ∙ next_at nodes t values known node levels more below e numbers runs)
      n (omega (arith, length-append values (value ∷ []))) l;
}

-- the run of the last node
pub last_run : (nodes : List CodeNode) (values : List (Option ConstantValue)) (known t : ℕ → TypeData) (l : ℕ) → length values ≡ length nodes → length values ≡ suc l → TellsRuns values nodes known → TypesNumbers nodes known t
    → get_or values l None ≡ run_of nodes t
last_run nodes values known t l same long runs numbers =
    let last : l ≡ length nodes - 1 = omega arith in
    runs.each t numbers l (length nodes) (omega arith) (omega arith) ∙ ap (λ (k : ℕ). value_at nodes t (length nodes) k) last

pub no_run : (nodes : List CodeNode) (t : ℕ → TypeData) → length nodes ≡ 0 → run_of nodes t ≡ None
no_run nodes t e = ap (λ (k : ℕ). value_at nodes t k (k - 1)) e
