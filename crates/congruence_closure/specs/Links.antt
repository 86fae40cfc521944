-- Edges of the proof forest: the justification of classes.
use Rattle.std.specs.Prelude.{◌≡◌, ℕ, List, take, slice_get, Some}
use Rattle.term_pool.specs.declared.node.Node.{Node}
use Rattle.term_pool.specs.declared.node.Node.TheVariants.{Leaf as LeafNode, One as OneNode, Two as TwoNode, Three as ThreeNode}
use Rattle.congruence_closure.specs.declared.classes.link.Equation.{Equation}
use Rattle.congruence_closure.specs.declared.classes.link.Link.{Link}
use Rattle.congruence_closure.specs.declared.classes.link.Why.{Why}
use Rattle.congruence_closure.specs.declared.classes.link.Why.TheVariants.{Given, Alike}

-- edges connect the two numbers: the least equivalence that joins the ends of each
pub data Linked (ls : List Link) : ℕ → ℕ → Type 0 where
  ByLink : (k : ℕ) (l : Link) → slice_get ls k ≡ Some l → Linked ls l.left l.right
  Itself : (i : ℕ) → Linked ls i i
  Turned : (i j : ℕ) → Linked ls i j → Linked ls j i
  Chained : (i j k : ℕ) → Linked ls i j → Linked ls j k → Linked ls i k

-- the nodes have equal head symbols, and related parts
abbrev pub AreAlike : (ℕ → ℕ → Type 0) → Node → Node → Type 0
AreAlike R (LeafNode h) (LeafNode k) = h ≡ k
AreAlike R (OneNode h a) (OneNode k x) = (h ≡ k) × R a x
AreAlike R (TwoNode h a b) (TwoNode k x y) = (h ≡ k) × R a x × R b y
AreAlike R (ThreeNode h a b c) (ThreeNode k x y z) = (h ≡ k) × R a x × R b y × R c z
AreAlike R _ _ = ⊥

-- an equation has these sides
pub record IsGiven (es : List Equation) (i j k : ℕ) : Type 0 where
  pub equation : Equation
  pub found : slice_get es k ≡ Some equation
  pub left : equation.left ≡ i
  pub right : equation.right ≡ j

-- two nodes are congruent
pub record AreAlikeAt (ns : List Node) (R : ℕ → ℕ → Type 0) (i j : ℕ) : Type 0 where
  pub one : Node
  pub other : Node
  pub is_one : slice_get ns i ≡ Some one
  pub is_other : slice_get ns j ≡ Some other
  pub alike : AreAlike R one other

abbrev pub IsReason : List Node → List Equation → (ℕ → ℕ → Type 0) → ℕ → ℕ → Why → Type 0
IsReason ns es R i j (Given k) = IsGiven es i j k
IsReason ns es R i j Alike = AreAlikeAt ns R i j

-- each edge is an equation, or joins two nodes that are congruent by the edges before it
pub record AreShown (ns : List Node) (es : List Equation) (ls : List Link) : Type 0 where
  pub each : (k : ℕ) (l : Link) → slice_get ls k ≡ Some l → IsReason ns es (Linked (take k ls)) l.left l.right l.why
