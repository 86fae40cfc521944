-- Bound variables at nodes, which are negations of type parameters, and variables that a context binds.
use Rattle.std.specs.Prelude.{◌≡◌, ◌≢◌, ◌⊎◌, ℕ, true, false, List, slice_get, Option, Some, None}
use Rattle.term_pool.specs.Items.{Item, TermSort, sort_of}
use Rattle.term_pool.specs.declared.node.Leaf.{Leaf}
use Rattle.term_pool.specs.declared.node.Leaf.TheVariants.{Var, TypeParam}
use Rattle.term_pool.specs.declared.node.One.{One}
use Rattle.term_pool.specs.declared.node.One.TheVariants.{Not}
use Rattle.term_pool.specs.declared.node.Two.{Two}
use Rattle.term_pool.specs.declared.node.Two.TheVariants.{Quantify}
use Rattle.term_pool.specs.declared.node.Three.{Three}
use Rattle.term_pool.specs.declared.node.Node.{Node}
use Rattle.term_pool.specs.declared.node.Node.TheVariants.{Leaf as LeafNode, One as OneNode, Two as TwoNode, Three as ThreeNode}
use Rattle.term_pool.specs.Free.{free_in_item, binds}
use Rattle.congruence_closure.specs.Trees.{among}
use Rattle.explanations.specs.Frames.{bound_in}
use Rattle.explanations.specs.declared.frame.Frame.{Frame}
use Rattle.explanations.specs.declared.frame.Frame.TheVariants.{FirstOfTwo, SecondOfTwo}

-- ---- nodes

-- the node is this bound variable, or does not bind it and has it in a part
pub data HasBound (ns : List Node) (n : ℕ) : ℕ → Type 0 where
  ItIs : (i a : ℕ) → slice_get ns i ≡ Some (OneNode Not a) → slice_get ns a ≡ Some (LeafNode (TypeParam n)) → HasBound ns n i
  InOnly : (i : ℕ) (h : One) (a : ℕ) → slice_get ns i ≡ Some (OneNode h a) → HasBound ns n a → HasBound ns n i
  InFirst : (i : ℕ) (h : Two) (a b : ℕ) → slice_get ns i ≡ Some (TwoNode h a b) → binds n h ≡ false → HasBound ns n a → HasBound ns n i
  InSecond : (i : ℕ) (h : Two) (a b : ℕ) → slice_get ns i ≡ Some (TwoNode h a b) → binds n h ≡ false → HasBound ns n b → HasBound ns n i
  InFront : (i : ℕ) (h : Three) (a b c : ℕ) → slice_get ns i ≡ Some (ThreeNode h a b c) → HasBound ns n a → HasBound ns n i
  InMiddle : (i : ℕ) (h : Three) (a b c : ℕ) → slice_get ns i ≡ Some (ThreeNode h a b c) → HasBound ns n b → HasBound ns n i
  InLast : (i : ℕ) (h : Three) (a b c : ℕ) → slice_get ns i ≡ Some (ThreeNode h a b c) → HasBound ns n c → HasBound ns n i

-- no bound variable is free at the node
pub record IsClosed (ns : List Node) (i : ℕ) : Type 0 where
  pub none : (n : ℕ) → HasBound ns n i → ⊥

-- under quantifiers of these variables: each occurrence in the node of one of them, or of a variable that a quantifier
-- in the node binds there, is a bound variable node
pub data FitsUnder (ns : List Node) : List ℕ → ℕ → Type 0 where
  BoundFits : (bound : List ℕ) (i a n : ℕ) → slice_get ns i ≡ Some (OneNode Not a) → slice_get ns a ≡ Some (LeafNode (TypeParam n)) → FitsUnder ns bound i
  LeafFits : (bound : List ℕ) (i : ℕ) (h : Leaf) → slice_get ns i ≡ Some (LeafNode h) → ((k : ℕ) → h ≡ Var k → among k bound ≡ false) → FitsUnder ns bound i
  OneFits : (bound : List ℕ) (i : ℕ) (h : One) (a : ℕ) → slice_get ns i ≡ Some (OneNode h a) → FitsUnder ns bound a → FitsUnder ns bound i
  TwoFits : (bound : List ℕ) (i : ℕ) (h : Two) (a b : ℕ) → slice_get ns i ≡ Some (TwoNode h a b) → FitsUnder ns (bound_in h bound) a → FitsUnder ns (bound_in h bound) b → FitsUnder ns bound i
  ThreeFits : (bound : List ℕ) (i : ℕ) (h : Three) (a b c : ℕ) → slice_get ns i ≡ Some (ThreeNode h a b c) → FitsUnder ns bound a → FitsUnder ns bound b → FitsUnder ns bound c → FitsUnder ns bound i

-- ---- items

-- one of the variables is free in the item
pub record IsCaptured (bound : List ℕ) (x : Item) : Type 0 where
  pub variable : ℕ
  pub bound_there : among variable bound ≡ true
  pub free : free_in_item variable x ≡ true

-- none of them is
pub record IsUncaptured (bound : List ℕ) (x : Item) : Type 0 where
  pub each : (n : ℕ) → among n bound ≡ true → free_in_item n x ≡ false

-- a term in which none of them is free
pub record IsLoose (bound : List ℕ) (x : Item) : Type 0 where
  pub term : sort_of x ≡ TermSort
  pub uncaptured : IsUncaptured bound x

-- no term, or one in which one of them is free
abbrev pub IsTied : List ℕ → Item → Type 0
IsTied bound x = (sort_of x ≢ TermSort) ⊎ IsCaptured bound x

-- ---- heads

-- the variable that a head symbol binds
abbrev pub variable_of : Two → Option ℕ
variable_of (Quantify o n) = Some n
variable_of _ = None

-- the variable that is bound in the hole of a head symbol, and not at the head symbol
abbrev pub variable_below : Frame → Option ℕ
variable_below (FirstOfTwo h b) = variable_of h
variable_below (SecondOfTwo h a) = variable_of h
variable_below _ = None
