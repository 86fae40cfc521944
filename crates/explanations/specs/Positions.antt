-- Positions in two items, and the differences between the items.
use Rattle.std.specs.Prelude.{◌≡◌, ℕ, ◌<◌, ◌≤◌, List, [], ◌∷◌, ◌++◌, length, take, slice_get, Option, Some, None}
use Rattle.term_pool.specs.Items.{Item, FormulaSort, sort_of}
use Rattle.term_pool.specs.Pools.{item_at, IsMade}
use Rattle.term_pool.specs.declared.node.One.{One}
use Rattle.term_pool.specs.declared.node.Two.{Two}
use Rattle.term_pool.specs.declared.node.Three.{Three}
use Rattle.term_pool.specs.declared.node.Node.{Node}
use Rattle.term_pool.specs.declared.node.Node.TheVariants.{Leaf as LeafNode, One as OneNode, Two as TwoNode, Three as ThreeNode}
use Rattle.term_pool.specs.Depths.{item_depth}
use Rattle.certificates.specs.Closes.{most_deep}
use Rattle.congruence_closure.specs.Links.{Linked}
use Rattle.congruence_closure.specs.declared.classes.link.Link.{Link}
use Rattle.congruence_closure.specs.Paths.{IsPath}
use Rattle.explanations.specs.Frames.{filled, Leads, bound_in, bound_on}
use Rattle.explanations.specs.declared.frame.Frame.{Frame}
use Rattle.congruence_closure.specs.Numbers.{number_at, IsReal}
use Rattle.explanations.specs.Replacing.{IsReplacement, after_all, AreInTurn}
use Rattle.explanations.specs.BoundNodes.{FitsUnder}
use Rattle.explanations.specs.Graphs.{IsTermNode}
use Rattle.explanations.specs.declared.derived.replacing.Difference.{Difference}
use Rattle.explanations.specs.declared.derived.difference.Position.{Position}
use Rattle.explanations.specs.declared.derived.difference.Pair.{Pair}
use Rattle.explanations.specs.declared.derived.difference.Pair.TheVariants.{One as PairOne, Two as PairTwo, Three as PairThree, Unlike}

-- the item of the context with the item of a node in its hole
abbrev pub whole : List Node → List ℕ → List Frame → ℕ → Item
whole pool numbers way i = filled pool way (item_at pool (number_at numbers i))

abbrev pub one_at : List Node → List ℕ → Position → Item
one_at pool numbers p = whole pool numbers p.way.items p.one

abbrev pub other_at : List Node → List ℕ → Position → Item
other_at pool numbers p = whole pool numbers p.way.items p.other

-- a node that may be at a position
pub record CanStand (pool ns : List Node) (numbers : List ℕ) (i : ℕ) : Type 0 where
  pub node : i < length ns
  pub number : number_at numbers i < length pool
  pub real : IsReal pool ns numbers i

-- the position is one of both items, and the nodes fit under the quantifiers above it
pub record IsPositionOf (pool ns : List Node) (numbers : List ℕ) (way : List Frame) (i j : ℕ) : Type 0 where
  pub one : CanStand pool ns numbers i
  pub other : CanStand pool ns numbers j
  pub leads : Leads pool FormulaSort way (sort_of (item_at pool (number_at numbers i)))
  pub same_sort : sort_of (item_at pool (number_at numbers j)) ≡ sort_of (item_at pool (number_at numbers i))
  pub one_fits : FitsUnder ns (bound_on way) i
  pub other_fits : FitsUnder ns (bound_on way) j
  pub one_low : item_depth (whole pool numbers way i) ≤ most_deep
  pub other_low : item_depth (whole pool numbers way j) ≤ most_deep

abbrev pub IsPosition : List Node → List Node → List ℕ → Position → Type 0
IsPosition pool ns numbers p = IsPositionOf pool ns numbers p.way.items p.one p.other

-- a difference with its route
pub record IsDifference (pool ns : List Node) (ls : List Link) (numbers : List ℕ) (before : ℕ) (d : Difference) : Type 0 where
  pub is : IsReplacement pool numbers d
  pub term : IsTermNode pool ns numbers d.from
  pub within : d.from < length ns
  pub path : IsPath ls before d.from d.route.items d.to

-- the differences that were found make the one item the other
pub record AreFound (pool ns : List Node) (ls : List Link) (numbers : List ℕ) (before : ℕ) (x y : Item) (old new : List Difference) : Type 0 where
  pub found : List Difference
  pub more : new ≡ old ++ found
  pub in_turn : AreInTurn pool numbers x found
  pub ends : after_all pool numbers x found ≡ y
  pub each : (n : ℕ) (d : Difference) → slice_get found n ≡ Some d → IsDifference pool ns ls numbers before d

-- a position further down, where only the items at it remain to be handled
pub record IsNextOf (pool ns : List Node) (ls : List Link) (numbers : List ℕ) (before : ℕ) (p : Position) (old new : List Difference) (way : List Frame) (i j : ℕ) : Type 0 where
  pub at : IsPositionOf pool ns numbers way i j
  pub linked : Linked (take before ls) i j
  pub less : number_at numbers i < number_at numbers p.one
  pub found : AreFound pool ns ls numbers before (one_at pool numbers p) (whole pool numbers way i) old new
  pub same : whole pool numbers way j ≡ other_at pool numbers p

abbrev pub IsNext : List Node → List Node → List Link → List ℕ → ℕ → Position → List Difference → List Difference → Position → Type 0
IsNext pool ns ls numbers before p old new next = IsNextOf pool ns ls numbers before p old new next.way.items next.one next.other

-- the position is handled, or the next one remains
abbrev pub IsTurn : List Node → List Node → List Link → List ℕ → ℕ → Position → List Difference → List Difference → Option Position → Type 0
IsTurn pool ns ls numbers before p old new None = AreFound pool ns ls numbers before (one_at pool numbers p) (other_at pool numbers p) old new
IsTurn pool ns ls numbers before p old new (Some next) = IsNext pool ns ls numbers before p old new next

-- ---- the parts of two nodes with equal head symbols

-- two nodes may be at a position under quantifiers of these variables, connected by edges before this one
pub record AreLinked (pool ns : List Node) (ls : List Link) (numbers : List ℕ) (before : ℕ) (bound : List ℕ) (i j : ℕ) : Type 0 where
  pub one : CanStand pool ns numbers i
  pub other : CanStand pool ns numbers j
  pub one_fits : FitsUnder ns bound i
  pub other_fits : FitsUnder ns bound j
  pub linked : Linked (take before ls) i j

pub record AreOne (pool ns : List Node) (ls : List Link) (numbers : List ℕ) (before : ℕ) (p : Position) (head : One) (a x : ℕ) : Type 0 where
  pub at : IsPosition pool ns numbers p
  pub one : IsMade pool (number_at numbers p.one) (OneNode head (number_at numbers a))
  pub other : IsMade pool (number_at numbers p.other) (OneNode head (number_at numbers x))
  pub part : AreLinked pool ns ls numbers before (bound_on p.way.items) a x

pub record AreTwo (pool ns : List Node) (ls : List Link) (numbers : List ℕ) (before : ℕ) (p : Position) (head : Two) (ps xs : ℕ × ℕ) : Type 0 where
  pub at : IsPosition pool ns numbers p
  pub one : IsMade pool (number_at numbers p.one) (TwoNode head (number_at numbers ps.0) (number_at numbers ps.1))
  pub other : IsMade pool (number_at numbers p.other) (TwoNode head (number_at numbers xs.0) (number_at numbers xs.1))
  pub first : AreLinked pool ns ls numbers before (bound_in head (bound_on p.way.items)) ps.0 xs.0
  pub second : AreLinked pool ns ls numbers before (bound_in head (bound_on p.way.items)) ps.1 xs.1

pub record AreThree (pool ns : List Node) (ls : List Link) (numbers : List ℕ) (before : ℕ) (p : Position) (head : Three) (ps xs : ℕ × ℕ × ℕ) : Type 0 where
  pub at : IsPosition pool ns numbers p
  pub one : IsMade pool (number_at numbers p.one) (ThreeNode head (number_at numbers ps.0) (number_at numbers ps.1) (number_at numbers ps.2))
  pub other : IsMade pool (number_at numbers p.other) (ThreeNode head (number_at numbers xs.0) (number_at numbers xs.1) (number_at numbers xs.2))
  pub first : AreLinked pool ns ls numbers before (bound_on p.way.items) ps.0 xs.0
  pub second : AreLinked pool ns ls numbers before (bound_on p.way.items) ps.1 xs.1
  pub third : AreLinked pool ns ls numbers before (bound_on p.way.items) ps.2 xs.2

-- the position below one more head symbol
pub record IsStepTo (way : List Frame) (f : Frame) (one other : ℕ) (p : Position) : Type 0 where
  pub way_is : p.way.items ≡ way ++ f ∷ []
  pub one_is : p.one ≡ one
  pub other_is : p.other ≡ other

-- the difference at the position is added at the end, with its route
pub record IsPushed (ls : List Link) (before : ℕ) (p : Position) (old new : List Difference) : Type 0 where
  pub difference : Difference
  pub is : new ≡ old ++ difference ∷ []
  pub way : difference.way.items ≡ p.way.items
  pub from : difference.from ≡ p.one
  pub to : difference.to ≡ p.other
  pub path : IsPath ls before difference.from difference.route.items difference.to

-- ---- two nodes

-- the arity of a node
abbrev pub arity : Node → ℕ
arity (LeafNode h) = 0
arity (OneNode h a) = 1
arity (TwoNode h a b) = 2
arity (ThreeNode h a b c) = 3

-- the node has one part, two or three
pub record HasOne (n : Node) (x : ℕ) : Type 0 where
  pub head : One
  pub is : n ≡ OneNode head x

pub record HasTwo (n : Node) (xs : ℕ × ℕ) : Type 0 where
  pub head : Two
  pub is : n ≡ TwoNode head xs.0 xs.1

pub record HasThree (n : Node) (xs : ℕ × ℕ × ℕ) : Type 0 where
  pub head : Three
  pub is : n ≡ ThreeNode head xs.0 xs.1 xs.2

abbrev pub IsPair : Node → Node → Pair → Type 0
IsPair one other (PairOne h a x) = (one ≡ OneNode h a) × HasOne other x
IsPair one other (PairTwo h ps xs) = (one ≡ TwoNode h ps.0 ps.1) × HasTwo other xs
IsPair one other (PairThree h ps xs) = (one ≡ ThreeNode h ps.0 ps.1 ps.2) × HasThree other xs
IsPair one other Unlike = arity one ≡ arity other → arity one ≡ 0
