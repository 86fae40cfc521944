-- The number of a pool for which each node was made.
use Rattle.std.specs.Prelude.{◌≡◌, ◌⊎◌, ℕ, ◌<◌, ◌≤◌, List, ◌++◌, length, slice_get, slice_index_or, Option, Some}
use Rattle.fol.specs.declared.operators.Comparison.TheVariants.{Eq}
use Rattle.term_pool.specs.Pools.{IsMade, Extends}
use Rattle.term_pool.specs.declared.node.Leaf.TheVariants.{Var, TypeParam}
use Rattle.term_pool.specs.declared.node.One.TheVariants.{Not}
use Rattle.term_pool.specs.declared.node.Two.TheVariants.{Compare}
use Rattle.term_pool.specs.declared.node.Node.{Node}
use Rattle.term_pool.specs.declared.node.Node.TheVariants.{Leaf as LeafNode, One as OneNode, Two as TwoNode, Three as ThreeNode}
use Rattle.congruence_closure.specs.Congruence.{IsWithin}
use Rattle.congruence_closure.specs.States.{IsPart}
use Rattle.congruence_closure.specs.declared.classes.link.Equation.{Equation}

-- the number that a node has in the pool
abbrev pub number_at : List ℕ → ℕ → ℕ
number_at numbers node = slice_index_or numbers node 0

-- the node with the numbers of its parts
abbrev pub renumbered : List ℕ → Node → Node
renumbered numbers (LeafNode h) = LeafNode h
renumbered numbers (OneNode h a) = OneNode h (number_at numbers a)
renumbered numbers (TwoNode h a b) = TwoNode h (number_at numbers a) (number_at numbers b)
renumbered numbers (ThreeNode h a b c) = ThreeNode h (number_at numbers a) (number_at numbers b) (number_at numbers c)

-- a type parameter node has the number of the type parameter
pub record IsReal (pool ns : List Node) (numbers : List ℕ) (i : ℕ) : Type 0 where
  pub made : (n : ℕ) → slice_get ns i ≡ Some (LeafNode (TypeParam n)) → IsMade pool (number_at numbers i) (LeafNode (TypeParam n))

-- a node has the number of the item of its parts; and a bound variable, which is the negation of a type parameter,
-- that of the variable, whatever number the parameter has
pub data IsNumbered (pool ns : List Node) (numbers : List ℕ) (i : ℕ) : Type 0 where
  ByParts : (n : Node) → slice_get ns i ≡ Some n → IsMade pool (number_at numbers i) (renumbered numbers n) → ((p : ℕ) → IsPart p n → IsReal pool ns numbers p) → IsNumbered pool ns numbers i
  Bound : (a n : ℕ) → slice_get ns i ≡ Some (OneNode Not a) → slice_get ns a ≡ Some (LeafNode (TypeParam n)) → IsMade pool (number_at numbers i) (LeafNode (Var n)) → IsNumbered pool ns numbers i
  Parameter : (n : ℕ) → slice_get ns i ≡ Some (LeafNode (TypeParam n)) → IsNumbered pool ns numbers i

-- each node has a number of the pool
pub record AreNumbered (pool ns : List Node) (numbers : List ℕ) : Type 0 where
  pub long : length numbers ≡ length ns
  pub parts : (i : ℕ) (n : Node) → slice_get ns i ≡ Some n → IsWithin (length ns) n
  pub inside : (i : ℕ) → i < length ns → number_at numbers i < length pool
  pub numbered : (i : ℕ) → i < length ns → IsNumbered pool ns numbers i

-- the node was made for this number
pub record IsMadeFor (pool ns : List Node) (numbers : List ℕ) (number node : ℕ) : Type 0 where
  pub within : node < length ns
  pub is : number_at numbers node ≡ number
  pub real : IsReal pool ns numbers node

-- each known node was made for its number
pub record AreMadeFor (pool ns : List Node) (numbers : List ℕ) (known : ℕ → Option ℕ) : Type 0 where
  pub each : (number node : ℕ) → known number ≡ Some node → IsMadeFor pool ns numbers number node

-- the number is this one, or occurs in a part of it
pub data StandsIn (pool : List Node) (number : ℕ) : ℕ → Type 0 where
  Itself : StandsIn pool number number
  InPart : (whole part : ℕ) (n : Node) → IsMade pool whole n → IsPart part n → StandsIn pool number part → StandsIn pool number whole

-- ---- the walk

-- nodes were added for items that occur in the whole
pub record AreMoreIn (pool : List Node) (whole : ℕ) (ns ns2 : List Node) (numbers numbers2 : List ℕ) : Type 0 where
  pub numbered : AreNumbered pool ns2 numbers2
  pub nodes : Extends ns ns2
  pub more : List ℕ
  pub is : numbers2 ≡ numbers ++ more
  pub each : (i : ℕ) → length ns ≤ i → i < length ns2 → StandsIn pool (number_at numbers2 i) whole

-- one of them was made for the whole
pub record IsNewFor (pool : List Node) (whole : ℕ) (ns ns2 : List Node) (numbers numbers2 : List ℕ) (node : ℕ) : Type 0 where
  pub more : AreMoreIn pool whole ns ns2 numbers numbers2
  pub made : IsMadeFor pool ns2 numbers2 whole node

-- the known nodes were made for their numbers
pub record AreKnownFor (pool : List Node) (whole : ℕ) (ns ns2 : List Node) (numbers numbers2 : List ℕ) (known : ℕ → Option ℕ) : Type 0 where
  pub more : AreMoreIn pool whole ns ns2 numbers numbers2
  pub all_made : AreMadeFor pool ns2 numbers2 known

pub record IsKnownFor (pool : List Node) (whole : ℕ) (ns ns2 : List Node) (numbers numbers2 : List ℕ) (known : ℕ → Option ℕ) (node : ℕ) : Type 0 where
  pub grown : AreKnownFor pool whole ns ns2 numbers numbers2 known
  pub made : IsMadeFor pool ns2 numbers2 whole node

-- ---- equations

-- the number is that of the equation between the numbers for which the sides were made
pub record AreSidesOf (pool ns : List Node) (numbers : List ℕ) (number : ℕ) (e : Equation) : Type 0 where
  pub left : ℕ
  pub right : ℕ
  pub made : IsMade pool number (TwoNode (Compare Eq) left right)
  pub left_made : IsMadeFor pool ns numbers left e.left
  pub right_made : IsMadeFor pool ns numbers right e.right

-- the only equation added is one of this number
pub record ArePutIn (pool ns : List Node) (numbers : List ℕ) (number : ℕ) (es es2 : List Equation) : Type 0 where
  pub each : (k : ℕ) (e : Equation) → slice_get es2 k ≡ Some e → (slice_get es k ≡ Some e) ⊎ AreSidesOf pool ns numbers number e
