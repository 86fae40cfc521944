-- Values of the numbers of a pool: an item gets one together with all items that occur in it outside quantifiers.
use Rattle.std.specs.Prelude.{◌≡◌, ◌⊎◌, ℕ, zero, suc, ◌+◌, ◌<◌, ◌≤◌, Bool, true, false, List, [], ◌∷◌, ◌++◌, length, slice_get, Option, Some, None, nat_le}
use Rattle.term_pool.specs.Pools.{IsMade}
use Rattle.term_pool.specs.declared.node.Two.TheVariants.{Pack, Field, Is, Quantify, ConsTrigger}
use Rattle.term_pool.specs.declared.node.Three.TheVariants.{SetField}
use Rattle.term_pool.specs.declared.node.Node.{Node}
use Rattle.term_pool.specs.declared.node.Node.TheVariants.{Leaf as LeafNode, One as OneNode, Two as TwoNode, Three as ThreeNode}
use Rattle.tableau.specs.Logs.{value_in, change_of}
use Rattle.tableau.specs.declared.log.Change.{Change}

-- ---- items that occur in an item

-- the parts of a node outside its quantifier, without types
abbrev pub outer_parts : Node → List ℕ
outer_parts (LeafNode h) = []
outer_parts (OneNode h a) = a ∷ []
outer_parts (TwoNode Pack a b) = b ∷ []
outer_parts (TwoNode (Field k) a b) = b ∷ []
outer_parts (TwoNode Is a b) = b ∷ []
outer_parts (TwoNode (Quantify o n) a b) = []
outer_parts (TwoNode ConsTrigger a b) = []
outer_parts (TwoNode h a b) = a ∷ b ∷ []
outer_parts (ThreeNode (SetField k) a b c) = b ∷ c ∷ []
outer_parts (ThreeNode h a b c) = a ∷ b ∷ c ∷ []

abbrev pub IsOneOf : ℕ → List ℕ → Type 0
IsOneOf n [] = ⊥
IsOneOf n (m ∷ ms) = (n ≡ m) ⊎ IsOneOf n ms

-- the item with the second number is the one with the first, or occurs in it outside quantifiers
pub data IsUnder (ns : List Node) (top : ℕ) : ℕ → Type 0 where
  Itself : IsUnder ns top top
  Below : (n : ℕ) (node : Node) (part : ℕ) → IsUnder ns top n → IsMade ns n node → IsOneOf part (outer_parts node) → IsUnder ns top part

-- ---- values

abbrev pub is_at_most : Option ℕ → ℕ → Bool
is_at_most None most = false
is_at_most (Some v) most = nat_le v most

-- the number has a value of at most this
abbrev pub HasAtMost : List Change → ℕ → ℕ → Type 0
HasAtMost cs n most = is_at_most (value_in cs n) most ≡ true

-- the number is that of a node
pub record IsNode (ns : List Node) (n : ℕ) : Type 0 where
  pub node : Node
  pub made : IsMade ns n node

-- only nodes have values, and the values of their outer parts are at most as great
pub record IsClosed (ns : List Node) (cs : List Change) : Type 0 where
  pub nodes : (n v : ℕ) → value_in cs n ≡ Some v → IsNode ns n
  pub parts : (n v : ℕ) (node : Node) (part : ℕ) → value_in cs n ≡ Some v → slice_get ns n ≡ Some node → IsOneOf part (outer_parts node) → HasAtMost cs part v

-- the first changes, and further ones
pub record IsLonger (cs ds : List Change) : Type 0 where
  pub more : List Change
  pub is : ds ≡ cs ++ more

-- each item under the top has the value, or had a smaller one, and no other value changed
pub record IsMarked (ns : List Node) (top value : ℕ) (cs ds : List Change) : Type 0 where
  pub longer : IsLonger cs ds
  pub closed : IsClosed ns ds
  pub marked : HasAtMost ds top value
  pub kept : (n most : ℕ) → HasAtMost cs n most → HasAtMost ds n most
  pub only : (n v : ℕ) → value_in ds n ≡ Some v → (value_in cs n ≡ Some v) ⊎ ((v ≡ value) × IsUnder ns top n)

-- ---- the walk that gives values

-- a number that has a value at most as great is skipped
pub record IsPassed (value n : ℕ) (cs : List Change) (ws : List ℕ) (ds : List Change) (us : List ℕ) : Type 0 where
  pub small : is_at_most (value_in cs n) value ≡ true
  pub same : ds ≡ cs
  pub waiting : us ≡ ws

-- a number gets the value; its outer parts are then waiting
pub record IsGiven (ns : List Node) (value n : ℕ) (cs : List Change) (ws : List ℕ) (ds : List Change) (us : List ℕ) : Type 0 where
  pub none : is_at_most (value_in cs n) value ≡ false
  pub node : Node
  pub made : IsMade ns n node
  pub is : ds ≡ cs ++ change_of cs n value ∷ []
  pub waiting : us ≡ ws ++ outer_parts node

abbrev pub IsTurn : List Node → ℕ → ℕ → List Change → List ℕ → List Change → List ℕ → Type 0
IsTurn ns value n cs ws ds us = IsPassed value n cs ws ds us ⊎ IsGiven ns value n cs ws ds us

-- the invariant of the walk: as in `IsMarked`, except for the waiting numbers
pub record IsWalk (ns : List Node) (top value : ℕ) (cs ds : List Change) (ws : List ℕ) : Type 0 where
  pub longer : IsLonger cs ds
  pub nodes : (n v : ℕ) → value_in ds n ≡ Some v → IsNode ns n
  pub parts : (n v : ℕ) (node : Node) (part : ℕ) → value_in ds n ≡ Some v → slice_get ns n ≡ Some node → IsOneOf part (outer_parts node) → HasAtMost ds part v ⊎ ((value ≤ v) × IsOneOf part ws)
  pub marked : HasAtMost ds top value ⊎ IsOneOf top ws
  pub kept : (n most : ℕ) → HasAtMost cs n most → HasAtMost ds n most
  pub only : (n v : ℕ) → value_in ds n ≡ Some v → (value_in cs n ≡ Some v) ⊎ ((v ≡ value) × IsUnder ns top n)
  pub under : (n : ℕ) → IsOneOf n ws → IsUnder ns top n
  pub within : (n : ℕ) → IsOneOf n ws → n < length ns

abbrev pub one_unless : Bool → ℕ
one_unless true = 0
one_unless false = 1

-- the count of the first numbers without a value at most as great
abbrev pub unmarked : List Change → ℕ → ℕ → ℕ
unmarked cs value zero = 0
unmarked cs value (suc n) = one_unless (is_at_most (value_in cs n) value) + unmarked cs value n
