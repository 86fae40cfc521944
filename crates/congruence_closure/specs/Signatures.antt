-- Classes as a representative for each number, and the signature of a node: its head symbol and the classes of its
-- parts.
use Rattle.std.specs.Prelude.{◌≡◌, ℕ, zero, suc, ◌+◌, ◌<◌, ◌≤◌, List, get_or, cond, nat_eq}
use Rattle.term_pool.specs.declared.node.Node.{Node}
use Rattle.term_pool.specs.declared.node.Node.TheVariants.{Leaf as LeafNode, One as OneNode, Two as TwoNode, Three as ThreeNode}

-- the representative of a number, one of the numbers of its class; a number that is not in the list is alone
abbrev pub class_in : List ℕ → ℕ → ℕ
class_in cs i = get_or cs i i

abbrev pub signed : (ℕ → ℕ) → Node → Node
signed c (LeafNode h) = LeafNode h
signed c (OneNode h x) = OneNode h (c x)
signed c (TwoNode h x y) = TwoNode h (c x) (c y)
signed c (ThreeNode h x y z) = ThreeNode h (c x) (c y) (c z)

-- each representative is a number of its class
pub record AreNamed (count : ℕ) (c : ℕ → ℕ) : Type 0 where
  pub within : (i : ℕ) → i < count → c i < count
  pub named : (i : ℕ) → c (c i) ≡ c i
  pub beyond : (i : ℕ) → count ≤ i → c i ≡ i

-- the classes after one representative is replaced
abbrev pub renamed : ℕ → ℕ → ℕ → ℕ
renamed from to x = cond (nat_eq x from) to x

-- the number of classes among the first numbers
abbrev pub classes_among : ℕ → (ℕ → ℕ) → ℕ
classes_among zero c = 0
classes_among (suc n) c = cond (nat_eq (c n) n) 1 0 + classes_among n c
