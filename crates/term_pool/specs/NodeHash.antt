-- The input of a hasher for a node: a number of its head symbol, and its parts. Different nodes with the same parts
-- may have the same input.
use Rattle.std.specs.Prelude.{ℕ, ◌/◌, ℤ, pos, ◌++◌}
use Rattle.std.specs.Hash as fed
use Rattle.std.specs.Hash.{HashWrites}
use Rattle.fol.specs.declared.operators.Constant.TheVariants.{Num, Wide}
use Rattle.term_pool.specs.declared.node.Leaf.{Leaf}
use Rattle.term_pool.specs.declared.node.Leaf.TheVariants.{Var, Constant, TypeParam}
use Rattle.term_pool.specs.declared.node.One.TheVariants.{ConsByte}
use Rattle.term_pool.specs.declared.node.Two.TheVariants.{Field, Quantify}
use Rattle.term_pool.specs.declared.node.Three.TheVariants.{SetField, TypeStruct}
use Rattle.term_pool.specs.declared.node.Node.{Node}
use Rattle.term_pool.specs.declared.node.Node.TheVariants.{Leaf as LeafNode, One as OneNode, Two as TwoNode, Three as ThreeNode}

abbrev pub number_in_leaf : Leaf → ℤ
number_in_leaf (Var n) = pos n
number_in_leaf (Constant (Num i)) = i
number_in_leaf (Constant (Wide u)) = pos (u / 2)
number_in_leaf (TypeParam n) = pos n
number_in_leaf _ = pos 0

abbrev pub number_in : Node → ℤ
number_in (LeafNode h) = number_in_leaf h
number_in (OneNode (ConsByte b) a) = pos b
number_in (OneNode _ a) = pos 0
number_in (TwoNode (Field k) a b) = pos k
number_in (TwoNode (Quantify o n) a b) = pos n
number_in (TwoNode _ a b) = pos 0
number_in (ThreeNode (SetField k) a b c) = pos k
number_in (ThreeNode (TypeStruct address) a b c) = pos (address / 2)
number_in (ThreeNode _ a b c) = pos 0

abbrev pub first_in : Node → ℕ
first_in (LeafNode h) = 0
first_in (OneNode h a) = a
first_in (TwoNode h a b) = a
first_in (ThreeNode h a b c) = a

abbrev pub second_in : Node → ℕ
second_in (LeafNode h) = 0
second_in (OneNode h a) = 0
second_in (TwoNode h a b) = b
second_in (ThreeNode h a b c) = b

abbrev pub third_in : Node → ℕ
third_in (LeafNode h) = 0
third_in (OneNode h a) = 0
third_in (TwoNode h a b) = 0
third_in (ThreeNode h a b c) = c

abbrev pub hashed : Node → HashWrites
hashed n = fed.i128 (number_in n) ++ fed.usize (first_in n) ++ fed.usize (second_in n) ++ fed.usize (third_in n)
