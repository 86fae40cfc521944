-- The terms of a pool as sums.
use Rattle.std.specs.Prelude.{◌≡◌, ℕ, ◌<◌, ℤ, Bool, true, false, List, Option, Some, None, slice_index}
use Rattle.fol.specs.declared.operators.Constant.TheVariants.{Num}
use Rattle.fol.specs.declared.operators.Binary.TheVariants.{Add, Mul, Sub}
use Rattle.fol.specs.FormulaData.{TermData, VarTerm, NumTerm, AddTerm, SubTerm, MulTerm}
use Rattle.certificates.specs.Linear.{numeral_of}
use Rattle.certificates.specs.Rows.{over}
use Rattle.term_pool.specs.Items.{term_in}
use Rattle.term_pool.specs.Pools.{item_at}
use Rattle.term_pool.specs.declared.node.Leaf.{Leaf}
use Rattle.term_pool.specs.declared.node.Leaf.TheVariants.{Constant}
use Rattle.term_pool.specs.declared.node.Two.TheVariants.{Binary}
use Rattle.term_pool.specs.declared.node.Node.{Node}
use Rattle.term_pool.specs.declared.node.Node.TheVariants.{Leaf as LeafNode, Two as TwoNode}
use Rattle.tableau.specs.Marks.{IsUnder}
use Rattle.tableau.specs.PoolBranches.{IsTermNumber}
use Rattle.row_reasoning.specs.declared.shape.Shape.{Shape}
use Rattle.row_reasoning.specs.declared.shape.Shape.TheVariants.{Numeral, Joined, Multiple, Unknown}

-- the term with this number
abbrev pub term_at : List Node → ℕ → TermData
term_at ns n = term_in (item_at ns n)

-- ---- forms of terms

-- the number of a term that occurs in it, outside quantifiers
pub record IsTermPart (ns : List Node) (n a : ℕ) : Type 0 where
  pub earlier : a < n
  pub term : IsTermNumber ns a
  pub under : IsUnder ns n a

-- the sum or the difference
abbrev pub joined_terms : Bool → TermData → TermData → TermData
joined_terms false t u = AddTerm t u
joined_terms true t u = SubTerm t u

pub record IsOfTwo (ns : List Node) (n a b : ℕ) (is_difference : Bool) : Type 0 where
  pub is : term_at ns n ≡ joined_terms is_difference (term_at ns a) (term_at ns b)
  pub first : IsTermPart ns n a
  pub second : IsTermPart ns n b

-- the product of the numeral and the term, in either order
pub data IsTimes (c : ℤ) (t : TermData) : TermData → Type 0 where
  Before : IsTimes c t (MulTerm (NumTerm c) t)
  Behind : numeral_of t ≡ None → IsTimes c t (MulTerm t (NumTerm c))

pub record IsMultipleOf (ns : List Node) (n : ℕ) (c : ℤ) (a : ℕ) : Type 0 where
  pub is : IsTimes c (term_at ns a) (term_at ns n)
  pub part : IsTermPart ns n a

-- over classes the term is the variable of its own class
pub record IsUnknown (t : TermData) : Type 0 where
  pub is : (class : TermData → ℕ) → over class t ≡ VarTerm (class t)

abbrev pub IsShape : List Node → ℕ → Shape → Type 0
IsShape ns n (Numeral i) = term_at ns n ≡ NumTerm i
IsShape ns n (Joined a b is_difference) = IsOfTwo ns n a b is_difference
IsShape ns n (Multiple c a) = IsMultipleOf ns n c a
IsShape ns n Unknown = IsUnknown (term_at ns n)

-- ---- by nodes

abbrev pub numeral_in_leaf : Leaf → Option ℤ
numeral_in_leaf (Constant (Num i)) = Some i
numeral_in_leaf _ = None

abbrev pub numeral_in : Node → Option ℤ
numeral_in (LeafNode h) = numeral_in_leaf h
numeral_in _ = None

abbrev pub leaf_shape : Option ℤ → Shape
leaf_shape (Some i) = Numeral i
leaf_shape None = Unknown

abbrev pub product_shape : Option ℤ → Option ℤ → ℕ → ℕ → Shape
product_shape (Some c) right a b = Multiple c b
product_shape None (Some c) a b = Multiple c a
product_shape None None a b = Unknown

abbrev pub shape_in : List Node → Node → Shape
shape_in ns (LeafNode h) = leaf_shape (numeral_in_leaf h)
shape_in ns (TwoNode (Binary Add) a b) = Joined a b false
shape_in ns (TwoNode (Binary Sub) a b) = Joined a b true
shape_in ns (TwoNode (Binary Mul) a b) = product_shape (numeral_of (term_at ns a)) (numeral_of (term_at ns b)) a b
shape_in ns _ = Unknown

-- ---- representatives

-- each term that occurs in the one with this number, outside quantifiers, has the representative of its class
pub record IsNamedUnder (ns : List Node) (top : ℕ) (class : TermData → ℕ) (names : List ℕ) : Type 0 where
  pub named : (n : ℕ) → IsUnder ns top n → IsTermNumber ns n → slice_index names n ≡ class (term_at ns n)
