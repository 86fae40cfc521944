-- Nodes of terms as sums.
use Rattle.std.proofs.Common.{◌≡◌, inl, inr, ℕ, ◌≤◌, ℤ, Bool, true, false, List, length, Option, Some, None, refl, sym, ap, ◌∙◌, subst, arith}
use Rattle.std.proofs.lemmas.Option.{slice_get_within}
use Rattle.fol.specs.declared.operators.Binary.{Binary as BinaryOperator}
use Rattle.fol.specs.declared.operators.Binary.TheVariants.{Add, Mul, Sub}
use Rattle.fol.specs.declared.operators.Constant.TheVariants.{Num}
use Rattle.fol.specs.FormulaData.{TermData, VarTerm, NumTerm, MulTerm, BinaryTerm, ConstantTerm}
use Rattle.certificates.specs.Linear.{numeral_of}
use Rattle.certificates.specs.Rows.{over, product_over}
use Rattle.term_pool.specs.Items.{Item, NoItem, term_in, leaf_item, one_item, two_item, three_item}
use Rattle.term_pool.specs.Pools.{item_at, item_of, items, IsMade}
use Rattle.term_pool.specs.declared.node.Leaf.{Leaf}
use Rattle.term_pool.specs.declared.node.Leaf.TheVariants.{Constant}
use Rattle.term_pool.specs.declared.node.One.{One}
use Rattle.term_pool.specs.declared.node.One.TheVariants.{Holds}
use Rattle.term_pool.specs.declared.node.Two.{Two}
use Rattle.term_pool.specs.declared.node.Two.TheVariants.{Binary, Pack}
use Rattle.term_pool.specs.declared.node.Three.{Three}
use Rattle.term_pool.specs.declared.node.Three.TheVariants.{TypeStruct}
use Rattle.term_pool.specs.declared.node.Node.{Node}
use Rattle.term_pool.specs.declared.node.Node.TheVariants.{Leaf as LeafNode, One as OneNode, Two as TwoNode, Three as ThreeNode}
use Rattle.term_pool.proofs.ItemLemmas.{item_past}
use Rattle.tableau.specs.Marks.{Itself, Below}
use Rattle.row_reasoning.specs.Shapes.{term_at, IsTermPart, joined_terms, IsOfTwo, IsTimes, Before, Behind, IsUnknown, IsShape, numeral_in_leaf, numeral_in, leaf_shape, product_shape, shape_in}

-- ---- numerals

leaf_numeral : (h : Leaf) → numeral_of (term_in (leaf_item h)) ≡ numeral_in_leaf h
leaf_numeral (Constant (Num i)) = refl
leaf_numeral h = refl

one_numeral : (h : One) (x : Item) → numeral_of (term_in (one_item h x)) ≡ None
one_numeral Holds x = refl
one_numeral h x = refl

two_numeral : (h : Two) (x y : Item) → numeral_of (term_in (two_item h x y)) ≡ None
two_numeral Pack x y = refl
two_numeral h x y = refl

three_numeral : (h : Three) (x y z : Item) → numeral_of (term_in (three_item h x y z)) ≡ None
three_numeral (TypeStruct a) x y z = refl
three_numeral h x y z = refl

node_numeral : (xs : List Item) (node : Node) → numeral_of (term_in (item_of xs node)) ≡ numeral_in node
node_numeral xs (LeafNode h) = leaf_numeral h
node_numeral xs (OneNode h a) = one_numeral h _
node_numeral xs (TwoNode h a b) = two_numeral h _ _
node_numeral xs (ThreeNode h a b c) = three_numeral h _ _ _

pub numeral_made : (ns : List Node) (n : ℕ) (node : Node) → IsMade ns n node → numeral_in node ≡ numeral_of (term_at ns n)
numeral_made ns n node made = sym (ap (λ x. numeral_of (term_in x)) made.item ∙ node_numeral (items ns) node)

pub numeral_past : (ns : List Node) (n : ℕ) → length ns ≤ n → None ≡ numeral_of (term_at ns n)
numeral_past ns n h = sym (ap (λ x. numeral_of (term_in x)) (item_past ns n h))

is_numeral : (t : TermData) (i : ℤ) → numeral_of t ≡ Some i → t ≡ NumTerm i
is_numeral (ConstantTerm (Num j)) i e = (let same : j ≡ i = cc in ap NumTerm same)
is_numeral t i e = absurd (cc)

-- ---- shapes

unknown_one : (h : One) (x : Item) → IsUnknown (term_in (one_item h x))
unknown_one Holds x = record { is = λ class. refl }
unknown_one h x = record { is = λ class. refl }

unknown_three : (h : Three) (x y z : Item) → IsUnknown (term_in (three_item h x y z))
unknown_three (TypeStruct a) x y z = record { is = λ class. refl }
unknown_three h x y z = record { is = λ class. refl }

unknown_at : (ns : List Node) (n : ℕ) (x : Item) → item_at ns n ≡ x → IsUnknown (term_in x) → IsUnknown (term_at ns n)
unknown_at ns n x e h = subst (λ y. IsUnknown (term_in y)) (sym e) h

pub shape_past : (ns : List Node) (n : ℕ) → length ns ≤ n → IsUnknown (term_at ns n)
shape_past ns n h = unknown_at ns n NoItem (item_past ns n h) (record { is = λ class. refl })

leaf_is : (ns : List Node) (n : ℕ) (h : Leaf) → item_at ns n ≡ leaf_item h → IsShape ns n (leaf_shape (numeral_in_leaf h))
leaf_is ns n (Constant (Num i)) e = ap term_in e
leaf_is ns n h e = unknown_at ns n (leaf_item h) e (record { is = λ class. refl })

module _ (ns : List Node) (n a b : ℕ) (o : BinaryOperator) (made : IsMade ns n (TwoNode (Binary o) a b)) where
  first_part : IsTermPart ns n a
  first_part = record {
    earlier = made.parts.0.earlier;
    term = record { within = (let inside = slice_get_within ns n (TwoNode (Binary o) a b) made.found in omega (arith, inside, made.parts.0.earlier)); sort = made.parts.0.sort };
    under = Below n (TwoNode (Binary o) a b) a Itself made (inl refl);
  }

  second_part : IsTermPart ns n b
  second_part = record {
    earlier = made.parts.1.earlier;
    term = record { within = (let inside = slice_get_within ns n (TwoNode (Binary o) a b) made.found in omega (arith, inside, made.parts.1.earlier)); sort = made.parts.1.sort };
    under = Below n (TwoNode (Binary o) a b) b Itself made (inr (inl refl));
  }

  is_binary : term_at ns n ≡ BinaryTerm o (term_at ns a) (term_at ns b)
  is_binary = ap term_in made.item

  of_two : (d : Bool) → BinaryTerm o (term_at ns a) (term_at ns b) ≡ joined_terms d (term_at ns a) (term_at ns b) → IsOfTwo ns n a b d
  of_two d e = record { is = is_binary ∙ e; first = first_part; second = second_part }

unknown_product : (class : TermData → ℕ) (t u : TermData) → numeral_of t ≡ None → numeral_of u ≡ None → over class (MulTerm t u) ≡ VarTerm (class (MulTerm t u))
unknown_product class t u e f = λ i. product_over (e i) (f i) (MulTerm (over class t) (over class u)) (VarTerm (class (MulTerm t u)))

product_is : (ns : List Node) (n a b : ℕ) → IsMade ns n (TwoNode (Binary Mul) a b) → (l r : Option ℤ) → numeral_of (term_at ns a) ≡ l → numeral_of (term_at ns b) ≡ r → IsShape ns n (product_shape l r a b)
product_is ns n a b made (Some c) r e f = record {
  is = subst (IsTimes c (term_at ns b)) (sym (is_binary ns n a b Mul made ∙ ap (λ t. MulTerm t (term_at ns b)) (is_numeral (term_at ns a) c e))) Before;
  part = second_part ns n a b Mul made;
}
product_is ns n a b made None (Some c) e f = record {
  is = subst (IsTimes c (term_at ns a)) (sym (is_binary ns n a b Mul made ∙ ap (λ t. MulTerm (term_at ns a) t) (is_numeral (term_at ns b) c f))) (Behind e);
  part = first_part ns n a b Mul made;
}
product_is ns n a b made None None e f = subst IsUnknown (sym (is_binary ns n a b Mul made)) (record { is = λ class. unknown_product class (term_at ns a) (term_at ns b) e f })

binary_is : (ns : List Node) (n a b : ℕ) (o : BinaryOperator) → IsMade ns n (TwoNode (Binary o) a b) → IsShape ns n (shape_in ns (TwoNode (Binary o) a b))
binary_is ns n a b Add made = of_two ns n a b Add made false refl
binary_is ns n a b Sub made = of_two ns n a b Sub made true refl
binary_is ns n a b Mul made = product_is ns n a b made (numeral_of (term_at ns a)) (numeral_of (term_at ns b)) refl refl
binary_is ns n a b o made = unknown_at ns n _ made.item (record { is = λ class. refl })

two_is : (ns : List Node) (n a b : ℕ) (h : Two) → IsMade ns n (TwoNode h a b) → IsShape ns n (shape_in ns (TwoNode h a b))
two_is ns n a b (Binary o) made = binary_is ns n a b o made
two_is ns n a b h made = unknown_at ns n _ made.item (record { is = λ class. refl })

pub shape_made : (ns : List Node) (n : ℕ) (node : Node) → IsMade ns n node → IsShape ns n (shape_in ns node)
shape_made ns n (LeafNode h) made = leaf_is ns n h made.item
shape_made ns n (OneNode h a) made = unknown_at ns n _ made.item (unknown_one h _)
shape_made ns n (TwoNode h a b) made = two_is ns n a b h made
shape_made ns n (ThreeNode h a b c) made = unknown_at ns n _ made.item (unknown_three h _ _ _)
