-- The number above an item by those above its parts.
use Rattle.std.proofs.Common.{◌≡◌, ℕ, suc, max, refl, ap, ◌∙◌, arith}
use Rattle.term_pool.specs.Items.{Item, sort_of, leaf_item, one_item, two_item, three_item, one_part, first_of_two, second_of_two, first_of_three, second_of_three, third_of_three}
use Rattle.term_pool.specs.declared.node.Leaf.{Leaf}
use Rattle.term_pool.specs.declared.node.Leaf.TheVariants.{Var, Constant, TypeBool, TypeInt, TypeNum, TypeAddress, TypeSigner, TypeParam, NilTerms, NilTriggers, NilFormulas, NilTypes, NilBytes}
use Rattle.term_pool.specs.declared.node.One.{One}
use Rattle.term_pool.specs.declared.node.One.TheVariants.{Unary, Holds, Not, Join, TypeVector, TypeShared, TypeMutable, TypeTuple, ConsByte}
use Rattle.term_pool.specs.declared.node.Two.{Two}
use Rattle.term_pool.specs.declared.node.Two.TheVariants.{Binary, Pack, Field, Compare, Is, Connect, Quantify, ConsTerm, ConsTrigger, ConsFormula, ConsType}
use Rattle.term_pool.specs.declared.node.Three.{Three}
use Rattle.term_pool.specs.declared.node.Three.TheVariants.{Ternary, SetField, If, TypeStruct}
use Rattle.term_pool.specs.declared.node.Node.TheVariants.{Leaf as LeafNode, Two as TwoNode}
use Rattle.term_pool.proofs.ShapeLemmas.{a_term, a_list_of_terms, a_list_of_triggers, a_formula, a_list_of_formulas, a_type, a_list_of_types, bytes}
use Rattle.tableau.specs.Variables.{above_item, above_own}

pub leaf_above : (h : Leaf) → above_item (leaf_item h) ≡ above_own (LeafNode h)
leaf_above (Var n) = refl
leaf_above (Constant c) = refl
leaf_above TypeBool = refl
leaf_above (TypeInt w) = refl
leaf_above TypeNum = refl
leaf_above TypeAddress = refl
leaf_above TypeSigner = refl
leaf_above (TypeParam n) = refl
leaf_above NilTerms = refl
leaf_above NilTriggers = refl
leaf_above NilFormulas = refl
leaf_above NilTypes = refl
leaf_above NilBytes = refl

pub one_above : (h : One) (x : Item) → sort_of x ≡ one_part h → above_item (one_item h x) ≡ above_item x
one_above (Unary o) x e = ap above_item (a_term x e)
one_above Holds x e = ap above_item (a_term x e)
one_above Not x e = ap above_item (a_formula x e)
one_above (Join o) x e = ap above_item (a_list_of_formulas x e)
one_above TypeVector x e = ap above_item (a_type x e)
one_above TypeShared x e = ap above_item (a_type x e)
one_above TypeMutable x e = ap above_item (a_type x e)
one_above TypeTuple x e = ap above_item (a_list_of_types x e)
one_above (ConsByte b) x e = ap above_item (bytes x e)

-- the greater bound, together with that of the head symbol
beside : (n : ℕ) (x y u v : Item) → x ≡ u → y ≡ v → max n (max (above_item x) (above_item y)) ≡ max (max n (above_item u)) (above_item v)
beside n x y u v e f = (λ i. max n (max (above_item (e i)) (above_item (f i)))) ∙ omega arith

two_parts : (m n : ℕ) → max m n ≡ max 0 (max m n)
two_parts m n = omega arith

second_part : (n : ℕ) → n ≡ max 0 (max 0 n)
second_part n = omega arith

pub two_above : (h : Two) (a b : ℕ) (x y : Item) → sort_of x ≡ first_of_two h → sort_of y ≡ second_of_two h → above_item (two_item h x y) ≡ max (max (above_own (TwoNode h a b)) (above_item x)) (above_item y)
two_above (Binary o) a b x y e f = two_parts _ _ ∙ beside 0 _ _ x y (a_term x e) (a_term y f)
two_above Pack a b x y e f = second_part _ ∙ beside 0 _ _ x y (a_type x e) (a_list_of_terms y f)
two_above (Field k) a b x y e f = second_part _ ∙ beside 0 _ _ x y (a_type x e) (a_term y f)
two_above (Compare o) a b x y e f = two_parts _ _ ∙ beside 0 _ _ x y (a_term x e) (a_term y f)
two_above Is a b x y e f = second_part _ ∙ beside 0 _ _ x y (a_type x e) (a_term y f)
two_above (Connect o) a b x y e f = two_parts _ _ ∙ beside 0 _ _ x y (a_formula x e) (a_formula y f)
two_above (Quantify o n) a b x y e f = beside (suc n) _ _ x y (a_list_of_triggers x e) (a_formula y f)
two_above ConsTerm a b x y e f = two_parts _ _ ∙ beside 0 _ _ x y (a_term x e) (a_list_of_terms y f)
two_above ConsTrigger a b x y e f = two_parts _ _ ∙ beside 0 _ _ x y (a_list_of_terms x e) (a_list_of_triggers y f)
two_above ConsFormula a b x y e f = two_parts _ _ ∙ beside 0 _ _ x y (a_formula x e) (a_list_of_formulas y f)
two_above ConsType a b x y e f = second_part 0 ∙ beside 0 _ _ x y (a_type x e) (a_list_of_types y f)

over : (x y z u v w : Item) → x ≡ u → y ≡ v → z ≡ w → max (above_item x) (max (above_item y) (above_item z)) ≡ max (max (above_item u) (above_item v)) (above_item w)
over x y z u v w e f g = (λ i. max (above_item (e i)) (max (above_item (f i)) (above_item (g i)))) ∙ omega arith

pub three_above : (h : Three) (x y z : Item) → sort_of x ≡ first_of_three h → sort_of y ≡ second_of_three h → sort_of z ≡ third_of_three h → above_item (three_item h x y z) ≡ max (max (above_item x) (above_item y)) (above_item z)
three_above (Ternary o) x y z e f g = over _ _ _ x y z (a_term x e) (a_term y f) (a_term z g)
three_above (SetField k) x y z e f g = two_parts _ _ ∙ over _ _ _ x y z (a_type x e) (a_term y f) (a_term z g)
three_above If x y z e f g = over _ _ _ x y z (a_formula x e) (a_term y f) (a_term z g)
three_above (TypeStruct a) x y z e f g = second_part 0 ∙ over _ _ _ x y z (bytes x e) (bytes y f) (a_list_of_types z g)
