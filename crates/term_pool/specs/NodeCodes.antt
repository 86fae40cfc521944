-- The codes of nodes as trees of numbers, which distinguish them.
use base.Stored.{Gv, gnil, gnum, gcons, num}
use Rattle.std.specs.Prelude.{◌≡◌, Bool, [], ◌∷◌, refl}
use Rattle.std.specs.Bool.{Decides}
use Rattle.std.proofs.Common.{ap, sym, ◌∙◌}
use Rattle.base.specs.Codes.{pick}
use Rattle.base.specs.TypeData.{width_back}
use Rattle.fol.specs.TreeOrder.{same_tree, same_tree-equal, same_tree_itself}
use Rattle.fol.specs.OperatorCodes.{head, tail, tree, width_number, width_back-number, constant_code, constant_back, constant_back-code, unary_code, unary_back, unary_back-code, binary_code, binary_back, binary_back-code, ternary_code, ternary_back, ternary_back-code, comparison_code, comparison_back, comparison_back-code, junction_code, junction_back, junction_back-code, connective_code, connective_back, connective_back-code, quantifier_code, quantifier_back, quantifier_back-code}
use Rattle.term_pool.specs.declared.node.Leaf.{Leaf}
use Rattle.term_pool.specs.declared.node.Leaf.TheVariants.{Var, Constant, TypeBool, TypeInt, TypeNum, TypeAddress, TypeSigner, TypeParam, NilTerms, NilTriggers, NilFormulas, NilTypes, NilBytes}
use Rattle.term_pool.specs.declared.node.One.{One}
use Rattle.term_pool.specs.declared.node.One.TheVariants.{Unary, Holds, Not, Join, TypeVector, TypeShared, TypeMutable, TypeTuple, ConsByte}
use Rattle.term_pool.specs.declared.node.Two.{Two}
use Rattle.term_pool.specs.declared.node.Two.TheVariants.{Binary, Pack, Field, Compare, Is, Connect, Quantify, ConsTerm, ConsTrigger, ConsFormula, ConsType}
use Rattle.term_pool.specs.declared.node.Three.{Three}
use Rattle.term_pool.specs.declared.node.Three.TheVariants.{Ternary, SetField, If, TypeStruct}
use Rattle.term_pool.specs.declared.node.Node.{Node}
use Rattle.term_pool.specs.declared.node.Node.TheVariants.{Leaf as LeafNode, One as OneNode, Two as TwoNode, Three as ThreeNode}

abbrev leaf_code : Leaf → Gv
leaf_code (Var n) = gcons (gnum 0) (gnum n)
leaf_code (Constant c) = gcons (gnum 1) (constant_code c)
leaf_code TypeBool = gcons (gnum 2) gnil
leaf_code (TypeInt w) = gcons (gnum 3) (gnum (width_number w))
leaf_code TypeNum = gcons (gnum 4) gnil
leaf_code TypeAddress = gcons (gnum 5) gnil
leaf_code TypeSigner = gcons (gnum 6) gnil
leaf_code (TypeParam n) = gcons (gnum 7) (gnum n)
leaf_code NilTerms = gcons (gnum 8) gnil
leaf_code NilTriggers = gcons (gnum 9) gnil
leaf_code NilFormulas = gcons (gnum 10) gnil
leaf_code NilTypes = gcons (gnum 11) gnil
leaf_code NilBytes = gcons (gnum 12) gnil

abbrev leaf_back : Gv → Leaf
leaf_back g =
    pick (num (head g)) TypeBool (Var (num (tail g)) ∷ Constant (constant_back (tail g)) ∷ TypeBool ∷ TypeInt (width_back (tail g)) ∷ TypeNum ∷ TypeAddress ∷ TypeSigner ∷ TypeParam (num (tail g)) ∷ NilTerms ∷ NilTriggers ∷ NilFormulas ∷ NilTypes ∷ NilBytes ∷ [])

leaf_back-code : (h : Leaf) → leaf_back (leaf_code h) ≡ h
leaf_back-code (Var n) = refl
leaf_back-code (Constant c) = ap Constant (constant_back-code c)
leaf_back-code TypeBool = refl
leaf_back-code (TypeInt w) = ap TypeInt (width_back-number w)
leaf_back-code TypeNum = refl
leaf_back-code TypeAddress = refl
leaf_back-code TypeSigner = refl
leaf_back-code (TypeParam n) = refl
leaf_back-code NilTerms = refl
leaf_back-code NilTriggers = refl
leaf_back-code NilFormulas = refl
leaf_back-code NilTypes = refl
leaf_back-code NilBytes = refl

abbrev one_code : One → Gv
one_code (Unary o) = gcons (gnum 0) (unary_code o)
one_code Holds = gcons (gnum 1) gnil
one_code Not = gcons (gnum 2) gnil
one_code (Join o) = gcons (gnum 3) (junction_code o)
one_code TypeVector = gcons (gnum 4) gnil
one_code TypeShared = gcons (gnum 5) gnil
one_code TypeMutable = gcons (gnum 6) gnil
one_code TypeTuple = gcons (gnum 7) gnil
one_code (ConsByte b) = gcons (gnum 8) (gnum b)

abbrev one_back : Gv → One
one_back g =
    pick (num (head g)) Not (Unary (unary_back (tail g)) ∷ Holds ∷ Not ∷ Join (junction_back (tail g)) ∷ TypeVector ∷ TypeShared ∷ TypeMutable ∷ TypeTuple ∷ ConsByte (num (tail g)) ∷ [])

one_back-code : (h : One) → one_back (one_code h) ≡ h
one_back-code (Unary o) = ap Unary (unary_back-code o)
one_back-code Holds = refl
one_back-code Not = refl
one_back-code (Join o) = ap Join (junction_back-code o)
one_back-code TypeVector = refl
one_back-code TypeShared = refl
one_back-code TypeMutable = refl
one_back-code TypeTuple = refl
one_back-code (ConsByte b) = refl

abbrev two_code : Two → Gv
two_code (Binary o) = gcons (gnum 0) (binary_code o)
two_code Pack = gcons (gnum 1) gnil
two_code (Field k) = gcons (gnum 2) (gnum k)
two_code (Compare o) = gcons (gnum 3) (comparison_code o)
two_code Is = gcons (gnum 4) gnil
two_code (Connect o) = gcons (gnum 5) (connective_code o)
two_code (Quantify o n) = gcons (gnum 6) (gcons (quantifier_code o) (gnum n))
two_code ConsTerm = gcons (gnum 7) gnil
two_code ConsTrigger = gcons (gnum 8) gnil
two_code ConsFormula = gcons (gnum 9) gnil
two_code ConsType = gcons (gnum 10) gnil

abbrev two_back : Gv → Two
two_back g =
    pick (num (head g)) Pack (Binary (binary_back (tail g)) ∷ Pack ∷ Field (num (tail g)) ∷ Compare (comparison_back (tail g)) ∷ Is ∷ Connect (connective_back (tail g)) ∷ Quantify (quantifier_back (head (tail g))) (num (tail (tail g))) ∷ ConsTerm ∷ ConsTrigger ∷ ConsFormula ∷ ConsType ∷ [])

two_back-code : (h : Two) → two_back (two_code h) ≡ h
two_back-code (Binary o) = ap Binary (binary_back-code o)
two_back-code Pack = refl
two_back-code (Field k) = refl
two_back-code (Compare o) = ap Compare (comparison_back-code o)
two_back-code Is = refl
two_back-code (Connect o) = ap Connect (connective_back-code o)
two_back-code (Quantify o n) = ap (λ p. Quantify p n) (quantifier_back-code o)
two_back-code ConsTerm = refl
two_back-code ConsTrigger = refl
two_back-code ConsFormula = refl
two_back-code ConsType = refl

abbrev three_code : Three → Gv
three_code (Ternary o) = gcons (gnum 0) (ternary_code o)
three_code (SetField k) = gcons (gnum 1) (gnum k)
three_code If = gcons (gnum 2) gnil
three_code (TypeStruct a) = gcons (gnum 3) (gnum a)

abbrev three_back : Gv → Three
three_back g = pick (num (head g)) If (Ternary (ternary_back (tail g)) ∷ SetField (num (tail g)) ∷ If ∷ TypeStruct (num (tail g)) ∷ [])

three_back-code : (h : Three) → three_back (three_code h) ≡ h
three_back-code (Ternary o) = ap Ternary (ternary_back-code o)
three_back-code (SetField k) = refl
three_back-code If = refl
three_back-code (TypeStruct a) = refl

abbrev node_code : Node → Gv
node_code (LeafNode h) = tree 0 (leaf_code h) gnil gnil
node_code (OneNode h a) = tree 1 (one_code h) (gnum a) gnil
node_code (TwoNode h a b) = tree 2 (two_code h) (gnum a) (gnum b)
node_code (ThreeNode h a b c) = tree 3 (three_code h) (gnum a) (gcons (gnum b) (gnum c))

abbrev node_back : Gv → Node
node_back g =
    pick (num (head g)) (LeafNode TypeBool) (LeafNode (leaf_back (head (tail g))) ∷ OneNode (one_back (head (tail g))) (num (head (tail (tail g)))) ∷ TwoNode (two_back (head (tail g))) (num (head (tail (tail g)))) (num (tail (tail (tail g)))) ∷ ThreeNode (three_back (head (tail g))) (num (head (tail (tail g)))) (num (head (tail (tail (tail g))))) (num (tail (tail (tail (tail g))))) ∷ [])

node_back-code : (n : Node) → node_back (node_code n) ≡ n
node_back-code (LeafNode h) = ap LeafNode (leaf_back-code h)
node_back-code (OneNode h a) = ap (λ k. OneNode k a) (one_back-code h)
node_back-code (TwoNode h a b) = ap (λ k. TwoNode k a b) (two_back-code h)
node_back-code (ThreeNode h a b c) = ap (λ k. ThreeNode k a b c) (three_back-code h)

-- whether two nodes are equal
abbrev pub same_node : Node → Node → Bool
same_node m n = same_tree (node_code m) (node_code n)

pub same_node_decides : (m n : Node) → Decides (same_node m n) (m ≡ n)
same_node_decides m n = (
  λ e. sym (node_back-code m) ∙ ap node_back (same_tree-equal (node_code m) (node_code n) e) ∙ node_back-code n,
  λ e. ap (λ k. same_tree (node_code m) (node_code k)) (sym e) ∙ same_tree_itself (node_code m),
)
