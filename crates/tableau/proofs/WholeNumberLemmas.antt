-- The nodes of formulas stating that a term is a whole number.
use Rattle.std.proofs.Common.{◌≡◌, ℕ, ◌<◌, List, length, Some, None, true, false, sym, ap, ◌∙◌, subst, arith}
use Rattle.base.specs.TypeData.{NumType}
use Rattle.fol.specs.FormulaData.{TermData, FormulaData, IsFormula}
use Rattle.term_pool.specs.Items.{TermItem, TypeItem, FormulaItem, type_in, formula_in}
use Rattle.term_pool.specs.Pools.{item_at, IsMade}
use Rattle.term_pool.specs.declared.node.Leaf.TheVariants.{TypeNum}
use Rattle.term_pool.specs.declared.node.Two.TheVariants.{Is}
use Rattle.term_pool.specs.declared.node.Node.{Node}
use Rattle.term_pool.specs.declared.node.Node.TheVariants.{Leaf as LeafNode, One as OneNode, Two as TwoNode, Three as ThreeNode}
use Rattle.term_pool.proofs.ShapeLemmas.{a_formula, LeafShape, TwoShape, shape_of}
use Rattle.tableau.specs.PoolBranches.{IsFormulaNumber}
use Rattle.tableau.specs.Numbers.{formula_at}
use Rattle.tableau.specs.Terms.{term_at}
use Rattle.tableau.specs.WholeNumbers.{is_num_node, typed_parts, IsNumberSaid}
use Rattle.tableau.proofs.NearLemmas.{node_shape, made_shape}

-- the shape of the node of this formula
formula_shape : (ns : List Node) (n : ℕ) (node : Node) (p : FormulaData) → IsMade ns n node → IsFormulaNumber ns n → formula_at ns n ≡ p → shape_of (FormulaItem p) ≡ node_shape ns node
formula_shape ns n node p made number e = ap (λ q. shape_of (FormulaItem q)) (sym e) ∙ ap shape_of (a_formula (item_at ns n) number.sort) ∙ made_shape ns n node made

-- ---- whole numbers

num_leaf : (node : Node) → (ns : List Node) → LeafShape TypeNum ≡ node_shape ns node → is_num_node node ≡ true
num_leaf (LeafNode h) ns e = let head : TypeNum ≡ h = cc in ap (λ k. is_num_node (LeafNode k)) (sym head)
num_leaf (OneNode h a) ns e = absurd (cc)
num_leaf (TwoNode h a b) ns e = absurd (cc)
num_leaf (ThreeNode h a b c) ns e = absurd (cc)

pub num_node : (ns : List Node) (n : ℕ) (node : Node) → IsMade ns n node → item_at ns n ≡ TypeItem NumType → is_num_node node ≡ true
num_node ns n node made e = num_leaf node ns (sym (ap shape_of e) ∙ made_shape ns n node made)

num_item : (ns : List Node) (n : ℕ) (node : Node) → IsMade ns n node → is_num_node node ≡ true → item_at ns n ≡ TypeItem NumType
num_item ns n (LeafNode TypeNum) made e = made.item
num_item ns n (LeafNode _) made e = absurd (cc)
num_item ns n (OneNode h a) made e = absurd (cc)
num_item ns n (TwoNode h a b) made e = absurd (cc)
num_item ns n (ThreeNode h a b c) made e = absurd (cc)

record IsTypedNode (ns : List Node) (node : Node) (t : TermData) : Type 0 where
  of : ℕ
  term : ℕ
  parts : typed_parts node ≡ Some (of, term)
  is_num : item_at ns of ≡ TypeItem NumType

typed_node : (ns : List Node) (node : Node) (t : TermData) → TwoShape Is (TypeItem NumType) (TermItem t) ≡ node_shape ns node → IsTypedNode ns node t
typed_node ns (LeafNode h) t e = absurd (cc)
typed_node ns (OneNode h a) t e = absurd (cc)
typed_node ns (TwoNode h a b) t e =
    let head : Is ≡ h = cc in
    let item : TypeItem NumType ≡ item_at ns a = cc in
    record { of = a; term = b; parts = ap (λ k. typed_parts (TwoNode k a b)) (sym head); is_num = sym item }
typed_node ns (ThreeNode h a b c) t e = absurd (cc)

pub not_typed : (ns : List Node) (n : ℕ) (node : Node) → IsMade ns n node → IsFormulaNumber ns n → typed_parts node ≡ None → (t : TermData) → formula_at ns n ≡ IsFormula NumType t → ⊥
not_typed ns n node made number none t e =
    let h = typed_node ns node t (formula_shape ns n node (IsFormula NumType t) made number e) in
    let parts : ℕ × ℕ = (h.of, h.term) in
    let never : None ≡ Some parts = sym none ∙ h.parts in
    cc

pub not_num : (ns : List Node) (n : ℕ) (node : Node) (parts : ℕ × ℕ) (of : Node) → IsMade ns n node → IsFormulaNumber ns n → typed_parts node ≡ Some parts → IsMade ns parts.0 of → is_num_node of ≡ false → (t : TermData) → formula_at ns n ≡ IsFormula NumType t → ⊥
not_num ns n node parts of made number some type wrong t e =
    let h = typed_node ns node t (formula_shape ns n node (IsFormula NumType t) made number e) in
    let both : Some parts ≡ Some (h.of, h.term) = sym some ∙ h.parts in
    let same : parts ≡ (h.of, h.term) = cc in
    let item : item_at ns parts.0 ≡ TypeItem NumType = ap (λ (p : ℕ × ℕ). item_at ns p.0) same ∙ h.is_num in
    let right : is_num_node of ≡ true = num_node ns parts.0 of type item in
    let never : true ≡ false = sym right ∙ wrong in
    cc

pub is_said : (ns : List Node) (n : ℕ) (node : Node) (parts : ℕ × ℕ) (of : Node) → IsMade ns n node → IsFormulaNumber ns n → typed_parts node ≡ Some parts → IsMade ns parts.0 of → is_num_node of ≡ true → IsNumberSaid ns n parts.1
is_said ns n (TwoNode Is a x) parts of made number some type right =
    let same : (a, x) ≡ parts = cc in
    let num : item_at ns a ≡ TypeItem NumType = subst (λ (p : ℕ × ℕ). item_at ns p.0 ≡ TypeItem NumType) (sym same) (num_item ns parts.0 of type right) in
    let earlier = made.parts.1.earlier in
    let w = number.within in
    subst (λ (p : ℕ × ℕ). IsNumberSaid ns n p.1) same (record { number = record { within = omega (arith, earlier, w); sort = made.parts.1.sort }; is = ap formula_in made.item ∙ ap (λ y. IsFormula (type_in y) (term_at ns x)) num })
is_said ns n (TwoNode _ a x) parts of made number some type right = absurd (cc)
is_said ns n (LeafNode h) parts of made number some type right = absurd (cc)
is_said ns n (OneNode h a) parts of made number some type right = absurd (cc)
is_said ns n (ThreeNode h a b c) parts of made number some type right = absurd (cc)

pub typed_within : (ns : List Node) (n : ℕ) (node : Node) (parts : ℕ × ℕ) → IsMade ns n node → n < length ns → typed_parts node ≡ Some parts → parts.0 < length ns
typed_within ns n (TwoNode Is a x) parts made w e = let same : (a, x) ≡ parts = cc in let is : a ≡ parts.0 = ap (λ (p : ℕ × ℕ). p.0) same in let l = made.parts.0.earlier in omega (arith, is, l, w)
typed_within ns n (TwoNode _ a x) parts made w e = absurd (cc)
typed_within ns n (LeafNode h) parts made w e = absurd (cc)
typed_within ns n (OneNode h a) parts made w e = absurd (cc)
typed_within ns n (ThreeNode h a b c) parts made w e = absurd (cc)
