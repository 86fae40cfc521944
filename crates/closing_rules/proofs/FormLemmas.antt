-- Forms of formulas by their nodes.
use Rattle.std.proofs.Common.{◌≡◌, ◌↔◌, ℕ, ◌<◌, Bool, false, List, length, Some, None, refl, sym, ap, ◌∙◌, subst, arith}
use Rattle.std.specs.Prelude.{◌==◌, IsTrue}
use Rattle.std.proofs.lemmas.Bool.{eqb-true, eq-eqb}
use Rattle.std.proofs.lemmas.Option.{slice_get_within}
use Rattle.fol.specs.declared.operators.Comparison.TheVariants.{Eq}
use Rattle.fol.specs.declared.operators.Constant.TheVariants.{False}
use Rattle.fol.specs.declared.operators.Junction.{Junction}
use Rattle.fol.specs.declared.operators.Junction.TheVariants.{AllOf, AnyOf}
use Rattle.fol.specs.FormulaData.{TermData, ConstantTerm, FormulaData, EqFormula, HoldsFormula, NotFormula, JoinFormula, FormulasData, NoFormulas}
use Rattle.term_pool.specs.Items.{Item, TermItem, FormulaItem, FormulasItem, term_in, formula_in, formulas_in, leaf_item, one_item, two_item, three_item}
use Rattle.term_pool.specs.Pools.{item_at, IsMade, IsOneNumber}
use Rattle.term_pool.specs.declared.node.Leaf.{Leaf}
use Rattle.term_pool.specs.declared.node.Leaf.TheVariants.{Var, Constant}
use Rattle.term_pool.specs.declared.node.One.{One}
use Rattle.term_pool.specs.declared.node.One.TheVariants.{Unary, Holds, Not, Join}
use Rattle.term_pool.specs.declared.node.Two.{Two}
use Rattle.term_pool.specs.declared.node.Two.TheVariants.{Binary, Compare, ConsFormula}
use Rattle.term_pool.specs.declared.node.Three.{Three}
use Rattle.term_pool.specs.declared.node.Three.TheVariants.{Ternary}
use Rattle.term_pool.specs.declared.node.Node.{Node}
use Rattle.term_pool.specs.declared.node.Node.TheVariants.{Leaf as LeafNode, One as OneNode, Two as TwoNode, Three as ThreeNode}
use Rattle.term_pool.proofs.ShapeLemmas.{OneShape, shape_of, a_term, a_formula}
use Rattle.tableau.specs.PoolBranches.{IsFormulaNumber, IsTermNumber}
use Rattle.congruence_closure.proofs.OverLemmas.{equation_made}
use Rattle.tableau.specs.Numbers.{formula_at}
use Rattle.tableau.specs.Terms.{term_at}
use Rattle.tableau.proofs.NearLemmas.{node_shape, made_shape}
use Rattle.term_pool.specs.Forms.{IsDenialOf, IsNoEquation, IsEquationOf}
use Rattle.closing_rules.specs.Forms.{held_part, is_false_node, any_part, all_part, is_no_first, IsReflexive}

-- ---- negations

pub denial_is : (ns : List Node) (n inner : ℕ) → IsDenialOf ns n inner → formula_at ns n ≡ NotFormula (formula_at ns inner)
denial_is ns n inner h = ap formula_in h.item

pub denial_number : (ns : List Node) (n inner : ℕ) → IsDenialOf ns n inner → IsFormulaNumber ns inner
denial_number ns n inner h =
    let w = slice_get_within ns n (OneNode Not inner) h.found in
    let l = h.parts.earlier in
    record { within = omega (arith, w, l); sort = h.parts.sort }

-- ---- equations

pub equation_is : (ns : List Node) (n : ℕ) (sides : ℕ × ℕ) → IsEquationOf ns n sides → formula_at ns n ≡ EqFormula (term_at ns sides.0) (term_at ns sides.1)
equation_is ns n sides h = equation_made ns n sides.0 sides.1 h

pub left_number : (ns : List Node) (n : ℕ) (sides : ℕ × ℕ) → IsEquationOf ns n sides → IsTermNumber ns sides.0
left_number ns n sides h =
    let w = slice_get_within ns n (TwoNode (Compare Eq) sides.0 sides.1) h.found in
    let l = h.parts.0.earlier in
    record { within = omega (arith, w, l); sort = h.parts.0.sort }

pub right_number : (ns : List Node) (n : ℕ) (sides : ℕ × ℕ) → IsEquationOf ns n sides → IsTermNumber ns sides.1
right_number ns n sides h =
    let w = slice_get_within ns n (TwoNode (Compare Eq) sides.0 sides.1) h.found in
    let l = h.parts.1.earlier in
    record { within = omega (arith, w, l); sort = h.parts.1.sort }

-- a term's item is that term
pub item_of_number : (ns : List Node) (n : ℕ) → IsTermNumber ns n → item_at ns n ≡ TermItem (term_at ns n)
item_of_number ns n h = sym (a_term (item_at ns n) h.sort)

pub reflexive_answer : (ns : List Node) → IsOneNumber ns → (n : ℕ) (sides : ℕ × ℕ) → IsEquationOf ns n sides → IsTrue (sides.0 == sides.1) ↔ IsReflexive (formula_at ns n)
reflexive_answer ns one n sides h = (there, back)
  where
    left : IsTermNumber ns sides.0
    left = left_number ns n sides h

    right : IsTermNumber ns sides.1
    right = right_number ns n sides h

    there : IsTrue (sides.0 == sides.1) → IsReflexive (formula_at ns n)
    there r =
        let same : sides.0 ≡ sides.1 = eqb-true sides.0 sides.1 r in
        record { term = term_at ns sides.0; is = equation_is ns n sides h ∙ ap (λ k. EqFormula (term_at ns sides.0) (term_at ns k)) (sym same) }

    back : IsReflexive (formula_at ns n) → IsTrue (sides.0 == sides.1)
    back r =
        let both : EqFormula (term_at ns sides.0) (term_at ns sides.1) ≡ EqFormula r.term r.term = sym (equation_is ns n sides h) ∙ r.is in
        let same : term_at ns sides.0 ≡ term_at ns sides.1 = cc in
        eq-eqb sides.0 sides.1 (one.one sides.0 sides.1 left.within right.within (item_of_number ns sides.0 left ∙ ap TermItem same ∙ sym (item_of_number ns sides.1 right)))

pub not_reflexive : (p : FormulaData) → IsNoEquation p → IsTrue false ↔ IsReflexive p
not_reflexive p none = (λ e. absurd (cc), λ r. absurd (none.none r.term r.term r.is))

-- ---- lists without formulas

empty_leaf : (h : Leaf) → formulas_in (leaf_item h) ≡ NoFormulas
empty_leaf (Var n) = refl
empty_leaf h = refl

empty_one : (h : One) (x : Item) → formulas_in (one_item h x) ≡ NoFormulas
empty_one (Unary o) x = refl
empty_one h x = refl

empty_two : (h : Two) (a b : ℕ) (x y : Item) → IsTrue (is_no_first (TwoNode h a b)) ↔ (formulas_in (two_item h x y) ≡ NoFormulas)
empty_two ConsFormula a b x y = (λ r. absurd (cc), λ e. absurd (cc))
empty_two h a b x y = (λ r. refl, λ e. refl)

empty_three : (h : Three) (x y z : Item) → formulas_in (three_item h x y z) ≡ NoFormulas
empty_three (Ternary o) x y z = refl
empty_three h x y z = refl

empty_node : (ns : List Node) (n : ℕ) (node : Node) → IsMade ns n node → IsTrue (is_no_first node) ↔ (formulas_in (item_at ns n) ≡ NoFormulas)
empty_node ns n (LeafNode h) made = (λ r. ap formulas_in made.item ∙ empty_leaf h, λ e. refl)
empty_node ns n (OneNode h a) made = (λ r. ap formulas_in made.item ∙ empty_one h (item_at ns a), λ e. refl)
empty_node ns n (TwoNode h a b) made =
    let t = empty_two h a b (item_at ns a) (item_at ns b) in
    (λ r. ap formulas_in made.item ∙ t.0 r, λ e. t.1 (ap formulas_in (sym made.item) ∙ e))
empty_node ns n (ThreeNode h a b c) made = (λ r. ap formulas_in made.item ∙ empty_three h (item_at ns a) (item_at ns b) (item_at ns c), λ e. refl)

pub empty_answer : (ns : List Node) (n : ℕ) (node : Node) → IsMade ns n node → (r : Bool) → r ≡ is_no_first node → IsTrue r ↔ (formulas_in (item_at ns n) ≡ NoFormulas)
empty_answer ns n node made r e = subst (λ t. IsTrue t ↔ (formulas_in (item_at ns n) ≡ NoFormulas)) (sym e) (empty_node ns n node made)

-- ---- disjunctions and conjunctions of no formulas

-- the node is the junction of the list
record IsJunctionOf (ns : List Node) (n : ℕ) (o : Junction) (list : ℕ) : Type 0 where
  made : IsMade ns n (OneNode (Join o) list)

some_any : (ns : List Node) (n list : ℕ) (node : Node) → IsMade ns n node → Some list ≡ any_part node → IsJunctionOf ns n AnyOf list
some_any ns n list (OneNode (Join AnyOf) a) made some = let same : a ≡ list = cc in subst (IsJunctionOf ns n AnyOf) same (record { made = made })
some_any ns n list (OneNode _ a) made some = absurd (cc)
some_any ns n list (LeafNode h) made some = absurd (cc)
some_any ns n list (TwoNode h a b) made some = absurd (cc)
some_any ns n list (ThreeNode h a b c) made some = absurd (cc)

some_all : (ns : List Node) (n list : ℕ) (node : Node) → IsMade ns n node → Some list ≡ all_part node → IsJunctionOf ns n AllOf list
some_all ns n list (OneNode (Join AllOf) a) made some = let same : a ≡ list = cc in subst (IsJunctionOf ns n AllOf) same (record { made = made })
some_all ns n list (OneNode _ a) made some = absurd (cc)
some_all ns n list (LeafNode h) made some = absurd (cc)
some_all ns n list (TwoNode h a b) made some = absurd (cc)
some_all ns n list (ThreeNode h a b c) made some = absurd (cc)

junction_shape : (ns : List Node) (n : ℕ) (node : Node) → IsMade ns n node → IsFormulaNumber ns n → (o : Junction) (ps : FormulasData) → formula_at ns n ≡ JoinFormula o ps → OneShape (Join o) (FormulasItem ps) ≡ node_shape ns node
junction_shape ns n node made number o ps e =
    ap (λ q. shape_of (FormulaItem q)) (sym e) ∙ ap shape_of (a_formula (item_at ns n) number.sort) ∙ made_shape ns n node made

junction_head : (ns : List Node) (node : Node) (o : Junction) (ps : FormulasData) → OneShape (Join o) (FormulasItem ps) ≡ node_shape ns node → (list : ℕ) × (node ≡ OneNode (Join o) list)
junction_head ns (LeafNode h) o ps e = absurd (cc)
junction_head ns (OneNode h a) o ps e = let head : Join o ≡ h = cc in (a, ap (λ k. OneNode k a) (sym head))
junction_head ns (TwoNode h a b) o ps e = absurd (cc)
junction_head ns (ThreeNode h a b c) o ps e = absurd (cc)

no_any : (ns : List Node) (n : ℕ) (node : Node) → IsMade ns n node → IsFormulaNumber ns n → None ≡ any_part node → (ps : FormulasData) → formula_at ns n ≡ JoinFormula AnyOf ps → ⊥
no_any ns n node made number none ps e =
    let head = junction_head ns node AnyOf ps (junction_shape ns n node made number AnyOf ps e) in
    let never : None ≡ Some head.0 = none ∙ ap any_part head.1 in
    cc

no_all : (ns : List Node) (n : ℕ) (node : Node) → IsMade ns n node → IsFormulaNumber ns n → None ≡ all_part node → (ps : FormulasData) → formula_at ns n ≡ JoinFormula AllOf ps → ⊥
no_all ns n node made number none ps e =
    let head = junction_head ns node AllOf ps (junction_shape ns n node made number AllOf ps e) in
    let never : None ≡ Some head.0 = none ∙ ap all_part head.1 in
    cc

junction_answer : (ns : List Node) (n : ℕ) (o : Junction) (list : ℕ) → IsJunctionOf ns n o list → (r : Bool) → IsTrue r ↔ (formulas_in (item_at ns list) ≡ NoFormulas) → IsTrue r ↔ (formula_at ns n ≡ JoinFormula o NoFormulas)
junction_answer ns n o list h r k = (λ t. is ∙ ap (JoinFormula o) (k.0 t), λ e. k.1 (same e))
  where
    is : formula_at ns n ≡ JoinFormula o (formulas_in (item_at ns list))
    is = ap formula_in h.made.item

    same : formula_at ns n ≡ JoinFormula o NoFormulas → formulas_in (item_at ns list) ≡ NoFormulas
    same e =
        let both : JoinFormula o (formulas_in (item_at ns list)) ≡ JoinFormula o NoFormulas = sym is ∙ e in
        cc

pub no_case_answer : (ns : List Node) (n list : ℕ) (node : Node) → IsMade ns n node → Some list ≡ any_part node → (r : Bool) → IsTrue r ↔ (formulas_in (item_at ns list) ≡ NoFormulas) → IsTrue r ↔ (formula_at ns n ≡ JoinFormula AnyOf NoFormulas)
no_case_answer ns n list node made some r k = junction_answer ns n AnyOf list (some_any ns n list node made some) r k

pub no_disjunction : (ns : List Node) (n : ℕ) (node : Node) → IsMade ns n node → IsFormulaNumber ns n → None ≡ any_part node → IsTrue false ↔ (formula_at ns n ≡ JoinFormula AnyOf NoFormulas)
no_disjunction ns n node made number none = (λ t. absurd (cc), λ e. absurd (no_any ns n node made number none NoFormulas e))

pub no_part_answer : (ns : List Node) (n list : ℕ) (node : Node) → IsMade ns n node → Some list ≡ all_part node → (r : Bool) → IsTrue r ↔ (formulas_in (item_at ns list) ≡ NoFormulas) → IsTrue r ↔ (formula_at ns n ≡ JoinFormula AllOf NoFormulas)
no_part_answer ns n list node made some r k = junction_answer ns n AllOf list (some_all ns n list node made some) r k

pub no_conjunction : (ns : List Node) (n : ℕ) (node : Node) → IsMade ns n node → IsFormulaNumber ns n → None ≡ all_part node → IsTrue false ↔ (formula_at ns n ≡ JoinFormula AllOf NoFormulas)
no_conjunction ns n node made number none = (λ t. absurd (cc), λ e. absurd (no_all ns n node made number none NoFormulas e))

-- ---- formulas stating that false is true

held_leaf : (h : Leaf) (u : TermData) → formula_in (leaf_item h) ≡ HoldsFormula u → ⊥
held_leaf (Var n) u e = cc
held_leaf h u e = cc

held_one : (h : One) (x : Item) (u : TermData) → formula_in (one_item h x) ≡ HoldsFormula u → h ≡ Holds
held_one Holds x u e = refl
held_one h x u e = absurd (cc)

held_two : (h : Two) (x y : Item) (u : TermData) → formula_in (two_item h x y) ≡ HoldsFormula u → ⊥
held_two (Binary o) x y u e = cc
held_two h x y u e = cc

held_three : (h : Three) (x y z : Item) (u : TermData) → formula_in (three_item h x y z) ≡ HoldsFormula u → ⊥
held_three (Ternary o) x y z u e = cc
held_three h x y z u e = cc

not_held : (ns : List Node) (n : ℕ) (node : Node) → IsMade ns n node → None ≡ held_part node → (u : TermData) → formula_at ns n ≡ HoldsFormula u → ⊥
not_held ns n (LeafNode h) made none u e = held_leaf h u (ap formula_in (sym made.item) ∙ e)
not_held ns n (OneNode h a) made none u e =
    let head : h ≡ Holds = held_one h (item_at ns a) u (ap formula_in (sym made.item) ∙ e) in
    let never : None ≡ Some a = none ∙ ap (λ k. held_part (OneNode k a)) head in
    cc
not_held ns n (TwoNode h a b) made none u e = held_two h (item_at ns a) (item_at ns b) u (ap formula_in (sym made.item) ∙ e)
not_held ns n (ThreeNode h a b c) made none u e = held_three h (item_at ns a) (item_at ns b) (item_at ns c) u (ap formula_in (sym made.item) ∙ e)

pub holds_nothing : (ns : List Node) (n : ℕ) (node : Node) → IsMade ns n node → None ≡ held_part node → IsTrue false ↔ (formula_at ns n ≡ HoldsFormula (ConstantTerm False))
holds_nothing ns n node made none = (λ r. absurd (cc), λ e. absurd (not_held ns n node made none (ConstantTerm False) e))

-- the formula states that the term with this number is true
record IsHeld (ns : List Node) (n term : ℕ) : Type 0 where
  earlier : term < n
  is : formula_at ns n ≡ HoldsFormula (term_at ns term)

some_held : (ns : List Node) (n term : ℕ) (node : Node) → IsMade ns n node → Some term ≡ held_part node → IsHeld ns n term
some_held ns n term (OneNode Holds a) made some = let same : a ≡ term = cc in subst (IsHeld ns n) same (record { earlier = made.parts.earlier; is = ap formula_in made.item })
some_held ns n term (OneNode _ a) made some = absurd (cc)
some_held ns n term (LeafNode h) made some = absurd (cc)
some_held ns n term (TwoNode h a b) made some = absurd (cc)
some_held ns n term (ThreeNode h a b c) made some = absurd (cc)

pub held_within : (ns : List Node) (n term : ℕ) (node : Node) → IsMade ns n node → Some term ≡ held_part node → term < length ns
held_within ns n term node made some =
    let l = (some_held ns n term node made some).earlier in
    let w = slice_get_within ns n node made.found in
    omega (arith, l, w)

false_leaf : (h : Leaf) → IsTrue (is_false_node (LeafNode h)) ↔ (term_in (leaf_item h) ≡ ConstantTerm False)
false_leaf (Constant False) = (λ r. refl, λ e. refl)
false_leaf (Constant _) = (λ r. absurd (cc), λ e. absurd (cc))
false_leaf _ = (λ r. absurd (cc), λ e. absurd (cc))

false_one : (h : One) (x : Item) → term_in (one_item h x) ≡ ConstantTerm False → ⊥
false_one (Unary o) x e = cc
false_one h x e = cc

false_two : (h : Two) (x y : Item) → term_in (two_item h x y) ≡ ConstantTerm False → ⊥
false_two (Binary o) x y e = cc
false_two h x y e = cc

false_three : (h : Three) (x y z : Item) → term_in (three_item h x y z) ≡ ConstantTerm False → ⊥
false_three (Ternary o) x y z e = cc
false_three h x y z e = cc

false_node : (ns : List Node) (n : ℕ) (node : Node) → IsMade ns n node → IsTrue (is_false_node node) ↔ (term_at ns n ≡ ConstantTerm False)
false_node ns n (LeafNode h) made =
    let t = false_leaf h in
    (λ r. ap term_in made.item ∙ t.0 r, λ e. t.1 (ap term_in (sym made.item) ∙ e))
false_node ns n (OneNode h a) made = (λ r. absurd (cc), λ e. absurd (false_one h (item_at ns a) (ap term_in (sym made.item) ∙ e)))
false_node ns n (TwoNode h a b) made = (λ r. absurd (cc), λ e. absurd (false_two h (item_at ns a) (item_at ns b) (ap term_in (sym made.item) ∙ e)))
false_node ns n (ThreeNode h a b c) made = (λ r. absurd (cc), λ e. absurd (false_three h (item_at ns a) (item_at ns b) (item_at ns c) (ap term_in (sym made.item) ∙ e)))

pub false_answer : (ns : List Node) (n term : ℕ) (node held : Node) → IsMade ns n node → Some term ≡ held_part node → IsMade ns term held → (r : Bool) → r ≡ is_false_node held → IsTrue r ↔ (formula_at ns n ≡ HoldsFormula (ConstantTerm False))
false_answer ns n term node held made some made_held r e = (there, back)
  where
    is : formula_at ns n ≡ HoldsFormula (term_at ns term)
    is = (some_held ns n term node made some).is

    there : IsTrue r → formula_at ns n ≡ HoldsFormula (ConstantTerm False)
    there t = is ∙ ap HoldsFormula ((false_node ns term held made_held).0 (subst IsTrue e t))

    back : formula_at ns n ≡ HoldsFormula (ConstantTerm False) → IsTrue r
    back f =
        let both : HoldsFormula (term_at ns term) ≡ HoldsFormula (ConstantTerm False) = sym is ∙ f in
        let same : term_at ns term ≡ ConstantTerm False = cc in
        subst IsTrue (sym e) ((false_node ns term held made_held).1 same)
