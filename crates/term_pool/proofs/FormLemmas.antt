-- The nodes of terms, of formulas, of negations and of equations.
use Rattle.std.proofs.Common.{◌≡◌, ◌↔◌, ℕ, ◌≤◌, Bool, true, false, List, length, Option, Some, None, refl, sym, ap, ◌∙◌, subst, arith}
use Rattle.std.specs.Prelude.{IsTrue, MatchOption}
use Rattle.std.proofs.lemmas.Option.{slice_get_within}
use Rattle.fol.specs.declared.operators.Comparison.TheVariants.{Eq}
use Rattle.fol.specs.FormulaData.{TermData, FormulaData, EqFormula, NotFormula}
use Rattle.term_pool.specs.Items.{Item, Sort, TermSort, FormulaSort, sort_of, formula_in, leaf_item, one_item, two_item, three_item}
use Rattle.term_pool.specs.Pools.{item_at, item_of, items, HasPart, IsMade}
use Rattle.term_pool.specs.Forms.{is_term_node, is_formula_node, denied_part, sides_of, IsNoDenial, IsDenialOf, IsNoEquation, IsEquationOf}
use Rattle.term_pool.specs.declared.node.Leaf.{Leaf}
use Rattle.term_pool.specs.declared.node.Leaf.TheVariants.{Var, Constant}
use Rattle.term_pool.specs.declared.node.One.{One}
use Rattle.term_pool.specs.declared.node.One.TheVariants.{Unary, Holds, Not, Join}
use Rattle.term_pool.specs.declared.node.Two.{Two}
use Rattle.term_pool.specs.declared.node.Two.TheVariants.{Binary, Pack, Field, Compare, Is, Connect, Quantify}
use Rattle.term_pool.specs.declared.node.Three.{Three}
use Rattle.term_pool.specs.declared.node.Three.TheVariants.{Ternary, SetField, If}
use Rattle.term_pool.specs.declared.node.Node.{Node}
use Rattle.term_pool.specs.declared.node.Node.TheVariants.{Leaf as LeafNode, One as OneNode, Two as TwoNode, Three as ThreeNode}
use Rattle.term_pool.proofs.ItemLemmas.{item_past}

-- ---- terms

pub term_sort : (xs : List Item) (n : Node) → is_term_node n ≡ true → sort_of (item_of xs n) ≡ TermSort
term_sort xs (LeafNode (Var x)) e = refl
term_sort xs (LeafNode (Constant c)) e = refl
term_sort xs (OneNode (Unary o) a) e = refl
term_sort xs (TwoNode (Binary o) a b) e = refl
term_sort xs (TwoNode Pack a b) e = refl
term_sort xs (TwoNode (Field k) a b) e = refl
term_sort xs (ThreeNode (Ternary o) a b c) e = refl
term_sort xs (ThreeNode (SetField k) a b c) e = refl
term_sort xs (ThreeNode If a b c) e = refl
term_sort xs _ e = absurd (cc)

pub sort_term : (xs : List Item) (n : Node) → sort_of (item_of xs n) ≡ TermSort → is_term_node n ≡ true
sort_term xs (LeafNode (Var x)) e = refl
sort_term xs (LeafNode (Constant c)) e = refl
sort_term xs (OneNode (Unary o) a) e = refl
sort_term xs (TwoNode (Binary o) a b) e = refl
sort_term xs (TwoNode Pack a b) e = refl
sort_term xs (TwoNode (Field k) a b) e = refl
sort_term xs (ThreeNode (Ternary o) a b c) e = refl
sort_term xs (ThreeNode (SetField k) a b c) e = refl
sort_term xs (ThreeNode If a b c) e = refl
sort_term xs _ e = absurd (cc)

pub made_term : (ns : List Node) (i : ℕ) (n : Node) → IsMade ns i n → sort_of (item_at ns i) ≡ TermSort → is_term_node n ≡ true
made_term ns i n made e = sort_term (items ns) n (sym (ap sort_of made.item) ∙ e)

pub term_made : (ns : List Node) (i : ℕ) (n : Node) → IsMade ns i n → is_term_node n ≡ true → HasPart ns (length ns) i TermSort
term_made ns i n made e = record { earlier = slice_get_within ns i n made.found; sort = ap sort_of made.item ∙ term_sort (items ns) n e }

pub is_term_number : (ns : List Node) (i : ℕ) (n : Node) → IsMade ns i n → (b : Bool) → b ≡ is_term_node n → IsTrue b ↔ HasPart ns (length ns) i TermSort
is_term_number ns i n made b e = (λ t. term_made ns i n made (sym e ∙ t), λ h. e ∙ made_term ns i n made h.sort)

-- ---- formulas

formula_sort : (xs : List Item) (n : Node) → is_formula_node n ≡ true → sort_of (item_of xs n) ≡ FormulaSort
formula_sort xs (OneNode Holds a) e = refl
formula_sort xs (OneNode Not a) e = refl
formula_sort xs (OneNode (Join o) a) e = refl
formula_sort xs (TwoNode (Compare o) a b) e = refl
formula_sort xs (TwoNode Is a b) e = refl
formula_sort xs (TwoNode (Connect o) a b) e = refl
formula_sort xs (TwoNode (Quantify o n) a b) e = refl
formula_sort xs _ e = absurd (cc)

no_formula_leaf : (h : Leaf) → sort_of (leaf_item h) ≡ FormulaSort → ⊥
no_formula_leaf (Var n) e = cc
no_formula_leaf h e = cc

no_formula_three : (h : Three) (x y z : Item) → sort_of (three_item h x y z) ≡ FormulaSort → ⊥
no_formula_three (Ternary o) x y z e = cc
no_formula_three h x y z e = cc

sort_formula : (xs : List Item) (n : Node) → sort_of (item_of xs n) ≡ FormulaSort → is_formula_node n ≡ true
sort_formula xs (OneNode Holds a) e = refl
sort_formula xs (OneNode Not a) e = refl
sort_formula xs (OneNode (Join o) a) e = refl
sort_formula xs (TwoNode (Compare o) a b) e = refl
sort_formula xs (TwoNode Is a b) e = refl
sort_formula xs (TwoNode (Connect o) a b) e = refl
sort_formula xs (TwoNode (Quantify o n) a b) e = refl
sort_formula xs (LeafNode h) e = absurd (no_formula_leaf h e)
sort_formula xs (ThreeNode h a b c) e = absurd (no_formula_three h _ _ _ e)
sort_formula xs _ e = absurd (cc)

pub is_formula_number : (ns : List Node) (i : ℕ) (n : Node) → IsMade ns i n → (b : Bool) → b ≡ is_formula_node n → IsTrue b ↔ HasPart ns (length ns) i FormulaSort
is_formula_number ns i n made b e = (
  λ t. record { earlier = slice_get_within ns i n made.found; sort = ap sort_of made.item ∙ formula_sort (items ns) n (sym e ∙ t) },
  λ h. e ∙ sort_formula (items ns) n (sym (ap sort_of made.item) ∙ h.sort),
)

-- no number past the last node is that of a term or of a formula
pub no_number : (ns : List Node) (i : ℕ) (s : Sort) → length ns ≤ i → IsTrue false ↔ HasPart ns (length ns) i s
no_number ns i s w = (λ t. absurd (cc), λ h. (let v = h.earlier in absurd (omega (arith, v, w))))

-- ---- negations

denial_leaf : (h : Leaf) (q : FormulaData) → formula_in (leaf_item h) ≡ NotFormula q → ⊥
denial_leaf (Var n) q e = cc
denial_leaf h q e = cc

denial_one : (h : One) (x : Item) (q : FormulaData) → formula_in (one_item h x) ≡ NotFormula q → h ≡ Not
denial_one Not x q e = refl
denial_one h x q e = absurd (cc)

denial_two : (h : Two) (x y : Item) (q : FormulaData) → formula_in (two_item h x y) ≡ NotFormula q → ⊥
denial_two (Binary o) x y q e = cc
denial_two h x y q e = cc

denial_three : (h : Three) (x y z : Item) (q : FormulaData) → formula_in (three_item h x y z) ≡ NotFormula q → ⊥
denial_three (Ternary o) x y z q e = cc
denial_three h x y z q e = cc

no_denial : (ns : List Node) (n : ℕ) (node : Node) → IsMade ns n node → None ≡ denied_part node → (q : FormulaData) → formula_in (item_at ns n) ≡ NotFormula q → ⊥
no_denial ns n (LeafNode h) made none q e = denial_leaf h q (ap formula_in (sym made.item) ∙ e)
no_denial ns n (OneNode h a) made none q e =
    let head : h ≡ Not = denial_one h (item_at ns a) q (ap formula_in (sym made.item) ∙ e) in
    let never : None ≡ Some a = none ∙ ap (λ k. denied_part (OneNode k a)) head in
    cc
no_denial ns n (TwoNode h a b) made none q e = denial_two h (item_at ns a) (item_at ns b) q (ap formula_in (sym made.item) ∙ e)
no_denial ns n (ThreeNode h a b c) made none q e = denial_three h (item_at ns a) (item_at ns b) (item_at ns c) q (ap formula_in (sym made.item) ∙ e)

some_denial : (ns : List Node) (n inner : ℕ) (node : Node) → IsMade ns n node → Some inner ≡ denied_part node → IsDenialOf ns n inner
some_denial ns n inner (OneNode Not a) made some = let same : a ≡ inner = cc in subst (IsDenialOf ns n) same made
some_denial ns n inner (OneNode _ a) made some = absurd (cc)
some_denial ns n inner (LeafNode h) made some = absurd (cc)
some_denial ns n inner (TwoNode h a b) made some = absurd (cc)
some_denial ns n inner (ThreeNode h a b c) made some = absurd (cc)

pub denial_answer : (ns : List Node) (n : ℕ) (node : Node) → IsMade ns n node → (o : Option ℕ) → o ≡ denied_part node → MatchOption o (IsNoDenial (formula_in (item_at ns n))) (IsDenialOf ns n)
denial_answer ns n node made None e = record { none = no_denial ns n node made e }
denial_answer ns n node made (Some inner) e = some_denial ns n inner node made e

pub no_denial_past : (ns : List Node) (n : ℕ) → length ns ≤ n → IsNoDenial (formula_in (item_at ns n))
no_denial_past ns n w = record { none = λ q e. (let never = sym (ap formula_in (item_past ns n w)) ∙ e in cc) }

pub denial_is : (ns : List Node) (n inner : ℕ) → IsDenialOf ns n inner → formula_in (item_at ns n) ≡ NotFormula (formula_in (item_at ns inner))
denial_is ns n inner h = ap formula_in h.item

pub denial_number : (ns : List Node) (n inner : ℕ) → IsDenialOf ns n inner → HasPart ns (length ns) inner FormulaSort
denial_number ns n inner h =
    let w = slice_get_within ns n (OneNode Not inner) h.found in
    let l = h.parts.earlier in
    record { earlier = omega (arith, w, l); sort = h.parts.sort }

-- ---- equations

equation_leaf : (h : Leaf) (t u : TermData) → formula_in (leaf_item h) ≡ EqFormula t u → ⊥
equation_leaf (Var n) t u e = cc
equation_leaf h t u e = cc

equation_one : (h : One) (x : Item) (t u : TermData) → formula_in (one_item h x) ≡ EqFormula t u → ⊥
equation_one (Unary o) x t u e = cc
equation_one h x t u e = cc

equation_two : (h : Two) (x y : Item) (t u : TermData) → formula_in (two_item h x y) ≡ EqFormula t u → h ≡ Compare Eq
equation_two (Compare o) x y t u e = let same : o ≡ Eq = cc in ap Compare same
equation_two h x y t u e = absurd (cc)

equation_three : (h : Three) (x y z : Item) (t u : TermData) → formula_in (three_item h x y z) ≡ EqFormula t u → ⊥
equation_three (Ternary o) x y z t u e = cc
equation_three h x y z t u e = cc

no_equation : (ns : List Node) (n : ℕ) (node : Node) → IsMade ns n node → None ≡ sides_of node → (t u : TermData) → formula_in (item_at ns n) ≡ EqFormula t u → ⊥
no_equation ns n (LeafNode h) made none t u e = equation_leaf h t u (ap formula_in (sym made.item) ∙ e)
no_equation ns n (OneNode h a) made none t u e = equation_one h (item_at ns a) t u (ap formula_in (sym made.item) ∙ e)
no_equation ns n (TwoNode h a b) made none t u e =
    let head : h ≡ Compare Eq = equation_two h (item_at ns a) (item_at ns b) t u (ap formula_in (sym made.item) ∙ e) in
    let sides : ℕ × ℕ = (a, b) in
    let never : None ≡ Some sides = none ∙ ap (λ k. sides_of (TwoNode k a b)) head in
    cc
no_equation ns n (ThreeNode h a b c) made none t u e = equation_three h (item_at ns a) (item_at ns b) (item_at ns c) t u (ap formula_in (sym made.item) ∙ e)

some_equation : (ns : List Node) (n : ℕ) (sides : ℕ × ℕ) (node : Node) → IsMade ns n node → Some sides ≡ sides_of node → IsEquationOf ns n sides
some_equation ns n sides (TwoNode (Compare Eq) a b) made some = let same : (a, b) ≡ sides = cc in subst (IsEquationOf ns n) same made
some_equation ns n sides (TwoNode _ a b) made some = absurd (cc)
some_equation ns n sides (LeafNode h) made some = absurd (cc)
some_equation ns n sides (OneNode h a) made some = absurd (cc)
some_equation ns n sides (ThreeNode h a b c) made some = absurd (cc)

pub equation_answer : (ns : List Node) (n : ℕ) (node : Node) → IsMade ns n node → (o : Option (ℕ × ℕ)) → o ≡ sides_of node → MatchOption o (IsNoEquation (formula_in (item_at ns n))) (IsEquationOf ns n)
equation_answer ns n node made None e = record { none = no_equation ns n node made e }
equation_answer ns n node made (Some sides) e = some_equation ns n sides node made e

pub no_equation_past : (ns : List Node) (n : ℕ) → length ns ≤ n → IsNoEquation (formula_in (item_at ns n))
no_equation_past ns n w = record { none = λ t u e. (let never = sym (ap formula_in (item_past ns n w)) ∙ e in cc) }
