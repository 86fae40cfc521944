-- Comparisons by nodes.
use Rattle.std.proofs.Common.{◌≡◌, inl, inr, ℕ, ◌≤◌, List, length, Option, Some, None, refl, ap, ◌∙◌, arith}
use Rattle.std.specs.Prelude.{MatchOption}
use Rattle.std.proofs.lemmas.Option.{slice_get_within}
use Rattle.fol.specs.declared.operators.Comparison.{Comparison}
use Rattle.fol.specs.declared.operators.Comparison.TheVariants.{Eq, Le}
use Rattle.fol.specs.FormulaData.{TermData, CompareFormula}
use Rattle.certificates.specs.Linear.{Row, row_of, negated_row_of}
use Rattle.term_pool.specs.Items.{Item, formula_in, leaf_item, one_item, two_item, three_item}
use Rattle.term_pool.specs.Pools.{item_at, IsMade}
use Rattle.term_pool.specs.declared.node.Leaf.{Leaf}
use Rattle.term_pool.specs.declared.node.Leaf.TheVariants.{TypeBool}
use Rattle.term_pool.specs.declared.node.One.{One}
use Rattle.term_pool.specs.declared.node.One.TheVariants.{Not}
use Rattle.term_pool.specs.declared.node.Two.{Two}
use Rattle.term_pool.specs.declared.node.Two.TheVariants.{Compare}
use Rattle.term_pool.specs.declared.node.Three.{Three}
use Rattle.term_pool.specs.declared.node.Three.TheVariants.{If}
use Rattle.term_pool.specs.declared.node.Node.{Node}
use Rattle.term_pool.specs.declared.node.Node.TheVariants.{Leaf as LeafNode, One as OneNode, Two as TwoNode, Three as ThreeNode}
use Rattle.term_pool.proofs.ItemLemmas.{item_past}
use Rattle.tableau.specs.Marks.{Itself, Below}
use Rattle.row_reasoning.specs.Shapes.{term_at, IsNamedUnder}
use Rattle.row_reasoning.specs.Entries.{formula_at, IsSide, HasSides, stated_sides, denied_sides}
use Rattle.row_reasoning.specs.declared.comparison.Sides.{Sides}
use Rattle.row_reasoning.proofs.WalkLemmas.{under_under}

-- ---- comparisons

module _ (ns : List Node) (n a b : ℕ) (o : Comparison) (made : IsMade ns n (TwoNode (Compare o) a b)) where
  first_side : IsSide ns n a
  first_side = record {
    term = record { within = (let inside = slice_get_within ns n (TwoNode (Compare o) a b) made.found in omega (arith, inside, made.parts.0.earlier)); sort = made.parts.0.sort };
    under = Below n (TwoNode (Compare o) a b) a Itself made (inl refl);
  }

  second_side : IsSide ns n b
  second_side = record {
    term = record { within = (let inside = slice_get_within ns n (TwoNode (Compare o) a b) made.found in omega (arith, inside, made.parts.1.earlier)); sort = made.parts.1.sort };
    under = Below n (TwoNode (Compare o) a b) b Itself made (inr (inl refl));
  }

  is_comparison : formula_at ns n ≡ CompareFormula o (term_at ns a) (term_at ns b)
  is_comparison = ap formula_in made.item

pub stated_made : (ns : List Node) (n a b : ℕ) (o : Comparison) → IsMade ns n (TwoNode (Compare o) a b) → HasSides ns n (row_of (formula_at ns n)) (stated_sides o a b)
stated_made ns n a b Eq made = record {
  row = ap row_of (is_comparison ns n a b Eq made);
  lesser = first_side ns n a b Eq made;
  greater = second_side ns n a b Eq made;
  equation = λ e. refl;
}
stated_made ns n a b Le made = record {
  row = ap row_of (is_comparison ns n a b Le made);
  lesser = first_side ns n a b Le made;
  greater = second_side ns n a b Le made;
  equation = λ e. refl;
}

abbrev pub Answers : List Node → ℕ → Option Row → Option Sides → Type 0
Answers ns n r s = MatchOption s (r ≡ None) (HasSides ns n r)

pub denied_made : (ns : List Node) (n a b : ℕ) (o : Comparison) → IsMade ns n (TwoNode (Compare o) a b) → Answers ns n (negated_row_of (formula_at ns n)) (denied_sides o a b)
denied_made ns n a b Eq made = ap negated_row_of (is_comparison ns n a b Eq made)
denied_made ns n a b Le made = record {
  row = ap negated_row_of (is_comparison ns n a b Le made);
  lesser = second_side ns n a b Le made;
  greater = first_side ns n a b Le made;
  equation = λ e. absurd (cc);
}

-- ---- negations

side_over : (ns : List Node) (n a m : ℕ) → IsMade ns n (OneNode Not a) → IsSide ns a m → IsSide ns n m
side_over ns n a m made side = record { term = side.term; under = under_under ns n a m (Below n (OneNode Not a) a Itself made (inl refl)) side.under }

pub over_denial : (ns : List Node) (n a : ℕ) → IsMade ns n (OneNode Not a) → (s : Option Sides) → Answers ns a (negated_row_of (formula_at ns a)) s → Answers ns n (row_of (formula_at ns n)) s
over_denial ns n a made None h = ap (λ x. row_of (formula_in x)) made.item ∙ h
over_denial ns n a made (Some s) h = record {
  row = ap (λ x. row_of (formula_in x)) made.item ∙ h.row;
  lesser = side_over ns n a s.lesser made h.lesser;
  greater = side_over ns n a s.greater made h.greater;
  equation = h.equation;
}

-- ---- no comparisons

leaf_row : (h : Leaf) → row_of (formula_in (leaf_item h)) ≡ None
leaf_row TypeBool = refl
leaf_row h = refl

one_row : (h : One) (x : Item) → (h ≡ Not → ⊥) → row_of (formula_in (one_item h x)) ≡ None
one_row Not x d = absurd (d refl)
one_row h x d = refl

two_row : (h : Two) (x y : Item) → ((o : Comparison) → h ≡ Compare o → ⊥) → row_of (formula_in (two_item h x y)) ≡ None
two_row (Compare o) x y d = absurd (d o refl)
two_row h x y d = refl

three_row : (h : Three) (x y z : Item) → row_of (formula_in (three_item h x y z)) ≡ None
three_row If x y z = refl
three_row h x y z = refl

leaf_denied : (h : Leaf) → negated_row_of (formula_in (leaf_item h)) ≡ None
leaf_denied TypeBool = refl
leaf_denied h = refl

one_denied : (h : One) (x : Item) → negated_row_of (formula_in (one_item h x)) ≡ None
one_denied Not x = refl
one_denied h x = refl

two_denied : (h : Two) (x y : Item) → ((o : Comparison) → h ≡ Compare o → ⊥) → negated_row_of (formula_in (two_item h x y)) ≡ None
two_denied (Compare o) x y d = absurd (d o refl)
two_denied h x y d = refl

three_denied : (h : Three) (x y z : Item) → negated_row_of (formula_in (three_item h x y z)) ≡ None
three_denied If x y z = refl
three_denied h x y z = refl

module _ (ns : List Node) (n : ℕ) where
  pub leaf_says : (h : Leaf) → IsMade ns n (LeafNode h) → row_of (formula_at ns n) ≡ None
  leaf_says h made = ap (λ x. row_of (formula_in x)) made.item ∙ leaf_row h

  pub one_says : (h : One) (a : ℕ) → IsMade ns n (OneNode h a) → (h ≡ Not → ⊥) → row_of (formula_at ns n) ≡ None
  one_says h a made d = ap (λ x. row_of (formula_in x)) made.item ∙ one_row h (item_at ns a) d

  pub two_says : (h : Two) (a b : ℕ) → IsMade ns n (TwoNode h a b) → ((o : Comparison) → h ≡ Compare o → ⊥) → row_of (formula_at ns n) ≡ None
  two_says h a b made d = ap (λ x. row_of (formula_in x)) made.item ∙ two_row h (item_at ns a) (item_at ns b) d

  pub three_says : (h : Three) (a b c : ℕ) → IsMade ns n (ThreeNode h a b c) → row_of (formula_at ns n) ≡ None
  three_says h a b c made = ap (λ x. row_of (formula_in x)) made.item ∙ three_row h (item_at ns a) (item_at ns b) (item_at ns c)

  pub past_says : length ns ≤ n → row_of (formula_at ns n) ≡ None
  past_says h = ap (λ x. row_of (formula_in x)) (item_past ns n h)

  pub leaf_denies : (h : Leaf) → IsMade ns n (LeafNode h) → negated_row_of (formula_at ns n) ≡ None
  leaf_denies h made = ap (λ x. negated_row_of (formula_in x)) made.item ∙ leaf_denied h

  pub one_denies : (h : One) (a : ℕ) → IsMade ns n (OneNode h a) → negated_row_of (formula_at ns n) ≡ None
  one_denies h a made = ap (λ x. negated_row_of (formula_in x)) made.item ∙ one_denied h (item_at ns a)

  pub two_denies : (h : Two) (a b : ℕ) → IsMade ns n (TwoNode h a b) → ((o : Comparison) → h ≡ Compare o → ⊥) → negated_row_of (formula_at ns n) ≡ None
  two_denies h a b made d = ap (λ x. negated_row_of (formula_in x)) made.item ∙ two_denied h (item_at ns a) (item_at ns b) d

  pub three_denies : (h : Three) (a b c : ℕ) → IsMade ns n (ThreeNode h a b c) → negated_row_of (formula_at ns n) ≡ None
  three_denies h a b c made = ap (λ x. negated_row_of (formula_in x)) made.item ∙ three_denied h (item_at ns a) (item_at ns b) (item_at ns c)

  pub past_denies : length ns ≤ n → negated_row_of (formula_at ns n) ≡ None
  past_denies h = ap (λ x. negated_row_of (formula_in x)) (item_past ns n h)

-- ---- representatives

pub named_side : (ns : List Node) (top n : ℕ) (class : TermData → ℕ) (names : List ℕ) → IsNamedUnder ns top class names → IsSide ns top n → IsNamedUnder ns n class names
named_side ns top n class names h side = record { named = λ m u term. h.named m (under_under ns top n m side.under u) term }
