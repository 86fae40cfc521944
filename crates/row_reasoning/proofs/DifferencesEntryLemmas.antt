-- Entries with the chosen terms.
use Rattle.std.proofs.Common.{◌≡◌, inl, inr, ℕ, ◌<◌, ◌≤◌, Bool, true, false, List, [], ◌++◌, length, Option, Some, refl, sym, ap, ◌∙◌, subst, arith}
use Rattle.std.specs.Prelude.{slice_get}
use Rattle.std.proofs.lemmas.Option.{slice_get_within}
use Rattle.fol.specs.declared.operators.Comparison.{Comparison}
use Rattle.fol.specs.FormulaData.{TermData, FormulaData, CompareFormula, NotFormula}
use Rattle.certificates.specs.Closes.{most_deep}
use Rattle.certificates.specs.Due.{IsShallow}
use Rattle.certificates.specs.Rows.{over, comparison_with}
use Rattle.term_pool.specs.Items.{Item, NoItem, FormulaItem, TermSort, FormulaSort, sort_of, formula_in, leaf_item, one_item, two_item, three_item, first_of_two, second_of_two}
use Rattle.term_pool.specs.Pools.{item_at, IsMade, Extends}
use Rattle.term_pool.specs.Forms.{IsNoDenial}
use Rattle.term_pool.specs.Depths.{item_depth, counted}
use Rattle.term_pool.specs.declared.node.Leaf.{Leaf}
use Rattle.term_pool.specs.declared.node.Leaf.TheVariants.{TypeBool}
use Rattle.term_pool.specs.declared.node.One.{One}
use Rattle.term_pool.specs.declared.node.One.TheVariants.{Not, Holds}
use Rattle.term_pool.specs.declared.node.Two.{Two}
use Rattle.term_pool.specs.declared.node.Two.TheVariants.{Compare}
use Rattle.term_pool.specs.declared.node.Three.{Three}
use Rattle.term_pool.specs.declared.node.Three.TheVariants.{If}
use Rattle.term_pool.specs.declared.node.Node.{Node}
use Rattle.term_pool.specs.declared.node.Node.TheVariants.{Leaf as LeafNode, One as OneNode, Two as TwoNode, Three as ThreeNode}
use Rattle.term_pool.proofs.ItemLemmas.{item_kept, item_past}
use Rattle.term_pool.proofs.ShapeLemmas.{a_formula}
use Rattle.tableau.specs.Marks.{outer_parts, IsOneOf, IsUnder, Itself, Below}
use Rattle.tableau.specs.PoolBranches.{IsFormulaNumber, IsTermNumber}
use Rattle.row_reasoning.specs.Shapes.{term_at}
use Rattle.congruence_closure.specs.Numbers.{number_at}
use Rattle.congruence_closure.specs.Known.{BranchClassesData}
use Rattle.congruence_closure.proofs.OverLemmas.{made_more}
use Rattle.explanations.specs.Chains.{formula_at}
use Rattle.explanations.specs.Frames.{filled, Leads, bound_in, bound_on}
use Rattle.explanations.specs.declared.frame.Frame.{Frame}
use Rattle.explanations.specs.Replacing.{IsReplacement, after_all, AreInTurn}
use Rattle.explanations.specs.Positions.{IsDifference}
use Rattle.explanations.specs.declared.derived.replacing.Difference.{Difference}
use Rattle.explanations.proofs.GrowthLemmas.{part_grown}
use Rattle.explanations.proofs.ReplacingLemmas.{replacement_grown, all_grown, turn_grown}
use Rattle.row_reasoning.specs.Chosen.{with_chosen}
use Rattle.row_reasoning.specs.StandIns.{AreOverClasses}
use Rattle.row_reasoning.specs.DifferencesSums.{IsPair, IsNoPair, Past, Other, IsChosenSum}
use Rattle.row_reasoning.specs.Positions.{pair_item, AreSidesAt, AreFoundAt}
use Rattle.row_reasoning.specs.DifferencesEntries.{is_comparison, IsCompared, IsNotCompared, IsWith, IsComparison, IsNoComparison, way_to, IsDeep, AreSidesOf, MakeChosen}
use Rattle.row_reasoning.specs.declared.differences.shape.Pair.{Pair}
use Rattle.row_reasoning.specs.declared.differences.entry.Sides.{Sides}
use Rattle.row_reasoning.proofs.StandInLemmas.{over_classes_back}
use Rattle.row_reasoning.proofs.DifferencesSumLemmas.{sum_is, sum_grown}

-- ---- comparisons

leaf_compared : (h : Leaf) (o : Comparison) (t u : TermData) → formula_in (leaf_item h) ≡ CompareFormula o t u → ⊥
leaf_compared TypeBool o t u e = absurd (cc)
leaf_compared h o t u e = absurd (cc)

one_compared : (h : One) (x : Item) (o : Comparison) (t u : TermData) → formula_in (one_item h x) ≡ CompareFormula o t u → ⊥
one_compared Holds x o t u e = absurd (cc)
one_compared Not x o t u e = absurd (cc)
one_compared h x o t u e = absurd (cc)

two_compared : (h : Two) (x y : Item) → is_comparison h ≡ false → (o : Comparison) (t u : TermData) → formula_in (two_item h x y) ≡ CompareFormula o t u → ⊥
two_compared (Compare k) x y e o t u f = absurd (cc)
two_compared h x y e o t u f = absurd (cc)

three_compared : (h : Three) (x y z : Item) (o : Comparison) (t u : TermData) → formula_in (three_item h x y z) ≡ CompareFormula o t u → ⊥
three_compared If x y z o t u e = absurd (cc)
three_compared h x y z o t u e = absurd (cc)

past_formula : (ns : List Node) (n : ℕ) (p : FormulaData) → length ns ≤ n → formula_in NoItem ≡ p → formula_at ns n ≡ p
past_formula ns n p w e = ap formula_in (item_past ns n w) ∙ e

pub no_pair_compared : (ns : List Node) (n : ℕ) → IsNoPair ns n → IsNotCompared ns n
no_pair_compared ns n (Past w) = record { none = λ o t u e. absurd (let never : formula_in NoItem ≡ CompareFormula o t u = sym (ap formula_in (item_past ns n w)) ∙ e in cc) }
no_pair_compared ns n (Other (LeafNode h) made e) = record { none = λ o t u f. leaf_compared h o t u (sym (ap formula_in made.item) ∙ f) }
no_pair_compared ns n (Other (OneNode h a) made e) = record { none = λ o t u f. one_compared h (item_at ns a) o t u (sym (ap formula_in made.item) ∙ f) }
no_pair_compared ns n (Other (TwoNode h a b) made e) = absurd (cc)
no_pair_compared ns n (Other (ThreeNode h a b c) made e) = record { none = λ o t u f. three_compared h (item_at ns a) (item_at ns b) (item_at ns c) o t u (sym (ap formula_in made.item) ∙ f) }

pub not_compared : (ns : List Node) (n : ℕ) (p : Pair) (r : Bool) → r ≡ is_comparison p.head → r ≡ false → IsPair ns n p → IsNotCompared ns n
not_compared ns n p r e f made = record { none = λ o t u g. two_compared p.head (item_at ns p.first) (item_at ns p.second) (sym e ∙ f) o t u (sym (ap formula_in made.item) ∙ g) }

record HasComparison (h : Two) : Type 0 where
  operator : Comparison
  is : h ≡ Compare operator

head_compared : (h : Two) → is_comparison h ≡ true → HasComparison h
head_compared (Compare o) e = record { operator = o; is = refl }
head_compared h e = absurd (cc)

pub is_compared : (ns : List Node) (n : ℕ) (p : Pair) (r : Bool) → r ≡ is_comparison p.head → r ≡ true → IsPair ns n p → IsCompared ns n p
is_compared ns n p r e f made = let it = head_compared p.head (sym e ∙ f) in record { operator = it.operator; head = it.is; made = made }

-- ---- formulas that are neither

plain_same : (side : TermData → TermData) (p : FormulaData) → ((o : Comparison) (t u : TermData) → p ≡ CompareFormula o t u → ⊥) → ((o : Comparison) (t u : TermData) → p ≡ NotFormula (CompareFormula o t u) → ⊥) → comparison_with side p ≡ p
plain_same side (CompareFormula o t u) f g = absurd (f o t u refl)
plain_same side (NotFormula (CompareFormula o t u)) f g = absurd (g o t u refl)
plain_same side (NotFormula _) f g = refl
plain_same side _ f g = refl

pub no_comparison : (ns : List Node) (n : ℕ) → IsNotCompared ns n → IsNoDenial (formula_at ns n) → IsNoComparison ns n
no_comparison ns n h k = record { same = λ side. plain_same side (formula_at ns n) h.none (λ o t u e. k.none (CompareFormula o t u) e) }

pub no_denied_comparison : (ns : List Node) (n a : ℕ) → IsNotCompared ns n → IsMade ns n (OneNode Not a) → IsNotCompared ns a → IsNoComparison ns n
no_denied_comparison ns n a h made k = record { same = λ side. plain_same side (formula_at ns n) h.none (λ o t u e. k.none o t u (inner (sym (ap formula_in made.item) ∙ e))) }
  where
    inner : {p q : FormulaData} → NotFormula p ≡ NotFormula q → p ≡ q
    inner e = cc

-- ---- the sides of an entry

module _ (ns : List Node) (n : ℕ) (formula : IsFormulaNumber ns n) (s : Sides) (h : IsComparison ns n s) where
  inner_within : h.inner < length ns
  inner_within = slice_get_within ns h.inner (TwoNode s.pair.head s.pair.first s.pair.second) h.compared.made.found

  first_term : first_of_two s.pair.head ≡ TermSort
  first_term = ap first_of_two h.compared.head

  second_term : second_of_two s.pair.head ≡ TermSort
  second_term = ap second_of_two h.compared.head

  pub first_number : IsTermNumber ns s.pair.first
  first_number = record { within = (let w = inner_within in let e = h.compared.made.parts.0.earlier in omega (arith, w, e)); sort = h.compared.made.parts.0.sort ∙ first_term }

  pub second_number : IsTermNumber ns s.pair.second
  second_number = record { within = (let w = inner_within in let e = h.compared.made.parts.1.earlier in omega (arith, w, e)); sort = h.compared.made.parts.1.sort ∙ second_term }

  inner_under : (d : Bool) (inner : ℕ) → IsWith ns n d inner → IsUnder ns n inner
  inner_under false inner e = subst (IsUnder ns n) e Itself
  inner_under true inner made = Below n (OneNode Not inner) inner Itself made (inl refl)

  outer : (hd : Two) (o : Comparison) → hd ≡ Compare o → (a b q : ℕ) → IsOneOf q (outer_parts (TwoNode (Compare o) a b)) → IsOneOf q (outer_parts (TwoNode hd a b))
  outer hd o e a b q one = subst (λ k. IsOneOf q (outer_parts (TwoNode k a b))) (sym e) one

  pub first_under : IsUnder ns n s.pair.first
  first_under = Below h.inner (TwoNode s.pair.head s.pair.first s.pair.second) s.pair.first (inner_under s.is_denied h.inner h.whole) h.compared.made (outer s.pair.head h.compared.operator h.compared.head s.pair.first s.pair.second s.pair.first (inl refl))

  pub second_under : IsUnder ns n s.pair.second
  second_under = Below h.inner (TwoNode s.pair.head s.pair.first s.pair.second) s.pair.second (inner_under s.is_denied h.inner h.whole) h.compared.made (outer s.pair.head h.compared.operator h.compared.head s.pair.first s.pair.second s.pair.second (inr (inl refl)))

  inner_sort : sort_of (item_at ns h.inner) ≡ FormulaSort
  inner_sort = ap sort_of h.compared.made.item ∙ ap (λ hd. sort_of (two_item hd (item_at ns s.pair.first) (item_at ns s.pair.second))) h.compared.head

  -- the entry is the comparison at the end of the path
  whole_at : (d : Bool) (inner : ℕ) → IsWith ns n d inner → item_at ns n ≡ filled ns (way_to d) (item_at ns inner)
  whole_at false inner e = ap (item_at ns) e
  whole_at true inner made = made.item

  pub whole_is : item_at ns n ≡ filled ns (way_to s.is_denied) (pair_item ns s.pair.head s.pair.first s.pair.second)
  whole_is = whole_at s.is_denied h.inner h.whole ∙ ap (filled ns (way_to s.is_denied)) h.compared.made.item

  leads_to : (d : Bool) → Leads ns FormulaSort (way_to d) FormulaSort
  leads_to false = refl
  leads_to true = (refl, tt, refl)

  unbound_to : (d : Bool) → bound_on (way_to d) ≡ []
  unbound_to false = refl
  unbound_to true = refl

  less : (d : Bool) (x : Item) → sort_of x ≡ FormulaSort → item_depth x ≤ item_depth (filled ns (way_to d) x)
  less false x e = omega arith
  less true x e = let same : item_depth (FormulaItem (formula_in x)) ≡ item_depth x = ap item_depth (a_formula x e) in omega (arith, same)

  at_most : (a b m : ℕ) → a ≤ b → b ≤ m → a ≤ m
  at_most a b m p q = omega (arith, p, q)

  pair_sort : (a b : ℕ) → sort_of (pair_item ns s.pair.head a b) ≡ FormulaSort
  pair_sort a b = ap (λ hd. sort_of (two_item hd (item_at ns a) (item_at ns b))) h.compared.head

  module _ (c : BranchClassesData) (names : List ℕ) (find : ℕ → Option ℕ) (q : Pair) (first : IsChosenSum ns c names find s.pair.first q.first) (second : IsChosenSum ns c names find s.pair.second q.second) where
    pub sides_at : (read : List Frame) → read ≡ way_to s.is_denied → item_depth (item_at ns n) ≤ most_deep → AreSidesAt ns c names find read s.pair q
    sides_at read same low =
        let whole : item_depth (filled ns (way_to s.is_denied) (pair_item ns s.pair.head s.pair.first s.pair.second)) ≤ most_deep = subst (λ x. item_depth x ≤ most_deep) whole_is low in
        subst (λ w. AreSidesAt ns c names find w s.pair q) (sym same) (record {
          first_term = first_term;
          second_term = second_term;
          plain = ap (λ hd. bound_in hd []) h.compared.head;
          leads = subst (Leads ns FormulaSort (way_to s.is_denied)) (sym (ap (λ hd. sort_of (two_item hd NoItem NoItem)) h.compared.head)) (leads_to s.is_denied);
          unbound = unbound_to s.is_denied;
          first = first;
          second = second;
          shallow = at_most (item_depth (pair_item ns s.pair.head s.pair.first s.pair.second)) (item_depth (filled ns (way_to s.is_denied) (pair_item ns s.pair.head s.pair.first s.pair.second))) most_deep (less s.is_denied (pair_item ns s.pair.head s.pair.first s.pair.second) (pair_sort s.pair.first s.pair.second)) whole;
          low = whole;
        })

    -- ---- with the chosen terms

    said_at : (d : Bool) (o : Comparison) (hd : Two) → hd ≡ Compare o → (a b : ℕ) → formula_in (filled ns (way_to d) (pair_item ns hd a b)) ≡ formula_in (filled ns (way_to d) (pair_item ns (Compare o) a b))
    said_at d o hd e a b = ap (λ k. formula_in (filled ns (way_to d) (pair_item ns k a b))) e

    becomes : (d : Bool) (o : Comparison) (side : TermData → TermData) (a b x y : ℕ) → term_at ns x ≡ side (term_at ns a) → term_at ns y ≡ side (term_at ns b) → formula_in (filled ns (way_to d) (pair_item ns (Compare o) x y)) ≡ comparison_with side (formula_in (filled ns (way_to d) (pair_item ns (Compare o) a b)))
    becomes false o side a b x y e f = λ i. CompareFormula o (e i) (f i)
    becomes true o side a b x y e f = λ i. NotFormula (CompareFormula o (e i) (f i))

    twice : (d : Bool) (o : Comparison) (one other : TermData → TermData) (a b : ℕ) → comparison_with (λ t. other (one t)) (formula_in (filled ns (way_to d) (pair_item ns (Compare o) a b))) ≡ comparison_with other (comparison_with one (formula_in (filled ns (way_to d) (pair_item ns (Compare o) a b))))
    twice false o one other a b = refl
    twice true o one other a b = refl

    pub side_ends : (class : TermData → ℕ) (chosen : ℕ → TermData) → AreOverClasses ns c names find n class chosen → formula_in (filled ns (way_to s.is_denied) (pair_item ns s.pair.head q.first q.second)) ≡ comparison_with (with_chosen chosen) (comparison_with (over class) (formula_at ns n))
    side_ends class chosen classes =
        let o = h.compared.operator in
        said_at s.is_denied h.compared.operator s.pair.head h.compared.head q.first q.second
        ∙ becomes s.is_denied h.compared.operator (λ t. with_chosen chosen (over class t)) s.pair.first s.pair.second q.first q.second
        (sum_is ns c names find n class chosen classes s.pair.first q.first first_under first)
        (sum_is ns c names find n class chosen classes s.pair.second q.second second_under second)
        ∙ twice s.is_denied h.compared.operator (over class) (with_chosen chosen) s.pair.first s.pair.second
        ∙ ap (λ p. comparison_with (with_chosen chosen) (comparison_with (over class) p)) (sym (said_at s.is_denied h.compared.operator s.pair.head h.compared.head s.pair.first s.pair.second) ∙ sym (ap formula_in whole_is))

    pub made_of_sides : (read : List Frame) (old new : List Difference) → read ≡ way_to s.is_denied → old ≡ [] → AreFoundAt ns c (filled ns read (pair_item ns s.pair.head s.pair.first s.pair.second)) (filled ns read (pair_item ns s.pair.head q.first q.second)) old new → MakeChosen ns c names find n new
    made_of_sides read old new same none found = record {
      in_turn = subst (λ x. AreInTurn ns c.numbers x new) begin (subst (AreInTurn ns c.numbers (filled ns read (pair_item ns s.pair.head s.pair.first s.pair.second))) (sym all) found.in_turn);
      each = λ k d f. found.each k d (subst (λ ds. slice_get ds k ≡ Some d) all f);
      ends = λ class chosen classes.
          ap formula_in ((λ i. after_all ns c.numbers (sym begin i) (all i)) ∙ found.ends ∙ ap (λ w. filled ns w (pair_item ns s.pair.head q.first q.second)) same)
          ∙ side_ends class chosen classes;
    }
      where
        all : new ≡ found.found
        all = found.more ∙ ap (λ ds. ds ++ found.found) none

        begin : filled ns read (pair_item ns s.pair.head s.pair.first s.pair.second) ≡ item_at ns n
        begin = ap (λ w. filled ns w (pair_item ns s.pair.head s.pair.first s.pair.second)) same ∙ sym whole_is

    pub made_of_same : (new : List Difference) → new ≡ [] → s.pair.first ≡ q.first → s.pair.second ≡ q.second → MakeChosen ns c names find n new
    made_of_same new none e f = subst (MakeChosen ns c names find n) (sym none) (record {
      in_turn = tt;
      each = λ k d g. absurd (cc);
      ends = λ class chosen classes. ap formula_in whole_is ∙ (λ i. formula_in (filled ns (way_to s.is_denied) (pair_item ns s.pair.head (e i) (f i)))) ∙ side_ends class chosen classes;
    })

-- a formula that is no comparison is unchanged by the chosen terms
pub made_of_none : (ns : List Node) (c : BranchClassesData) (names : List ℕ) (find : ℕ → Option ℕ) (n : ℕ) (new : List Difference) → new ≡ [] → IsNoComparison ns n → MakeChosen ns c names find n new
made_of_none ns c names find n new none h = subst (MakeChosen ns c names find n) (sym none) (record {
  in_turn = tt;
  each = λ k d g. absurd (cc);
  ends = λ class chosen classes. sym (ap (comparison_with (with_chosen chosen)) (h.same (over class)) ∙ h.same (with_chosen chosen));
})

-- ---- depth

counted_deep : (m k : ℕ) → k ≡ counted m → most_deep < k → m ≤ most_deep → ⊥
counted_deep m k e w h = omega (arith, e, w, h)

counted_shallow : (m k : ℕ) → k ≡ counted m → k ≤ most_deep → m ≤ most_deep
counted_shallow m k e w = omega (arith, e, w)

pub is_deep : (ns : List Node) (n k : ℕ) → IsFormulaNumber ns n → k ≡ counted (item_depth (item_at ns n)) → most_deep < k → IsDeep ns n
is_deep ns n k formula e w = record { deep = λ s. counted_deep (item_depth (item_at ns n)) k e w (subst (λ x. item_depth x ≤ most_deep) (a_formula (item_at ns n) formula.sort) s) }

pub is_low : (ns : List Node) (n k : ℕ) → k ≡ counted (item_depth (item_at ns n)) → k ≤ most_deep → item_depth (item_at ns n) ≤ most_deep
is_low ns n k e w = counted_shallow (item_depth (item_at ns n)) k e w

-- ---- a pool that is extended

module _ (ns ms : List Node) (g : Extends ns ms) where
  pub formula_grown : (n : ℕ) → IsFormulaNumber ns n → IsFormulaNumber ms n
  formula_grown n h = let p = part_grown ns ms g n FormulaSort (record { earlier = h.within; sort = h.sort }) in record { within = p.earlier; sort = p.sort }

  with_grown : (n : ℕ) (d : Bool) (inner : ℕ) → IsWith ns n d inner → IsWith ms n d inner
  with_grown n false inner e = e
  with_grown n true inner made = made_more ns ms g n (OneNode Not inner) made

  pub comparison_grown : (n : ℕ) (s : Sides) → IsComparison ns n s → IsComparison ms n s
  comparison_grown n s h = record {
    inner = h.inner;
    compared = record { operator = h.compared.operator; head = h.compared.head; made = made_more ns ms g h.inner (TwoNode s.pair.head s.pair.first s.pair.second) h.compared.made };
    whole = with_grown n s.is_denied h.inner h.whole;
  }

  module _ (c : BranchClassesData) where
    difference_grown : (d : Difference) → IsDifference ns c.classes.nodes c.classes.links c.numbers (length c.classes.links) d → IsDifference ms c.classes.nodes c.classes.links c.numbers (length c.classes.links) d
    difference_grown d h = record {
      is = replacement_grown ns ms g c.numbers d h.is;
      term = record { term = part_grown ns ms g (number_at c.numbers d.from) TermSort h.term.term; no_parameter = h.term.no_parameter };
      within = h.within;
      path = h.path;
    }

    pub made_grown : (names : List ℕ) (find : ℕ → Option ℕ) (n : ℕ) (ds : List Difference) → IsFormulaNumber ns n → MakeChosen ns c names find n ds → MakeChosen ms c names find n ds
    made_grown names find n ds formula h =
        let same : item_at ms n ≡ item_at ns n = item_kept ns ms g n formula.within in
        let replaces : (k : ℕ) (d : Difference) → slice_get ds k ≡ Some d → IsReplacement ns c.numbers d = λ k d f. (h.each k d f).is in
        record {
          in_turn = subst (λ x. AreInTurn ms c.numbers x ds) (sym same) (turn_grown ns ms g c.numbers (item_at ns n) ds replaces h.in_turn);
          each = λ k d f. difference_grown d (h.each k d f);
          ends = λ class chosen classes.
              ap formula_in (ap (λ x. after_all ms c.numbers x ds) same ∙ all_grown ns ms g c.numbers (item_at ns n) ds replaces)
              ∙ h.ends class chosen (over_classes_back ns ms g c names find n class chosen classes)
              ∙ ap (λ x. comparison_with (with_chosen chosen) (comparison_with (over class) (formula_in x))) (sym same);
        }

  pub deep_grown : (n : ℕ) → IsFormulaNumber ns n → IsDeep ns n → IsDeep ms n
  deep_grown n formula h = record { deep = λ s. h.deep (subst (λ x. IsShallow (formula_in x)) (item_kept ns ms g n formula.within) s) }

-- the sides with their chosen terms
pub sides_of_entry : (ns ms ks : List Node) → Extends ns ms → Extends ms ks → Extends ns ks → (c : BranchClassesData) (names : List ℕ) (find : ℕ → Option ℕ) (n : ℕ) (s : Sides) (q : Pair) → IsFormulaNumber ns n → IsComparison ns n s → IsChosenSum ms c names find s.pair.first q.first → IsChosenSum ks c names find s.pair.second q.second → AreSidesOf ks c names find n s q
sides_of_entry ns ms ks g h all c names find n s q formula comparison first second = record {
  formula = formula_grown ns ks all n formula;
  comparison = comparison_grown ns ks all n s comparison;
  first = sum_grown ms ks h c names find s.pair.first q.first first;
  second = second;
}
