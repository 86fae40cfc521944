-- Differences, one after another.
use Rattle.std.proofs.Common.{◌≡◌, inl, inr, false, ℕ, zero, suc, ◌≤◌, List, [], ◌∷◌, length, take, Option, Some, Result, IfOk, refl, sym, ap, ◌∙◌, subst, arith}
use Rattle.std.specs.Prelude.{slice_get}
use Rattle.term_pool.proofs.GrowthLemmas.{if_ok}
use Rattle.std.proofs.lemmas.List.Elements.{All-nil}
use Rattle.fol.specs.declared.operators.Comparison.TheVariants.{Eq}
use Rattle.fol.specs.declared.operators.Junction.TheVariants.{AnyOf}
use Rattle.fol.specs.FormulaData.{TermData, VarTerm, FormulaData, CompareFormula, JoinFormula, NoFormulas, EqFormula}
use Rattle.substitution.specs.Free.{free_in_term}
use Rattle.term_pool.specs.Items.{Item, NoItem, TermItem, TermsItem, TriggersItem, FormulaItem, FormulasItem, TypeItem, TypesItem, BytesItem, TermSort, FormulaSort, FormulasSort, Sort, sort_of, formula_in, one_part, first_of_two, second_of_two, first_of_three, second_of_three, third_of_three}
use Rattle.term_pool.specs.Pools.{item_at, HasPart, Extends}
use Rattle.term_pool.specs.Depths.{item_depth}
use Rattle.term_pool.specs.declared.node.Node.{Node}
use Rattle.term_pool.proofs.ItemLemmas.{item_kept}
use Rattle.term_pool.specs.declared.node.Leaf.TheVariants.{NilFormulas}
use Rattle.term_pool.specs.declared.node.One.{One}
use Rattle.term_pool.specs.declared.node.One.TheVariants.{Join}
use Rattle.term_pool.proofs.ShapeLemmas.{a_formula, shape_of, LeafShape, OneShape, TwoShape, ThreeShape, one_shape, two_shape, three_shape}
use Rattle.certificates.specs.BranchesBranch.{Branch}
use Rattle.certificates.specs.Due.{IsShallow}
use Rattle.certificates.specs.Joined.{IsFreeOf}
use Rattle.certificates.specs.Closes.{most_deep}
use Rattle.explanations.specs.Chains.{term_at, ChainData, Keeps, IsAt, Equates, CanSwap}
use Rattle.explanations.specs.Frames.{frame_item, filled, open_sort, HasOthers, Leads, IsWay, bound_on}
use Rattle.explanations.specs.declared.frame.Frame.{Frame}
use Rattle.explanations.specs.declared.frame.Frame.TheVariants.{Only, FirstOfTwo, SecondOfTwo, FirstOfThree, SecondOfThree, ThirdOfThree}
use Rattle.explanations.proofs.FrameLemmas.{filled_sorted, filled_kept, leads_stay}
use Rattle.congruence_closure.specs.Numbers.{number_at}
use Rattle.explanations.specs.Routes.{IsEither}
use Rattle.explanations.specs.Replacing.{before_it, after_it, IsReplacement, CanReplace, after_all, AreInTurn, CanReplaceAt, IsReplacedAt, CanBeginEach, itself_item, CanReplaceAll, CanBeginAll}
use Rattle.explanations.specs.declared.derived.replacing.Difference.{Difference}
use Rattle.explanations.proofs.GrowthLemmas.{part_grown, term_grown, at_grown, begin_grown, go_grown}
use Rattle.explanations.proofs.DepthLemmas.{filled_deeper, some_depth}

-- ---- in the order of the list

pub after_none : (ns : List Node) (numbers : List ℕ) (x : Item) (ds : List Difference) → after_all ns numbers x (take zero ds) ≡ x
after_none ns numbers x [] = refl
after_none ns numbers x (d ∷ ds) = refl

-- the item to which the next one applies
pub found_next : (ns : List Node) (numbers : List ℕ) (x : Item) (ds : List Difference) → AreInTurn ns numbers x ds → (n : ℕ) (d : Difference) → slice_get ds n ≡ Some d → after_all ns numbers x (take n ds) ≡ before_it ns numbers d
found_next ns numbers x [] t n d e = absurd (cc)
found_next ns numbers x (first ∷ ds) t zero d e = let same : first ≡ d = cc in t.0 ∙ ap (before_it ns numbers) same
found_next ns numbers x (first ∷ ds) t (suc n) d e = found_next ns numbers (after_it ns numbers first) ds t.1 n d e

-- and its result
pub left_next : (ns : List Node) (numbers : List ℕ) (x : Item) (ds : List Difference) (n : ℕ) (d : Difference) → slice_get ds n ≡ Some d → after_all ns numbers x (take (suc n) ds) ≡ after_it ns numbers d
left_next ns numbers x [] n d e = absurd (cc)
left_next ns numbers x (first ∷ ds) zero d e = let same : first ≡ d = cc in after_none ns numbers (after_it ns numbers first) ds ∙ ap (after_it ns numbers) same
left_next ns numbers x (first ∷ ds) (suc n) d e = left_next ns numbers (after_it ns numbers first) ds n d e

-- ---- a pool that is extended

module _ (ns ms : List Node) (x : Extends ns ms) (numbers : List ℕ) (d : Difference) (is : IsReplacement ns numbers d) where
  way_filled : (k : ℕ) → HasPart ns (length ns) k TermSort → filled ms d.way.items (item_at ms k) ≡ filled ns d.way.items (item_at ns k)
  way_filled k p = filled_kept ns ms x FormulaSort TermSort d.way.items is.leads.leads (item_at ms k) ∙ ap (filled ns d.way.items) (item_kept ns ms x k p.earlier)

  term_kept : (k : ℕ) → HasPart ns (length ns) k TermSort → term_at ms k ≡ term_at ns k
  term_kept k p = term_grown ns ms x k TermSort p

  pub before_grown : before_it ms numbers d ≡ before_it ns numbers d
  before_grown = way_filled (number_at numbers d.from) is.from_term

  pub after_grown : after_it ms numbers d ≡ after_it ns numbers d
  after_grown = way_filled (number_at numbers d.to) is.to_term

  pub replacement_grown : IsReplacement ms numbers d
  replacement_grown = record {
    leads = record { leads = leads_stay ns ms x FormulaSort TermSort d.way.items is.leads.leads };
    free = subst (IsFreeOf (bound_on d.way.items)) (sym (term_kept (number_at numbers d.from) is.from_term)) is.free;
    other_free = subst (IsFreeOf (bound_on d.way.items)) (sym (term_kept (number_at numbers d.to) is.to_term)) is.other_free;
    from_term = part_grown ns ms x (number_at numbers d.from) TermSort is.from_term;
    to_term = part_grown ns ms x (number_at numbers d.to) TermSort is.to_term;
    low = subst (λ y. item_depth y ≤ most_deep) (sym after_grown) is.low;
  }

pub replace_grown : (ns ms : List Node) → Extends ns ms → (d e : ChainData) → Keeps d e → (numbers : List ℕ) (equations : List (Option ℕ)) (difference : Difference) → CanReplace ns d numbers equations difference → CanReplace ms e numbers equations difference
replace_grown ns ms x d e k numbers equations difference c = record {
  is = replacement_grown ns ms x numbers difference c.is;
  route = go_grown ns ms x d e k numbers equations difference.from difference.route.items c.route;
  ends = c.ends;
}

-- ---- a formula in which a term occurs is not the default for a missing node

no_leaf : (ns : List Node) (f : Frame) → HasOthers ns f → (x : Item) → sort_of x ≡ open_sort f → frame_item ns f x ≡ FormulasItem NoFormulas → ⊥
no_leaf ns (Only h) o x e is = let both : LeafShape NilFormulas ≡ OneShape h x = sym (ap shape_of is) ∙ one_shape h x e in absurd (cc)
no_leaf ns (FirstOfTwo h b) o x e is = let both : LeafShape NilFormulas ≡ TwoShape h x (item_at ns b) = sym (ap shape_of is) ∙ two_shape h x (item_at ns b) e o.sort in absurd (cc)
no_leaf ns (SecondOfTwo h a) o x e is = let both : LeafShape NilFormulas ≡ TwoShape h (item_at ns a) x = sym (ap shape_of is) ∙ two_shape h (item_at ns a) x o.sort e in absurd (cc)
no_leaf ns (FirstOfThree h b c) o x e is = let both : LeafShape NilFormulas ≡ ThreeShape h x (item_at ns b) (item_at ns c) = sym (ap shape_of is) ∙ three_shape h x (item_at ns b) (item_at ns c) e o.0.sort o.1.sort in absurd (cc)
no_leaf ns (SecondOfThree h a c) o x e is = let both : LeafShape NilFormulas ≡ ThreeShape h (item_at ns a) x (item_at ns c) = sym (ap shape_of is) ∙ three_shape h (item_at ns a) x (item_at ns c) o.0.sort e o.1.sort in absurd (cc)
no_leaf ns (ThirdOfThree h a b) o x e is = let both : LeafShape NilFormulas ≡ ThreeShape h (item_at ns a) (item_at ns b) x = sym (ap shape_of is) ∙ three_shape h (item_at ns a) (item_at ns b) x o.0.sort o.1.sort e in absurd (cc)

-- no empty list has a term in it
filled_list : (ns : List Node) (top : Sort) (way : List Frame) → Leads ns top way TermSort → (x : Item) → sort_of x ≡ TermSort → filled ns way x ≡ FormulasItem NoFormulas → ⊥
filled_list ns top [] l x e is = let both : TermSort ≡ FormulasSort = sym e ∙ ap sort_of is in absurd (cc)
filled_list ns top (f ∷ fs) l x e is = no_leaf ns f l.1 (filled ns fs x) (filled_sorted ns (open_sort f) TermSort fs l.2 x e) is

same_part : (h k : One) (x y : Item) → OneShape h x ≡ OneShape k y → x ≡ y
same_part h k x y e = cc

abbrev no_formula : FormulaData
no_formula = JoinFormula AnyOf NoFormulas

missing_shape : shape_of (FormulaItem (JoinFormula AnyOf NoFormulas)) ≡ OneShape (Join AnyOf) (FormulasItem NoFormulas)
missing_shape = refl

pub not_missing : (ns : List Node) (way : List Frame) → IsWay ns way TermSort → (x : Item) → sort_of x ≡ TermSort → filled ns way x ≡ FormulaItem (JoinFormula AnyOf NoFormulas) → ⊥
not_missing ns way w x e is = go way w.leads is
  where
    go : (fs : List Frame) → Leads ns FormulaSort fs TermSort → filled ns fs x ≡ FormulaItem (JoinFormula AnyOf NoFormulas) → ⊥
    go [] l i = absurd (cc)
    go (Only h ∷ fs) l i =
        let y : Item = filled ns fs x in
        let sorted : sort_of (filled ns fs x) ≡ one_part h = filled_sorted ns (one_part h) TermSort fs l.2 x e in
        let both : OneShape h (filled ns fs x) ≡ OneShape (Join AnyOf) (FormulasItem NoFormulas) = sym (one_shape h (filled ns fs x) sorted) ∙ ap shape_of i in
        filled_list ns (one_part h) fs l.2 x e (same_part h (Join AnyOf) (filled ns fs x) (FormulasItem NoFormulas) both)
    go (FirstOfTwo h b ∷ fs) l i = let both : OneShape (Join AnyOf) (FormulasItem NoFormulas) ≡ TwoShape h (filled ns fs x) (item_at ns b) = sym (ap shape_of i) ∙ two_shape h (filled ns fs x) (item_at ns b) (filled_sorted ns (first_of_two h) TermSort fs l.2 x e) l.1.sort in absurd (cc)
    go (SecondOfTwo h a ∷ fs) l i = let both : OneShape (Join AnyOf) (FormulasItem NoFormulas) ≡ TwoShape h (item_at ns a) (filled ns fs x) = sym (ap shape_of i) ∙ two_shape h (item_at ns a) (filled ns fs x) l.1.sort (filled_sorted ns (second_of_two h) TermSort fs l.2 x e) in absurd (cc)
    go (FirstOfThree h b c ∷ fs) l i = let both : OneShape (Join AnyOf) (FormulasItem NoFormulas) ≡ ThreeShape h (filled ns fs x) (item_at ns b) (item_at ns c) = sym (ap shape_of i) ∙ three_shape h (filled ns fs x) (item_at ns b) (item_at ns c) (filled_sorted ns (first_of_three h) TermSort fs l.2 x e) l.1.0.sort l.1.1.sort in absurd (cc)
    go (SecondOfThree h a c ∷ fs) l i = let both : OneShape (Join AnyOf) (FormulasItem NoFormulas) ≡ ThreeShape h (item_at ns a) (filled ns fs x) (item_at ns c) = sym (ap shape_of i) ∙ three_shape h (item_at ns a) (filled ns fs x) (item_at ns c) l.1.0.sort (filled_sorted ns (second_of_three h) TermSort fs l.2 x e) l.1.1.sort in absurd (cc)
    go (ThirdOfThree h a b ∷ fs) l i = let both : OneShape (Join AnyOf) (FormulasItem NoFormulas) ≡ ThreeShape h (item_at ns a) (item_at ns b) (filled ns fs x) = sym (ap shape_of i) ∙ three_shape h (item_at ns a) (item_at ns b) (filled ns fs x) l.1.0.sort l.1.1.sort (filled_sorted ns (third_of_three h) TermSort fs l.2 x e) in absurd (cc)

-- a formula in which a term occurs keeps its index
filled_stands : (ns ms : List Node) → Extends ns ms → (d e : ChainData) → Keeps d e → (way : List Frame) → IsWay ns way TermSort → (k : ℕ) → HasPart ns (length ns) k TermSort → (position : ℕ) → IsAt ns d position (formula_in (filled ns way (item_at ns k))) → IsAt ms e position (formula_in (filled ns way (item_at ns k)))
filled_stands ns ms x d e k way w n p position h =
    at_grown ns ms x d e k position (formula_in (filled ns way (item_at ns n))) (λ is. not_missing ns way w (item_at ns n) p.sort (sym (a_formula (filled ns way (item_at ns n)) (filled_sorted ns FormulaSort TermSort way w.leads (item_at ns n) p.sort)) ∙ ap FormulaItem is)) h

pub before_stands : (ns ms : List Node) → Extends ns ms → (d e : ChainData) → Keeps d e → (numbers : List ℕ) (difference : Difference) → IsReplacement ns numbers difference → (position : ℕ) → IsAt ns d position (formula_in (before_it ns numbers difference)) → IsAt ms e position (formula_in (before_it ms numbers difference))
before_stands ns ms x d e k numbers difference is position h =
    subst (λ y. IsAt ms e position (formula_in y)) (sym (before_grown ns ms x numbers difference is)) (filled_stands ns ms x d e k difference.way.items is.leads (number_at numbers difference.from) is.from_term position h)

pub after_stands : (ns ms : List Node) → Extends ns ms → (d e : ChainData) → Keeps d e → (numbers : List ℕ) (difference : Difference) → IsReplacement ns numbers difference → (position : ℕ) → IsAt ns d position (formula_in (after_it ns numbers difference)) → IsAt ms e position (formula_in (after_it ns numbers difference))
after_stands ns ms x d e k numbers difference is position h = filled_stands ns ms x d e k difference.way.items is.leads (number_at numbers difference.to) is.to_term position h

-- ---- conditions of a replacement

-- if the context binds no variable, each term is free of bound ones
pub unbound_free : (way : List Frame) → bound_on way ≡ [] → (t : TermData) → IsFreeOf (bound_on way) t
unbound_free way none t = subst (λ bound. IsFreeOf bound t) (sym none) (All-nil (λ n. free_in_term n t ≡ false))

shallow_of : (x : Item) → sort_of x ≡ FormulaSort → item_depth x ≤ most_deep → IsShallow (formula_in x)
shallow_of x e h = let same : item_depth (FormulaItem (formula_in x)) ≡ item_depth x = ap item_depth (a_formula x e) in omega arith

filled_shallow : (ns : List Node) (way : List Frame) → IsWay ns way TermSort → (x : Item) → sort_of x ≡ TermSort → item_depth (filled ns way x) ≤ most_deep → IsShallow (formula_in (filled ns way x))
filled_shallow ns way w x e h = shallow_of (filled ns way x) (filled_sorted ns FormulaSort TermSort way w.leads x e) h

variable_shallow : (ns : List Node) (way : List Frame) → IsWay ns way TermSort → (k v : ℕ) → HasPart ns (length ns) k TermSort → item_depth (filled ns way (item_at ns k)) ≤ most_deep → IsShallow (formula_in (filled ns way (TermItem (VarTerm v))))
variable_shallow ns way w k v p h =
    let deep : 1 ≤ item_depth (item_at ns k) = some_depth (item_at ns k) p.sort in
    let less : item_depth (filled ns way (TermItem (VarTerm v))) ≤ item_depth (filled ns way (item_at ns k)) = filled_deeper ns FormulaSort TermSort way w.leads (TermItem (VarTerm v)) (item_at ns k) refl p.sort deep in
    filled_shallow ns way w (TermItem (VarTerm v)) refl (omega arith)

pub can_swap : (ns : List Node) (d : ChainData) (numbers : List ℕ) (difference : Difference) (equation source : ℕ) → IsReplacement ns numbers difference → IsEither ns d equation (number_at numbers difference.from) (number_at numbers difference.to) → IsAt ns d source (formula_in (before_it ns numbers difference)) → CanSwap ns d difference.way.items (record { equation = equation; from = number_at numbers difference.from; to = number_at numbers difference.to }) source
can_swap ns d numbers difference equation source is either h = record {
  equation = said either;
  is_equation = stands either;
  equates = equates either;
  is_source = h;
  free = is.free;
  other_free = is.other_free;
  shallow = filled_shallow ns difference.way.items is.leads (item_at ns (number_at numbers difference.to)) is.to_term.sort is.low;
  pattern_shallow = variable_shallow ns difference.way.items is.leads (number_at numbers difference.to) d.variable is.to_term is.low;
}
  where
    from : ℕ
    from = number_at numbers difference.from

    to : ℕ
    to = number_at numbers difference.to

    said : IsEither ns d equation from to → FormulaData
    said (inl e) = EqFormula (term_at ns from) (term_at ns to)
    said (inr e) = EqFormula (term_at ns to) (term_at ns from)

    stands : (e : IsEither ns d equation from to) → IsAt ns d equation (said e)
    stands (inl e) = e.at
    stands (inr e) = e.at

    equates : (e : IsEither ns d equation from to) → Equates (said e) (term_at ns from) (term_at ns to)
    equates (inl e) = inl refl
    equates (inr e) = inr refl

-- ---- in the form of the calls

pub found_at : (ns ms : List Node) (x : Extends ns ms) (d e : ChainData) (numbers : List ℕ) (y : Item) (ds : List Difference) → AreInTurn ns numbers y ds → (n : ℕ) (difference : Difference) → IsReplacement ns numbers difference → slice_get ds n ≡ Some difference → (position : ℕ) → IsAt ms e position (formula_in (after_all ns numbers y (take n ds))) → IsAt ms e position (formula_in (before_it ms numbers difference))
found_at ns ms x d e numbers y ds t n difference is f position h =
    subst (λ z. IsAt ms e position (formula_in z)) (found_next ns numbers y ds t n difference f ∙ sym (before_grown ns ms x numbers difference is)) h

pub left_at : (ns ms ks : List Node) (x : Extends ns ms) (e : ChainData) (numbers : List ℕ) (y : Item) (ds : List Difference) (n m : ℕ) (difference : Difference) → IsReplacement ns numbers difference → slice_get ds n ≡ Some difference → m ≡ suc n → (position : ℕ) → IsAt ks e position (formula_in (after_it ms numbers difference)) → IsAt ks e position (formula_in (after_all ns numbers y (take m ds)))
left_at ns ms ks x e numbers y ds n m difference is f s position h =
    subst (λ z. IsAt ks e position (formula_in z)) (after_grown ns ms x numbers difference is ∙ sym (left_next ns numbers y ds n difference f) ∙ ap (λ k. after_all ns numbers y (take k ds)) (sym s)) h

-- the equation of the ends of the route is that of the two terms
pub ends_either : (ns : List Node) (d : ChainData) (numbers : List ℕ) (position from to end : ℕ) → end ≡ to → IsEither ns d position (number_at numbers from) (number_at numbers end) → IsEither ns d position (number_at numbers from) (number_at numbers to)
ends_either ns d numbers position from to end e h = subst (λ k. IsEither ns d position (number_at numbers from) (number_at numbers k)) e h

-- in the form in which the numbers and the context were read
pub swap_read : (ns : List Node) (d : ChainData) (numbers : List ℕ) (difference : Difference) (equation source from to : ℕ) (way : List Frame) → way ≡ difference.way.items → from ≡ number_at numbers difference.from → to ≡ number_at numbers difference.to → CanSwap ns d difference.way.items (record { equation = equation; from = number_at numbers difference.from; to = number_at numbers difference.to }) source → CanSwap ns d way (record { equation = equation; from = from; to = to }) source
swap_read ns d numbers difference equation source from to way w f t h =
    subst (λ v. CanSwap ns d v (record { equation = equation; from = from; to = to }) source) (sym w)
    (subst (λ i. CanSwap ns d difference.way.items (record { equation = equation; from = i; to = to }) source) (sym f)
    (subst (λ i. CanSwap ns d difference.way.items (record { equation = equation; from = number_at numbers difference.from; to = i }) source) (sym t) h))

pub replaced_at : {E : Type 0} (ns ms ks : List Node) (x : Extends ns ms) (e : ChainData) (numbers : List ℕ) (difference : Difference) (to : ℕ) (way : List Frame) → IsReplacement ns numbers difference → way ≡ difference.way.items → to ≡ number_at numbers difference.to → (r : Result ℕ E) → IfOk r (λ position. IsAt ks e position (formula_in (filled ms way (item_at ms to)))) → IfOk r (λ position. IsAt ks e position (formula_in (after_it ns numbers difference)))
replaced_at ns ms ks x e numbers difference to way is w t r h =
    if_ok r (λ position g. subst (λ y. IsAt ks e position (formula_in y)) ((λ i. filled ms (w i) (item_at ms (t i))) ∙ after_grown ns ms x numbers difference is) g) h

-- ---- all of them over a larger pool

module _ (ns ms : List Node) (x : Extends ns ms) (numbers : List ℕ) where
  pub all_grown : (y : Item) (ds : List Difference) → ((n : ℕ) (d : Difference) → slice_get ds n ≡ Some d → IsReplacement ns numbers d) → after_all ms numbers y ds ≡ after_all ns numbers y ds
  all_grown y [] each = refl
  all_grown y (d ∷ ds) each =
      ap (λ z. after_all ms numbers z ds) (after_grown ns ms x numbers d (each zero d refl)) ∙ all_grown (after_it ns numbers d) ds (λ n c f. each (suc n) c f)

  pub turn_grown : (y : Item) (ds : List Difference) → ((n : ℕ) (d : Difference) → slice_get ds n ≡ Some d → IsReplacement ns numbers d) → AreInTurn ns numbers y ds → AreInTurn ms numbers y ds
  turn_grown y [] each t = tt
  turn_grown y (d ∷ ds) each t = (
    t.0 ∙ sym (before_grown ns ms x numbers d (each zero d refl)),
    subst (λ z. AreInTurn ms numbers z ds) (sym (after_grown ns ms x numbers d (each zero d refl))) (turn_grown (after_it ns numbers d) ds (λ n c f. each (suc n) c f) t.1),
  )

pub only_equation : (y : Item) (t u : TermData) → formula_in y ≡ EqFormula t u → y ≡ FormulaItem (EqFormula t u)
only_equation (FormulaItem p) t u e = ap FormulaItem e
only_equation NoItem t u e = absurd (let both : JoinFormula AnyOf NoFormulas ≡ CompareFormula Eq t u = e in (cc))
only_equation (TermItem a) t u e = absurd (let both : JoinFormula AnyOf NoFormulas ≡ CompareFormula Eq t u = e in (cc))
only_equation (TermsItem a) t u e = absurd (let both : JoinFormula AnyOf NoFormulas ≡ CompareFormula Eq t u = e in (cc))
only_equation (TriggersItem a) t u e = absurd (let both : JoinFormula AnyOf NoFormulas ≡ CompareFormula Eq t u = e in (cc))
only_equation (FormulasItem a) t u e = absurd (let both : JoinFormula AnyOf NoFormulas ≡ CompareFormula Eq t u = e in (cc))
only_equation (TypeItem a) t u e = absurd (let both : JoinFormula AnyOf NoFormulas ≡ CompareFormula Eq t u = e in (cc))
only_equation (TypesItem a) t u e = absurd (let both : JoinFormula AnyOf NoFormulas ≡ CompareFormula Eq t u = e in (cc))
only_equation (BytesItem a) t u e = absurd (let both : JoinFormula AnyOf NoFormulas ≡ CompareFormula Eq t u = e in (cc))

module _ (ns ms : List Node) (x : Extends ns ms) (d e : ChainData) (numbers : List ℕ) (equations : List (Option ℕ)) (left source : ℕ) (ds : List Difference) (h : IsAt ms e source (EqFormula (term_at ns left) (term_at ns left))) (can : CanReplaceAll ns d numbers equations left ds) where
  is_itself : item_at ms h.number ≡ itself_item ns left
  is_itself = only_equation (item_at ms h.number) (term_at ns left) (term_at ns left) h.is

  each : (n : ℕ) (difference : Difference) → slice_get ds n ≡ Some difference → IsReplacement ns numbers difference
  each n difference f = (can.each n difference f).is

  replaced_in : Keeps d e → CanReplaceAt ms e numbers equations source ds
  replaced_in k = record {
    number = h.number;
    found = h.found;
    in_turn = subst (λ y. AreInTurn ms numbers y ds) (sym is_itself) (turn_grown ns ms x numbers (itself_item ns left) ds each can.in_turn);
    each = λ n difference f. replace_grown ns ms x d e k numbers equations difference (can.each n difference f);
  }

  became_in : (ks : List Node) (f : ChainData) (position : ℕ) → IsReplacedAt ms e numbers source ds ks f position → IsAt ks f position (formula_in (after_all ns numbers (itself_item ns left) ds))
  became_in ks f position r = subst (λ y. IsAt ks f position (formula_in y)) (ap (λ y. after_all ms numbers y ds) is_itself ∙ all_grown ns ms x numbers (itself_item ns left) ds each) (r.at h.number h.found)

pub itself_replaced : (ns ms : List Node) (x : Extends ns ms) (d e : ChainData) → Keeps d e → (numbers : List ℕ) (equations : List (Option ℕ)) (left source : ℕ) (ds : List Difference) → IsAt ms e source (EqFormula (term_at ns left) (term_at ns left)) → CanReplaceAll ns d numbers equations left ds → CanReplaceAt ms e numbers equations source ds
itself_replaced ns ms x d e k numbers equations left source ds h can = replaced_in ns ms x d e numbers equations left source ds h can k

pub itself_became : (ns ms : List Node) (x : Extends ns ms) (d e : ChainData) (numbers : List ℕ) (equations : List (Option ℕ)) (left source : ℕ) (ds : List Difference) → IsAt ms e source (EqFormula (term_at ns left) (term_at ns left)) → CanReplaceAll ns d numbers equations left ds → (ks : List Node) (f : ChainData) (position : ℕ) → IsReplacedAt ms e numbers source ds ks f position → IsAt ks f position (formula_in (after_all ns numbers (itself_item ns left) ds))
itself_became ns ms x d e numbers equations left source ds h can ks f position r = became_in ns ms x d e numbers equations left source ds h can ks f position r

pub begun_each : (ns ms : List Node) → Extends ns ms → (b : Branch) (d e : ChainData) → Keeps d e → (numbers : List ℕ) (equations : List (Option ℕ)) (left : ℕ) (ds : List Difference) → CanReplaceAll ns d numbers equations left ds → CanBeginAll ns b d numbers left ds → CanBeginEach ms b e numbers ds
begun_each ns ms x b d e k numbers equations left ds can begin = record { each = λ n difference f. begin_grown ns ms x b d e k (number_at numbers difference.from) TermSort (can.each n difference f).is.from_term (begin.each n difference f) }
