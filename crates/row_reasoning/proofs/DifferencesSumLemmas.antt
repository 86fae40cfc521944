-- Sums with the chosen term for each unknown.
use Rattle.std.proofs.Common.{◌≡◌, inl, inr, ℕ, ◌+◌, ◌<◌, ◌≤◌, max, ℤ, Bool, true, false, List, length, Option, Some, None, cond, nat_eq, refl, sym, ap, ◌∙◌, subst, arith}
use Rattle.std.specs.Prelude.{slice_index, MatchOption}
use Rattle.std.proofs.lemmas.Bool.{eqb-true}
use Rattle.std.proofs.lemmas.Option.{slice_get_within}
use Rattle.fol.specs.declared.operators.Binary.{Binary as BinaryOperator}
use Rattle.fol.specs.declared.operators.Binary.TheVariants.{Add, Mul, Sub}
use Rattle.fol.specs.declared.operators.Constant.TheVariants.{Num}
use Rattle.fol.specs.FormulaData.{TermData, VarTerm, ConstantTerm, BinaryTerm, MulTerm}
use Rattle.certificates.specs.Closes.{most_deep}
use Rattle.certificates.specs.Linear.{numeral_of}
use Rattle.certificates.specs.Rows.{over, product_over}
use Rattle.term_pool.specs.Items.{Item, TermSort, sort_of, term_in, leaf_item, one_item, two_item, three_item, first_of_two, second_of_two}
use Rattle.term_pool.specs.Pools.{item_at, HasParts, IsMade, Extends}
use Rattle.term_pool.specs.Depths.{item_depth, counted, two_steps}
use Rattle.term_pool.specs.declared.node.Leaf.{Leaf}
use Rattle.term_pool.specs.declared.node.Leaf.TheVariants.{Constant}
use Rattle.term_pool.specs.declared.node.One.{One}
use Rattle.term_pool.specs.declared.node.One.TheVariants.{Unary}
use Rattle.term_pool.specs.declared.node.Two.{Two}
use Rattle.term_pool.specs.declared.node.Two.TheVariants.{Binary}
use Rattle.term_pool.specs.declared.node.Three.{Three}
use Rattle.term_pool.specs.declared.node.Three.TheVariants.{Ternary}
use Rattle.term_pool.specs.declared.node.Node.{Node}
use Rattle.term_pool.specs.declared.node.Node.TheVariants.{Leaf as LeafNode, One as OneNode, Two as TwoNode, Three as ThreeNode}
use Rattle.tableau.specs.Marks.{outer_parts, IsOneOf, IsUnder, Below}
use Rattle.tableau.specs.PoolBranches.{IsTermNumber}
use Rattle.row_reasoning.specs.Shapes.{term_at}
use Rattle.congruence_closure.specs.Known.{BranchClassesData}
use Rattle.congruence_closure.proofs.OverLemmas.{made_more}
use Rattle.explanations.proofs.DepthLemmas.{two_depth}
use Rattle.row_reasoning.specs.Chosen.{IsNoSum, with_chosen}
use Rattle.row_reasoning.specs.Shallowest.{HasNumeral}
use Rattle.row_reasoning.specs.StandIns.{HasChosen, IsStandIn, HasStandIn, HaveStandIns, AreOverClasses}
use Rattle.row_reasoning.specs.DifferencesSums.{pair_in, IsPair, IsNoPair, Past, Other, IsSumOf, IsChosenSum, OfUnknown, OfNumeral, OfParts, AreChosenSums}
use Rattle.row_reasoning.specs.declared.differences.shape.Pair.{Pair}
use Rattle.row_reasoning.proofs.StandInLemmas.{part_has, number_grown, term_same, stand_in_grown}

-- ---- nodes

pub pair_made : (ns : List Node) (n : ℕ) (node : Node) → IsMade ns n node → (r : Option Pair) → r ≡ pair_in node → MatchOption r (IsNoPair ns n) (IsPair ns n)
pair_made ns n (LeafNode h) made r e = subst (λ o. MatchOption o (IsNoPair ns n) (IsPair ns n)) (sym e) (Other (LeafNode h) made refl)
pair_made ns n (OneNode h a) made r e = subst (λ o. MatchOption o (IsNoPair ns n) (IsPair ns n)) (sym e) (Other (OneNode h a) made refl)
pair_made ns n (TwoNode h a b) made r e = subst (λ o. MatchOption o (IsNoPair ns n) (IsPair ns n)) (sym e) made
pair_made ns n (ThreeNode h a b c) made r e = subst (λ o. MatchOption o (IsNoPair ns n) (IsPair ns n)) (sym e) (Other (ThreeNode h a b c) made refl)

leaf_numeral : (h : Leaf) → (IsNoSum (term_in (leaf_item h)) → ⊥) → HasNumeral (term_in (leaf_item h))
leaf_numeral (Constant (Num i)) fails = record { number = i; is = refl }
leaf_numeral (Constant _) fails = absurd (fails tt)
leaf_numeral _ fails = absurd (fails tt)

one_no_sum : (h : One) (x : Item) → IsNoSum (term_in (one_item h x))
one_no_sum (Unary o) x = tt
one_no_sum h x = tt

three_no_sum : (h : Three) (x y z : Item) → IsNoSum (term_in (three_item h x y z))
three_no_sum (Ternary o) x y z = tt
three_no_sum h x y z = tt

node_numeral : (ns : List Node) (n : ℕ) (node : Node) → IsMade ns n node → pair_in node ≡ None → (IsNoSum (term_at ns n) → ⊥) → HasNumeral (term_at ns n)
node_numeral ns n (LeafNode h) made e fails = subst (λ x. HasNumeral (term_in x)) (sym made.item) (leaf_numeral h (λ s. fails (subst (λ x. IsNoSum (term_in x)) (sym made.item) s)))
node_numeral ns n (OneNode h a) made e fails = absurd (fails (subst (λ x. IsNoSum (term_in x)) (sym made.item) (one_no_sum h (item_at ns a))))
node_numeral ns n (TwoNode h a b) made e fails = absurd (cc)
node_numeral ns n (ThreeNode h a b c) made e fails = absurd (fails (subst (λ x. IsNoSum (term_in x)) (sym made.item) (three_no_sum h (item_at ns a) (item_at ns b) (item_at ns c))))

-- a sum that is not binary is a numeral
pub numeral_left : (ns : List Node) (n : ℕ) → IsTermNumber ns n → (IsNoSum (term_at ns n) → ⊥) → IsNoPair ns n → HasNumeral (term_at ns n)
numeral_left ns n term fails (Past w) = absurd (let v = term.within in omega (arith, w, v))
numeral_left ns n term fails (Other node made e) = node_numeral ns n node made e fails

-- ---- the head of a sum

pub record HasOperator (h : Two) : Type 0 where
  pub operator : BinaryOperator
  pub is : h ≡ Binary operator

two_operator : (h : Two) (x y : Item) → (IsNoSum (term_in (two_item h x y)) → ⊥) → HasOperator h
two_operator (Binary o) x y fails = record { operator = o; is = refl }
two_operator h x y fails = absurd (fails tt)

pub sum_operator : (ns : List Node) (n : ℕ) (p : Pair) → IsSumOf ns n p → HasOperator p.head
sum_operator ns n p h = two_operator p.head (item_at ns p.first) (item_at ns p.second) (λ s. h.sum (subst (λ x. IsNoSum (term_in x)) (sym h.made.item) s))

of_first : (h : Two) (o : BinaryOperator) → h ≡ Binary o → first_of_two h ≡ TermSort
of_first h o e = ap first_of_two e

of_second : (h : Two) (o : BinaryOperator) → h ≡ Binary o → second_of_two h ≡ TermSort
of_second h o e = ap second_of_two e

module _ (ns : List Node) (n : ℕ) (p : Pair) (h : IsSumOf ns n p) where
  inside : n < length ns
  inside = slice_get_within ns n (TwoNode p.head p.first p.second) h.made.found

  pub first_number : IsTermNumber ns p.first
  first_number = record { within = (let w = inside in let e = h.made.parts.0.earlier in omega (arith, w, e)); sort = h.made.parts.0.sort ∙ of_first p.head (sum_operator ns n p h).operator (sum_operator ns n p h).is }

  pub second_number : IsTermNumber ns p.second
  second_number = record { within = (let w = inside in let e = h.made.parts.1.earlier in omega (arith, w, e)); sort = h.made.parts.1.sort ∙ of_second p.head (sum_operator ns n p h).operator (sum_operator ns n p h).is }

  outer : (hd : Two) (o : BinaryOperator) → hd ≡ Binary o → (a b q : ℕ) → IsOneOf q (outer_parts (TwoNode (Binary o) a b)) → IsOneOf q (outer_parts (TwoNode hd a b))
  outer hd o e a b q one = subst (λ k. IsOneOf q (outer_parts (TwoNode k a b))) (sym e) one

  first_outer : IsOneOf p.first (outer_parts (TwoNode p.head p.first p.second))
  first_outer = outer p.head (sum_operator ns n p h).operator (sum_operator ns n p h).is p.first p.second p.first (inl refl)

  second_outer : IsOneOf p.second (outer_parts (TwoNode p.head p.first p.second))
  second_outer = outer p.head (sum_operator ns n p h).operator (sum_operator ns n p h).is p.first p.second p.second (inr (inl refl))

  pub first_has : (c : BranchClassesData) (names : List ℕ) (find : ℕ → Option ℕ) → HaveStandIns ns c names find n → HaveStandIns ns c names find p.first
  first_has c names find has = part_has ns c names find n p.first (TwoNode p.head p.first p.second) h.made first_outer has

  pub second_has : (c : BranchClassesData) (names : List ℕ) (find : ℕ → Option ℕ) → HaveStandIns ns c names find n → HaveStandIns ns c names find p.second
  second_has c names find has = part_has ns c names find n p.second (TwoNode p.head p.first p.second) h.made second_outer has

-- ---- numbers of sums

module _ (ns : List Node) (c : BranchClassesData) (names : List ℕ) (find : ℕ → Option ℕ) where
  binary_number : (n : ℕ) (o : BinaryOperator) (a b : ℕ) → IsMade ns n (TwoNode (Binary o) a b) → IsTermNumber ns n
  binary_number n o a b made = record { within = slice_get_within ns n (TwoNode (Binary o) a b) made.found; sort = ap sort_of made.item }

  pub sum_number : (n m : ℕ) → IsChosenSum ns c names find n m → IsTermNumber ns n
  sum_number _ _ (OfUnknown n m h) = h.term
  sum_number _ _ (OfNumeral n term h) = term
  sum_number _ _ (OfParts n m o a b x y made fails other first second) = binary_number n o a b made

  pub other_number : (n m : ℕ) → IsChosenSum ns c names find n m → IsTermNumber ns m
  other_number _ _ (OfUnknown n m h) = h.other
  other_number _ _ (OfNumeral n term h) = term
  other_number _ _ (OfParts n m o a b x y made fails other first second) = binary_number m o x y other

  pub stands_in : (n m : ℕ) → HasStandIn ns c names find n → find (slice_index names n) ≡ Some m → IsChosenSum ns c names find n m
  stands_in n m h e =
      let both : Some h.chosen ≡ Some m = sym h.is.chosen ∙ e in
      let same : h.chosen ≡ m = cc in
      OfUnknown n m (subst (IsStandIn ns c names find n) same h.is)

  pub chosen_of : (n : ℕ) → HasStandIn ns c names find n → HasChosen find (slice_index names n)
  chosen_of n h = record { term = h.chosen; found = h.is.chosen }

  -- ---- depth

  counted_low : (m n : ℕ) → counted m ≤ counted n → n ≤ most_deep → m ≤ n
  counted_low m n h w = omega (arith, h, w)

  pair_deep : (n : ℕ) (o : BinaryOperator) (a b : ℕ) → IsMade ns n (TwoNode (Binary o) a b) → item_depth (item_at ns n) ≡ two_steps (Binary o) + max (item_depth (item_at ns a)) (item_depth (item_at ns b))
  pair_deep n o a b made = ap item_depth made.item ∙ two_depth (Binary o) (item_at ns a) (item_at ns b) made.parts.0.sort made.parts.1.sort

  left_low : (d s a b : ℕ) → d ≡ s + max a b → d ≤ most_deep → a ≤ most_deep
  left_low d s a b e w = omega (arith, e, w)

  right_low : (d s a b : ℕ) → d ≡ s + max a b → d ≤ most_deep → b ≤ most_deep
  right_low d s a b e w = omega (arith, e, w)

  both_less : (d e s a b x y : ℕ) → d ≡ s + max a b → e ≡ s + max x y → x ≤ a → y ≤ b → e ≤ d
  both_less d e s a b x y p q h k = omega (arith, p, q, h, k)

  pub sum_low : (n m : ℕ) → IsChosenSum ns c names find n m → item_depth (item_at ns n) ≤ most_deep → item_depth (item_at ns m) ≤ item_depth (item_at ns n)
  sum_low _ _ (OfUnknown n m h) w = counted_low (item_depth (item_at ns m)) (item_depth (item_at ns n)) h.no_deeper w
  sum_low _ _ (OfNumeral n term h) w = omega arith
  sum_low _ _ (OfParts n m o a b x y made fails other first second) w =
      let p = pair_deep n o a b made in
      both_less (item_depth (item_at ns n)) (item_depth (item_at ns m)) (two_steps (Binary o)) (item_depth (item_at ns a)) (item_depth (item_at ns b)) (item_depth (item_at ns x)) (item_depth (item_at ns y)) p (pair_deep m o x y other)
      (sum_low a x first (left_low (item_depth (item_at ns n)) (two_steps (Binary o)) (item_depth (item_at ns a)) (item_depth (item_at ns b)) p w))
      (sum_low b y second (right_low (item_depth (item_at ns n)) (two_steps (Binary o)) (item_depth (item_at ns a)) (item_depth (item_at ns b)) p w))

-- ---- as terms

no_sum_over : (class : TermData → ℕ) (t : TermData) → IsNoSum t → over class t ≡ VarTerm (class t)
no_sum_over class (ConstantTerm (Num i)) h = absurd h
no_sum_over class (ConstantTerm _) h = refl
no_sum_over class (BinaryTerm Add t u) h = absurd h
no_sum_over class (BinaryTerm Sub t u) h = absurd h
no_sum_over class (BinaryTerm Mul t u) h = λ i. product_over (h.0 i) (h.1 i) (MulTerm (over class t) (over class u)) (VarTerm (class (MulTerm t u)))
no_sum_over class (BinaryTerm _ t u) h = refl
no_sum_over class _ h = refl

numeral_over : (class : TermData → ℕ) (chosen : ℕ → TermData) (t : TermData) → HasNumeral t → t ≡ with_chosen chosen (over class t)
numeral_over class chosen (ConstantTerm (Num i)) h = refl
numeral_over class chosen (ConstantTerm _) h = absurd (let never = h.is in cc)
numeral_over class chosen _ h = absurd (let never = h.is in cc)

product_chosen : (chosen : ℕ → TermData) (l r : Option ℤ) (t u v : TermData) → (((l ≡ None) × (r ≡ None)) → ⊥) → with_chosen chosen (product_over l r (MulTerm t u) v) ≡ MulTerm (with_chosen chosen t) (with_chosen chosen u)
product_chosen chosen (Some c) r t u v fails = refl
product_chosen chosen None (Some c) t u v fails = refl
product_chosen chosen None None t u v fails = absurd (fails (refl, refl))

sum_over : (class : TermData → ℕ) (chosen : ℕ → TermData) (o : BinaryOperator) (t u : TermData) → (IsNoSum (BinaryTerm o t u) → ⊥) → with_chosen chosen (over class (BinaryTerm o t u)) ≡ BinaryTerm o (with_chosen chosen (over class t)) (with_chosen chosen (over class u))
sum_over class chosen Add t u fails = refl
sum_over class chosen Sub t u fails = refl
sum_over class chosen Mul t u fails = product_chosen chosen (numeral_of t) (numeral_of u) (over class t) (over class u) (VarTerm (class (MulTerm t u))) fails
sum_over class chosen _ t u fails = absurd (fails tt)

module _ (ns : List Node) (c : BranchClassesData) (names : List ℕ) (find : ℕ → Option ℕ) (top : ℕ) (class : TermData → ℕ) (chosen : ℕ → TermData) (classes : AreOverClasses ns c names find top class chosen) where
  pub sum_is : (n m : ℕ) → IsUnder ns top n → IsChosenSum ns c names find n m → term_at ns m ≡ with_chosen chosen (over class (term_at ns n))
  sum_is _ _ u (OfUnknown n m h) = sym (classes.each n m u h) ∙ ap (with_chosen chosen) (sym (no_sum_over class (term_at ns n) h.no_sum))
  sum_is _ _ u (OfNumeral n term h) = numeral_over class chosen (term_at ns n) h
  sum_is _ _ u (OfParts n m o a b x y made fails other first second) =
      let is : term_at ns n ≡ BinaryTerm o (term_at ns a) (term_at ns b) = ap term_in made.item in
      let left : term_at ns x ≡ with_chosen chosen (over class (term_at ns a)) = sum_is a x (Below n (TwoNode (Binary o) a b) a u made (inl refl)) first in
      let right : term_at ns y ≡ with_chosen chosen (over class (term_at ns b)) = sum_is b y (Below n (TwoNode (Binary o) a b) b u made (inr (inl refl))) second in
      ap term_in other.item
      ∙ (λ i. BinaryTerm o (left i) (right i))
      ∙ sym (sum_over class chosen o (term_at ns a) (term_at ns b) (λ s. fails (subst IsNoSum (sym is) s)))
      ∙ ap (λ t. with_chosen chosen (over class t)) (sym is)

-- ---- a pool that is extended

module _ (ns ms : List Node) (g : Extends ns ms) (c : BranchClassesData) (names : List ℕ) (find : ℕ → Option ℕ) where
  pub sum_grown : (n m : ℕ) → IsChosenSum ns c names find n m → IsChosenSum ms c names find n m
  sum_grown _ _ (OfUnknown n m h) = OfUnknown n m (stand_in_grown ns ms g c names find n m h)
  sum_grown _ _ (OfNumeral n term h) = OfNumeral n (number_grown ns ms g n term) (subst HasNumeral (sym (term_same ns ms g n term.within)) h)
  sum_grown _ _ (OfParts n m o a b x y made fails other first second) =
      OfParts n m o a b x y (made_more ns ms g n (TwoNode (Binary o) a b) made)
      (λ s. fails (subst IsNoSum (term_same ns ms g n (slice_get_within ns n (TwoNode (Binary o) a b) made.found)) s))
      (made_more ns ms g m (TwoNode (Binary o) x y) other)
      (sum_grown a x first)
      (sum_grown b y second)

  pub sums_grown : (kept : ℕ → Option ℕ) → AreChosenSums ns c names find kept → AreChosenSums ms c names find kept
  sums_grown kept h = record { each = λ n m e. sum_grown n m (h.each n m e) }

-- one more number is kept
pub sums_more : (ns : List Node) (c : BranchClassesData) (names : List ℕ) (find : ℕ → Option ℕ) (old new : ℕ → Option ℕ) (n m : ℕ) → ((k : ℕ) → new k ≡ cond (nat_eq n k) (Some m) (old k)) → IsChosenSum ns c names find n m → AreChosenSums ns c names find old → AreChosenSums ns c names find new
sums_more ns c names find old new n m is sum h = record { each = λ k l e. at k l (nat_eq n k) refl (sym (is k) ∙ e) }
  where
    at : (k l : ℕ) (b : Bool) → nat_eq n k ≡ b → cond (nat_eq n k) (Some m) (old k) ≡ Some l → IsChosenSum ns c names find k l
    at k l true e f =
        let same : n ≡ k = eqb-true n k e in
        let both : Some m ≡ Some l = sym (ap (λ b. cond b (Some m) (old k)) e) ∙ f in
        let is_m : m ≡ l = cc in
        subst (λ i. IsChosenSum ns c names find i l) same (subst (IsChosenSum ns c names find n) is_m sum)
    at k l false e f = h.each k l (sym (ap (λ b. cond b (Some m) (old k)) e) ∙ f)

-- ---- a sum whose parts were inserted

module _ (ns ms ks ls : List Node) (first_more : Extends ns ms) (second_more : Extends ms ks) (last : Extends ks ls) (c : BranchClassesData) (names : List ℕ) (find : ℕ → Option ℕ) (n : ℕ) (p : Pair) (h : IsSumOf ns n p) (x y : ℕ) (first : IsChosenSum ms c names find p.first x) (second : IsChosenSum ks c names find p.second y) where
  first_kept : IsChosenSum ks c names find p.first x
  first_kept = sum_grown ms ks second_more c names find p.first x first

  pub put_parts : HasParts ks (length ks) (TwoNode p.head x y)
  put_parts =
      let o = sum_operator ns n p h in
      let one = other_number ks c names find p.first x first_kept in
      let other = other_number ks c names find p.second y second in
      (record { earlier = one.within; sort = one.sort ∙ sym (of_first p.head o.operator o.is) }, record { earlier = other.within; sort = other.sort ∙ sym (of_second p.head o.operator o.is) })

  pub put_sum : (m : ℕ) → Extends ns ls → IsMade ls m (TwoNode p.head x y) → IsChosenSum ls c names find n m
  put_sum m all made =
      let o = sum_operator ns n p h in
      OfParts n m o.operator p.first p.second x y
      (subst (λ k. IsMade ls n (TwoNode k p.first p.second)) o.is (made_more ns ls all n (TwoNode p.head p.first p.second) h.made))
      (λ s. h.sum (subst IsNoSum (term_same ns ls all n (slice_get_within ns n (TwoNode p.head p.first p.second) h.made.found)) s))
      (subst (λ k. IsMade ls m (TwoNode k x y)) o.is made)
      (sum_grown ks ls last c names find p.first x first_kept)
      (sum_grown ks ls last c names find p.second y second)
