-- Positions in a sum, and the differences there.
use Rattle.std.proofs.Common.{◌≡◌, ℕ, ◌+◌, ◌≤◌, max, List, [], ◌∷◌, ◌++◌, length, take, Option, Some, None, refl, sym, ap, ◌∙◌, subst, arith}
use Rattle.std.proofs.lemmas.Option.{slice_get_within}
use Rattle.fol.specs.declared.operators.Binary.{Binary as BinaryOperator}
use Rattle.fol.specs.declared.operators.Constant.TheVariants.{Num}
use Rattle.fol.specs.FormulaData.{TermData, ConstantTerm, BinaryTerm}
use Rattle.certificates.specs.Closes.{most_deep}
use Rattle.term_pool.specs.Items.{Item, NoItem, TermSort, TypeSort, FormulaSort, Sort, sort_of, term_in, two_item, first_of_two, second_of_two}
use Rattle.term_pool.specs.Pools.{item_at, HasPart, IsMade}
use Rattle.term_pool.specs.Depths.{item_depth, two_steps}
use Rattle.term_pool.specs.declared.node.Leaf.TheVariants.{TypeParam}
use Rattle.term_pool.specs.declared.node.Two.{Two}
use Rattle.term_pool.specs.declared.node.Two.TheVariants.{Binary}
use Rattle.term_pool.specs.declared.node.Node.{Node}
use Rattle.term_pool.specs.declared.node.Node.TheVariants.{Leaf as LeafNode, Two as TwoNode}
use Rattle.congruence_closure.specs.Links.{Linked}
use Rattle.congruence_closure.specs.declared.classes.link.Link.{Link}
use Rattle.congruence_closure.specs.Paths.{IsPath}
use Rattle.tableau.specs.PoolBranches.{IsTermNumber}
use Rattle.congruence_closure.specs.Numbers.{number_at, IsMadeFor}
use Rattle.congruence_closure.specs.Known.{BranchClassesData, node_in, IsKnown, IsOver}
use Rattle.explanations.specs.Frames.{frame_item, filled, open_sort, made_sort, HasOthers, Leads, bound_in, bound_below, bound_after, bound_on}
use Rattle.explanations.specs.declared.frame.Frame.{Frame}
use Rattle.explanations.specs.declared.frame.Frame.TheVariants.{FirstOfTwo, SecondOfTwo}
use Rattle.explanations.specs.declared.derived.replacing.Difference.{Difference}
use Rattle.explanations.proofs.DepthLemmas.{two_depth, filled_deeper}
use Rattle.explanations.proofs.DeriveLemmas.{whole_linked}
use Rattle.explanations.proofs.PositionLemmas.{found_none, found_then, found_one}
use Rattle.explanations.proofs.ReplacingLemmas.{unbound_free}
use Rattle.row_reasoning.specs.Chosen.{IsNoSum}
use Rattle.row_reasoning.specs.Shallowest.{HasNumeral}
use Rattle.row_reasoning.specs.Shapes.{term_at}
use Rattle.row_reasoning.specs.StandIns.{IsStandIn}
use Rattle.row_reasoning.specs.DifferencesSums.{IsNoPair, Past, Other, pair_in, IsPair, IsSumOf, IsChosenSum, OfUnknown, OfNumeral, OfParts}
use Rattle.row_reasoning.specs.Positions.{pair_item, IsSumPosition, AreSidesAt, AreFoundAt, AreParts}
use Rattle.row_reasoning.specs.declared.differences.shape.Pair.{Pair}
use Rattle.row_reasoning.proofs.DifferencesSumLemmas.{sum_number, other_number, sum_low}

-- ---- a path with one more head

filled_push : (ns : List Node) (way : List Frame) (f : Frame) (x : Item) → filled ns (way ++ f ∷ []) x ≡ filled ns way (frame_item ns f x)
filled_push ns [] f x = refl
filled_push ns (g ∷ way) f x = ap (frame_item ns g) (filled_push ns way f x)

leads_push : (ns : List Node) (top : Sort) (way : List Frame) (f : Frame) → Leads ns top way (made_sort f) → HasOthers ns f → Leads ns top (way ++ f ∷ []) (open_sort f)
leads_push ns top [] f l o = (sym l, o, refl)
leads_push ns top (g ∷ way) f l o = (l.0, l.1, leads_push ns (open_sort g) way f l.2 o)

bound_push : (ks : List ℕ) (way : List Frame) (f : Frame) → bound_after ks (way ++ f ∷ []) ≡ bound_below f (bound_after ks way)
bound_push ks [] f = refl
bound_push ks (g ∷ way) f = bound_push (bound_below g ks) way f

unbound_push : (way : List Frame) (f : Frame) → bound_on way ≡ [] → bound_below f [] ≡ [] → bound_on (way ++ f ∷ []) ≡ []
unbound_push way f e u = bound_push [] way f ∙ ap (bound_below f) e ∙ u

-- ---- parts of a head

part_of : (ns : List Node) (k : ℕ) (s : Sort) → IsTermNumber ns k → s ≡ TermSort → HasPart ns (length ns) k s
part_of ns k s h e = record { earlier = h.within; sort = h.sort ∙ sym e }

first_less : (d s a b n : ℕ) → d ≡ s + max a b → d ≤ n → a ≤ n
first_less d s a b n e w = omega (arith, e, w)

second_less : (d s a b n : ℕ) → d ≡ s + max a b → d ≤ n → b ≤ n
second_less d s a b n e w = omega (arith, e, w)

lower : (d e s a b x : ℕ) → d ≡ s + max a b → e ≡ s + max x b → x ≤ a → e ≤ d
lower d e s a b x p q h = omega (arith, p, q, h)

at_most : (a b n : ℕ) → a ≤ b → b ≤ n → a ≤ n
at_most a b n p q = omega (arith, p, q)

two_sorted : (h : Two) (x y : Item) → sort_of (two_item h x y) ≡ sort_of (two_item h NoItem NoItem)
two_sorted (Binary o) x y = refl
two_sorted h x y = refl

module _ (ns : List Node) (c : BranchClassesData) (names : List ℕ) (find : ℕ → Option ℕ) (way : List Frame) (p q : Pair) (h : AreSidesAt ns c names find way p q) where
  one_number : IsTermNumber ns p.first
  one_number = sum_number ns c names find p.first q.first h.first

  two_number : IsTermNumber ns p.second
  two_number = sum_number ns c names find p.second q.second h.second

  put_number : IsTermNumber ns q.first
  put_number = other_number ns c names find p.first q.first h.first

  deep : (a b : ℕ) → IsTermNumber ns a → IsTermNumber ns b → item_depth (pair_item ns p.head a b) ≡ two_steps p.head + max (item_depth (item_at ns a)) (item_depth (item_at ns b))
  deep a b t u = two_depth p.head (item_at ns a) (item_at ns b) (t.sort ∙ sym h.first_term) (u.sort ∙ sym h.second_term)

  first_shallow : item_depth (item_at ns p.first) ≤ most_deep
  first_shallow = first_less (item_depth (pair_item ns p.head p.first p.second)) (two_steps p.head) (item_depth (item_at ns p.first)) (item_depth (item_at ns p.second)) most_deep (deep p.first p.second one_number two_number) h.shallow

  second_shallow : item_depth (item_at ns p.second) ≤ most_deep
  second_shallow = second_less (item_depth (pair_item ns p.head p.first p.second)) (two_steps p.head) (item_depth (item_at ns p.first)) (item_depth (item_at ns p.second)) most_deep (deep p.first p.second one_number two_number) h.shallow

  -- with the first part replaced, and not the second one
  half_low : item_depth (filled ns way (pair_item ns p.head q.first p.second)) ≤ most_deep
  half_low =
      at_most (item_depth (filled ns way (pair_item ns p.head q.first p.second))) (item_depth (filled ns way (pair_item ns p.head p.first p.second))) most_deep
      (filled_deeper ns FormulaSort (sort_of (two_item p.head NoItem NoItem)) way h.leads (pair_item ns p.head q.first p.second) (pair_item ns p.head p.first p.second)
      (two_sorted p.head (item_at ns q.first) (item_at ns p.second)) (two_sorted p.head (item_at ns p.first) (item_at ns p.second))
      (lower (item_depth (pair_item ns p.head p.first p.second)) (item_depth (pair_item ns p.head q.first p.second)) (two_steps p.head) (item_depth (item_at ns p.first)) (item_depth (item_at ns p.second)) (item_depth (item_at ns q.first))
      (deep p.first p.second one_number two_number) (deep q.first p.second put_number two_number) (sum_low ns c names find p.first q.first h.first first_shallow)))
      h.low

  abbrev first_frame : Frame
  first_frame = FirstOfTwo p.head p.second

  abbrev second_frame : Frame
  second_frame = SecondOfTwo p.head q.first

  pub first_position : (longer : List Frame) → longer ≡ way ++ FirstOfTwo p.head p.second ∷ [] → IsSumPosition ns c names find longer p.first q.first
  first_position longer e = subst (λ w. IsSumPosition ns c names find w p.first q.first) (sym e) (record {
    leads = subst (Leads ns FormulaSort (way ++ first_frame ∷ [])) h.first_term (leads_push ns FormulaSort way first_frame h.leads (part_of ns p.second (second_of_two p.head) two_number h.second_term));
    unbound = unbound_push way first_frame h.unbound h.plain;
    sum = h.first;
    shallow = first_shallow;
    low = subst (λ x. item_depth x ≤ most_deep) (sym (filled_push ns way first_frame (item_at ns p.first))) h.low;
  })

  pub second_position : (longer : List Frame) → longer ≡ way ++ SecondOfTwo p.head q.first ∷ [] → IsSumPosition ns c names find longer p.second q.second
  second_position longer e = subst (λ w. IsSumPosition ns c names find w p.second q.second) (sym e) (record {
    leads = subst (Leads ns FormulaSort (way ++ second_frame ∷ [])) h.second_term (leads_push ns FormulaSort way second_frame h.leads (part_of ns q.first (first_of_two p.head) put_number h.first_term));
    unbound = unbound_push way second_frame h.unbound h.plain;
    sum = h.second;
    shallow = second_shallow;
    low = subst (λ x. item_depth x ≤ most_deep) (sym (filled_push ns way second_frame (item_at ns p.second))) half_low;
  })

  moved : (f : Frame) (longer : List Frame) (x y : Item) (old new : List Difference) → longer ≡ way ++ f ∷ [] → AreFoundAt ns c (filled ns longer x) (filled ns longer y) old new → AreFoundAt ns c (filled ns way (frame_item ns f x)) (filled ns way (frame_item ns f y)) old new
  moved f longer x y old new e found =
      let there : (z : Item) → filled ns longer z ≡ filled ns way (frame_item ns f z) = λ z. ap (λ w. filled ns w z) e ∙ filled_push ns way f z in
      subst (λ z. AreFoundAt ns c (filled ns way (frame_item ns f x)) z old new) (there y) (subst (λ z. AreFoundAt ns c z (filled ns longer y) old new) (there x) found)

  pub both_found : (one two : List Frame) (old mid new : List Difference) → one ≡ way ++ FirstOfTwo p.head p.second ∷ [] → two ≡ way ++ SecondOfTwo p.head q.first ∷ [] → AreFoundAt ns c (filled ns one (item_at ns p.first)) (filled ns one (item_at ns q.first)) old mid → AreFoundAt ns c (filled ns two (item_at ns p.second)) (filled ns two (item_at ns q.second)) mid new → AreFoundAt ns c (filled ns way (pair_item ns p.head p.first p.second)) (filled ns way (pair_item ns p.head q.first q.second)) old new
  both_found one two old mid new e f first second =
      found_then ns c.classes.nodes c.classes.links c.numbers (length c.classes.links) (filled ns way (pair_item ns p.head p.first p.second)) (filled ns way (pair_item ns p.head q.first p.second)) (filled ns way (pair_item ns p.head q.first q.second)) old mid new
      (moved first_frame one (item_at ns p.first) (item_at ns q.first) old mid e first)
      (moved second_frame two (item_at ns p.second) (item_at ns q.second) mid new f second)

-- ---- two terms at one position

module _ (ns : List Node) (c : BranchClassesData) (names : List ℕ) (find : ℕ → Option ℕ) (one other : ℕ) where
  pub parts_of : (p q : Pair) → IsChosenSum ns c names find one other → IsSumOf ns one p → IsPair ns other q → (one ≡ other → ⊥) → AreParts ns c names find one other p q
  parts_of p q sum h made apart = go one other sum h made apart
    where
      go : (n m : ℕ) → IsChosenSum ns c names find n m → IsSumOf ns n p → IsPair ns m q → (n ≡ m → ⊥) → AreParts ns c names find n m p q
      go _ _ (OfUnknown n m s) g k fails = absurd (g.sum s.no_sum)
      go _ _ (OfNumeral n term s) g k fails = absurd (fails refl)
      go _ _ (OfParts n m o a b x y one_made no_sum other_made first second) g k fails =
          let one_is : Some (TwoNode (Binary o) a b) ≡ Some (TwoNode p.head p.first p.second) = sym one_made.found ∙ g.made.found in
          let other_is : Some (TwoNode (Binary o) x y) ≡ Some (TwoNode q.head q.first q.second) = sym other_made.found ∙ k.found in
          let head : Binary o ≡ p.head = cc in
          let first_is : a ≡ p.first = cc in
          let second_is : b ≡ p.second = cc in
          let put_first : x ≡ q.first = cc in
          let put_second : y ≡ q.second = cc in
          record {
            operator = o;
            head = sym head;
            one_made = g.made;
            other_made = subst (λ hd. IsMade ns m (TwoNode hd q.first q.second)) head (subst (λ i. IsMade ns m (TwoNode (Binary o) i q.second)) put_first (subst (λ i. IsMade ns m (TwoNode (Binary o) x i)) put_second other_made));
            first = subst (λ i. IsChosenSum ns c names find i q.first) first_is (subst (IsChosenSum ns c names find a) put_first first);
            second = subst (λ i. IsChosenSum ns c names find i q.second) second_is (subst (IsChosenSum ns c names find b) put_second second);
          }

  pub no_parts : (p : Pair) → IsChosenSum ns c names find one other → IsSumOf ns one p → IsNoPair ns other → (one ≡ other → ⊥) → ⊥
  no_parts p sum h none apart = go one other sum h none apart
    where
      none_of : (m : ℕ) (o : BinaryOperator) (x y : ℕ) → IsMade ns m (TwoNode (Binary o) x y) → IsNoPair ns m → ⊥
      none_of m o x y made (Past w) = let v = slice_get_within ns m (TwoNode (Binary o) x y) made.found in omega (arith, w, v)
      none_of m o x y made (Other node is e) =
          let both : Some (TwoNode (Binary o) x y) ≡ Some node = sym made.found ∙ is.found in
          let same : TwoNode (Binary o) x y ≡ node = cc in
          let never : pair_in (TwoNode (Binary o) x y) ≡ None = ap pair_in same ∙ e in
          absurd (cc)

      go : (n m : ℕ) → IsChosenSum ns c names find n m → IsSumOf ns n p → IsNoPair ns m → (n ≡ m → ⊥) → ⊥
      go _ _ (OfUnknown n m s) g k fails = g.sum s.no_sum
      go _ _ (OfNumeral n term s) g k fails = fails refl
      go _ _ (OfParts n m o a b x y one_made no_sum other_made first second) g k fails = none_of m o x y other_made k

  pub is_unknown : IsChosenSum ns c names find one other → IsNoSum (term_at ns one) → (one ≡ other → ⊥) → IsStandIn ns c names find one other
  is_unknown sum h apart = go one other sum h apart
    where
      go : (n m : ℕ) → IsChosenSum ns c names find n m → IsNoSum (term_at ns n) → (n ≡ m → ⊥) → IsStandIn ns c names find n m
      go _ _ (OfUnknown n m s) g fails = s
      go _ _ (OfNumeral n term s) g fails = absurd (fails refl)
      go _ _ (OfParts n m o a b x y one_made no_sum other_made first second) g fails = absurd (no_sum g)

  numeral_sum : (t : TermData) → IsNoSum t → HasNumeral t → ⊥
  numeral_sum (ConstantTerm (Num i)) h k = h
  numeral_sum (ConstantTerm _) h k = absurd (let never = k.is in cc)
  numeral_sum _ h k = absurd (let never = k.is in cc)

  no_binary : (o : BinaryOperator) (t u : TermData) → HasNumeral (BinaryTerm o t u) → ⊥
  no_binary o t u k = absurd (let never = k.is in cc)

  -- a numeral is unchanged
  pub numeral_same : IsChosenSum ns c names find one other → HasNumeral (term_at ns one) → one ≡ other
  numeral_same sum h = go one other sum h
    where
      go : (n m : ℕ) → IsChosenSum ns c names find n m → HasNumeral (term_at ns n) → n ≡ m
      go _ _ (OfUnknown n m s) g = absurd (numeral_sum (term_at ns n) s.no_sum g)
      go _ _ (OfNumeral n term s) g = refl
      go _ _ (OfParts n m o a b x y one_made no_sum other_made first second) g = absurd (no_binary o (term_at ns a) (term_at ns b) (subst (λ z. HasNumeral (term_in z)) one_made.item g))

-- where both have one operator
pub parts_position : (ns : List Node) (c : BranchClassesData) (names : List ℕ) (find : ℕ → Option ℕ) (way read : List Frame) (one other : ℕ) (p q : Pair) → read ≡ way → IsSumPosition ns c names find way one other → AreParts ns c names find one other p q → AreSidesAt ns c names find read p q
parts_position ns c names find way read one other p q same position h = subst (λ w. AreSidesAt ns c names find w p q) (sym same) (record {
  first_term = ap first_of_two h.head;
  second_term = ap second_of_two h.head;
  plain = ap (λ hd. bound_in hd []) h.head;
  leads = subst (Leads ns FormulaSort way) (sym (ap (λ hd. sort_of (two_item hd NoItem NoItem)) h.head)) position.leads;
  unbound = position.unbound;
  first = h.first;
  second = h.second;
  shallow = subst (λ x. item_depth x ≤ most_deep) h.one_made.item position.shallow;
  low = subst (λ x. item_depth (filled ns way x) ≤ most_deep) h.one_made.item position.low;
})

pub parts_found : (ns : List Node) (c : BranchClassesData) (names : List ℕ) (find : ℕ → Option ℕ) (way read : List Frame) (one other : ℕ) (p q : Pair) (old new : List Difference) → read ≡ way → AreParts ns c names find one other p q → AreFoundAt ns c (filled ns read (pair_item ns p.head p.first p.second)) (filled ns read (pair_item ns p.head q.first q.second)) old new → AreFoundAt ns c (filled ns way (item_at ns one)) (filled ns way (item_at ns other)) old new
parts_found ns c names find way read one other p q old new same h found =
    subst (λ x. AreFoundAt ns c x (filled ns way (item_at ns other)) old new) (λ i. filled ns (same i) (sym h.one_made.item i))
    (subst (λ y. AreFoundAt ns c (filled ns read (pair_item ns p.head p.first p.second)) y old new) (λ i. filled ns (same i) (sym h.other_made.item i)) found)

pub same_found : (ns : List Node) (c : BranchClassesData) (way : List Frame) (one other : ℕ) (found : List Difference) → one ≡ other → AreFoundAt ns c (filled ns way (item_at ns one)) (filled ns way (item_at ns other)) found found
same_found ns c way one other found e = found_none ns c.classes.nodes c.classes.links c.numbers (length c.classes.links) (filled ns way (item_at ns one)) (filled ns way (item_at ns other)) found found (ap (λ k. filled ns way (item_at ns k)) e) refl

-- ---- the difference between an unknown and its chosen term

pub stand_known : (ns : List Node) (c : BranchClassesData) (names : List ℕ) (find : ℕ → Option ℕ) (one other : ℕ) → IsStandIn ns c names find one other → IsKnown c one
stand_known ns c names find one other s = record { node = s.node; found = s.found }

pub other_known : (ns : List Node) (c : BranchClassesData) (names : List ℕ) (find : ℕ → Option ℕ) (one other : ℕ) → IsStandIn ns c names find one other → IsKnown c other
other_known ns c names find one other s = record { node = s.other_node; found = s.other_found }

same_node : (a b : ℕ) (o : Option ℕ) → o ≡ Some a → o ≡ Some b → a ≡ b
same_node a b o e f = let both : Some a ≡ Some b = sym e ∙ f in cc

pub stand_linked : (ns : List Node) (c : BranchClassesData) (names : List ℕ) (find : ℕ → Option ℕ) (one other from to before : ℕ) (read : List Link) → IsStandIn ns c names find one other → node_in c one ≡ Some from → node_in c other ≡ Some to → read ≡ c.classes.links → before ≡ length read → Linked (take before read) from to
stand_linked ns c names find one other from to before read s e f same long =
    whole_linked read before from to long
    (subst (λ ls. Linked ls from to) (sym same)
    (subst (λ i. Linked c.classes.links i to) (same_node s.node from (node_in c one) s.found e) (subst (Linked c.classes.links s.node) (same_node s.other_node to (node_in c other) s.other_found f) s.linked)))

module _ (ns : List Node) (c : BranchClassesData) (names : List ℕ) (find : ℕ → Option ℕ) (over : IsOver ns c) (way : List Frame) (one other : ℕ) (position : IsSumPosition ns c names find way one other) (s : IsStandIn ns c names find one other) where
  term_part : (k : ℕ) → IsTermNumber ns k → HasPart ns (length ns) k TermSort
  term_part k h = record { earlier = h.within; sort = h.sort }

  no_type : (k : ℕ) → IsTermNumber ns k → (n : ℕ) → IsMade ns k (LeafNode (TypeParam n)) → ⊥
  no_type k h n m = let both : TermSort ≡ TypeSort = sym h.sort ∙ ap sort_of m.item in absurd (cc)

  pub unknown_found : (d : Difference) (before : ℕ) (read : List Link) (old new : List Difference) → d.way.items ≡ way → node_in c one ≡ Some d.from → node_in c other ≡ Some d.to → read ≡ c.classes.links → before ≡ length read → IsPath read before d.from d.route.items d.to → new ≡ old ++ d ∷ [] → AreFoundAt ns c (filled ns way (item_at ns one)) (filled ns way (item_at ns other)) old new
  unknown_found d before read old new w e f same long path more =
      let from : IsMadeFor ns c.classes.nodes c.numbers one d.from = over.made.each one d.from e in
      let to : IsMadeFor ns c.classes.nodes c.numbers other d.to = over.made.each other d.to f in
      let ends : filled ns d.way.items (item_at ns (number_at c.numbers d.to)) ≡ filled ns way (item_at ns other) = (λ i. filled ns (w i) (item_at ns (to.is i))) in
      let count : before ≡ length c.classes.links = long ∙ ap length same in
      found_one ns c.classes.nodes c.classes.links c.numbers (length c.classes.links) (filled ns way (item_at ns one)) (filled ns way (item_at ns other)) old new d
      (record {
        is = record {
          leads = record { leads = subst (λ v. Leads ns FormulaSort v TermSort) (sym w) position.leads };
          free = unbound_free d.way.items (ap bound_on w ∙ position.unbound) (term_at ns (number_at c.numbers d.from));
          other_free = unbound_free d.way.items (ap bound_on w ∙ position.unbound) (term_at ns (number_at c.numbers d.to));
          from_term = subst (λ k. HasPart ns (length ns) k TermSort) (sym from.is) (term_part one s.term);
          to_term = subst (λ k. HasPart ns (length ns) k TermSort) (sym to.is) (term_part other s.other);
          low = subst (λ x. item_depth x ≤ most_deep) (sym ends)
              (at_most (item_depth (filled ns way (item_at ns other))) (item_depth (filled ns way (item_at ns one))) most_deep
              (filled_deeper ns FormulaSort TermSort way position.leads (item_at ns other) (item_at ns one) s.other.sort s.term.sort (sum_low ns c names find one other position.sum position.shallow))
              position.low);
        };
        term = record {
          term = subst (λ k. HasPart ns (length ns) k TermSort) (sym from.is) (term_part one s.term);
          no_parameter = λ n g. no_type one s.term n (subst (λ k. IsMade ns k (LeafNode (TypeParam n))) from.is (from.real.made n g));
        };
        within = from.within;
        path = subst (λ ls. IsPath ls (length c.classes.links) d.from d.route.items d.to) same (subst (λ k. IsPath read k d.from d.route.items d.to) count path);
      })
      (λ i. filled ns (sym w i) (item_at ns (sym from.is i)))
      ends
      more
