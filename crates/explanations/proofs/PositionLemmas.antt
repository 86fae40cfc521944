-- Positions in two items.
use Rattle.std.proofs.Common.{◌≡◌, ◌⊎◌, inl, inr, ℕ, zero, suc, ◌+◌, ◌<◌, ◌≤◌, max, List, [], ◌∷◌, ◌++◌, length, take, Some, refl, sym, ap, ◌∙◌, subst, arith}
use Rattle.std.specs.Prelude.{slice_get}
use Rattle.term_pool.specs.Items.{Item, TermSort, TypeSort, FormulaSort, Sort, sort_of, NoItem, two_item, three_item, first_of_two, second_of_two, first_of_three, second_of_three, third_of_three}
use Rattle.term_pool.specs.Pools.{item_at, HasPart, IsMade}
use Rattle.term_pool.specs.Depths.{item_depth, two_steps}
use Rattle.term_pool.specs.declared.node.Leaf.TheVariants.{TypeParam}
use Rattle.term_pool.specs.declared.node.One.{One}
use Rattle.term_pool.specs.declared.node.Two.{Two}
use Rattle.term_pool.specs.declared.node.Two.TheVariants.{Binary}
use Rattle.term_pool.specs.declared.node.Three.{Three}
use Rattle.term_pool.specs.declared.node.Three.TheVariants.{Ternary}
use Rattle.term_pool.specs.declared.node.Node.{Node}
use Rattle.term_pool.specs.declared.node.Node.TheVariants.{Leaf as LeafNode}
use Rattle.certificates.specs.Closes.{most_deep}
use Rattle.congruence_closure.specs.Links.{Linked}
use Rattle.congruence_closure.specs.declared.classes.link.Link.{Link}
use Rattle.certificates.specs.Joined.{IsFreeOf}
use Rattle.explanations.specs.Chains.{term_at}
use Rattle.explanations.specs.Frames.{frame_item, filled, open_sort, made_sort, HasOthers, Leads, bound_below, bound_after, bound_on}
use Rattle.explanations.specs.declared.frame.Frame.{Frame}
use Rattle.explanations.specs.declared.frame.Frame.TheVariants.{Only, FirstOfTwo, SecondOfTwo, FirstOfThree, SecondOfThree, ThirdOfThree}
use Rattle.explanations.proofs.FrameLemmas.{filled_sorted}
use Rattle.congruence_closure.specs.Numbers.{number_at}
use Rattle.explanations.specs.Replacing.{before_it, after_it, after_all, AreInTurn}
use Rattle.explanations.specs.BoundNodes.{FitsUnder}
use Rattle.explanations.specs.Graphs.{IsTermNode}
use Rattle.explanations.specs.Positions.{whole, one_at, other_at, IsPositionOf, IsPosition, IsDifference, AreFound, IsNextOf, AreLinked, AreOne, AreTwo, AreThree, IsStepTo, IsPushed}
use Rattle.explanations.specs.declared.derived.replacing.Difference.{Difference}
use Rattle.explanations.specs.declared.derived.difference.Position.{Position}
use Rattle.explanations.proofs.DepthLemmas.{two_depth, three_depth, filled_deeper}

-- ---- a context with one more frame

filled_push : (ns : List Node) (way : List Frame) (f : Frame) (x : Item) → filled ns (way ++ f ∷ []) x ≡ filled ns way (frame_item ns f x)
filled_push ns [] f x = refl
filled_push ns (g ∷ way) f x = ap (frame_item ns g) (filled_push ns way f x)

leads_push : (ns : List Node) (top : Sort) (way : List Frame) (f : Frame) → Leads ns top way (made_sort f) → HasOthers ns f → Leads ns top (way ++ f ∷ []) (open_sort f)
leads_push ns top [] f l o = (sym l, o, refl)
leads_push ns top (g ∷ way) f l o = (l.0, l.1, leads_push ns (open_sort g) way f l.2 o)

pub bound_push : (ks : List ℕ) (way : List Frame) (f : Frame) → bound_after ks (way ++ f ∷ []) ≡ bound_below f (bound_after ks way)
bound_push ks [] f = refl
bound_push ks (g ∷ way) f = bound_push (bound_below g ks) way f

frame_sort : (ns : List Node) (f : Frame) → HasOthers ns f → (x : Item) → sort_of x ≡ open_sort f → sort_of (frame_item ns f x) ≡ made_sort f
frame_sort ns f o x e = filled_sorted ns (made_sort f) (open_sort f) (f ∷ []) (refl, o, refl) x e

two_sorted : (h : Two) (x y : Item) → sort_of (two_item h x y) ≡ sort_of (two_item h NoItem NoItem)
two_sorted (Binary o) x y = refl
two_sorted h x y = refl

two_sort : (h : Two) (x y u v : Item) → sort_of (two_item h x y) ≡ sort_of (two_item h u v)
two_sort h x y u v = two_sorted h x y ∙ sym (two_sorted h u v)

three_sorted : (h : Three) (x y z : Item) → sort_of (three_item h x y z) ≡ sort_of (three_item h NoItem NoItem NoItem)
three_sorted (Ternary o) x y z = refl
three_sorted h x y z = refl

three_sort : (h : Three) (x y z u v w : Item) → sort_of (three_item h x y z) ≡ sort_of (three_item h u v w)
three_sort h x y z u v w = three_sorted h x y z ∙ sym (three_sorted h u v w)

-- ---- the differences that were found

after_append : (ns : List Node) (numbers : List ℕ) (x : Item) (ds es : List Difference) → after_all ns numbers x (ds ++ es) ≡ after_all ns numbers (after_all ns numbers x ds) es
after_append ns numbers x [] es = refl
after_append ns numbers x (d ∷ ds) es = after_append ns numbers (after_it ns numbers d) ds es

turn_append : (ns : List Node) (numbers : List ℕ) (x : Item) (ds es : List Difference) → AreInTurn ns numbers x ds → AreInTurn ns numbers (after_all ns numbers x ds) es → AreInTurn ns numbers x (ds ++ es)
turn_append ns numbers x [] es t u = u
turn_append ns numbers x (d ∷ ds) es t u = (t.0, turn_append ns numbers (after_it ns numbers d) ds es t.1 u)

each_append : (P : Difference → Type 0) (ds es : List Difference) → ((n : ℕ) (d : Difference) → slice_get ds n ≡ Some d → P d) → ((n : ℕ) (d : Difference) → slice_get es n ≡ Some d → P d) → (n : ℕ) (d : Difference) → slice_get (ds ++ es) n ≡ Some d → P d
each_append P [] es p q n d e = q n d e
each_append P (c ∷ ds) es p q zero d e = p zero d e
each_append P (c ∷ ds) es p q (suc n) d e = each_append P ds es (λ m b f. p (suc m) b f) q n d e

append_nothing : (ds : List Difference) → ds ++ [] ≡ ds
append_nothing [] = refl
append_nothing (d ∷ ds) = ap (λ es. d ∷ es) (append_nothing ds)

append_again : (ds es fs : List Difference) → (ds ++ es) ++ fs ≡ ds ++ (es ++ fs)
append_again [] es fs = refl
append_again (d ∷ ds) es fs = ap (λ gs. d ∷ gs) (append_again ds es fs)

module _ (pool ns : List Node) (ls : List Link) (numbers : List ℕ) (before : ℕ) where
  pub found_none : (x y : Item) (old new : List Difference) → x ≡ y → new ≡ old → AreFound pool ns ls numbers before x y old new
  found_none x y old new e f = record { found = []; more = f ∙ sym (append_nothing old); in_turn = tt; ends = e; each = λ n d g. absurd (cc) }

  pub found_then : (x y z : Item) (a b c : List Difference) → AreFound pool ns ls numbers before x y a b → AreFound pool ns ls numbers before y z b c → AreFound pool ns ls numbers before x z a c
  found_then x y z a b c f g = record {
    found = f.found ++ g.found;
    more = g.more ∙ ap (λ ds. ds ++ g.found) f.more ∙ append_again a f.found g.found;
    in_turn = turn_append pool numbers x f.found g.found f.in_turn (subst (λ w. AreInTurn pool numbers w g.found) (sym f.ends) g.in_turn);
    ends = after_append pool numbers x f.found g.found ∙ ap (λ w. after_all pool numbers w g.found) f.ends ∙ g.ends;
    each = each_append (IsDifference pool ns ls numbers before) f.found g.found f.each g.each;
  }

  pub found_one : (x y : Item) (old new : List Difference) (d : Difference) → IsDifference pool ns ls numbers before d → x ≡ before_it pool numbers d → after_it pool numbers d ≡ y → new ≡ old ++ d ∷ [] → AreFound pool ns ls numbers before x y old new
  found_one x y old new d is e f more = record { found = d ∷ []; more = more; in_turn = (e, tt); ends = f; each = λ n c g. only n c g }
    where
      only : (n : ℕ) (c : Difference) → slice_get (d ∷ []) n ≡ Some c → IsDifference pool ns ls numbers before c
      only zero c g = let same : d ≡ c = cc in subst (IsDifference pool ns ls numbers before) same is
      only (suc n) c g = absurd (cc)

-- ---- depths of partial results

less_or : (m n : ℕ) → (m ≤ n) ⊎ (n ≤ m)
less_or zero n = inl (omega arith)
less_or (suc m) zero = inr (omega arith)
less_or (suc m) (suc n) = elim (less_or m n) [ inl h ↦ inl (omega arith) | inr h ↦ inr (omega arith) ]

below_either : (k m n : ℕ) → k ≤ max m n → (k ≤ m) ⊎ (k ≤ n)
below_either k m n h = elim (less_or m n) [ inl l ↦ inr (omega arith) | inr l ↦ inl (omega arith) ]

-- an item no deeper than one of two gives a whole no deeper than they give
pub half_low : (ns : List Node) (top end : Sort) (way : List Frame) → Leads ns top way end → (x y z : Item) → sort_of x ≡ end → sort_of y ≡ end → sort_of z ≡ end → item_depth z ≤ max (item_depth x) (item_depth y) → item_depth (filled ns way x) ≤ most_deep → item_depth (filled ns way y) ≤ most_deep → item_depth (filled ns way z) ≤ most_deep
half_low ns top end way l x y z e f g h low other = elim (below_either (item_depth z) (item_depth x) (item_depth y) h) [ inl d ↦ below (filled_deeper ns top end way l z x g e d) low | inr d ↦ below (filled_deeper ns top end way l z y g f d) other ]
  where
    below : {a b c : ℕ} → a ≤ b → b ≤ c → a ≤ c
    below {a} {b} {c} p q = omega arith

half_two : (m s a b x y : ℕ) → m ≡ s + max x b → m ≤ max (s + max a b) (s + max x y)
half_two m s a b x y e = omega arith

half_first : (m a b c x y z : ℕ) → m ≡ 1 + max x (max b c) → m ≤ max (1 + max a (max b c)) (1 + max x (max y z))
half_first m a b c x y z e = omega arith

half_second : (m a b c x y z : ℕ) → m ≡ 1 + max x (max y c) → m ≤ max (1 + max a (max b c)) (1 + max x (max y z))
half_second m a b c x y z e = omega arith

-- ---- one frame further down

-- in the form in which the context and the frame were read
pub step_read : (way longer : List Frame) (f g : Frame) (i j : ℕ) (p : Position) → longer ≡ way → g ≡ f → IsStepTo longer g i j p → IsStepTo way f i j p
step_read way longer f g i j p e h s = subst (λ w. IsStepTo w f i j p) e (subst (λ k. IsStepTo longer k i j p) h s)

pub behind : (Q : List Frame → ℕ → ℕ → Type 0) (way : List Frame) (f : Frame) (i j : ℕ) (p : Position) → IsStepTo way f i j p → Q (way ++ f ∷ []) i j → Q p.way.items p.one p.other
behind Q way f i j p s q = subst (λ w. Q w p.one p.other) (sym s.way_is) (subst (λ a. Q (way ++ f ∷ []) a p.other) (sym s.one_is) (subst (λ b. Q (way ++ f ∷ []) i b) (sym s.other_is) q))

module _ (pool ns : List Node) (ls : List Link) (numbers : List ℕ) (before : ℕ) where
  abbrev item : ℕ → Item
  item i = item_at pool (number_at numbers i)

  -- a head symbol whose hole may have either of two connected nodes
  record IsHead (way : List Frame) (f : Frame) (i j : ℕ) : Type 0 where
    others : HasOthers pool f
    leads : Leads pool FormulaSort way (made_sort f)
    one_sort : sort_of (item_at pool (number_at numbers i)) ≡ open_sort f
    other_sort : sort_of (item_at pool (number_at numbers j)) ≡ open_sort f
    one_low : item_depth (filled pool way (frame_item pool f (item_at pool (number_at numbers i)))) ≤ most_deep
    other_low : item_depth (filled pool way (frame_item pool f (item_at pool (number_at numbers j)))) ≤ most_deep
    linked : AreLinked pool ns ls numbers before (bound_below f (bound_on way)) i j

  position_behind : (way : List Frame) (f : Frame) (i j : ℕ) → IsHead way f i j → IsPositionOf pool ns numbers (way ++ f ∷ []) i j
  position_behind way f i j h = record {
    one = h.linked.one;
    other = h.linked.other;
    leads = subst (Leads pool FormulaSort (way ++ f ∷ [])) (sym h.one_sort) (leads_push pool FormulaSort way f h.leads h.others);
    same_sort = h.other_sort ∙ sym h.one_sort;
    one_fits = subst (λ bound. FitsUnder ns bound i) (sym (bound_push [] way f)) h.linked.one_fits;
    other_fits = subst (λ bound. FitsUnder ns bound j) (sym (bound_push [] way f)) h.linked.other_fits;
    one_low = subst (λ x. item_depth x ≤ most_deep) (sym (filled_push pool way f (item i))) h.one_low;
    other_low = subst (λ x. item_depth x ≤ most_deep) (sym (filled_push pool way f (item j))) h.other_low;
  }

  made_leads : (p : Position) (f : Frame) (x : Item) → IsPosition pool ns numbers p → HasOthers pool f → sort_of x ≡ open_sort f → item p.one ≡ frame_item pool f x → Leads pool FormulaSort p.way.items (made_sort f)
  made_leads p f x at o e is = subst (Leads pool FormulaSort p.way.items) (ap sort_of is ∙ frame_sort pool f o x e) at.leads

  part_in : (k a : ℕ) (s : Sort) → k < length pool → HasPart pool k a s → HasPart pool (length pool) a s
  part_in k a s w q = record { earlier = (let e = q.earlier in omega (arith, e, w)); sort = q.sort }

  -- ---- one part

  pub one_next : (p next : Position) (h : One) (a x : ℕ) (old new : List Difference) → AreOne pool ns ls numbers before p h a x → IsStepTo p.way.items (Only h) a x next → new ≡ old → IsNextOf pool ns ls numbers before p old new next.way.items next.one next.other
  one_next p next h a x old new r s same = behind (IsNextOf pool ns ls numbers before p old new) p.way.items (Only h) a x next s (record {
    at = position_behind p.way.items (Only h) a x (record {
      others = tt;
      leads = made_leads p (Only h) (item a) r.at tt r.one.parts.sort r.one.item;
      one_sort = r.one.parts.sort;
      other_sort = r.other.parts.sort;
      one_low = subst (λ y. item_depth (filled pool p.way.items y) ≤ most_deep) r.one.item r.at.one_low;
      other_low = subst (λ y. item_depth (filled pool p.way.items y) ≤ most_deep) r.other.item r.at.other_low;
      linked = r.part;
    });
    linked = r.part.linked;
    less = r.one.parts.earlier;
    found = found_none pool ns ls numbers before (one_at pool numbers p) (whole pool numbers (p.way.items ++ Only h ∷ []) a) old new (ap (filled pool p.way.items) r.one.item ∙ sym (filled_push pool p.way.items (Only h) (item a))) same;
    same = filled_push pool p.way.items (Only h) (item x) ∙ sym (ap (filled pool p.way.items) r.other.item);
  })

  -- ---- two parts

  module _ (p : Position) (h : Two) (ps xs : ℕ × ℕ) (r : AreTwo pool ns ls numbers before p h ps xs) where
    -- the first part replaced, and the second one unchanged
    two_low : item_depth (filled pool p.way.items (two_item h (item xs.0) (item ps.1))) ≤ most_deep
    two_low =
        let a : Item = item ps.0 in let b : Item = item ps.1 in let x : Item = item xs.0 in let y : Item = item xs.1 in
        half_low pool FormulaSort (sort_of (item p.one)) p.way.items r.at.leads (item p.one) (item p.other) (two_item h (item xs.0) (item ps.1)) refl r.at.same_sort
        (two_sort h (item xs.0) (item ps.1) (item ps.0) (item ps.1) ∙ sym (ap sort_of r.one.item))
        (deep (two_depth h (item ps.0) (item ps.1) r.one.parts.0.sort r.one.parts.1.sort) (two_depth h (item xs.0) (item xs.1) r.other.parts.0.sort r.other.parts.1.sort) (two_depth h (item xs.0) (item ps.1) r.other.parts.0.sort r.one.parts.1.sort))
        r.at.one_low r.at.other_low
      where
        deep : item_depth (two_item h (item ps.0) (item ps.1)) ≡ two_steps h + max (item_depth (item ps.0)) (item_depth (item ps.1)) → item_depth (two_item h (item xs.0) (item xs.1)) ≡ two_steps h + max (item_depth (item xs.0)) (item_depth (item xs.1)) → item_depth (two_item h (item xs.0) (item ps.1)) ≡ two_steps h + max (item_depth (item xs.0)) (item_depth (item ps.1)) → item_depth (two_item h (item xs.0) (item ps.1)) ≤ max (item_depth (item p.one)) (item_depth (item p.other))
        deep e f g = subst (λ n. item_depth (two_item h (item xs.0) (item ps.1)) ≤ max n (item_depth (item p.other))) (sym (ap item_depth r.one.item ∙ e)) (subst (λ n. item_depth (two_item h (item xs.0) (item ps.1)) ≤ max (two_steps h + max (item_depth (item ps.0)) (item_depth (item ps.1))) n) (sym (ap item_depth r.other.item ∙ f)) (half_two (item_depth (two_item h (item xs.0) (item ps.1))) (two_steps h) (item_depth (item ps.0)) (item_depth (item ps.1)) (item_depth (item xs.0)) (item_depth (item xs.1)) g))

    first_head : IsHead p.way.items (FirstOfTwo h (number_at numbers ps.1)) ps.0 xs.0
    first_head =
        let others : HasOthers pool (FirstOfTwo h (number_at numbers ps.1)) = part_in (number_at numbers p.one) (number_at numbers ps.1) (second_of_two h) r.at.one.number r.one.parts.1 in
        record {
          others = others;
          leads = made_leads p (FirstOfTwo h (number_at numbers ps.1)) (item ps.0) r.at others r.one.parts.0.sort r.one.item;
          one_sort = r.one.parts.0.sort;
          other_sort = r.other.parts.0.sort;
          one_low = subst (λ y. item_depth (filled pool p.way.items y) ≤ most_deep) r.one.item r.at.one_low;
          other_low = two_low;
          linked = r.first;
        }

    second_head : IsHead p.way.items (SecondOfTwo h (number_at numbers xs.0)) ps.1 xs.1
    second_head =
        let others : HasOthers pool (SecondOfTwo h (number_at numbers xs.0)) = part_in (number_at numbers p.other) (number_at numbers xs.0) (first_of_two h) r.at.other.number r.other.parts.0 in
        record {
          others = others;
          leads = subst (Leads pool FormulaSort p.way.items) (sym r.at.same_sort ∙ ap sort_of r.other.item ∙ frame_sort pool (SecondOfTwo h (number_at numbers xs.0)) others (item xs.1) r.other.parts.1.sort) r.at.leads;
          one_sort = r.one.parts.1.sort;
          other_sort = r.other.parts.1.sort;
          one_low = two_low;
          other_low = subst (λ y. item_depth (filled pool p.way.items y) ≤ most_deep) r.other.item r.at.other_low;
          linked = r.second;
        }

    pub two_first : (first : Position) → IsStepTo p.way.items (FirstOfTwo h (number_at numbers ps.1)) ps.0 xs.0 first → IsPositionOf pool ns numbers first.way.items first.one first.other
    two_first first s = behind (IsPositionOf pool ns numbers) p.way.items (FirstOfTwo h (number_at numbers ps.1)) ps.0 xs.0 first s (position_behind p.way.items (FirstOfTwo h (number_at numbers ps.1)) ps.0 xs.0 first_head)

    pub two_linked : (f : Frame) (first : Position) → IsStepTo p.way.items f ps.0 xs.0 first → Linked (take before ls) first.one first.other
    two_linked f first s = behind (λ way i j. Linked (take before ls) i j) p.way.items f ps.0 xs.0 first s r.first.linked

    pub two_less : (first : Position) → IsStepTo p.way.items (FirstOfTwo h (number_at numbers ps.1)) ps.0 xs.0 first → number_at numbers first.one < number_at numbers p.one
    two_less first s = subst (λ i. number_at numbers i < number_at numbers p.one) (sym s.one_is) r.one.parts.0.earlier

    two_found : (first : Position) (old new : List Difference) → IsStepTo p.way.items (FirstOfTwo h (number_at numbers ps.1)) ps.0 xs.0 first → AreFound pool ns ls numbers before (one_at pool numbers first) (other_at pool numbers first) old new → AreFound pool ns ls numbers before (one_at pool numbers p) (filled pool p.way.items (two_item h (item xs.0) (item ps.1))) old new
    two_found first old new s f =
        let way : List Frame = p.way.items ++ FirstOfTwo h (number_at numbers ps.1) ∷ [] in
        let begin : one_at pool numbers first ≡ one_at pool numbers p = (λ i. whole pool numbers (s.way_is i) (s.one_is i)) ∙ filled_push pool p.way.items (FirstOfTwo h (number_at numbers ps.1)) (item ps.0) ∙ sym (ap (filled pool p.way.items) r.one.item) in
        let end : other_at pool numbers first ≡ filled pool p.way.items (two_item h (item xs.0) (item ps.1)) = (λ i. whole pool numbers (s.way_is i) (s.other_is i)) ∙ filled_push pool p.way.items (FirstOfTwo h (number_at numbers ps.1)) (item xs.0) in
        subst (λ y. AreFound pool ns ls numbers before (one_at pool numbers p) y old new) end (subst (λ x. AreFound pool ns ls numbers before x (other_at pool numbers first) old new) begin f)

    pub two_next : (first next : Position) (old new : List Difference) → IsStepTo p.way.items (FirstOfTwo h (number_at numbers ps.1)) ps.0 xs.0 first → AreFound pool ns ls numbers before (one_at pool numbers first) (other_at pool numbers first) old new → IsStepTo p.way.items (SecondOfTwo h (number_at numbers xs.0)) ps.1 xs.1 next → IsNextOf pool ns ls numbers before p old new next.way.items next.one next.other
    two_next first next old new s f t = behind (IsNextOf pool ns ls numbers before p old new) p.way.items (SecondOfTwo h (number_at numbers xs.0)) ps.1 xs.1 next t (record {
      at = position_behind p.way.items (SecondOfTwo h (number_at numbers xs.0)) ps.1 xs.1 second_head;
      linked = r.second.linked;
      less = r.one.parts.1.earlier;
      found = subst (λ y. AreFound pool ns ls numbers before (one_at pool numbers p) y old new) (sym (filled_push pool p.way.items (SecondOfTwo h (number_at numbers xs.0)) (item ps.1))) (two_found first old new s f);
      same = filled_push pool p.way.items (SecondOfTwo h (number_at numbers xs.0)) (item xs.1) ∙ sym (ap (filled pool p.way.items) r.other.item);
    })

  -- ---- three parts

  module _ (p : Position) (h : Three) (ps xs : ℕ × ℕ × ℕ) (r : AreThree pool ns ls numbers before p h ps xs) where
    abbrev a : Item
    a = item_at pool (number_at numbers ps.0)

    abbrev b : Item
    b = item_at pool (number_at numbers ps.1)

    abbrev c : Item
    c = item_at pool (number_at numbers ps.2)

    abbrev x : Item
    x = item_at pool (number_at numbers xs.0)

    abbrev y : Item
    y = item_at pool (number_at numbers xs.1)

    abbrev z : Item
    z = item_at pool (number_at numbers xs.2)

    low_between : (w : Item) → sort_of w ≡ sort_of (item p.one) → item_depth w ≤ max (item_depth (item p.one)) (item_depth (item p.other)) → item_depth (filled pool p.way.items w) ≤ most_deep
    low_between w e d = half_low pool FormulaSort (sort_of (item p.one)) p.way.items r.at.leads (item p.one) (item p.other) w refl r.at.same_sort e d r.at.one_low r.at.other_low

    sorted : (u v w : Item) → sort_of (three_item h u v w) ≡ sort_of (item p.one)
    sorted u v w = three_sort h u v w a b c ∙ sym (ap sort_of r.one.item)

    one_deep : item_depth (item p.one) ≡ 1 + max (item_depth a) (max (item_depth b) (item_depth c))
    one_deep = ap item_depth r.one.item ∙ three_depth h a b c r.one.parts.0.sort r.one.parts.1.sort r.one.parts.2.sort

    other_deep : item_depth (item p.other) ≡ 1 + max (item_depth x) (max (item_depth y) (item_depth z))
    other_deep = ap item_depth r.other.item ∙ three_depth h x y z r.other.parts.0.sort r.other.parts.1.sort r.other.parts.2.sort

    between : (w : Item) → item_depth w ≤ max (1 + max (item_depth a) (max (item_depth b) (item_depth c))) (1 + max (item_depth x) (max (item_depth y) (item_depth z))) → item_depth w ≤ max (item_depth (item p.one)) (item_depth (item p.other))
    between w d = subst (λ n. item_depth w ≤ max n (item_depth (item p.other))) (sym one_deep) (subst (λ n. item_depth w ≤ max (1 + max (item_depth a) (max (item_depth b) (item_depth c))) n) (sym other_deep) d)

    first_low : item_depth (filled pool p.way.items (three_item h x b c)) ≤ most_deep
    first_low = low_between (three_item h x b c) (sorted x b c) (between (three_item h x b c) (half_first (item_depth (three_item h x b c)) (item_depth a) (item_depth b) (item_depth c) (item_depth x) (item_depth y) (item_depth z) (three_depth h x b c r.other.parts.0.sort r.one.parts.1.sort r.one.parts.2.sort)))

    second_low : item_depth (filled pool p.way.items (three_item h x y c)) ≤ most_deep
    second_low = low_between (three_item h x y c) (sorted x y c) (between (three_item h x y c) (half_second (item_depth (three_item h x y c)) (item_depth a) (item_depth b) (item_depth c) (item_depth x) (item_depth y) (item_depth z) (three_depth h x y c r.other.parts.0.sort r.other.parts.1.sort r.one.parts.2.sort)))

    abbrev one_frame : Frame
    one_frame = FirstOfThree h (number_at numbers ps.1) (number_at numbers ps.2)

    abbrev two_frame : Frame
    two_frame = SecondOfThree h (number_at numbers xs.0) (number_at numbers ps.2)

    abbrev three_frame : Frame
    three_frame = ThirdOfThree h (number_at numbers xs.0) (number_at numbers xs.1)

    of_one : (k : ℕ) (s : Sort) → HasPart pool (number_at numbers p.one) k s → HasPart pool (length pool) k s
    of_one k s q = part_in (number_at numbers p.one) k s r.at.one.number q

    of_other : (k : ℕ) (s : Sort) → HasPart pool (number_at numbers p.other) k s → HasPart pool (length pool) k s
    of_other k s q = part_in (number_at numbers p.other) k s r.at.other.number q

    leads_through : (f : Frame) → made_sort f ≡ sort_of (three_item h NoItem NoItem NoItem) → Leads pool FormulaSort p.way.items (made_sort f)
    leads_through f e = subst (Leads pool FormulaSort p.way.items) (ap sort_of r.one.item ∙ three_sorted h a b c ∙ sym e) r.at.leads

    one_head : IsHead p.way.items one_frame ps.0 xs.0
    one_head = record {
      others = (of_one (number_at numbers ps.1) (second_of_three h) r.one.parts.1, of_one (number_at numbers ps.2) (third_of_three h) r.one.parts.2);
      leads = leads_through one_frame refl;
      one_sort = r.one.parts.0.sort;
      other_sort = r.other.parts.0.sort;
      one_low = subst (λ w. item_depth (filled pool p.way.items w) ≤ most_deep) r.one.item r.at.one_low;
      other_low = first_low;
      linked = r.first;
    }

    two_head : IsHead p.way.items two_frame ps.1 xs.1
    two_head = record {
      others = (of_other (number_at numbers xs.0) (first_of_three h) r.other.parts.0, of_one (number_at numbers ps.2) (third_of_three h) r.one.parts.2);
      leads = leads_through two_frame refl;
      one_sort = r.one.parts.1.sort;
      other_sort = r.other.parts.1.sort;
      one_low = first_low;
      other_low = second_low;
      linked = r.second;
    }

    three_head : IsHead p.way.items three_frame ps.2 xs.2
    three_head = record {
      others = (of_other (number_at numbers xs.0) (first_of_three h) r.other.parts.0, of_other (number_at numbers xs.1) (second_of_three h) r.other.parts.1);
      leads = leads_through three_frame refl;
      one_sort = r.one.parts.2.sort;
      other_sort = r.other.parts.2.sort;
      one_low = second_low;
      other_low = subst (λ w. item_depth (filled pool p.way.items w) ≤ most_deep) r.other.item r.at.other_low;
      linked = r.third;
    }

    pub three_first : (q : Position) → IsStepTo p.way.items (FirstOfThree h (number_at numbers ps.1) (number_at numbers ps.2)) ps.0 xs.0 q → IsPositionOf pool ns numbers q.way.items q.one q.other
    three_first q s = behind (IsPositionOf pool ns numbers) p.way.items one_frame ps.0 xs.0 q s (position_behind p.way.items one_frame ps.0 xs.0 one_head)

    pub three_second : (q : Position) → IsStepTo p.way.items (SecondOfThree h (number_at numbers xs.0) (number_at numbers ps.2)) ps.1 xs.1 q → IsPositionOf pool ns numbers q.way.items q.one q.other
    three_second q s = behind (IsPositionOf pool ns numbers) p.way.items two_frame ps.1 xs.1 q s (position_behind p.way.items two_frame ps.1 xs.1 two_head)

    pub three_linked : (f : Frame) (q : Position) → IsStepTo p.way.items f ps.0 xs.0 q → Linked (take before ls) q.one q.other
    three_linked f q s = behind (λ way i j. Linked (take before ls) i j) p.way.items f ps.0 xs.0 q s r.first.linked

    pub three_second_linked : (f : Frame) (q : Position) → IsStepTo p.way.items f ps.1 xs.1 q → Linked (take before ls) q.one q.other
    three_second_linked f q s = behind (λ way i j. Linked (take before ls) i j) p.way.items f ps.1 xs.1 q s r.second.linked

    pub three_less : (f : Frame) (q : Position) → IsStepTo p.way.items f ps.0 xs.0 q → number_at numbers q.one < number_at numbers p.one
    three_less f q s = subst (λ i. number_at numbers i < number_at numbers p.one) (sym s.one_is) r.one.parts.0.earlier

    pub three_second_less : (f : Frame) (q : Position) → IsStepTo p.way.items f ps.1 xs.1 q → number_at numbers q.one < number_at numbers p.one
    three_second_less f q s = subst (λ i. number_at numbers i < number_at numbers p.one) (sym s.one_is) r.one.parts.1.earlier

    moved : (f : Frame) (i j : ℕ) (q : Position) (old new : List Difference) → IsStepTo p.way.items f i j q → AreFound pool ns ls numbers before (one_at pool numbers q) (other_at pool numbers q) old new → AreFound pool ns ls numbers before (filled pool p.way.items (frame_item pool f (item i))) (filled pool p.way.items (frame_item pool f (item j))) old new
    moved f i j q old new s d =
        let begin : one_at pool numbers q ≡ filled pool p.way.items (frame_item pool f (item i)) = (λ k. whole pool numbers (s.way_is k) (s.one_is k)) ∙ filled_push pool p.way.items f (item i) in
        let end : other_at pool numbers q ≡ filled pool p.way.items (frame_item pool f (item j)) = (λ k. whole pool numbers (s.way_is k) (s.other_is k)) ∙ filled_push pool p.way.items f (item j) in
        subst (λ w. AreFound pool ns ls numbers before (filled pool p.way.items (frame_item pool f (item i))) w old new) end (subst (λ w. AreFound pool ns ls numbers before w (other_at pool numbers q) old new) begin d)

    pub three_next : (q s next : Position) (old mid new : List Difference) → IsStepTo p.way.items (FirstOfThree h (number_at numbers ps.1) (number_at numbers ps.2)) ps.0 xs.0 q → AreFound pool ns ls numbers before (one_at pool numbers q) (other_at pool numbers q) old mid → IsStepTo p.way.items (SecondOfThree h (number_at numbers xs.0) (number_at numbers ps.2)) ps.1 xs.1 s → AreFound pool ns ls numbers before (one_at pool numbers s) (other_at pool numbers s) mid new → IsStepTo p.way.items (ThirdOfThree h (number_at numbers xs.0) (number_at numbers xs.1)) ps.2 xs.2 next → IsNextOf pool ns ls numbers before p old new next.way.items next.one next.other
    three_next q s next old mid new qs qf ss sf t = behind (IsNextOf pool ns ls numbers before p old new) p.way.items three_frame ps.2 xs.2 next t (record {
      at = position_behind p.way.items three_frame ps.2 xs.2 three_head;
      linked = r.third.linked;
      less = r.one.parts.2.earlier;
      found = found_then pool ns ls numbers before (one_at pool numbers p) (filled pool p.way.items (three_item h x b c)) (whole pool numbers (p.way.items ++ three_frame ∷ []) ps.2) old mid new
          (subst (λ w. AreFound pool ns ls numbers before w (filled pool p.way.items (three_item h x b c)) old mid) (sym (ap (filled pool p.way.items) r.one.item)) (moved one_frame ps.0 xs.0 q old mid qs qf))
          (subst (λ w. AreFound pool ns ls numbers before (filled pool p.way.items (three_item h x b c)) w mid new) (sym (filled_push pool p.way.items three_frame c)) (moved two_frame ps.1 xs.1 s mid new ss sf));
      same = filled_push pool p.way.items three_frame z ∙ sym (ap (filled pool p.way.items) r.other.item);
    })

-- ---- a position of two terms

pub term_found : (pool ns : List Node) (ls : List Link) (numbers : List ℕ) (before : ℕ) (p : Position) (old new : List Difference) → IsPositionOf pool ns numbers p.way.items p.one p.other → sort_of (item_at pool (number_at numbers p.one)) ≡ TermSort → IsFreeOf (bound_on p.way.items) (term_at pool (number_at numbers p.one)) → IsFreeOf (bound_on p.way.items) (term_at pool (number_at numbers p.other)) → IsPushed ls before p old new → AreFound pool ns ls numbers before (one_at pool numbers p) (other_at pool numbers p) old new
term_found pool ns ls numbers before p old new at sort free other_free pushed =
    let d : Difference = pushed.difference in
    found_one pool ns ls numbers before (one_at pool numbers p) (other_at pool numbers p) old new pushed.difference (record {
      is = record {
        leads = record { leads = subst (λ w. Leads pool FormulaSort w TermSort) (sym pushed.way) (subst (Leads pool FormulaSort p.way.items) sort at.leads) };
        free = subst (λ w. IsFreeOf (bound_on w) (term_at pool (number_at numbers pushed.difference.from))) (sym pushed.way) (subst (λ i. IsFreeOf (bound_on p.way.items) (term_at pool (number_at numbers i))) (sym pushed.from) free);
        other_free = subst (λ w. IsFreeOf (bound_on w) (term_at pool (number_at numbers pushed.difference.to))) (sym pushed.way) (subst (λ i. IsFreeOf (bound_on p.way.items) (term_at pool (number_at numbers i))) (sym pushed.to) other_free);
        from_term = subst (λ i. HasPart pool (length pool) (number_at numbers i) TermSort) (sym pushed.from) (record { earlier = at.one.number; sort = sort });
        to_term = subst (λ i. HasPart pool (length pool) (number_at numbers i) TermSort) (sym pushed.to) (record { earlier = at.other.number; sort = at.same_sort ∙ sort });
        low = subst (λ x. item_depth x ≤ most_deep) (λ k. sym (ends pushed.way pushed.to) k) at.other_low;
      };
      term = subst (IsTermNode pool ns numbers) (sym pushed.from) (record { term = record { earlier = at.one.number; sort = sort }; no_parameter = λ n f. no_type p.one sort n (at.one.real.made n f) });
      within = subst (λ i. i < length ns) (sym pushed.from) at.one.node;
      path = pushed.path;
    }) (sym (ends pushed.way pushed.from)) (ends pushed.way pushed.to) pushed.is
  where
    no_type : (i : ℕ) → sort_of (item_at pool (number_at numbers i)) ≡ TermSort → (n : ℕ) → IsMade pool (number_at numbers i) (LeafNode (TypeParam n)) → ⊥
    no_type i e n m = let both : TermSort ≡ TypeSort = sym e ∙ ap sort_of m.item in absurd (cc)

    ends : {way way2 : List Frame} {i j : ℕ} → way ≡ way2 → i ≡ j → whole pool numbers way i ≡ whole pool numbers way2 j
    ends e f = λ k. whole pool numbers (e k) (f k)
