-- Chosen terms that replace others, in a pool that is extended.
use Rattle.std.proofs.Common.{◌≡◌, ℕ, ◌<◌, ◌≤◌, List, length, get_or, Option, Some, refl, sym, ap, ◌∙◌, subst, arith}
use Rattle.std.specs.Prelude.{slice_get}
use Rattle.std.proofs.lemmas.Option.{slice_get-get_or}
use Rattle.fol.specs.FormulaData.{TermData}
use Rattle.term_pool.specs.Items.{Sort, sort_of, term_in, one_item, two_item, three_item}
use Rattle.term_pool.specs.Pools.{item_at, item_of, items, HasPart, HasParts, IsMade, Extends}
use Rattle.term_pool.specs.Depths.{item_depth, counted}
use Rattle.term_pool.specs.declared.node.Node.{Node}
use Rattle.term_pool.specs.declared.node.Node.TheVariants.{Leaf as LeafNode, One as OneNode, Two as TwoNode, Three as ThreeNode}
use Rattle.term_pool.proofs.ItemLemmas.{item_kept}
use Rattle.tableau.specs.Marks.{outer_parts, IsOneOf, IsUnder, Itself, Below}
use Rattle.tableau.specs.PoolBranches.{IsTermNumber}
use Rattle.tableau.proofs.MarkLemmas.{earlier}
use Rattle.row_reasoning.specs.Shapes.{term_at}
use Rattle.row_reasoning.proofs.WalkLemmas.{under_under}
use Rattle.congruence_closure.specs.Known.{BranchClassesData}
use Rattle.congruence_closure.proofs.OverLemmas.{made_more}
use Rattle.congruence_closure.proofs.WalkLemmas.{kept}
use Rattle.explanations.proofs.FrameLemmas.{longer}
use Rattle.row_reasoning.specs.Chosen.{IsNoSum}
use Rattle.row_reasoning.specs.Shallowest.{depth_at}
use Rattle.row_reasoning.specs.StandIns.{IsStandIn, HasStandIn, HaveStandIns, AreOverClasses}

-- ---- parts

pub under_has : (ns : List Node) (c : BranchClassesData) (names : List ℕ) (find : ℕ → Option ℕ) (top n : ℕ) → IsUnder ns top n → HaveStandIns ns c names find top → HaveStandIns ns c names find n
under_has ns c names find top n u h = record { each = λ m v term no_sum. h.each m (under_under ns top n m u v) term no_sum }

pub part_has : (ns : List Node) (c : BranchClassesData) (names : List ℕ) (find : ℕ → Option ℕ) (n part : ℕ) (node : Node) → IsMade ns n node → IsOneOf part (outer_parts node) → HaveStandIns ns c names find n → HaveStandIns ns c names find part
part_has ns c names find n part node made one h = under_has ns c names find n part (Below n node part Itself made one) h

-- ---- a pool that is extended

module _ (ns ms : List Node) (g : Extends ns ms) where
  pub term_same : (n : ℕ) → n < length ns → term_at ms n ≡ term_at ns n
  term_same n w = ap term_in (item_kept ns ms g n w)

  pub number_grown : (n : ℕ) → IsTermNumber ns n → IsTermNumber ms n
  number_grown n h = record { within = (let l = longer g in let w = h.within in omega (arith, w, l)); sort = ap sort_of (item_kept ns ms g n h.within) ∙ h.sort }

  number_back : (n : ℕ) → n < length ns → IsTermNumber ms n → IsTermNumber ns n
  number_back n w h = record { within = w; sort = ap sort_of (sym (item_kept ns ms g n w)) ∙ h.sort }

  depth_same : (n : ℕ) → n < length ns → depth_at ms n ≡ depth_at ns n
  depth_same n w = ap (λ x. counted (item_depth x)) (item_kept ns ms g n w)

  no_deeper_by : (a b x y : ℕ) → a ≡ x → b ≡ y → x ≤ y → a ≤ b
  no_deeper_by a b x y e f h = omega (arith, e, f, h)

  pub stand_in_grown : (c : BranchClassesData) (names : List ℕ) (find : ℕ → Option ℕ) (n m : ℕ) → IsStandIn ns c names find n m → IsStandIn ms c names find n m
  stand_in_grown c names find n m h = record {
    term = number_grown n h.term;
    other = number_grown m h.other;
    no_sum = subst IsNoSum (sym (term_same n h.term.within)) h.no_sum;
    chosen = h.chosen;
    node = h.node;
    other_node = h.other_node;
    found = h.found;
    other_found = h.other_found;
    linked = h.linked;
    no_deeper = no_deeper_by (depth_at ms m) (depth_at ms n) (depth_at ns m) (depth_at ns n) (depth_same m h.other.within) (depth_same n h.term.within) h.no_deeper;
  }

  -- ---- what the larger pool has below a number of the smaller one

  same_some : (n : ℕ) (node : Node) → n < length ns → slice_get ms n ≡ Some node → slice_get ns n ≡ Some node
  same_some n node w f =
      let here : slice_get ns n ≡ Some (get_or ns n node) = slice_get-get_or ns n node w in
      let both : Some (get_or ns n node) ≡ Some node = sym (kept ns ms g n (get_or ns n node) here) ∙ f in
      here ∙ both

  part_back : (n a : ℕ) (s : Sort) → n < length ns → HasPart ms n a s → HasPart ns n a s
  part_back n a s w p = record { earlier = p.earlier; sort = ap sort_of (sym (item_kept ns ms g a (let e = p.earlier in omega (arith, e, w)))) ∙ p.sort }

  parts_back : (n : ℕ) (node : Node) → n < length ns → HasParts ms n node → HasParts ns n node
  parts_back n (LeafNode h) w p = p
  parts_back n (OneNode h a) w p = part_back n a _ w p
  parts_back n (TwoNode h a b) w p = (part_back n a _ w p.0, part_back n b _ w p.1)
  parts_back n (ThreeNode h a b c) w p = (part_back n a _ w p.0, part_back n b _ w p.1, part_back n c _ w p.2)

  same_at : (n a : ℕ) → n < length ns → a < n → item_at ms a ≡ item_at ns a
  same_at n a w e = item_kept ns ms g a (omega (arith, e, w))

  same_made : (n : ℕ) (node : Node) → n < length ns → HasParts ms n node → item_of (items ms) node ≡ item_of (items ns) node
  same_made n (LeafNode h) w p = refl
  same_made n (OneNode h a) w p = ap (one_item h) (same_at n a w p.earlier)
  same_made n (TwoNode h a b) w p = λ i. two_item h (same_at n a w p.0.earlier i) (same_at n b w p.1.earlier i)
  same_made n (ThreeNode h a b c) w p = λ i. three_item h (same_at n a w p.0.earlier i) (same_at n b w p.1.earlier i) (same_at n c w p.2.earlier i)

  made_back : (n : ℕ) (node : Node) → n < length ns → IsMade ms n node → IsMade ns n node
  made_back n node w made = record {
    found = same_some n node w made.found;
    item = sym (item_kept ns ms g n w) ∙ made.item ∙ same_made n node w made.parts;
    parts = parts_back n node w made.parts;
  }

  record IsUnderBack (top n : ℕ) : Type 0 where
    under : IsUnder ns top n
    within : n < length ns

  under_back : (top n : ℕ) → top < length ns → IsUnder ms top n → IsUnderBack top n
  under_back top _ w Itself = record { under = Itself; within = w }
  under_back top _ w (Below m node part u made one) =
      let h = under_back top m w u in
      let before = made_back m node h.within made in
      let less = earlier ns m node part before.parts one in
      let v = h.within in
      record { under = Below m node part h.under before one; within = omega (arith, less, v) }

  pub have_grown : (c : BranchClassesData) (names : List ℕ) (find : ℕ → Option ℕ) (top : ℕ) → top < length ns → HaveStandIns ns c names find top → HaveStandIns ms c names find top
  have_grown c names find top w h = record { each = each }
    where
      each : (n : ℕ) → IsUnder ms top n → IsTermNumber ms n → IsNoSum (term_at ms n) → HasStandIn ms c names find n
      each n u term no_sum =
          let back = under_back top n w u in
          let it = h.each n back.under (number_back n back.within term) (subst IsNoSum (term_same n back.within) no_sum) in
          record { named = it.named; chosen = it.chosen; is = stand_in_grown c names find n it.chosen it.is }

  -- ---- over classes

  under_more : (top n : ℕ) → IsUnder ns top n → IsUnder ms top n
  under_more top _ Itself = Itself
  under_more top _ (Below m node part u made one) = Below m node part (under_more top m u) (made_more ns ms g m node made) one

  pub over_classes_back : (c : BranchClassesData) (names : List ℕ) (find : ℕ → Option ℕ) (top : ℕ) (class : TermData → ℕ) (chosen : ℕ → TermData) → AreOverClasses ms c names find top class chosen → AreOverClasses ns c names find top class chosen
  over_classes_back c names find top class chosen h = record {
    each = λ n m u s.
        ap (λ t. chosen (class t)) (sym (term_same n s.term.within)) ∙ h.each n m (under_more top n u) (stand_in_grown c names find n m s) ∙ term_same m s.other.within;
  }

  -- the larger pool has no others below a number of the smaller one
  pub over_classes_grown : (c : BranchClassesData) (names : List ℕ) (find : ℕ → Option ℕ) (top : ℕ) (class : TermData → ℕ) (chosen : ℕ → TermData) → top < length ns → HaveStandIns ns c names find top → AreOverClasses ns c names find top class chosen → AreOverClasses ms c names find top class chosen
  over_classes_grown c names find top class chosen w has h = record { each = each }
    where
      each : (n m : ℕ) → IsUnder ms top n → IsStandIn ms c names find n m → chosen (class (term_at ms n)) ≡ term_at ms m
      each n m u s =
          let back = under_back top n w u in
          let it = has.each n back.under (number_back n back.within s.term) (subst IsNoSum (term_same n back.within) s.no_sum) in
          let both : Some it.chosen ≡ Some m = sym it.is.chosen ∙ s.chosen in
          let same : it.chosen ≡ m = cc in
          ap (λ t. chosen (class t)) (term_same n back.within) ∙ h.each n it.chosen back.under it.is ∙ sym (term_same it.chosen it.is.other.within) ∙ ap (term_at ms) same
