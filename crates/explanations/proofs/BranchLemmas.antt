-- The nodes of the classes of a branch are a graph: the reflexivity axioms of its terms may be added, and it has their
-- equations.
use Rattle.std.proofs.Common.{◌≡◌, inl, inr, ℕ, ◌+◌, ◌<◌, ◌≤◌, max, List, length, take, Some, refl, sym, ap, ◌∙◌, subst, arith}
use Rattle.std.specs.Prelude.{slice_get}
use Rattle.std.proofs.lemmas.Option.{slice_get_within}
use Rattle.base.specs.TypeData.{ParamType}
use Rattle.fol.specs.Depth.{term_depth, formula_depth}
use Rattle.fol.specs.declared.operators.Comparison.TheVariants.{Eq}
use Rattle.fol.specs.FormulaData.{FormulaData}
use Rattle.certificates.specs.Closes.{most_deep}
use Rattle.term_pool.specs.Items.{TypeItem, FormulaItem, TermSort, FormulaSort, TypeSort, sort_of, formula_in}
use Rattle.term_pool.specs.Pools.{item_at, HasPart, IsMade}
use Rattle.term_pool.specs.Depths.{item_depth}
use Rattle.term_pool.specs.declared.node.Two.TheVariants.{Compare}
use Rattle.term_pool.specs.declared.node.Node.{Node}
use Rattle.term_pool.specs.declared.node.Node.TheVariants.{Two as TwoNode}
use Rattle.term_pool.proofs.ShapeLemmas.{a_term, a_formula}
use Rattle.congruence_closure.specs.Links.{Linked, IsReason}
use Rattle.congruence_closure.specs.States.{AreClasses}
use Rattle.congruence_closure.specs.declared.classes.link.Equation.{Equation}
use Rattle.congruence_closure.specs.declared.classes.link.Link.{Link}
use Rattle.congruence_closure.specs.declared.classes.link.Why.{Why}
use Rattle.congruence_closure.specs.declared.classes.link.Why.TheVariants.{Given, Alike}
use Rattle.certificates.specs.BranchesBranch.{Branch}
use Rattle.certificates.specs.Inside.{IsInside}
use Rattle.certificates.specs.Names.{above_term, above}
use Rattle.congruence_closure.specs.Numbers.{number_at, StandsIn, IsMadeFor}
use Rattle.congruence_closure.specs.Known.{BranchClassesData, IsOver, IsOfEntry, AreInEntries, AreEntriesOf}
use Rattle.congruence_closure.proofs.OverLemmas.{to_branch}
use Rattle.explanations.specs.Chains.{term_at, formula_at, ChainData, IsChain, CanBegin}
use Rattle.explanations.proofs.AboveLemmas.{above_item}
use Rattle.explanations.specs.Routes.{IsEquation}
use Rattle.explanations.specs.BoundNodes.{IsClosed}
use Rattle.explanations.specs.Graphs.{IsTermNode, IsGraph}
use Rattle.explanations.specs.Derivations.{HasEquation, AreSaid}
use Rattle.explanations.specs.BranchGraphs.{IsLow, AreLow, HasEntries}
use Rattle.explanations.proofs.FittingLemmas.{some_fits, term_closed}
use Rattle.explanations.proofs.StandLemmas.{levels, levels_of, some_levels, IsInItem, stands_above, stands_deep, stands_inside}

-- ---- the depths of the terms

below_shallow : (d l n : ℕ) → d + l ≤ n → 1 ≤ l → n ≤ most_deep → 1 + d ≤ most_deep
below_shallow d l n h s w = omega arith

below_denied : (d n : ℕ) → d + 2 ≤ 1 + n → n ≤ most_deep → 1 + d ≤ most_deep
below_denied d n h w = omega arith

low_below : (d : ℕ) (p : FormulaData) → IsLow p → d + levels_of p ≤ formula_depth p → 1 + d ≤ most_deep
low_below d p (inl s) h = below_shallow d (levels_of p) (formula_depth p) h (some_levels p) s
low_below d p (inr q) h = below_denied d (formula_depth q.0) (subst (λ r. d + levels_of r ≤ formula_depth r) q.1 h) q.2

module _ (pool : List Node) (k entry : ℕ) (term : sort_of (item_at pool k) ≡ TermSort) (formula : sort_of (item_at pool entry) ≡ FormulaSort) (s : StandsIn pool k entry) where
  stand_low : IsLow (formula_at pool entry) → 1 + term_depth (term_at pool k) ≤ most_deep
  stand_low low =
      let deep : item_depth (item_at pool k) + levels (FormulaItem (formula_at pool entry)) ≤ item_depth (FormulaItem (formula_at pool entry)) = subst (λ x. item_depth (item_at pool k) + levels x ≤ item_depth x) (sym (a_formula (item_at pool entry) formula)) (stands_deep pool k entry term s) in
      low_below (term_depth (term_at pool k)) (formula_at pool entry) low (subst (λ x. item_depth x + levels_of (formula_at pool entry) ≤ formula_depth (formula_at pool entry)) (sym (a_term (item_at pool k) term)) deep)

  stand_inside : IsInside (term_at pool k) (formula_at pool entry)
  stand_inside = subst (IsInItem (term_at pool k)) (sym (a_formula (item_at pool entry) formula)) (stands_inside pool k entry term s)

  stand_above : above_term (term_at pool k) ≤ above (formula_at pool entry)
  stand_above = subst (λ x. above_item x ≤ above (formula_at pool entry)) (sym (a_term (item_at pool k) term)) (subst (λ x. above_item (item_at pool k) ≤ above_item x) (sym (a_formula (item_at pool entry) formula)) (stands_above pool k entry s))

twice_low : (n : ℕ) → 1 + n ≤ most_deep → 1 + max n n ≤ most_deep
twice_low n h = omega arith

module _ (pool : List Node) (d : BranchClassesData) (over : IsOver pool d) where
  -- ---- equations

  side_number : (left : ℕ) (i : ℕ) → IsMadeFor pool d.classes.nodes d.numbers left i → HasPart pool (length pool) left TermSort → IsTermNode pool d.classes.nodes d.numbers i
  side_number left i m p = record { term = term; no_parameter = λ n e. absurd (not_type (m.real.made n e).item) }
    where
      term : HasPart pool (length pool) (number_at d.numbers i) TermSort
      term = subst (λ k. HasPart pool (length pool) k TermSort) (sym m.is) p

      not_type : {n : ℕ} → item_at pool (number_at d.numbers i) ≡ TypeItem (ParamType n) → ⊥
      not_type q = let both : TermSort ≡ TypeSort = sym term.sort ∙ ap sort_of q in absurd (cc)

  of_number : (number left right : ℕ) → IsMade pool number (TwoNode (Compare Eq) left right) → HasPart pool (length pool) left TermSort × HasPart pool (length pool) right TermSort
  of_number number left right m =
      let w = slice_get_within pool number (TwoNode (Compare Eq) left right) m.found in
      let e = m.parts.0.earlier in
      let f = m.parts.1.earlier in
      (record { earlier = omega (arith, w, e); sort = m.parts.0.sort }, record { earlier = omega (arith, w, f); sort = m.parts.1.sort })

  left_term : (k : ℕ) (e : Equation) → slice_get d.classes.equations k ≡ Some e → IsTermNode pool d.classes.nodes d.numbers e.left
  left_term k e f = let s = (over.sides k e f).sides in side_number s.left e.left s.left_made (of_number (over.sides k e f).number s.left s.right s.made).0

  right_term : (k : ℕ) (e : Equation) → slice_get d.classes.equations k ≡ Some e → IsTermNode pool d.classes.nodes d.numbers e.right
  right_term k e f = let s = (over.sides k e f).sides in side_number s.right e.right s.right_made (of_number (over.sides k e f).number s.left s.right s.made).1

  left_closed : (k : ℕ) (e : Equation) → slice_get d.classes.equations k ≡ Some e → IsClosed d.classes.nodes e.left
  left_closed k e f = let s = over.equations.given k e f in term_closed d.classes.nodes e.left s.one s.sides.left

  right_closed : (k : ℕ) (e : Equation) → slice_get d.classes.equations k ≡ Some e → IsClosed d.classes.nodes e.right
  right_closed k e f = let s = over.equations.given k e f in term_closed d.classes.nodes e.right s.other s.sides.right

  -- the equation of an edge has the index of the entry
  said_by : (c : ChainData) → HasEntries c d.entries → (e : Equation) → IsOfEntry pool d e → HasEquation pool c (number_at d.numbers e.left) (number_at d.numbers e.right)
  said_by c has e h =
      let s = h.sides in
      let parts = of_number h.number s.left s.right s.made in
      let is : IsEquation pool c h.position s.left s.right = record { left_term = parts.0; right_term = parts.1; at = record { number = h.number; found = has.each h.position h.number h.found; is = ap formula_in s.made.item } } in
      record { position = h.position; is = subst (λ i. IsEquation pool c h.position i (number_at d.numbers e.right)) (sym s.left_made.is) (subst (IsEquation pool c h.position s.left) (sym s.right_made.is) is) }

  module _ (classes : AreClasses d.classes.nodes d.classes.equations d.classes.names d.classes.links) where
    pub said : (c : ChainData) → HasEntries c d.entries → AreSaid pool c d.classes.links d.numbers
    said c has = record { each = λ k q l f w. go k q l (subst (IsReason d.classes.nodes d.classes.equations (Linked (take k d.classes.links)) l.left l.right) w (classes.shown.each k l f)) }
      where
        go : (k q : ℕ) (l : Link) → IsReason d.classes.nodes d.classes.equations (Linked (take k d.classes.links)) l.left l.right (Given q) → HasEquation pool c (number_at d.numbers l.left) (number_at d.numbers l.right)
        go k q l g = subst (λ i. HasEquation pool c (number_at d.numbers i) (number_at d.numbers l.right)) g.left (subst (λ i. HasEquation pool c (number_at d.numbers g.equation.left) (number_at d.numbers i)) g.right (said_by c has g.equation (over.sides q g.equation g.found)))

    among : (k : ℕ) (l : Link) (why : Why) → IsReason d.classes.nodes d.classes.equations (Linked (take k d.classes.links)) l.left l.right why → (l.left < length d.classes.nodes) × (l.right < length d.classes.nodes)
    among k l (Given q) g = (subst (λ i. i < length d.classes.nodes) g.left (classes.terms.left q g.equation g.found), subst (λ i. i < length d.classes.nodes) g.right (classes.terms.right q g.equation g.found))
    among k l Alike g = (slice_get_within d.classes.nodes l.left g.one g.is_one, slice_get_within d.classes.nodes l.right g.other g.is_other)

    pub a_graph : AreInEntries pool d → AreLow pool d.entries → IsGraph pool d.classes.nodes d.classes.links d.numbers
    a_graph inside low = record {
      long = over.numbered.long;
      inside = over.numbered.inside;
      numbered = over.numbered.numbered;
      parts = over.numbered.parts;
      among = λ k l f. among k l l.why (classes.shown.each k l f);
      fits = λ i w. some_fits d.classes.nodes i (over.nodes.each i w);
      low = λ i w term. (let s = inside.each i w in stand_low pool (number_at d.numbers i) s.entry term (low.formula s.position s.entry s.found) s.stands (low.low s.position s.entry s.found));
      equations = d.classes.equations;
      left = left_term;
      right = right_term;
      left_closed = left_closed;
      right_closed = right_closed;
      shown = classes.shown;
    }

  -- ---- reflexivity axioms that may be added

  pub begins : (b : Branch) (c : ChainData) → AreInEntries pool d → AreLow pool d.entries → AreEntriesOf pool d b → HasEntries c d.entries → IsChain pool b c → (i : ℕ) → i < length d.classes.nodes → IsTermNode pool d.classes.nodes d.numbers i → CanBegin b c (term_at pool (number_at d.numbers i))
  begins b c inside low of has chain i w t =
      let s = inside.each i w in
      let formula : sort_of (item_at pool s.entry) ≡ FormulaSort = low.formula s.position s.entry s.found in
      let deep : 1 + term_depth (term_at pool (number_at d.numbers i)) ≤ most_deep = stand_low pool (number_at d.numbers i) s.entry t.term.sort formula s.stands (low.low s.position s.entry s.found) in
      let variables : above_term (term_at pool (number_at d.numbers i)) ≤ above (formula_at pool s.entry) = stand_above pool (number_at d.numbers i) s.entry t.term.sort formula s.stands in
      let below : above (formula_at pool s.entry) ≤ c.variable = chain.below s.position s.entry (has.each s.position s.entry s.found) in
      record {
        stands = record {
          position = s.position;
          formula = formula_at pool s.entry;
          says = to_branch pool d b of s.position (formula_at pool s.entry) (record { number = s.entry; found = s.found; is = refl });
          inside = stand_inside pool (number_at d.numbers i) s.entry t.term.sort formula s.stands;
        };
        shallow = twice_low (term_depth (term_at pool (number_at d.numbers i))) deep;
        below = omega (arith, variables, below);
      }
