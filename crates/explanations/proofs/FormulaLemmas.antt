-- Formulas that are equal up to the classes, and the differences that make the one the other.
use Rattle.std.proofs.Common.{◌≡◌, inl, inr, ℕ, ◌<◌, Bool, true, false, Option, Some, List, [], ◌++◌, length, sym, ap, ◌∙◌, subst}
use Rattle.std.specs.Prelude.{slice_get}
use Rattle.term_pool.specs.Items.{TermSort, formula_in}
use Rattle.term_pool.specs.Pools.{item_at, Extends}
use Rattle.term_pool.specs.declared.node.Node.{Node}
use Rattle.term_pool.proofs.ItemLemmas.{item_kept}
use Rattle.congruence_closure.specs.declared.classes.link.Link.{Link}
use Rattle.certificates.specs.BranchesBranch.{Branch}
use Rattle.explanations.specs.Chains.{formula_at, ChainData, Keeps, IsAt}
use Rattle.explanations.specs.declared.frame.Frame.{Frame}
use Rattle.congruence_closure.specs.Numbers.{number_at}
use Rattle.explanations.specs.Replacing.{after_all, AreInTurn, CanReplaceAt, IsReplacedAt, CanBeginEach}
use Rattle.explanations.specs.Graphs.{IsGraph}
use Rattle.explanations.specs.Positions.{whole, CanStand, IsPositionOf, IsDifference, AreFound}
use Rattle.explanations.specs.Plans.{is_needed, IsOnAny, CanMark, AreMarked, HasTermEnds, AreNeeded}
use Rattle.explanations.specs.Derivations.{HasPosition, ArePlaced, CanBeginAny, IsUnmarked}
use Rattle.explanations.specs.Formulas.{IsFormulaNode, AreInSource}
use Rattle.explanations.specs.declared.derived.replacing.Difference.{Difference}
use Rattle.explanations.proofs.GrowthLemmas.{begin_grown}
use Rattle.explanations.proofs.ReplacingLemmas.{all_grown, turn_grown}
use Rattle.explanations.proofs.PlanLemmas.{route_ends}
use Rattle.explanations.proofs.DeriveLemmas.{replace_by}

module _ (pool ns : List Node) (ls : List Link) (numbers : List ℕ) (g : IsGraph pool ns ls numbers) (d : ChainData) (source : ℕ) (ds : List Difference) (in_source : AreInSource pool ns ls numbers d source ds) where
  taken_ends : (c : ℕ) → IsOnAny ds c → (c < length ls) × HasTermEnds pool ns ls numbers c
  taken_ends c o =
      let h = in_source.each o.position o.difference o.found in
      route_ends pool ns ls numbers g (length ls) o.difference.from o.difference.to o.difference.route.items h.term h.path c o.on

  pub taken_marks : (count : ℕ) (needed : List Bool) → count ≡ length ls → IsUnmarked count needed → CanMark (length needed) (IsOnAny ds)
  taken_marks count needed e u = record { each = λ c o. subst (λ n. c < n) (sym (u.long ∙ e)) (taken_ends c o).0 }

  pub taken_needed : (count : ℕ) (old new : List Bool) → count ≡ length ls → IsUnmarked count old → AreMarked (IsOnAny ds) old new → AreNeeded pool ns ls numbers new
  taken_needed count old new e u m = record {
    long = m.long ∙ u.long ∙ e;
    ends = λ c n. elim (m.only c n) [ inl o ↦ absurd (let both : true ≡ false = sym o ∙ u.none c in (cc)) | inr o ↦ (taken_ends c o).1 ];
  }

  module _ (ms : List Node) (x : Extends pool ms) (e : ChainData) where
    pub replaced_at_source : Keeps d e → (equations : List (Option ℕ)) (old first last read : List Bool) → AreMarked (IsOnAny ds) old first → ((k : ℕ) → is_needed first k ≡ true → is_needed last k ≡ true) → read ≡ last → ArePlaced ms e ls numbers read equations (length ls) → CanReplaceAt ms e numbers equations source ds
    replaced_at_source k equations old first last read marked stays same placed = record {
      number = in_source.number;
      found = k.kept source in_source.number in_source.found;
      in_turn = subst (λ y. AreInTurn ms numbers y ds) (sym (item_kept pool ms x in_source.number in_source.inside)) (turn_grown pool ms x numbers (item_at pool in_source.number) ds (λ n c f. (in_source.each n c f).is) in_source.in_turn);
      each = λ n c f. replace_by pool ms ns ls numbers g x e equations (length ls) c (in_source.each n c f) (λ i o. positions i (record { position = n; difference = c; found = f; on = o }));
    }
      where
        positions : (c : ℕ) → IsOnAny ds c → HasPosition ms e ls numbers equations c
        positions c o = placed.each c (taken_ends c o).0 (subst (λ bs. is_needed bs c ≡ true) (sym same) (stays c (marked.marked c o)))

    pub replaced_there : Keeps d e → (ks : List Node) (f : ChainData) (position : ℕ) → IsReplacedAt ms e numbers source ds ks f position → IsReplacedAt pool d numbers source ds ks f position
    replaced_there k ks f position r = record {
      at = λ number h. (let same : in_source.number ≡ number = one_number in_source.number number (sym in_source.found ∙ h) in
          subst (λ y. IsAt ks f position (formula_in y)) (ap (λ y. after_all ms numbers y ds) (item_kept pool ms x number (subst (λ i. i < length pool) same in_source.inside)) ∙ all_grown pool ms x numbers (item_at pool number) ds (λ n c q. (in_source.each n c q).is)) (r.at number (k.kept source number h)));
    }
      where
        one_number : (a b : ℕ) → Some a ≡ Some b → a ≡ b
        one_number a b q = cc

    pub begun_here : (b : Branch) → Keeps d e → CanBeginAny pool ns b d numbers → CanBeginEach ms b e numbers ds
    begun_here b k can = record { each = λ n c f. (let h = in_source.each n c f in begin_grown pool ms x b d e k (number_at numbers c.from) TermSort h.is.from_term (can.each c.from h.within h.term)) }

-- ---- two nodes

module _ (pool ns : List Node) (numbers : List ℕ) where
  stand : (i : ℕ) → IsFormulaNode pool ns numbers i → CanStand pool ns numbers i
  stand i h = record { node = h.within; number = h.formula.earlier; real = record { made = λ n f. absurd (h.no_parameter n f) } }

  pub formula_position : (ls : List Link) → IsGraph pool ns ls numbers → (one other : ℕ) → IsFormulaNode pool ns numbers one → IsFormulaNode pool ns numbers other → (way : List Frame) → way ≡ [] → IsPositionOf pool ns numbers way one other
  formula_position ls g one other h k way none = subst (λ w. IsPositionOf pool ns numbers w one other) (sym none) (record {
    one = stand one h;
    other = stand other k;
    leads = sym h.formula.sort;
    same_sort = k.formula.sort ∙ sym h.formula.sort;
    one_fits = g.fits one h.within;
    other_fits = g.fits other k.within;
    one_low = h.low;
    other_low = k.low;
  })

  pub found_in_source : (ls : List Link) (d : ChainData) (one other source before : ℕ) (way : List Frame) (old new read : List Difference) → IsFormulaNode pool ns numbers one → slice_get d.formulas source ≡ Some (number_at numbers one) → way ≡ [] → old ≡ [] → read ≡ new → before ≡ length ls → AreFound pool ns ls numbers before (whole pool numbers way one) (whole pool numbers way other) old new → AreInSource pool ns ls numbers d source read
  found_in_source ls d one other source before way old new read h f none empty same e found = record {
    number = number_at numbers one;
    found = f;
    inside = h.formula.earlier;
    in_turn = subst (λ w. AreInTurn pool numbers (whole pool numbers w one) read) none (subst (AreInTurn pool numbers (whole pool numbers way one)) (sym all) found.in_turn);
    each = λ n c q. subst (λ k. IsDifference pool ns ls numbers k c) e (found.each n c (subst (λ cs. slice_get cs n ≡ Some c) all q));
  }
    where
      all : read ≡ found.found
      all = same ∙ found.more ∙ ap (λ cs. cs ++ found.found) empty

  pub found_end : (ls : List Link) (d : ChainData) (one other source before : ℕ) (way : List Frame) (old new read : List Difference) (ms : List Node) (e : ChainData) (position : ℕ) → slice_get d.formulas source ≡ Some (number_at numbers one) → way ≡ [] → old ≡ [] → read ≡ new → AreFound pool ns ls numbers before (whole pool numbers way one) (whole pool numbers way other) old new → IsReplacedAt pool d numbers source read ms e position → IsAt ms e position (formula_at pool (number_at numbers other))
  found_end ls d one other source before way old new read ms e position f none empty same found r =
      let all : read ≡ found.found = same ∙ found.more ∙ ap (λ cs. cs ++ found.found) empty in
      let ends : after_all pool numbers (item_at pool (number_at numbers one)) read ≡ item_at pool (number_at numbers other) = ap (after_all pool numbers (item_at pool (number_at numbers one))) all ∙ subst (λ w. after_all pool numbers (whole pool numbers w one) found.found ≡ whole pool numbers w other) none found.ends in
      subst (λ y. IsAt ms e position (formula_in y)) ends (r.at (number_at numbers one) f)
