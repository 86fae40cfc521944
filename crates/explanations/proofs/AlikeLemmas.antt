-- The two ends of an edge of congruent nodes.
use Rattle.std.proofs.Common.{◌≡◌, ◌≢◌, ℕ, ◌+◌, ◌<◌, ◌≤◌, max, List, [], ◌∷◌, ◌++◌, length, take, Some, refl, sym, ap, ◌∙◌, subst, arith}
use Rattle.std.specs.Prelude.{slice_get}
use Rattle.std.proofs.lemmas.Option.{slice_get_within}
use Rattle.fol.specs.Depth.{term_depth}
use Rattle.fol.specs.declared.operators.Comparison.TheVariants.{Eq}
use Rattle.certificates.specs.Closes.{most_deep}
use Rattle.term_pool.specs.declared.node.Two.TheVariants.{Compare}
use Rattle.term_pool.specs.declared.node.Node.{Node}
use Rattle.congruence_closure.specs.Links.{Linked, AreAlikeAt, IsReason}
use Rattle.congruence_closure.specs.declared.classes.link.Why.TheVariants.{Given, Alike}
use Rattle.congruence_closure.specs.declared.classes.link.Link.{Link}
use Rattle.explanations.specs.Chains.{term_at}
use Rattle.explanations.specs.declared.frame.Frame.{Frame}
use Rattle.explanations.specs.declared.frame.Frame.TheVariants.{SecondOfTwo}
use Rattle.congruence_closure.specs.Numbers.{number_at}
use Rattle.explanations.specs.Replacing.{itself_item}
use Rattle.explanations.specs.Graphs.{IsTermNode, IsGraph}
use Rattle.explanations.specs.Positions.{whole, one_at, other_at, CanStand, IsPositionOf, IsStepTo, IsNextOf, AreFound}
use Rattle.explanations.specs.Plans.{equation_item, IsPlan, HasTermEnds}
use Rattle.explanations.specs.declared.derived.replacing.Difference.{Difference}
use Rattle.explanations.specs.declared.derived.difference.Position.{Position}
use Rattle.explanations.proofs.PositionLemmas.{behind, found_none, found_then}

module _ (pool ns : List Node) (ls : List Link) (numbers : List ℕ) (g : IsGraph pool ns ls numbers) where
  pub term_stands : (i : ℕ) → IsTermNode pool ns numbers i → i < length ns → CanStand pool ns numbers i
  term_stands i t w = record { node = w; number = t.term.earlier; real = record { made = λ n f. absurd (t.no_parameter n f) } }

  both_low : (m n : ℕ) → 1 + m ≤ most_deep → 1 + n ≤ most_deep → 1 + max m n ≤ most_deep
  both_low m n h k = omega arith

  -- the right side of the equation of the one with itself
  right_position : (i j : ℕ) → IsTermNode pool ns numbers i → IsTermNode pool ns numbers j → i < length ns → j < length ns → IsPositionOf pool ns numbers (SecondOfTwo (Compare Eq) (number_at numbers i) ∷ []) i j
  right_position i j t u w v = record {
    one = term_stands i t w;
    other = term_stands j u v;
    leads = (refl, t.term, sym t.term.sort);
    same_sort = u.term.sort ∙ sym t.term.sort;
    one_fits = g.fits i w;
    other_fits = g.fits j v;
    one_low = both_low (term_depth (term_at pool (number_at numbers i))) (term_depth (term_at pool (number_at numbers i))) (g.low i w t.term.sort) (g.low i w t.term.sort);
    other_low = both_low (term_depth (term_at pool (number_at numbers i))) (term_depth (term_at pool (number_at numbers j))) (g.low i w t.term.sort) (g.low j v u.term.sort);
  }

  module _ (before : ℕ) (link : Link) (left : IsTermNode pool ns numbers link.left) (right : IsTermNode pool ns numbers link.right) (alike : AreAlikeAt ns (Linked (take before ls)) link.left link.right) (k : ℕ) (same : k ≡ number_at numbers link.left) where
    pub begun_position : (way : List Frame) → way ≡ [] → (p : Position) → IsStepTo way (SecondOfTwo (Compare Eq) k) link.left link.right p → IsPositionOf pool ns numbers p.way.items p.one p.other
    begun_position way none p s = behind (IsPositionOf pool ns numbers) way (SecondOfTwo (Compare Eq) k) link.left link.right p s
        (subst (λ w. IsPositionOf pool ns numbers (w ++ SecondOfTwo (Compare Eq) k ∷ []) link.left link.right) (sym none)
        (subst (λ m. IsPositionOf pool ns numbers (SecondOfTwo (Compare Eq) m ∷ []) link.left link.right) (sym same)
        (right_position link.left link.right left right (slice_get_within ns link.left alike.one alike.is_one) (slice_get_within ns link.right alike.other alike.is_other))))

    pub begun_apart : (way : List Frame) (p : Position) → IsStepTo way (SecondOfTwo (Compare Eq) k) link.left link.right p → number_at numbers link.left ≢ number_at numbers link.right → number_at numbers p.one ≢ number_at numbers p.other
    begun_apart way p s differ = behind (λ w i j. number_at numbers i ≢ number_at numbers j) way (SecondOfTwo (Compare Eq) k) link.left link.right p s differ

    pub begun_alike : (way : List Frame) (p : Position) → IsStepTo way (SecondOfTwo (Compare Eq) k) link.left link.right p → AreAlikeAt ns (Linked (take before ls)) p.one p.other
    begun_alike way p s = behind (λ w i j. AreAlikeAt ns (Linked (take before ls)) i j) way (SecondOfTwo (Compare Eq) k) link.left link.right p s alike

    one_begun : (way : List Frame) → way ≡ [] → (p : Position) → IsStepTo way (SecondOfTwo (Compare Eq) k) link.left link.right p → one_at pool numbers p ≡ itself_item pool (number_at numbers link.left)
    one_begun way none p s = behind (λ w i j. whole pool numbers w i ≡ itself_item pool (number_at numbers link.left)) way (SecondOfTwo (Compare Eq) k) link.left link.right p s
        (subst (λ w. whole pool numbers (w ++ SecondOfTwo (Compare Eq) k ∷ []) link.left ≡ itself_item pool (number_at numbers link.left)) (sym none)
        (subst (λ m. whole pool numbers (SecondOfTwo (Compare Eq) m ∷ []) link.left ≡ itself_item pool (number_at numbers link.left)) (sym same) refl))

    other_begun : (way : List Frame) → way ≡ [] → (p : Position) → IsStepTo way (SecondOfTwo (Compare Eq) k) link.left link.right p → other_at pool numbers p ≡ equation_item pool (number_at numbers link.left) (number_at numbers link.right)
    other_begun way none p s = behind (λ w i j. whole pool numbers w j ≡ equation_item pool (number_at numbers link.left) (number_at numbers link.right)) way (SecondOfTwo (Compare Eq) k) link.left link.right p s
        (subst (λ w. whole pool numbers (w ++ SecondOfTwo (Compare Eq) k ∷ []) link.right ≡ equation_item pool (number_at numbers link.left) (number_at numbers link.right)) (sym none)
        (subst (λ m. whole pool numbers (SecondOfTwo (Compare Eq) m ∷ []) link.right ≡ equation_item pool (number_at numbers link.left) (number_at numbers link.right)) (sym same) refl))

    pub all_found : (way : List Frame) → way ≡ [] → (p next : Position) (old mid new : List Difference) → IsStepTo way (SecondOfTwo (Compare Eq) k) link.left link.right p → IsNextOf pool ns ls numbers before p old mid next.way.items next.one next.other → AreFound pool ns ls numbers before (one_at pool numbers next) (other_at pool numbers next) mid new → AreFound pool ns ls numbers before (itself_item pool (number_at numbers link.left)) (equation_item pool (number_at numbers link.left) (number_at numbers link.right)) old new
    all_found way none p next old mid new s n f =
        subst (λ x. AreFound pool ns ls numbers before x (equation_item pool (number_at numbers link.left) (number_at numbers link.right)) old new) (one_begun way none p s)
        (subst (λ y. AreFound pool ns ls numbers before (one_at pool numbers p) y old new) (n.same ∙ other_begun way none p s)
        (found_then pool ns ls numbers before (one_at pool numbers p) (one_at pool numbers next) (other_at pool numbers next) old mid new n.found f))

  pub same_found : (before : ℕ) (i j : ℕ) (old new : List Difference) → number_at numbers i ≡ number_at numbers j → new ≡ old → AreFound pool ns ls numbers before (itself_item pool (number_at numbers i)) (equation_item pool (number_at numbers i) (number_at numbers j)) old new
  same_found before i j old new e f = found_none pool ns ls numbers before (itself_item pool (number_at numbers i)) (equation_item pool (number_at numbers i) (number_at numbers j)) old new (ap (equation_item pool (number_at numbers i)) e) f

-- the ends of an edge are congruent by the edges before it
pub link_alike : (pool ns : List Node) (ls : List Link) (numbers : List ℕ) (g : IsGraph pool ns ls numbers) (k : ℕ) (l : Link) → slice_get ls k ≡ Some l → l.why ≡ Alike → AreAlikeAt ns (Linked (take k ls)) l.left l.right
link_alike pool ns ls numbers g k l f w = subst (IsReason ns g.equations (Linked (take k ls)) l.left l.right) w (g.shown.each k l f)

pub plan_given : (pool ns : List Node) (ls : List Link) (numbers : List ℕ) (k : ℕ) (h : HasTermEnds pool ns ls numbers k) (m : Link) (q : ℕ) (ds : List Difference) → m ≡ h.link → m.why ≡ Given q → ds ≡ [] → IsPlan pool ns ls numbers k ds
plan_given pool ns ls numbers k h m q ds same e none = record {
  link = h.link;
  is_link = h.is_link;
  left = h.left;
  right = h.right;
  none = λ o w. none;
  found = λ w. absurd (let both : Given q ≡ Alike = sym e ∙ ap (λ (l : Link). l.why) same ∙ w in (cc));
}

pub plan_alike : (pool ns : List Node) (ls : List Link) (numbers : List ℕ) (k : ℕ) (h : HasTermEnds pool ns ls numbers k) (m : Link) (old new : List Difference) → m ≡ h.link → m.why ≡ Alike → old ≡ [] → AreFound pool ns ls numbers k (itself_item pool (number_at numbers m.left)) (equation_item pool (number_at numbers m.left) (number_at numbers m.right)) old new → IsPlan pool ns ls numbers k new
plan_alike pool ns ls numbers k h m old new same e none f = record {
  link = h.link;
  is_link = h.is_link;
  left = h.left;
  right = h.right;
  none = λ q w. absurd (let both : Alike ≡ Given q = sym e ∙ ap (λ (l : Link). l.why) same ∙ w in (cc));
  found = λ w. subst (λ o. AreFound pool ns ls numbers k (itself_item pool (number_at numbers h.link.left)) (equation_item pool (number_at numbers h.link.left) (number_at numbers h.link.right)) o new) none
      (subst (λ (l : Link). AreFound pool ns ls numbers k (itself_item pool (number_at numbers l.left)) (equation_item pool (number_at numbers l.left) (number_at numbers l.right)) old new) same f);
}
