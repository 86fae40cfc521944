-- The edge that joins two classes.
use Rattle.std.proofs.Common.{◌≡◌, ◌≢◌, ◌⊎◌, inl, inr, ℕ, suc, ◌+◌, ◌-◌, ◌<◌, ◌≤◌, max, List, [], ◌∷◌, length, take, Option, Some, None, refl, sym, ap, ◌∙◌, subst, arith}
use Rattle.std.specs.Prelude.{slice_get}
use Rattle.congruence_closure.specs.Links.{Linked, Itself, Turned, Chained}
use Rattle.congruence_closure.specs.declared.classes.link.Link.{Link}
use Rattle.congruence_closure.specs.Histories.{step_of, IsStill, IsRoot, Stays, IsHistory, IsEarlier, AreStill, AreNotLinked, JoinsAt, IsJoin, rank}
use Rattle.congruence_closure.specs.declared.proof_forest.Step.{Step}
use Rattle.congruence_closure.proofs.RootLemmas.{still_none, onward, longer, root_still}
use Rattle.congruence_closure.proofs.StepLemmas.{goes_along}

-- the numbers reached from two numbers by pointers that some of the first edges added; they have two roots
pub record AreAt (steps : List (Option Step)) (count i j one other : ℕ) : Type 0 where
  pub before : ℕ
  pub early : before ≤ count
  pub is_one : IsRoot steps before i one
  pub is_other : IsRoot steps before j other
  pub apart : one ≢ other

take_whole : (ls : List Link) → take (length ls) ls ≡ ls
take_whole [] = refl
take_whole (l ∷ ls) = ap (λ xs. l ∷ xs) (take_whole ls)

module _ (ls : List Link) (count : ℕ) (steps : List (Option Step)) (h : IsHistory ls count steps) (i j : ℕ) where
  pub at_begun : i ≢ j → AreAt steps count i j i j
  at_begun d = record {
    before = 0;
    early = omega arith;
    is_one = Stays i (record { later = λ s f. omega arith });
    is_other = Stays j (record { later = λ s f. omega arith });
    apart = d;
  }

  module _ (one other m : ℕ) (at : AreAt steps count i j one other) (next : IsEarlier steps one other m) where
    pub link_within : m < count
    link_within = subst (λ x. x < count) next.is (h.brought next.number next.step next.found)

    not_before : at.before ≤ m
    not_before = go next.is_one
      where
        go : (next.number ≡ one) ⊎ (next.number ≡ other) → at.before ≤ m
        go (inl e) = subst (λ x. at.before ≤ x) next.is ((root_still steps at.before i one at.is_one).later next.step (ap (step_of steps) (sym e) ∙ next.found))
        go (inr e) = subst (λ x. at.before ≤ x) next.is ((root_still steps at.before j other at.is_other).later next.step (ap (step_of steps) (sym e) ∙ next.found))

    module _ (one2 other2 : ℕ) (to : IsRoot steps (m + 1) one one2) (to_other : IsRoot steps (m + 1) other other2) where
      pub at_next : one2 ≢ other2 → AreAt steps count i j one2 other2
      at_next d = (let w = link_within in let l = not_before in record {
        before = m + 1;
        early = omega (arith, w);
        is_one = onward steps at.before (m + 1) i one one2 (omega (arith, l)) at.is_one to;
        is_other = onward steps at.before (m + 1) j other other2 (omega (arith, l)) at.is_other to_other;
        apart = d;
      })

      pub at_joins : one2 ≡ other2 → JoinsAt steps i j m
      at_joins e = (let l = not_before in record {
        one = one;
        other = other;
        is_one = longer steps at.before m i one l at.is_one next.still;
        is_other = longer steps at.before m j other l at.is_other next.other_still;
        apart = at.apart;
        root = one2;
        is_root = onward steps at.before (m + 1) i one one2 (omega (arith, l)) at.is_one to;
        same = subst (IsRoot steps (m + 1) j) (sym e) (onward steps at.before (m + 1) j other other2 (omega (arith, l)) at.is_other to_other);
      })

      lower : (n : ℕ) → IsStill steps (m + 1) n → rank count (step_of steps n) < count - m
      lower n still = go (step_of steps n) refl
        where
          go : (o : Option Step) → step_of steps n ≡ o → rank count (step_of steps n) < count - m
          go None e =
              let there : rank count (step_of steps n) ≡ 0 = ap (rank count) e in
              let w = link_within in
              omega (arith, there, w)
          go (Some s) e =
              let there : rank count (step_of steps n) ≡ count - s.link = ap (rank count) e in
              let late = still.later s e in
              let w = link_within in
              omega (arith, there, late, w)

      greatest : count - m ≤ max (rank count (step_of steps one)) (rank count (step_of steps other))
      greatest = go next.is_one
        where
          here : rank count (step_of steps next.number) ≡ count - m
          here = ap (rank count) next.found ∙ ap (λ x. count - x) next.is

          go : (next.number ≡ one) ⊎ (next.number ≡ other) → count - m ≤ max (rank count (step_of steps one)) (rank count (step_of steps other))
          go (inl e) = (let is : rank count (step_of steps one) ≡ count - m = ap (λ n. rank count (step_of steps n)) (sym e) ∙ here in omega (arith, is))
          go (inr e) = (let is : rank count (step_of steps other) ≡ count - m = ap (λ n. rank count (step_of steps n)) (sym e) ∙ here in omega (arith, is))

      pub falls : max (rank count (step_of steps one2)) (rank count (step_of steps other2)) < max (rank count (step_of steps one)) (rank count (step_of steps other))
      falls =
          let a = lower one2 (root_still steps (m + 1) one one2 to) in
          let b = lower other2 (root_still steps (m + 1) other other2 to_other) in
          let c = greatest in
          omega (arith, a, b, c)

  pub at_none : (one other : ℕ) → count ≡ length ls → AreAt steps count i j one other → AreStill steps one other → AreNotLinked ls i j
  at_none one other long at still = record {
    none = λ g. at.apart (h.whole count i j one other (omega arith)
        (longer steps at.before count i one at.early at.is_one (still_none steps count one still.one))
        (longer steps at.before count j other at.early at.is_other (still_none steps count other still.other))
        (subst (λ xs. Linked xs i j) (sym (ap (λ n. take n ls) long ∙ take_whole ls)) g));
  }

-- ---- the two ends

-- before the edge two numbers were connected, or were connected with its ends, in either order
data AreAcross (ls : List Link) (k : ℕ) (last : Link) (i j : ℕ) : Type 0 where
  AreLinked : Linked (take k ls) i j → AreAcross ls k last i j
  Forwards : Linked (take k ls) i last.left → Linked (take k ls) last.right j → AreAcross ls k last i j
  Backwards : Linked (take k ls) i last.right → Linked (take k ls) last.left j → AreAcross ls k last i j

module _ (ls : List Link) (k : ℕ) (last : Link) (found : slice_get ls k ≡ Some last) where
  turned_across : (i j : ℕ) → AreAcross ls k last i j → AreAcross ls k last j i
  turned_across i j (AreLinked g) = AreLinked (Turned i j g)
  turned_across i j (Forwards g d) = Backwards (Turned last.right j d) (Turned i last.left g)
  turned_across i j (Backwards g d) = Forwards (Turned last.left j d) (Turned i last.right g)

  chained_across : (i j m : ℕ) → AreAcross ls k last i j → AreAcross ls k last j m → AreAcross ls k last i m
  chained_across i j m (AreLinked g) (AreLinked d) = AreLinked (Chained i j m g d)
  chained_across i j m (AreLinked g) (Forwards d e) = Forwards (Chained i j last.left g d) e
  chained_across i j m (AreLinked g) (Backwards d e) = Backwards (Chained i j last.right g d) e
  chained_across i j m (Forwards g d) (AreLinked e) = Forwards g (Chained last.right j m d e)
  chained_across i j m (Forwards g d) (Forwards e f) = Forwards g f
  chained_across i j m (Forwards g d) (Backwards e f) = AreLinked (Chained i last.left m g f)
  chained_across i j m (Backwards g d) (AreLinked e) = Backwards g (Chained last.left j m d e)
  chained_across i j m (Backwards g d) (Forwards e f) = AreLinked (Chained i last.right m g f)
  chained_across i j m (Backwards g d) (Backwards e f) = Backwards g f

  across : (i j : ℕ) → Linked (take (suc k) ls) i j → AreAcross ls k last i j
  across = goes_along ls k last found (AreAcross ls k last) (λ i j g. AreLinked g) (Forwards (Itself last.left) (Itself last.right)) turned_across chained_across

  module _ (count : ℕ) (steps : List (Option Step)) (h : IsHistory ls count steps) (early : k < count) (i j : ℕ) (joins : JoinsAt steps i j k) where
    not_linked : Linked (take k ls) i j → ⊥
    not_linked g = joins.apart (h.whole k i j joins.one joins.other (omega (arith, early)) joins.is_one joins.is_other g)

    by_last : AreAcross ls k last i j
    by_last =
        let e : k + 1 ≡ suc k = omega arith in
        across i j (subst (λ n. Linked (take n ls) i j) e (h.sound (k + 1) i j joins.root (omega (arith, early)) joins.is_root joins.same))

    pub near_left : (r : ℕ) → IsRoot steps k last.left r → IsRoot steps k i r → IsJoin ls i j (record { link = k; near = last.left; far = last.right })
    near_left r left one = go by_last
      where
        to_left : Linked (take k ls) i last.left
        to_left = h.sound k i last.left r (omega (arith, early)) one left

        go : AreAcross ls k last i j → IsJoin ls i j (record { link = k; near = last.left; far = last.right })
        go (AreLinked g) = absurd (not_linked g)
        go (Forwards g d) = record { link = last; found = found; ends = inl (refl, refl); apart = not_linked; near = to_left; far = d }
        go (Backwards g d) = absurd (not_linked (Chained i last.left j to_left d))

    pub near_right : (r q : ℕ) → IsRoot steps k last.left r → IsRoot steps k i q → r ≢ q → IsJoin ls i j (record { link = k; near = last.right; far = last.left })
    near_right r q left one d = go by_last
      where
        go : AreAcross ls k last i j → IsJoin ls i j (record { link = k; near = last.right; far = last.left })
        go (AreLinked g) = absurd (not_linked g)
        go (Forwards g e) = absurd (d (h.whole k last.left i r q (omega (arith, early)) left one (Turned i last.left g)))
        go (Backwards g e) = record { link = last; found = found; ends = inr (refl, refl); apart = not_linked; near = g; far = e }
