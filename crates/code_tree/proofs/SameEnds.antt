-- Sets of ends that are equal, and the ends of operations one behind another.
use Rattle.std.proofs.Common.{◌≡◌, ℕ, List, [], ◌∷◌, ◌++◌, refl, sym, ◌∙◌, ap, subst}
use Rattle.std.proofs.lemmas.List.{append-nil}
use Rattle.program.specs.Trees.{LeafTree, ManyTree, NoTrees, MoreTrees}
use Rattle.code_tree.specs.declared.code.CodeMany.TheVariants.{Joins, Does}
use Rattle.code_tree.specs.Codes.{Code, Codes}
use Rattle.code_tree.specs.Passes.{Exits, behind, behind_all, behind_none}
use Rattle.code_tree.specs.Ends.{End, Goes, Jumps, Aborts, Fails, EndsOf, Ending, Just, Onward, ThenEnds}
use Rattle.code_tree.specs.ModularRuns.{Modular, CodeEnds, MayLevel, MayLevels}
use Rattle.code_tree.specs.Matching.{Side, Forth, Back, Match, Meets}
use Rattle.code_tree.specs.ModularLaws.{ChainEnds}

pub record SameEnds {I S : Type 0} (X Y : EndsOf I S) : Type 0 where
  pub to : (e : End I S) → X e → Y e
  pub back : (e : End I S) → Y e → X e

module _ {I S : Type 0} where
  pub same_then : (X Y Z : EndsOf I S) → SameEnds X Y → SameEnds Y Z → SameEnds X Z
  same_then X Y Z h k = record { to = λ e x. k.to e (h.to e x); back = λ e z. h.back e (k.back e z) }

  pub turned_round : (X Y : EndsOf I S) → SameEnds X Y → SameEnds Y X
  turned_round X Y h = record { to = h.back; back = h.to }

  -- ---- sequence

  pub same_first : (X Y : EndsOf I S) (f : List I → Ending I S) → SameEnds X Y → SameEnds (ThenEnds X f) (ThenEnds Y f)
  same_first X Y f h = record { to = λ e w. (w.0, h.to w.0 w.1, w.2); back = λ e w. (w.0, h.back w.0 w.1, w.2) }

  onward_same : (a : End I S) (f g : List I → Ending I S) → ((vs : List I) (s : S) → SameEnds (f vs s) (g vs s)) → (e : End I S) → Onward a f e → Onward a g e
  onward_same (Goes vs s) f g h e w = (h vs s).to e w
  onward_same (Jumps j vs s) f g h e w = w
  onward_same (Aborts c) f g h e w = w
  onward_same (Fails k) f g h e w = w

  pub same_next : (X : EndsOf I S) (f g : List I → Ending I S) → ((vs : List I) (s : S) → SameEnds (f vs s) (g vs s)) → SameEnds (ThenEnds X f) (ThenEnds X g)
  same_next X f g h = record {
    to = λ e w. (w.0, w.1, onward_same w.0 f g h e w.2);
    back = λ e w. (w.0, w.1, onward_same w.0 g f (λ vs s. turned_round (f vs s) (g vs s) (h vs s)) e w.2);
  }

  -- what goes on with the items that it is given
  abbrev pub hands_on : List I → Ending I S
  hands_on vs s e = e ≡ Goes vs s

  onward_hands_on : (a e : End I S) → Onward a hands_on e → e ≡ a
  onward_hands_on (Goes vs s) e w = w
  onward_hands_on (Jumps j vs s) e w = w
  onward_hands_on (Aborts c) e w = w
  onward_hands_on (Fails k) e w = w

  hands_on_onward : (a : End I S) → Onward a hands_on a
  hands_on_onward (Goes vs s) = refl
  hands_on_onward (Jumps j vs s) = refl
  hands_on_onward (Aborts c) = refl
  hands_on_onward (Fails k) = refl

  pub then_hands_on : (X : EndsOf I S) → SameEnds (ThenEnds X hands_on) X
  then_hands_on X = record { to = λ e w. subst X (sym (onward_hands_on w.0 e w.2)) w.1; back = λ e x. (e, x, hands_on_onward e) }

  goes_first : (vs : List I) (s : S) (f : List I → Ending I S) → SameEnds (ThenEnds (Just (Goes vs s)) f) (f vs s)
  goes_first vs s f = record { to = λ e w. subst (λ a. Onward a f e) w.1 w.2; back = λ e w. (Goes vs s, refl, w) }

  joined_onward : (a e : End I S) (f g : List I → Ending I S) → ((b : End I S) × Onward a f b × Onward b g e) → Onward a (λ vs s. ThenEnds (f vs s) g) e
  joined_onward (Goes vs s) e f g w = w
  joined_onward (Jumps j vs s) e f g w = subst (λ b. Onward b g e) w.1 w.2
  joined_onward (Aborts c) e f g w = subst (λ b. Onward b g e) w.1 w.2
  joined_onward (Fails k) e f g w = subst (λ b. Onward b g e) w.1 w.2

  parted_onward : (a e : End I S) (f g : List I → Ending I S) → Onward a (λ vs s. ThenEnds (f vs s) g) e → (b : End I S) × Onward a f b × Onward b g e
  parted_onward (Goes vs s) e f g w = w
  parted_onward (Jumps j vs s) e f g w = (Jumps j vs s, refl, w)
  parted_onward (Aborts c) e f g w = (Aborts c, refl, w)
  parted_onward (Fails k) e f g w = (Fails k, refl, w)

  pub then_then : (X : EndsOf I S) (f g : List I → Ending I S) → SameEnds (ThenEnds (ThenEnds X f) g) (ThenEnds X (λ vs s. ThenEnds (f vs s) g))
  then_then X f g = record {
    to = λ e w. (w.1.0, w.1.1, joined_onward w.1.0 e f g (w.0, w.1.2, w.2));
    back = λ e w. let x = parted_onward w.0 e f g w.2 in (x.0, (w.0, w.1, x.1), x.2);
  }

-- ---- operations one behind another

module _ {N Q K J T : Type 0} (L : Modular N Q K J T) (D : N → Code Q K) (g : CodeEnds Q K J T) where
  abbrev pub callable : N → Ending J T
  callable f = g (D f)

  nil_same : (vs : List J) (t : T) → SameEnds (ThenEnds (λ e. e ≡ Goes [] t) (λ ws v. Just (Goes (vs ++ ws) v))) (hands_on vs t)
  nil_same vs t = record {
    to = λ e w. subst (λ a. Onward a (λ ws v. Just (Goes (vs ++ ws) v)) e) w.1 w.2 ∙ ap (λ us. Goes us t) (append-nil vs);
    back = λ e w. (Goes [] t, refl, w ∙ ap (λ us. Goes us t) (sym (append-nil vs)));
  }

  -- an operation on one part
  single_ends : (n : ℕ) (o : Q) (c : Code Q K) (t : T)
      → SameEnds (MayLevel L D g (ManyTree (Does (record { point = n; op = o })) (MoreTrees c NoTrees)) t) (ThenEnds (MayLevel L D g c t) (L.ends callable o))
  single_ends n o c t =
      same_first (MayLevels L D g (MoreTrees c NoTrees) t) (MayLevel L D g c t) (L.ends callable o) (
      same_then (MayLevels L D g (MoreTrees c NoTrees) t) (ThenEnds (MayLevel L D g c t) hands_on) (MayLevel L D g c t)
      (same_next (MayLevel L D g c t) (λ vs u. ThenEnds (λ e. e ≡ Goes [] u) (λ ws v. Just (Goes (vs ++ ws) v))) hands_on nil_same)
      (then_hands_on (MayLevel L D g c t)))

  pub behind_ends : (n : ℕ) (os : List Q) (c : Code Q K) (t : T) → SameEnds (MayLevel L D g (behind n os c) t) (ThenEnds (MayLevel L D g c t) (ChainEnds L callable os))
  behind_ends n [] c t = turned_round (ThenEnds (MayLevel L D g c t) hands_on) (MayLevel L D g c t) (then_hands_on (MayLevel L D g c t))
  behind_ends n (o ∷ os) c t =
      let one : Code Q K = ManyTree (Does (record { point = n; op = o })) (MoreTrees c NoTrees) in
      same_then (MayLevel L D g (behind n os one) t) (ThenEnds (MayLevel L D g one t) (ChainEnds L callable os)) (ThenEnds (MayLevel L D g c t) (ChainEnds L callable (o ∷ os)))
      (behind_ends n os one t)
      (same_then (ThenEnds (MayLevel L D g one t) (ChainEnds L callable os)) (ThenEnds (ThenEnds (MayLevel L D g c t) (L.ends callable o)) (ChainEnds L callable os)) (ThenEnds (MayLevel L D g c t) (ChainEnds L callable (o ∷ os)))
      (same_first (MayLevel L D g one t) (ThenEnds (MayLevel L D g c t) (L.ends callable o)) (ChainEnds L callable os) (single_ends n o c t))
      (then_then (MayLevel L D g c t) (L.ends callable o) (ChainEnds L callable os)))

  pub behind_all_ends : (n : ℕ) (os : List Q) (cs : Codes Q K) (t : T) → SameEnds (MayLevel L D g (behind_all n os cs) t) (ThenEnds (MayLevels L D g cs t) (ChainEnds L callable os))
  behind_all_ends n [] cs t = record { to = λ e w. w; back = λ e w. w }
  behind_all_ends n (o ∷ os) cs t =
      let one : Code Q K = ManyTree (Does (record { point = n; op = o })) cs in
      same_then (MayLevel L D g (behind n os one) t) (ThenEnds (MayLevel L D g one t) (ChainEnds L callable os)) (ThenEnds (MayLevels L D g cs t) (ChainEnds L callable (o ∷ os)))
      (behind_ends n os one t) (then_then (MayLevels L D g cs t) (L.ends callable o) (ChainEnds L callable os))

  pub behind_none_ends : (n : ℕ) (os : List Q) (t : T) → SameEnds (MayLevel L D g (behind_none n os) t) (ChainEnds L callable os [] t)
  behind_none_ends n [] t = goes_first [] t hands_on
  behind_none_ends n (o ∷ os) t = behind_ends n os (LeafTree (record { point = n; op = o })) t

-- ---- matching

module _ {P A I J S T : Type 0} (V : A → I → J → Type 0) (R : P → S → T → Type 0) where
  pub meets_same : (d : Side) (exits : Exits P A) (q : P) (ks : List A) (X : EndsOf I S) (Y Z : EndsOf J T) → SameEnds Z Y → Meets V R d exits q ks X Y → Meets V R d exits q ks X Z
  meets_same Forth exits q ks X Y Z e h = λ o w. let x = h o w in (x.0, e.back x.0 x.1, x.2)
  meets_same Back exits q ks X Y Z e h = λ u w. h u (e.to u w)

  pub same_meets : (d : Side) (exits : Exits P A) (q : P) (ks : List A) (X W : EndsOf I S) (Y : EndsOf J T) → SameEnds W X → Meets V R d exits q ks X Y → Meets V R d exits q ks W Y
  same_meets Forth exits q ks X W Y e h = λ o w. h o (e.to o w)
  same_meets Back exits q ks X W Y e h = λ u w. let x = h u w in (x.0, e.back x.0 x.1, x.2)
