-- If no edge is pending, the classes are exactly the least congruence.
use Rattle.std.proofs.Common.{◌≡◌, ◌≢◌, ◌⊎◌, inl, inr, ℕ, zero, suc, ◌<◌, List, [], ◌∷◌, length, take, Option, Some, Bool, true, false, nat_eq, ◌↔◌, refl, sym, ap, ◌∙◌, subst, arith, rules}
use Rattle.std.specs.Prelude.{slice_get, IsTrue}
use Rattle.std.proofs.lemmas.Bool.{cases_eq}
use Rattle.std.proofs.lemmas.Bool.Decides.{nat_tests}
use Rattle.term_pool.specs.declared.node.Node.{Node}
use Rattle.term_pool.specs.declared.node.Node.TheVariants.{Leaf as LeafNode, One as OneNode, Two as TwoNode, Three as ThreeNode}
use Rattle.congruence_closure.specs.Congruence.{Congruent, ByEquation, ByLeaf, ByPart, ByTwo, ByThree, Itself, Turned, Chained}
use Rattle.congruence_closure.specs.Links.{Linked, AreAlike, IsReason, AreShown}
use Rattle.congruence_closure.specs.Links.{ByLink, Itself as SameLinked, Turned as TurnedLinked, Chained as ChainedLinked}
use Rattle.congruence_closure.specs.Signatures.{class_in, signed}
use Rattle.congruence_closure.specs.States.{SameClass, IsNear, IsSound, AreTabled, IsKept, AreClasses}
use Rattle.congruence_closure.specs.declared.classes.link.Equation.{Equation}
use Rattle.congruence_closure.specs.declared.classes.link.Link.{Link}
use Rattle.congruence_closure.specs.declared.classes.link.Why.{Why}
use Rattle.congruence_closure.specs.declared.classes.link.Why.TheVariants.{Given, Alike}
use Rattle.congruence_closure.proofs.SignedLemmas.{signature_of_alike}

-- ---- edges are sound

record IsEarly {X : Type 0} (xs : List X) (n k : ℕ) (x : X) : Type 0 where
  early : k < n
  found : slice_get xs k ≡ Some x

taken : {X : Type 0} (xs : List X) (n k : ℕ) (x : X) → slice_get (take n xs) k ≡ Some x → IsEarly xs n k x
taken [] zero k x e = absurd (cc)
taken [] (suc n) k x e = absurd (cc)
taken (y ∷ xs) zero k x e = absurd (cc)
taken (y ∷ xs) (suc n) zero x e = record { early = omega arith; found = e }
taken (y ∷ xs) (suc n) (suc k) x e = let rest = taken xs n k x e in let h = rest.early in record { early = omega (arith, h); found = rest.found }

module _ (ns : List Node) (es : List Equation) where
  by_nodes : (i j : ℕ) (m n : Node) → slice_get ns i ≡ Some m → slice_get ns j ≡ Some n → AreAlike (Congruent ns es) m n → Congruent ns es i j
  by_nodes i j (LeafNode h) (LeafNode k) e f a = ByLeaf i j h e (f ∙ ap (λ g. Some (LeafNode g)) (sym a))
  by_nodes i j (OneNode h a) (OneNode k x) e f p = ByPart i j h a x e (f ∙ ap (λ g. Some (OneNode g x)) (sym p.0)) p.1
  by_nodes i j (TwoNode h a b) (TwoNode k x y) e f p = ByTwo i j h a b x y e (f ∙ ap (λ g. Some (TwoNode g x y)) (sym p.0)) p.1 p.2
  by_nodes i j (ThreeNode h a b c) (ThreeNode k x y z) e f p = ByThree i j h a b c x y z e (f ∙ ap (λ g. Some (ThreeNode g x y z)) (sym p.0)) p.1 p.2 p.3
  by_nodes i j _ _ e f p = absurd p

  alike_by : (R S : ℕ → ℕ → Type 0) → ((i j : ℕ) → R i j → S i j) → (m n : Node) → AreAlike R m n → AreAlike S m n
  alike_by R S to (LeafNode h) (LeafNode k) e = e
  alike_by R S to (OneNode h a) (OneNode k x) e = (e.0, to a x e.1)
  alike_by R S to (TwoNode h a b) (TwoNode k x y) e = (e.0, to a x e.1, to b y e.2)
  alike_by R S to (ThreeNode h a b c) (ThreeNode k x y z) e = (e.0, to a x e.1, to b y e.2, to c z e.3)
  alike_by R S to _ _ e = absurd e

  module _ (ls : List Link) (shown : AreShown ns es ls) where
    abbrev AreJoined : ℕ → Type 0
    AreJoined n = (k : ℕ) (l : Link) → k < n → slice_get ls k ≡ Some l → Congruent ns es l.left l.right

    by_links : (n : ℕ) → AreJoined n → (i j : ℕ) → Linked (take n ls) i j → Congruent ns es i j
    by_links n before _ _ (ByLink k l e) = let h = taken ls n k l e in before k l h.early h.found
    by_links n before _ _ (SameLinked i) = Itself i
    by_links n before _ _ (TurnedLinked a b h) = Turned a b (by_links n before a b h)
    by_links n before _ _ (ChainedLinked a b d h k) = Chained a b d (by_links n before a b h) (by_links n before b d k)

    by_reason : (n : ℕ) → AreJoined n → (i j : ℕ) (why : Why) → IsReason ns es (Linked (take n ls)) i j why → Congruent ns es i j
    by_reason n before i j (Given k) r = subst (λ x. Congruent ns es x j) r.left (subst (Congruent ns es r.equation.left) r.right (ByEquation k r.equation r.found))
    by_reason n before i j Alike r = by_nodes i j r.one r.other r.is_one r.is_other (alike_by (Linked (take n ls)) (Congruent ns es) (by_links n before) r.one r.other r.alike)

    all_joined : (n : ℕ) → AreJoined n
    all_joined zero k l w e = absurd (omega arith)
    all_joined (suc n) k l w e = go (all_joined n) (cases_eq k n)
      where
        go : AreJoined n → (k ≡ n) ⊎ (k ≢ n) → Congruent ns es l.left l.right
        go before (inl h) = by_reason n before l.left l.right l.why (subst (λ m. IsReason ns es (Linked (take m ls)) l.left l.right l.why) h (shown.each k l e))
        go before (inr h) = before k l (omega (arith, h, w)) e

    take_whole : {X : Type 0} (xs : List X) → take (length xs) xs ≡ xs
    take_whole [] = refl
    take_whole (x ∷ xs) = ap (λ ys. x ∷ ys) (take_whole xs)

    pub links_congruent : (i j : ℕ) → Linked ls i j → Congruent ns es i j
    links_congruent i j h = by_links (length ls) (all_joined (length ls)) i j (subst (λ ms. Linked ms i j) (sym (take_whole ls)) h)

-- ---- edges are complete

module _ (ns : List Node) (es : List Equation) (c : ℕ → ℕ) (T : Node → Option ℕ) (ls : List Link) (sound : IsSound ns es c ls []) (tabled : AreTabled ns c T []) where
  near_same : (i j : ℕ) → IsNear c [] i j → SameClass c i j
  near_same i j (inl e) = e
  near_same i j (inr w) = absurd (nothing w.position w.link w.found)
    where
      nothing : (k : ℕ) (l : Link) → slice_get {X = Link} [] k ≡ Some l → ⊥
      nothing k l e = absurd (cc)

  alike_same : (i j : ℕ) (m n : Node) → i < length ns → j < length ns → slice_get ns i ≡ Some m → slice_get ns j ≡ Some n → AreAlike (SameClass c) m n → SameClass c i j
  alike_same i j m n wi wj e f alike =
      let t = tabled.each i wi in
      let u = tabled.each j wj in
      let is_m : t.node ≡ m = one (sym t.found ∙ e) in
      let is_n : u.node ≡ n = one (sym u.found ∙ f) in
      let signatures : signed c t.node ≡ signed c u.node = ap (signed c) is_m ∙ signature_of_alike c m n alike ∙ ap (signed c) (sym is_n) in
      let holders : t.holder ≡ u.holder = one (sym t.held ∙ ap T signatures ∙ u.held) in
      near_same i t.holder t.near ∙ ap c holders ∙ sym (near_same j u.holder u.near)
    where
      one : {X : Type 0} {x y : X} → Some x ≡ Some y → x ≡ y
      one e = cc

  in_list : (i : ℕ) (n : Node) → slice_get ns i ≡ Some n → i < length ns
  in_list i n e = go ns i e
    where
      go : (xs : List Node) (k : ℕ) → slice_get xs k ≡ Some n → k < length xs
      go [] k e = absurd (cc)
      go (x ∷ xs) zero e = omega arith
      go (x ∷ xs) (suc k) e = let h = go xs k e in omega (arith, h)

  pub congruent_same : (i j : ℕ) → Congruent ns es i j → SameClass c i j
  congruent_same _ _ (ByEquation k e found) = near_same e.left e.right (sound.met k e found)
  congruent_same _ _ (ByLeaf i j h e f) = alike_same i j (LeafNode h) (LeafNode h) (in_list i _ e) (in_list j _ f) e f refl
  congruent_same _ _ (ByPart i j h a x e f p) = alike_same i j (OneNode h a) (OneNode h x) (in_list i _ e) (in_list j _ f) e f (refl, congruent_same a x p)
  congruent_same _ _ (ByTwo i j h a b x y e f p q) = alike_same i j (TwoNode h a b) (TwoNode h x y) (in_list i _ e) (in_list j _ f) e f (refl, congruent_same a x p, congruent_same b y q)
  congruent_same _ _ (ByThree i j h a b d x y z e f p q r) = alike_same i j (ThreeNode h a b d) (ThreeNode h x y z) (in_list i _ e) (in_list j _ f) e f (refl, congruent_same a x p, congruent_same b y q, congruent_same d z r)
  congruent_same _ _ (Itself i) = refl
  congruent_same _ _ (Turned a b h) = sym (congruent_same a b h)
  congruent_same _ _ (Chained a b d h k) = congruent_same a b h ∙ congruent_same b d k

pub exact : (ns : List Node) (es : List Equation) (cs : List ℕ) (ms us : List (List ℕ)) (T : Node → Option ℕ) (ls : List Link) → IsKept ns es cs ms us T ls [] → AreClasses ns es cs ls
exact ns es cs ms us T ls kept = record {
  one_each = kept.one_each;
  terms = kept.sound.terms;
  sound = λ i j wi wj e. links_congruent ns es ls kept.sound.shown i j (kept.sound.linked i j wi wj e);
  whole = congruent_same ns es (class_in cs) T ls kept.sound kept.tabled;
  shown = kept.sound.shown;
  linked = kept.sound.linked;
}

pub joined_exactly : (ns : List Node) (es : List Equation) (cs : List ℕ) (ls : List Link) → AreClasses ns es cs ls → (i j a b : ℕ) → i < length ns → j < length ns → a ≡ class_in cs i → b ≡ class_in cs j → IsTrue (nat_eq a b) ↔ Congruent ns es i j
joined_exactly ns es cs ls classes i j a b wi wj ea eb = go (nat_eq a b) refl
  where
    equal : nat_eq a b ≡ true → a ≡ b
    equal e = grind (arith, nat_tests)

    differ : nat_eq a b ≡ false → a ≡ b → ⊥
    differ e h = grind (arith, nat_tests)

    truth : IsTrue true
    truth = search rules

    never : IsTrue false → ⊥
    never h = search rules

    go : (t : Bool) → nat_eq a b ≡ t → IsTrue (nat_eq a b) ↔ Congruent ns es i j
    go true e = (λ h. classes.sound i j wi wj (sym ea ∙ equal e ∙ eb), λ h. subst IsTrue (sym e) truth)
    go false e = (λ h. absurd (never (subst IsTrue e h)), λ h. absurd (differ e (ea ∙ classes.whole i j h ∙ sym eb)))
