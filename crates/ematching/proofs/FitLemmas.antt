-- Matching of a pattern with a target, part by part.
use Rattle.std.proofs.Common.{◌≡◌, ◌⊎◌, inl, inr, ℕ, zero, suc, ◌+◌, ◌*◌, ◌<◌, ◌≤◌, true, false, List, [], ◌∷◌, ◌++◌, length, Option, Some, None, refl, sym, ap, ◌∙◌, subst, arith, append-nil, append_assoc, length-append}
use Rattle.std.proofs.lemmas.Bool.{cases_eq}
use Rattle.std.proofs.lemmas.List.{length_push}
use Rattle.fol.specs.FormulaData.{TermData, VarTerm, ConstantTerm, UnaryTerm, BinaryTerm, TernaryTerm, PackTerm, FieldTerm, SetFieldTerm, IfTerm, terms_of, list_of_terms, terms_of-list_of_terms}
use Rattle.term_pool.specs.Items.{Item, TermItem, TermsItem, Sort, TermSort, TermsSort, sort_of, term_in, terms_in, type_in, formula_in, leaf_item, one_item, two_item, three_item}
use Rattle.term_pool.specs.Pools.{item_at, item_of, items, IsMade, HasParts, IsOneNumber}
use Rattle.term_pool.specs.declared.node.Leaf.TheVariants.{Var, Constant, NilTerms}
use Rattle.term_pool.specs.declared.node.One.TheVariants.{Unary}
use Rattle.term_pool.specs.declared.node.Two.{Two}
use Rattle.term_pool.specs.declared.node.Two.TheVariants.{Binary, Pack, Field, Is, ConsTerm}
use Rattle.term_pool.specs.declared.node.Three.{Three}
use Rattle.term_pool.specs.declared.node.Three.TheVariants.{Ternary, SetField, If, TypeStruct}
use Rattle.term_pool.specs.declared.node.Node.{Node}
use Rattle.term_pool.specs.declared.node.Node.TheVariants.{Leaf as LeafNode, One as OneNode, Two as TwoNode, Three as ThreeNode}
use Rattle.certificates.specs.Match.{OfOther, OfParts, NoneFilled, MoreFilled}
use Rattle.tableau.specs.Logs.{value_in, change_of}
use Rattle.tableau.specs.PoolBranches.{IsTermNumber}
use Rattle.tableau.specs.declared.log.Change.{Change}
use Rattle.tableau.proofs.LogLemmas.{value_written, value_other}
use Rattle.ematching.specs.Numbers.{IsAmong, AreAll}
use Rattle.ematching.specs.Fits.{IsFilledItem, refilled, asked, IsClearNode, IsBoundNode, IsTaken, AreTaken, Whole, ByParts, IsPatternSort, IsPair, IsKeptPair, IsFilling, AreTargets, Meets, IsGrown, IsFitAnswer, IsApart, IsNeverFilled, IsRefused, IsTurn}
use Rattle.ematching.proofs.ListLemmas.{among_first, among_last, among_cases, among_push, among_push_cases}
use Rattle.ematching.proofs.FillLemmas.{one_filling, one_filling_of_list}
use Rattle.ematching.proofs.ApartLemmas.{FilledPair, apart, as_term, as_terms}

pub all_among : {X : Type 0} (P : X → Type 0) (xs : List X) (x : X) → AreAll P xs → IsAmong x xs → P x
all_among P [] x h a = absurd a
all_among P (y ∷ xs) x h (inl e) = subst P (sym e) h.0
all_among P (y ∷ xs) x h (inr a) = all_among P xs x h.1 a

-- ---- a decomposed node matches if its parts do

module _ (ns : List Node) (bound : List ℕ) where
  pair : (s : Sort) (n m a b : ℕ) → IsPatternSort s → n < length ns → m < length ns → a < n → b < m → sort_of (item_at ns a) ≡ s → sort_of (item_at ns b) ≡ s → IsPair ns a b
  pair s n m a b p w v u t e f = record {
    pattern_within = omega arith;
    target_within = omega arith;
    sort = subst IsPatternSort (sym e) p;
    same_sort = f ∙ sym e;
  }

  abbrev PairOf : ℕ × ℕ → Type 0
  PairOf p = IsPair ns p.0 p.1

  pub asked_pairs : (n m : ℕ) (l r : Node) → n < length ns → m < length ns → HasParts ns n l → HasParts ns m r → IsPatternSort (sort_of (item_of (items ns) l)) → refilled l r ≡ r → AreAll PairOf (asked l r)
  asked_pairs n m (LeafNode h) (LeafNode k) w v pl pr s e = tt
  asked_pairs n m (OneNode (Unary o) a) (OneNode k b) w v pl pr s e =
      let same : k ≡ Unary o = cc in
      let parts : HasParts ns m (OneNode (Unary o) b) = subst (λ h. HasParts ns m (OneNode h b)) same pr in
      (pair TermSort n m a b tt w v pl.earlier parts.earlier pl.sort parts.sort, tt)
  asked_pairs n m (OneNode h a) (OneNode k b) w v pl pr s e = absurd s
  asked_pairs n m (TwoNode (Binary o) a b) (TwoNode k c d) w v pl pr s e =
      let same : k ≡ Binary o = cc in
      let parts : HasParts ns m (TwoNode (Binary o) c d) = subst (λ h. HasParts ns m (TwoNode h c d)) same pr in
      (pair TermSort n m a c tt w v pl.0.earlier parts.0.earlier pl.0.sort parts.0.sort, (pair TermSort n m b d tt w v pl.1.earlier parts.1.earlier pl.1.sort parts.1.sort, tt))
  asked_pairs n m (TwoNode Pack a b) (TwoNode k c d) w v pl pr s e =
      let same : k ≡ Pack = cc in
      let parts : HasParts ns m (TwoNode Pack c d) = subst (λ h. HasParts ns m (TwoNode h c d)) same pr in
      (pair TermsSort n m b d tt w v pl.1.earlier parts.1.earlier pl.1.sort parts.1.sort, tt)
  asked_pairs n m (TwoNode (Field i) a b) (TwoNode k c d) w v pl pr s e =
      let same : k ≡ Field i = cc in
      let parts : HasParts ns m (TwoNode (Field i) c d) = subst (λ h. HasParts ns m (TwoNode h c d)) same pr in
      (pair TermSort n m b d tt w v pl.1.earlier parts.1.earlier pl.1.sort parts.1.sort, tt)
  asked_pairs n m (TwoNode ConsTerm a b) (TwoNode k c d) w v pl pr s e =
      let same : k ≡ ConsTerm = cc in
      let parts : HasParts ns m (TwoNode ConsTerm c d) = subst (λ h. HasParts ns m (TwoNode h c d)) same pr in
      (pair TermSort n m a c tt w v pl.0.earlier parts.0.earlier pl.0.sort parts.0.sort, (pair TermsSort n m b d tt w v pl.1.earlier parts.1.earlier pl.1.sort parts.1.sort, tt))
  asked_pairs n m (TwoNode h a b) (TwoNode k c d) w v pl pr s e = absurd s
  asked_pairs n m (ThreeNode (Ternary o) a b c) (ThreeNode k x y z) w v pl pr s e =
      let same : k ≡ Ternary o = cc in
      let parts : HasParts ns m (ThreeNode (Ternary o) x y z) = subst (λ h. HasParts ns m (ThreeNode h x y z)) same pr in
      (pair TermSort n m a x tt w v pl.0.earlier parts.0.earlier pl.0.sort parts.0.sort, (pair TermSort n m b y tt w v pl.1.earlier parts.1.earlier pl.1.sort parts.1.sort, (pair TermSort n m c z tt w v pl.2.earlier parts.2.earlier pl.2.sort parts.2.sort, tt)))
  asked_pairs n m (ThreeNode (SetField i) a b c) (ThreeNode k x y z) w v pl pr s e =
      let same : k ≡ SetField i = cc in
      let parts : HasParts ns m (ThreeNode (SetField i) x y z) = subst (λ h. HasParts ns m (ThreeNode h x y z)) same pr in
      (pair TermSort n m b y tt w v pl.1.earlier parts.1.earlier pl.1.sort parts.1.sort, (pair TermSort n m c z tt w v pl.2.earlier parts.2.earlier pl.2.sort parts.2.sort, tt))
  asked_pairs n m (ThreeNode If a b c) (ThreeNode k x y z) w v pl pr s e =
      let same : k ≡ If = cc in
      let parts : HasParts ns m (ThreeNode If x y z) = subst (λ h. HasParts ns m (ThreeNode h x y z)) same pr in
      (pair TermSort n m b y tt w v pl.1.earlier parts.1.earlier pl.1.sort parts.1.sort, (pair TermSort n m c z tt w v pl.2.earlier parts.2.earlier pl.2.sort parts.2.sort, tt))
  asked_pairs n m (ThreeNode (TypeStruct i) a b c) (ThreeNode k x y z) w v pl pr s e = absurd s
  asked_pairs n m _ _ w v pl pr s e = absurd (cc)

  module _ (at : ℕ → TermData) where
    pub assembled : (n m : ℕ) (l r : Node) → HasParts ns n l → HasParts ns m r → IsPatternSort (sort_of (item_of (items ns) l)) → IsTaken ns bound l r → AreAll (λ p. IsFilledItem bound at (item_at ns p.0) (item_at ns p.1)) (asked l r) → IsFilledItem bound at (item_of (items ns) l) (item_of (items ns) r)
    assembled n m (LeafNode (Var x)) (LeafNode k) pl pr s t h =
        let e : LeafNode (Var x) ≡ LeafNode k = t.same in
        let same : Var x ≡ k = cc in
        subst (λ j. IsFilledItem bound at (TermItem (VarTerm x)) (leaf_item j)) same (OfOther x t.other)
    assembled n m (LeafNode (Constant c)) (LeafNode k) pl pr s t h =
        let e : LeafNode (Constant c) ≡ LeafNode k = t.same in
        let same : Constant c ≡ k = cc in
        subst (λ j. IsFilledItem bound at (TermItem (ConstantTerm c)) (leaf_item j)) same (OfParts (ConstantTerm c) (ConstantTerm c) (λ j f. absurd (cc)) tt refl NoneFilled)
    assembled n m (LeafNode NilTerms) (LeafNode k) pl pr s t h =
        let e : LeafNode NilTerms ≡ LeafNode k = t.same in
        let same : NilTerms ≡ k = cc in
        subst (λ j. IsFilledItem bound at (leaf_item NilTerms) (leaf_item j)) same NoneFilled
    assembled n m (LeafNode g) (LeafNode k) pl pr s t h = absurd s
    assembled n m (OneNode (Unary o) a) (OneNode k b) pl pr s t h =
        let e : OneNode (Unary o) b ≡ OneNode k b = t.same in
        let same : Unary o ≡ k = cc in
        let u = term_in (item_at ns a) in
        let v = term_in (item_at ns b) in
        subst (λ j. IsFilledItem bound at (TermItem (UnaryTerm o u)) (one_item j (item_at ns b))) same (OfParts (UnaryTerm o u) (UnaryTerm o v) (λ j f. absurd (cc)) tt refl (MoreFilled u v [] [] (as_term bound at (item_at ns a) (item_at ns b) pl.sort h.0) NoneFilled))
    assembled n m (OneNode g a) (OneNode k b) pl pr s t h = absurd s
    assembled n m (TwoNode (Binary o) a b) (TwoNode k c d) pl pr s t h =
        let e : TwoNode (Binary o) c d ≡ TwoNode k c d = t.same in
        let same : Binary o ≡ k = cc in
        let u = term_in (item_at ns a) in
        let v = term_in (item_at ns b) in
        let x = term_in (item_at ns c) in
        let y = term_in (item_at ns d) in
        subst (λ j. IsFilledItem bound at (TermItem (BinaryTerm o u v)) (two_item j (item_at ns c) (item_at ns d))) same (OfParts (BinaryTerm o u v) (BinaryTerm o x y) (λ j f. absurd (cc)) tt refl (MoreFilled u x (v ∷ []) (y ∷ []) (as_term bound at (item_at ns a) (item_at ns c) pl.0.sort h.0) (MoreFilled v y [] [] (as_term bound at (item_at ns b) (item_at ns d) pl.1.sort h.1.0) NoneFilled)))
    assembled n m (TwoNode Pack a b) (TwoNode k c d) pl pr s t h =
        let e : TwoNode Pack a d ≡ TwoNode k c d = t.same in
        let same : Pack ≡ k = cc in
        let same_type : a ≡ c = cc in
        let q = type_in (item_at ns a) in
        let u = terms_in (item_at ns b) in
        let v = terms_in (item_at ns d) in
        subst (λ j. IsFilledItem bound at (TermItem (PackTerm q u)) (two_item j (item_at ns c) (item_at ns d))) same (subst (λ j. IsFilledItem bound at (TermItem (PackTerm q u)) (two_item Pack (item_at ns j) (item_at ns d))) same_type (OfParts (PackTerm q u) (PackTerm q v) (λ j f. absurd (cc)) tt (ap (PackTerm q) (terms_of-list_of_terms v)) (as_terms bound at (item_at ns b) (item_at ns d) pl.1.sort h.0)))
    assembled n m (TwoNode (Field i) a b) (TwoNode k c d) pl pr s t h =
        let e : TwoNode (Field i) a d ≡ TwoNode k c d = t.same in
        let same : Field i ≡ k = cc in
        let same_type : a ≡ c = cc in
        let q = type_in (item_at ns a) in
        let u = term_in (item_at ns b) in
        let v = term_in (item_at ns d) in
        subst (λ j. IsFilledItem bound at (TermItem (FieldTerm q i u)) (two_item j (item_at ns c) (item_at ns d))) same (subst (λ j. IsFilledItem bound at (TermItem (FieldTerm q i u)) (two_item (Field i) (item_at ns j) (item_at ns d))) same_type (OfParts (FieldTerm q i u) (FieldTerm q i v) (λ j f. absurd (cc)) tt refl (MoreFilled u v [] [] (as_term bound at (item_at ns b) (item_at ns d) pl.1.sort h.0) NoneFilled)))
    assembled n m (TwoNode ConsTerm a b) (TwoNode k c d) pl pr s t h =
        let e : TwoNode ConsTerm c d ≡ TwoNode k c d = t.same in
        let same : ConsTerm ≡ k = cc in
        subst (λ j. IsFilledItem bound at (two_item ConsTerm (item_at ns a) (item_at ns b)) (two_item j (item_at ns c) (item_at ns d))) same (MoreFilled (term_in (item_at ns a)) (term_in (item_at ns c)) (list_of_terms (terms_in (item_at ns b))) (list_of_terms (terms_in (item_at ns d))) (as_term bound at (item_at ns a) (item_at ns c) pl.0.sort h.0) (as_terms bound at (item_at ns b) (item_at ns d) pl.1.sort h.1.0))
    assembled n m (TwoNode g a b) (TwoNode k c d) pl pr s t h = absurd s
    assembled n m (ThreeNode (Ternary o) a b c) (ThreeNode k x y z) pl pr s t h =
        let e : ThreeNode (Ternary o) x y z ≡ ThreeNode k x y z = t.same in
        let same : Ternary o ≡ k = cc in
        let u = term_in (item_at ns a) in
        let v = term_in (item_at ns b) in
        let w = term_in (item_at ns c) in
        subst (λ j. IsFilledItem bound at (TermItem (TernaryTerm o u v w)) (three_item j (item_at ns x) (item_at ns y) (item_at ns z))) same (OfParts (TernaryTerm o u v w) (TernaryTerm o (term_in (item_at ns x)) (term_in (item_at ns y)) (term_in (item_at ns z))) (λ j f. absurd (cc)) tt refl (MoreFilled u (term_in (item_at ns x)) (v ∷ w ∷ []) (term_in (item_at ns y) ∷ term_in (item_at ns z) ∷ []) (as_term bound at (item_at ns a) (item_at ns x) pl.0.sort h.0) (MoreFilled v (term_in (item_at ns y)) (w ∷ []) (term_in (item_at ns z) ∷ []) (as_term bound at (item_at ns b) (item_at ns y) pl.1.sort h.1.0) (MoreFilled w (term_in (item_at ns z)) [] [] (as_term bound at (item_at ns c) (item_at ns z) pl.2.sort h.1.1.0) NoneFilled))))
    assembled n m (ThreeNode (SetField i) a b c) (ThreeNode k x y z) pl pr s t h =
        let e : ThreeNode (SetField i) a y z ≡ ThreeNode k x y z = t.same in
        let same : SetField i ≡ k = cc in
        let same_type : a ≡ x = cc in
        let q = type_in (item_at ns a) in
        let v = term_in (item_at ns b) in
        let w = term_in (item_at ns c) in
        subst (λ j. IsFilledItem bound at (TermItem (SetFieldTerm q i v w)) (three_item j (item_at ns x) (item_at ns y) (item_at ns z))) same (subst (λ j. IsFilledItem bound at (TermItem (SetFieldTerm q i v w)) (three_item (SetField i) (item_at ns j) (item_at ns y) (item_at ns z))) same_type (OfParts (SetFieldTerm q i v w) (SetFieldTerm q i (term_in (item_at ns y)) (term_in (item_at ns z))) (λ j f. absurd (cc)) tt refl (MoreFilled v (term_in (item_at ns y)) (w ∷ []) (term_in (item_at ns z) ∷ []) (as_term bound at (item_at ns b) (item_at ns y) pl.1.sort h.0) (MoreFilled w (term_in (item_at ns z)) [] [] (as_term bound at (item_at ns c) (item_at ns z) pl.2.sort h.1.0) NoneFilled))))
    assembled n m (ThreeNode If a b c) (ThreeNode k x y z) pl pr s t h =
        let e : ThreeNode If a y z ≡ ThreeNode k x y z = t.same in
        let same : If ≡ k = cc in
        let same_condition : a ≡ x = cc in
        let q = formula_in (item_at ns a) in
        let v = term_in (item_at ns b) in
        let w = term_in (item_at ns c) in
        subst (λ j. IsFilledItem bound at (TermItem (IfTerm q v w)) (three_item j (item_at ns x) (item_at ns y) (item_at ns z))) same (subst (λ j. IsFilledItem bound at (TermItem (IfTerm q v w)) (three_item If (item_at ns j) (item_at ns y) (item_at ns z))) same_condition (OfParts (IfTerm q v w) (IfTerm q (term_in (item_at ns y)) (term_in (item_at ns z))) (λ j f. absurd (cc)) t.clear refl (MoreFilled v (term_in (item_at ns y)) (w ∷ []) (term_in (item_at ns z) ∷ []) (as_term bound at (item_at ns b) (item_at ns y) pl.1.sort h.0) (MoreFilled w (term_in (item_at ns z)) [] [] (as_term bound at (item_at ns c) (item_at ns z) pl.2.sort h.1.0) NoneFilled))))
    assembled n m (ThreeNode (TypeStruct i) a b c) (ThreeNode k x y z) pl pr s t h = absurd s
    assembled n m _ _ pl pr s t h = (let e = t.same in absurd (cc))

-- ---- the count of numbers without a value

abbrev pub one_if_none : Option ℕ → ℕ
one_if_none None = 1
one_if_none (Some v) = 0

-- the count among the first numbers
abbrev pub without : List Change → ℕ → ℕ
without cs zero = 0
without cs (suc n) = one_if_none (value_in cs n) + without cs n

module _ (cs : List Change) (p t : ℕ) (none : value_in cs p ≡ None) where
  abbrev written : List Change
  written = cs ++ change_of cs p t ∷ []

  pub has_now : value_in (cs ++ change_of cs p t ∷ []) p ≡ Some t
  has_now = value_written cs (change_of cs p t)

  pub has_still : (q v : ℕ) → value_in cs q ≡ Some v → value_in (cs ++ change_of cs p t ∷ []) q ≡ Some v
  has_still q v e = value_other cs (change_of cs p t) q (λ f. (let both : None ≡ Some v = sym none ∙ ap (value_in cs) f ∙ e in absurd (cc))) ∙ e

  pub has_cases : (q v : ℕ) → value_in (cs ++ change_of cs p t ∷ []) q ≡ Some v → (value_in cs q ≡ Some v) ⊎ ((q ≡ p) × (v ≡ t))
  has_cases q v e = go (cases_eq p q)
    where
      go : (p ≡ q) ⊎ (p ≡ q → ⊥) → (value_in cs q ≡ Some v) ⊎ ((q ≡ p) × (v ≡ t))
      go (inl h) = inr (sym h, (let f : Some t ≡ Some v = sym has_now ∙ ap (value_in written) h ∙ e in let g : t ≡ v = cc in sym g))
      go (inr h) = inl (sym (value_other cs (change_of cs p t) q h) ∙ e)

  same_count : (count : ℕ) → count ≤ p → without written count ≡ without cs count
  same_count zero w = refl
  same_count (suc k) w =
      let h : one_if_none (value_in written k) ≡ one_if_none (value_in cs k) = ap one_if_none (value_other cs (change_of cs p t) k (λ e. omega (arith, e, w))) in
      let rest = same_count k (omega (arith, w)) in
      omega (arith, h, rest)

  pub fewer : (count : ℕ) → p < count → without (cs ++ change_of cs p t ∷ []) count + 1 ≡ without cs count
  fewer zero w = absurd (omega arith)
  fewer (suc k) w = go (cases_eq p k) (λ h. fewer k h)
    where
      go : (p ≡ k) ⊎ (p ≡ k → ⊥) → (p < k → without written k + 1 ≡ without cs k) → without written (suc k) + 1 ≡ without cs (suc k)
      go (inl e) less =
          let has : one_if_none (value_in written k) ≡ 0 = ap (λ m. one_if_none (value_in written m)) (sym e) ∙ ap one_if_none has_now in
          let had : one_if_none (value_in cs k) ≡ 1 = ap (λ m. one_if_none (value_in cs m)) (sym e) ∙ ap one_if_none none in
          let rest = same_count k (omega (arith, e)) in
          omega (arith, has, had, rest)
      go (inr e) less =
          let h : one_if_none (value_in written k) ≡ one_if_none (value_in cs k) = ap one_if_none (value_other cs (change_of cs p t) k e) in
          let rest = less (omega (arith, w, e)) in
          omega (arith, h, rest)

-- ---- recorded matches are extended

pub grown_itself : (cs : List Change) → IsGrown cs cs
grown_itself cs = record { longer = record { more = []; is = sym (append-nil cs) }; same = λ p t e. e }

pub grown_more : (cs ds : List Change) (p t : ℕ) → value_in ds p ≡ None → IsGrown cs ds → IsGrown cs (ds ++ change_of ds p t ∷ [])
grown_more cs ds p t none h = record {
  longer = record { more = h.longer.more ++ change_of ds p t ∷ []; is = ap (λ es. es ++ change_of ds p t ∷ []) h.longer.is ∙ append_assoc cs h.longer.more (change_of ds p t ∷ []) };
  same = λ q v e. has_still ds p t none q v (h.same q v e);
}

-- ---- an item matches at most one other

module _ (bound : List ℕ) (at : ℕ → TermData) where
  pub one_filling_item : (x y z : Item) → IsFilledItem bound at x y → IsFilledItem bound at x z → y ≡ z
  one_filling_item (TermItem t) (TermItem u) (TermItem v) h g = ap TermItem (one_filling bound at t u v h g)
  one_filling_item (TermItem t) (TermItem u) _ h g = absurd g
  one_filling_item (TermItem t) _ z h g = absurd h
  one_filling_item (TermsItem ts) (TermsItem us) (TermsItem vs) h g =
      ap TermsItem (sym (terms_of-list_of_terms us) ∙ ap terms_of (one_filling_of_list bound at (list_of_terms ts) (list_of_terms us) (list_of_terms vs) h g) ∙ terms_of-list_of_terms vs)
  one_filling_item (TermsItem ts) (TermsItem us) _ h g = absurd g
  one_filling_item (TermsItem ts) _ z h g = absurd h
  one_filling_item _ y z h g = absurd h

-- the invariant of the walk: as in `IsFitted`, except for the waiting pairs
pub record IsFitWalk (ns : List Node) (bound : List ℕ) (p0 t0 : ℕ) (cs ds : List Change) (ws : List (ℕ × ℕ)) : Type 0 where
  pub grown : IsGrown cs ds
  pub filling : IsFilling ns bound ds ws
  pub pairs : (a b : ℕ) → IsAmong {X = ℕ × ℕ} (a, b) ws → IsPair ns a b
  pub has : (value_in ds p0 ≡ Some t0) ⊎ IsAmong {X = ℕ × ℕ} (p0, t0) ws
  pub meets : (at : ℕ → TermData) → Meets ns bound at cs → IsFilledItem bound at (item_at ns p0) (item_at ns t0) → Meets ns bound at ds
  pub fills : (at : ℕ → TermData) → Meets ns bound at cs → IsFilledItem bound at (item_at ns p0) (item_at ns t0) → (a b : ℕ) → IsAmong {X = ℕ × ℕ} (a, b) ws → IsFilledItem bound at (item_at ns a) (item_at ns b)

-- ---- the walk

module _ (ns : List Node) (one : IsOneNumber ns) (bound : List ℕ) (p0 t0 : ℕ) (cs : List Change) where
  abbrev SamePair : ℕ → ℕ → ℕ → ℕ → Type 0
  SamePair a b p t = ◌≡◌ {A = ℕ × ℕ} (a, b) (p, t)

  abbrev Fills : (ℕ → TermData) → ℕ → ℕ → Type 0
  Fills at a b = IsFilledItem bound at (item_at ns a) (item_at ns b)

  pub fit_begun : (ws : List (ℕ × ℕ)) → ws ≡ (p0, t0) ∷ [] → IsTermNumber ns p0 → IsTermNumber ns t0 → IsFilling ns bound cs [] → IsFitWalk ns bound p0 t0 cs cs ws
  fit_begun ws e hp ht filling = subst (IsFitWalk ns bound p0 t0 cs cs) (sym e) (record {
    grown = grown_itself cs;
    filling = record { each = λ p t h. (let k = filling.each p t h in record { pair = k.pair; left = k.left; right = k.right; is_left = k.is_left; is_right = k.is_right; parts = k.parts; taken = k.taken; kept = record { each = λ a b g. now a b (k.kept.each a b g) } }) };
    pairs = λ a b h. pairs a b h;
    has = inr (inl refl);
    meets = λ at m f. m;
    fills = λ at m f a b h. fills at f a b h;
  })
    where
      now : (a b : ℕ) → (value_in cs a ≡ Some b) ⊎ IsAmong {X = ℕ × ℕ} (a, b) [] → (value_in cs a ≡ Some b) ⊎ IsAmong {X = ℕ × ℕ} (a, b) ((p0, t0) ∷ [])
      now a b (inl h) = inl h
      now a b (inr z) = absurd z

      first : IsPair ns p0 t0
      first = record { pattern_within = hp.within; target_within = ht.within; sort = subst IsPatternSort (sym hp.sort) tt; same_sort = ht.sort ∙ sym hp.sort }

      pairs : (a b : ℕ) → IsAmong {X = ℕ × ℕ} (a, b) ((p0, t0) ∷ []) → IsPair ns a b
      pairs a b (inl h) = subst (λ (q : ℕ × ℕ). IsPair ns q.0 q.1) (sym h) first
      pairs a b (inr z) = absurd z

      fills : (at : ℕ → TermData) → Fills at p0 t0 → (a b : ℕ) → IsAmong {X = ℕ × ℕ} (a, b) ((p0, t0) ∷ []) → Fills at a b
      fills at f a b (inl h) = subst (λ (q : ℕ × ℕ). Fills at q.0 q.1) (sym h) f
      fills at f a b (inr z) = absurd z

  pub fit_pair : (ds : List Change) (all ws : List (ℕ × ℕ)) (p t : ℕ) → all ≡ ws ++ (p, t) ∷ [] → IsFitWalk ns bound p0 t0 cs ds all → IsPair ns p t
  fit_pair ds all ws p t e walk = walk.pairs p t (subst (IsAmong {X = ℕ × ℕ} (p, t)) (sym e) (among_push ws (p, t)))

  pub fit_targets : (ds : List Change) (all : List (ℕ × ℕ)) → IsFitWalk ns bound p0 t0 cs ds all → AreTargets ns ds
  fit_targets ds all walk = record { each = λ p t e. (walk.filling.each p t e).pair.target_within }

  module _ (ds : List Change) (ws : List (ℕ × ℕ)) (p t : ℕ) (walk : IsFitWalk ns bound p0 t0 cs ds (ws ++ (p, t) ∷ [])) where
    -- a recorded or waiting pair remains so
    still : (es : List Change) (us : List (ℕ × ℕ)) → value_in es p ≡ Some t → ((q v : ℕ) → value_in ds q ≡ Some v → value_in es q ≡ Some v) → ((q : ℕ × ℕ) → IsAmong q ws → IsAmong q us) → (a b : ℕ) → (value_in ds a ≡ Some b) ⊎ IsAmong {X = ℕ × ℕ} (a, b) (ws ++ (p, t) ∷ []) → (value_in es a ≡ Some b) ⊎ IsAmong {X = ℕ × ℕ} (a, b) us
    still es us now more wait a b (inl h) = inl (more a b h)
    still es us now more wait a b (inr h) = go (among_push_cases (a, b) (p, t) ws h)
      where
        go : IsAmong {X = ℕ × ℕ} (a, b) ws ⊎ SamePair a b p t → (value_in es a ≡ Some b) ⊎ IsAmong {X = ℕ × ℕ} (a, b) us
        go (inl k) = inr (wait (a, b) k)
        go (inr e) = inl (subst (λ (q : ℕ × ℕ). value_in es q.0 ≡ Some q.1) (sym e) now)

    pair_still : (es : List Change) (us : List (ℕ × ℕ)) → value_in es p ≡ Some t → ((q v : ℕ) → value_in ds q ≡ Some v → value_in es q ≡ Some v) → ((q : ℕ × ℕ) → IsAmong q ws → IsAmong q us) → (q v : ℕ) → IsKeptPair ns bound ds (ws ++ (p, t) ∷ []) q v → IsKeptPair ns bound es us q v
    pair_still es us now more wait q v k = record { pair = k.pair; left = k.left; right = k.right; is_left = k.is_left; is_right = k.is_right; parts = k.parts; taken = k.taken; kept = record { each = λ a b g. still es us now more wait a b (k.kept.each a b g) } }

    passed : value_in ds p ≡ Some t → IsFitWalk ns bound p0 t0 cs ds ws
    passed now = record {
      grown = walk.grown;
      filling = record { each = λ q v e. pair_still ds ws now (λ r u h. h) (λ r h. h) q v (walk.filling.each q v e) };
      pairs = λ a b h. walk.pairs a b (among_first (a, b) ws ((p, t) ∷ []) h);
      has = still ds ws now (λ r u h. h) (λ r h. h) p0 t0 walk.has;
      meets = walk.meets;
      fills = λ at m f a b h. walk.fills at m f a b (among_first (a, b) ws ((p, t) ∷ []) h);
    }

    last : IsAmong {X = ℕ × ℕ} (p, t) (ws ++ (p, t) ∷ [])
    last = among_push ws (p, t)

    module _ (none : value_in ds p ≡ None) (us : List (ℕ × ℕ)) (a : IsApart ns bound p t ws us) where
      abbrev es : List Change
      es = ds ++ change_of ds p t ∷ []

      new_pairs : AreAll (λ (q : ℕ × ℕ). IsPair ns q.0 q.1) a.parts
      new_pairs = go a.parts a.taken
        where
          go : (parts : List (ℕ × ℕ)) → AreTaken ns bound a.left a.right parts → AreAll (λ (q : ℕ × ℕ). IsPair ns q.0 q.1) parts
          go _ (Whole h) = tt
          go _ (ByParts h) =
              let it = walk.pairs p t last in
              asked_pairs ns bound p t a.left a.right it.pattern_within it.target_within a.is_left.parts a.is_right.parts (subst (λ x. IsPatternSort (sort_of x)) a.is_left.item it.sort) h.same

      new_fills : (at : ℕ → TermData) → Fills at p t → AreAll (FilledPair ns one bound at) a.parts
      new_fills at f = go a.parts a.taken
        where
          go : (parts : List (ℕ × ℕ)) → AreTaken ns bound a.left a.right parts → AreAll (FilledPair ns one bound at) parts
          go _ (Whole h) = tt
          go _ (ByParts h) = (apart ns one bound at p t a.left a.right a.is_left a.is_right h.other f).pairs

      kept : IsFitWalk ns bound p0 t0 cs es (ws ++ a.parts)
      kept = record {
        grown = grown_more cs ds p t none walk.grown;
        filling = record { each = λ q v e. filling q v (has_cases ds p t none q v e) };
        pairs = λ x y h. pairs x y (among_cases (x, y) ws a.parts h);
        has = still es (ws ++ a.parts) (has_now ds p t none) (has_still ds p t none) (λ r h. among_first r ws a.parts h) p0 t0 walk.has;
        meets = λ at m f. record { each = λ q v e. meets at m f q v (has_cases ds p t none q v e) };
        fills = λ at m f x y h. fills at m f x y (among_cases (x, y) ws a.parts h);
      }
        where
          filling : (q v : ℕ) → (value_in ds q ≡ Some v) ⊎ ((q ≡ p) × (v ≡ t)) → IsKeptPair ns bound es (ws ++ a.parts) q v
          filling q v (inl h) = pair_still es (ws ++ a.parts) (has_now ds p t none) (has_still ds p t none) (λ r g. among_first r ws a.parts g) q v (walk.filling.each q v h)
          filling q v (inr h) = subst (λ k. IsKeptPair ns bound es (ws ++ a.parts) k v) (sym h.0) (subst (IsKeptPair ns bound es (ws ++ a.parts) p) (sym h.1) (record { pair = walk.pairs p t last; left = a.left; right = a.right; is_left = a.is_left; is_right = a.is_right; parts = a.parts; taken = a.taken; kept = record { each = λ x y g. inr (among_last (x, y) ws a.parts g) } }))

          pairs : (x y : ℕ) → IsAmong {X = ℕ × ℕ} (x, y) ws ⊎ IsAmong {X = ℕ × ℕ} (x, y) a.parts → IsPair ns x y
          pairs x y (inl h) = walk.pairs x y (among_first (x, y) ws ((p, t) ∷ []) h)
          pairs x y (inr h) = all_among (λ (q : ℕ × ℕ). IsPair ns q.0 q.1) a.parts (x, y) new_pairs h

          meets : (at : ℕ → TermData) → Meets ns bound at cs → Fills at p0 t0 → (q v : ℕ) → (value_in ds q ≡ Some v) ⊎ ((q ≡ p) × (v ≡ t)) → Fills at q v
          meets at m f q v (inl h) = (walk.meets at m f).each q v h
          meets at m f q v (inr h) = subst (λ k. Fills at k v) (sym h.0) (subst (Fills at p) (sym h.1) (walk.fills at m f p t last))

          fills : (at : ℕ → TermData) → Meets ns bound at cs → Fills at p0 t0 → (x y : ℕ) → IsAmong {X = ℕ × ℕ} (x, y) ws ⊎ IsAmong {X = ℕ × ℕ} (x, y) a.parts → Fills at x y
          fills at m f x y (inl h) = walk.fills at m f x y (among_first (x, y) ws ((p, t) ∷ []) h)
          fills at m f x y (inr h) = all_among (FilledPair ns one bound at) a.parts (x, y) (new_fills at (walk.fills at m f p t last)) h

  pub fit_next : (ds es : List Change) (all ws us : List (ℕ × ℕ)) (p t : ℕ) → all ≡ ws ++ (p, t) ∷ [] → IsFitWalk ns bound p0 t0 cs ds all → IsTurn true ns bound p t ds ws es us → IsFitWalk ns bound p0 t0 cs es us
  fit_next ds fs all ws us p t e walk (inl turn) =
      subst (λ xs. IsFitWalk ns bound p0 t0 cs xs us) (sym turn.same) (subst (IsFitWalk ns bound p0 t0 cs ds) (sym turn.waiting) (passed ds ws p t (subst (IsFitWalk ns bound p0 t0 cs ds) e walk) turn.has))
  fit_next ds fs all ws us p t e walk (inr turn) =
      subst (λ xs. IsFitWalk ns bound p0 t0 cs xs us) (sym turn.is) (subst (IsFitWalk ns bound p0 t0 cs (ds ++ change_of ds p t ∷ [])) (sym turn.apart.waiting) (kept ds ws p t (subst (IsFitWalk ns bound p0 t0 cs ds) e walk) turn.new us turn.apart))

  pub fit_done : (ds : List Change) (ws : List (ℕ × ℕ)) → ws ≡ [] → IsFitWalk ns bound p0 t0 cs ds ws → IsFitAnswer ns bound p0 t0 cs ds true
  fit_done ds ws e walk = record {
    grown = walk.grown;
    answer = record { filling = subst (IsFilling ns bound ds) e walk.filling; has = has walk.has; meets = walk.meets };
  }
    where
      has : (value_in ds p0 ≡ Some t0) ⊎ IsAmong {X = ℕ × ℕ} (p0, t0) ws → value_in ds p0 ≡ Some t0
      has (inl h) = h
      has (inr h) = absurd (subst (IsAmong {X = ℕ × ℕ} (p0, t0)) e h)

  pub fit_refused : (ds es : List Change) (all ws : List (ℕ × ℕ)) (p t : ℕ) → all ≡ ws ++ (p, t) ∷ [] → IsFitWalk ns bound p0 t0 cs ds all → IsRefused ns bound p t ds es → IsFitAnswer ns bound p0 t0 cs es false
  fit_refused ds fs all ws p t e walk turn = record {
    grown = subst (IsGrown cs) (sym turn.same) walk.grown;
    answer = record { none = λ at m f. turn.none at (walk.meets at m f) (walk.fills at m f p t (subst (IsAmong {X = ℕ × ℕ} (p, t)) (sym e) (among_push ws (p, t)))) };
  }

few_of_two : (h : Two) (a b : ℕ) (r : Node) → length (asked (TwoNode h a b) r) ≤ 3
few_of_two Pack a b (TwoNode k c d) = omega arith
few_of_two (Field i) a b (TwoNode k c d) = omega arith
few_of_two Is a b (TwoNode k c d) = omega arith
few_of_two h a b (TwoNode k c d) = omega arith
few_of_two h a b r = omega arith

few_of_three : (h : Three) (a b c : ℕ) (r : Node) → length (asked (ThreeNode h a b c) r) ≤ 3
few_of_three (SetField i) a b c (ThreeNode k x y z) = omega arith
few_of_three If a b c (ThreeNode k x y z) = omega arith
few_of_three h a b c (ThreeNode k x y z) = omega arith
few_of_three h a b c r = omega arith

few_asked : (l r : Node) → length (asked l r) ≤ 3
few_asked (LeafNode h) r = omega arith
few_asked (OneNode h a) (OneNode k b) = omega arith
few_asked (OneNode h a) r = omega arith
few_asked (TwoNode h a b) r = few_of_two h a b r
few_asked (ThreeNode h a b c) r = few_of_three h a b c r

few_parts : (ns : List Node) (bound : List ℕ) (l r : Node) (parts : List (ℕ × ℕ)) → AreTaken ns bound l r parts → length parts ≤ 3
few_parts ns bound l r _ (Whole h) = omega arith
few_parts ns bound l r _ (ByParts h) = few_asked l r

pub fit_falls : (ns : List Node) (bound : List ℕ) (ds es : List Change) (all ws us : List (ℕ × ℕ)) (p t : ℕ) → all ≡ ws ++ (p, t) ∷ [] → p < length ns → IsTurn true ns bound p t ds ws es us → 4 * without es (length ns) + length us < 4 * without ds (length ns) + length all
fit_falls ns bound ds es all ws us p t e w (inl turn) =
    let a : length all ≡ length ws + 1 = ap length e ∙ length_push ws (p, t) in
    let b : length us ≡ length ws = ap length turn.waiting in
    let c : without es (length ns) ≡ without ds (length ns) = ap (λ xs. without xs (length ns)) turn.same in
    omega (arith, a, b, c)
fit_falls ns bound ds es all ws us p t e w (inr turn) =
    let a : length all ≡ length ws + 1 = ap length e ∙ length_push ws (p, t) in
    let b : length us ≡ length ws + length turn.apart.parts = ap length turn.apart.waiting ∙ length-append ws turn.apart.parts in
    let c : without es (length ns) ≡ without (ds ++ change_of ds p t ∷ []) (length ns) = ap (λ xs. without xs (length ns)) turn.is in
    let d = fewer ds p t turn.new (length ns) w in
    let few = few_parts ns bound turn.apart.left turn.apart.right turn.apart.parts turn.apart.taken in
    omega (arith, a, b, c, d, few)

-- ---- a step

pub parts_later : (ns : List Node) (p : ℕ) (n : Node) → p < length ns → HasParts ns p n → HasParts ns (length ns) n
parts_later ns p (LeafNode h) w parts = tt
parts_later ns p (OneNode h a) w parts = record { earlier = (let e = parts.earlier in omega (arith, e, w)); sort = parts.sort }
parts_later ns p (TwoNode h a b) w parts =
    (record { earlier = (let e = parts.0.earlier in omega (arith, e, w)); sort = parts.0.sort }, record { earlier = (let e = parts.1.earlier in omega (arith, e, w)); sort = parts.1.sort })
parts_later ns p (ThreeNode h a b c) w parts =
    (record { earlier = (let e = parts.0.earlier in omega (arith, e, w)); sort = parts.0.sort }, record { earlier = (let e = parts.1.earlier in omega (arith, e, w)); sort = parts.1.sort }, record { earlier = (let e = parts.2.earlier in omega (arith, e, w)); sort = parts.2.sort })

module _ (ns : List Node) (bound : List ℕ) (p t : ℕ) (pair : IsPair ns p t) where
  pub whole : (l r : Node) → IsMade ns p l → IsMade ns t r → IsBoundNode bound l → (ws us : List (ℕ × ℕ)) → us ≡ ws → IsApart ns bound p t ws us
  whole l r made_l made_r b ws us e = record { left = l; right = r; is_left = made_l; is_right = made_r; parts = []; taken = Whole b; waiting = e ∙ sym (append-nil ws) }

  pub by_parts : (l r : Node) → IsMade ns p l → IsMade ns t r → (IsBoundNode bound l → ⊥) → refilled l r ≡ r → IsClearNode ns bound l → (ws us : List (ℕ × ℕ)) → us ≡ ws ++ asked l r → IsApart ns bound p t ws us
  by_parts l r made_l made_r other same clear ws us e = record { left = l; right = r; is_left = made_l; is_right = made_r; parts = asked l r; taken = ByParts (record { other = other; same = same; clear = clear }); waiting = e }

  pub never : (one : IsOneNumber ns) (l r : Node) → IsMade ns p l → IsMade ns t r → (IsBoundNode bound l → ⊥) → (refilled l r ≡ r → IsClearNode ns bound l → ⊥) → IsNeverFilled ns bound p t
  never one l r made_l made_r other h = record { none = λ at f. (let a = apart ns one bound at p t l r made_l made_r other f in h a.same a.clear) }

  pub refused_value : (one : IsOneNumber ns) (cs ds : List Change) (v : ℕ) → ds ≡ cs → AreTargets ns cs → value_in cs p ≡ Some v → (v ≡ t → ⊥) → IsRefused ns bound p t cs ds
  refused_value one cs ds v e targets has differ = record {
    same = e;
    none = λ at m f. differ (one.one v t (targets.each p v has) pair.target_within (one_filling_item bound at (item_at ns p) (item_at ns v) (item_at ns t) (m.each p v has) f));
  }
