-- The invariants when an edge joins two classes.
use Rattle.std.proofs.Common.{◌≡◌, ◌≢◌, ◌⊎◌, inl, inr, ⊎_elim, ℕ, ◌<◌, List, [], ◌∷◌, ◌++◌, length, take, get_or, Option, Some, refl, sym, ap, ◌∙◌, subst, arith}
use Rattle.std.specs.Prelude.{slice_get, Contains}
use Rattle.std.proofs.lemmas.Bool.{cases_eq}
use Rattle.std.proofs.lemmas.List.Elements.{Contains-get_or, Contains-append_left, Contains-append_right, Contains-append_cases}
use Rattle.std.proofs.lemmas.Option.{slice_get_within}
use Rattle.term_pool.specs.declared.node.Node.{Node}
use Rattle.term_pool.specs.declared.node.Node.TheVariants.{Leaf as LeafNode, One as OneNode, Two as TwoNode, Three as ThreeNode}
use Rattle.congruence_closure.specs.Congruence.{IsWithin, AreTerms}
use Rattle.congruence_closure.specs.Links.{Linked, ByLink, Itself, Turned, Chained, AreAlike, IsReason, AreShown}
use Rattle.congruence_closure.specs.Signatures.{class_in, signed, AreNamed, renamed, classes_among}
use Rattle.congruence_closure.specs.States.{SameClass, IsPart, IsNear, IsReasonable, IsDead, IsEntry, IsHonest, IsTabled, IsAlikeLink, IsGrown, AreEntered, numbers_at, AreMembers, IsUserOf, IsSound, IsKept, AreEnds, AreMoved, IsRenamed}
use Rattle.congruence_closure.specs.declared.classes.link.Equation.{Equation}
use Rattle.congruence_closure.specs.declared.classes.link.Link.{Link}
use Rattle.congruence_closure.specs.declared.classes.link.Why.{Why}
use Rattle.congruence_closure.specs.declared.classes.link.Why.TheVariants.{Given, Alike}
use Rattle.congruence_closure.proofs.ListLemmas.{push_kept, push_new, push_cases, take_push, take_length}
use Rattle.congruence_closure.proofs.SignedLemmas.{signed_by_parts, renamed_at, renamed_other, joined, fewer, still_named, still_dead}

-- ---- edges

pub linked_more : (ls : List Link) (l : Link) (i j : ℕ) → Linked ls i j → Linked (ls ++ l ∷ []) i j
linked_more ls l _ _ (ByLink k m e) = ByLink k m (push_kept ls l k m e)
linked_more ls l _ _ (Itself i) = Itself i
linked_more ls l _ _ (Turned a b h) = Turned a b (linked_more ls l a b h)
linked_more ls l _ _ (Chained a b d h k) = Chained a b d (linked_more ls l a b h) (linked_more ls l b d k)

-- a relation that follows from another among the first numbers
pub alike_by : (R S : ℕ → ℕ → Type 0) (count : ℕ) → ((i j : ℕ) → i < count → j < count → R i j → S i j) → (m n : Node) → IsWithin count m → IsWithin count n → AreAlike R m n → AreAlike S m n
alike_by R S count to (LeafNode h) (LeafNode k) p q e = e
alike_by R S count to (OneNode h a) (OneNode k x) p q e = (e.0, to a x p q e.1)
alike_by R S count to (TwoNode h a b) (TwoNode k x y) p q e = (e.0, to a x p.0 q.0 e.1, to b y p.1 q.1 e.2)
alike_by R S count to (ThreeNode h a b c) (ThreeNode k x y z) p q e = (e.0, to a x p.0 q.0 e.1, to b y p.1 q.1 e.2, to c z p.2 q.2 e.3)
alike_by R S count to _ _ p q e = absurd e

pub reason_by : (ns : List Node) (es : List Equation) → AreTerms ns es → (R S : ℕ → ℕ → Type 0) → ((i j : ℕ) → i < length ns → j < length ns → R i j → S i j) → (i j : ℕ) (why : Why) → IsReason ns es R i j why → IsReason ns es S i j why
reason_by ns es terms R S to i j (Given k) r = r
reason_by ns es terms R S to i j Alike r = record {
  one = r.one;
  other = r.other;
  is_one = r.is_one;
  is_other = r.is_other;
  alike = alike_by R S (length ns) to r.one r.other (terms.parts i r.one r.is_one) (terms.parts j r.other r.is_other) r.alike;
}

pub shown_more : (ns : List Node) (es : List Equation) (ls : List Link) (l : Link) → AreShown ns es ls → IsReason ns es (Linked ls) l.left l.right l.why → AreShown ns es (ls ++ l ∷ [])
shown_more ns es ls l shown reason = record { each = λ k m e. go k m e (push_cases ls l k m e) }
  where
    go : (k : ℕ) (m : Link) → slice_get (ls ++ l ∷ []) k ≡ Some m → (slice_get ls k ≡ Some m) ⊎ ((k ≡ length ls) × (m ≡ l)) → IsReason ns es (Linked (take k (ls ++ l ∷ []))) m.left m.right m.why
    go k m e (inl h) =
        let within = slice_get_within ls k m h in
        subst (λ ms. IsReason ns es (Linked ms) m.left m.right m.why) (sym (take_push ls l k (omega (arith, within)))) (shown.each k m h)
    go k m e (inr h) =
        let first : take k (ls ++ l ∷ []) ≡ ls = ap (λ n. take n (ls ++ l ∷ [])) h.0 ∙ take_push ls l (length ls) (omega arith) ∙ take_length ls in
        subst (λ ms. IsReason ns es (Linked ms) m.left m.right m.why) (sym first) (subst (λ (n : Link). IsReason ns es (Linked ls) n.left n.right n.why) (sym h.1) reason)

-- ---- a node has a part of a class, or none

pub data HasPartIn (c : ℕ → ℕ) (from : ℕ) (n : Node) : Type 0 where
  Has : (p : ℕ) → IsPart p n → c p ≡ from → HasPartIn c from n

pub part_cases : (c : ℕ → ℕ) (from : ℕ) (n : Node) → HasPartIn c from n ⊎ ((p : ℕ) → IsPart p n → c p ≢ from)
part_cases c from (LeafNode h) = inr (λ p part. absurd part)
part_cases c from (OneNode h a) = go (cases_eq (c a) from)
  where
    go : (c a ≡ from) ⊎ (c a ≢ from) → HasPartIn c from (OneNode h a) ⊎ ((p : ℕ) → IsPart p (OneNode h a) → c p ≢ from)
    go (inl e) = inl (Has a refl e)
    go (inr n) = inr (λ p e h. n (sym (ap c e) ∙ h))
part_cases c from (TwoNode h a b) = go (cases_eq (c a) from) (cases_eq (c b) from)
  where
    other : (c a ≢ from) → (c b ≢ from) → (p : ℕ) → IsPart p (TwoNode h a b) → c p ≢ from
    other n m p (inl e) k = n (sym (ap c e) ∙ k)
    other n m p (inr e) k = m (sym (ap c e) ∙ k)

    go : (c a ≡ from) ⊎ (c a ≢ from) → (c b ≡ from) ⊎ (c b ≢ from) → HasPartIn c from (TwoNode h a b) ⊎ ((p : ℕ) → IsPart p (TwoNode h a b) → c p ≢ from)
    go (inl e) _ = inl (Has a (inl refl) e)
    go (inr n) (inl e) = inl (Has b (inr refl) e)
    go (inr n) (inr m) = inr (other n m)
part_cases c from (ThreeNode h a b d) = go (cases_eq (c a) from) (cases_eq (c b) from) (cases_eq (c d) from)
  where
    other : (c a ≢ from) → (c b ≢ from) → (c d ≢ from) → (p : ℕ) → IsPart p (ThreeNode h a b d) → c p ≢ from
    other n m o p (inl e) k = n (sym (ap c e) ∙ k)
    other n m o p (inr (inl e)) k = m (sym (ap c e) ∙ k)
    other n m o p (inr (inr e)) k = o (sym (ap c e) ∙ k)

    go : (c a ≡ from) ⊎ (c a ≢ from) → (c b ≡ from) ⊎ (c b ≢ from) → (c d ≡ from) ⊎ (c d ≢ from) → HasPartIn c from (ThreeNode h a b d) ⊎ ((p : ℕ) → IsPart p (ThreeNode h a b d) → c p ≢ from)
    go (inl e) _ _ = inl (Has a (inl refl) e)
    go (inr n) (inl e) _ = inl (Has b (inr (inl refl)) e)
    go (inr n) (inr m) (inl e) = inl (Has d (inr (inr refl)) e)
    go (inr n) (inr m) (inr o) = inr (other n m o)

-- ---- an edge joins two classes

module _ (ns : List Node) (es : List Equation) (c : ℕ → ℕ) (ls ws : List Link) (l : Link) (from to : ℕ) (sound : IsSound ns es c ls (ws ++ l ∷ [])) (ends : AreEnds c l from to) (apart : from ≢ to) where
  reasonable : IsReasonable ns es c l
  reasonable = sound.reasons (length ws) l (push_new ws l)

  pub is_from : c from ≡ from
  is_from = go ends
    where
      go : AreEnds c l from to → c from ≡ from
      go (inl e) = ap c (sym e.0) ∙ sound.named.named l.left ∙ e.0
      go (inr e) = ap c (sym e.1) ∙ sound.named.named l.right ∙ e.1

  pub is_to : c to ≡ to
  is_to = go ends
    where
      go : AreEnds c l from to → c to ≡ to
      go (inl e) = ap c (sym e.1) ∙ sound.named.named l.right ∙ e.1
      go (inr e) = ap c (sym e.0) ∙ sound.named.named l.left ∙ e.0

  pub from_within : from < length ns
  from_within = go ends
    where
      go : AreEnds c l from to → from < length ns
      go (inl e) = subst (λ k. k < length ns) e.0 (sound.named.within l.left reasonable.left)
      go (inr e) = subst (λ k. k < length ns) e.1 (sound.named.within l.right reasonable.right)

  pub to_within : to < length ns
  to_within = go ends
    where
      go : AreEnds c l from to → to < length ns
      go (inl e) = subst (λ k. k < length ns) e.1 (sound.named.within l.right reasonable.right)
      go (inr e) = subst (λ k. k < length ns) e.0 (sound.named.within l.left reasonable.left)

  named : AreNamed (length ns) (joined c from to)
  named = still_named c from to is_from is_to apart (length ns) from_within to_within sound.named

  -- the ends are of one class now
  ends_joined : joined c from to l.left ≡ joined c from to l.right
  ends_joined = go ends
    where
      at_to : renamed from to to ≡ to
      at_to = renamed_other from to to (λ e. apart (sym e))

      go : AreEnds c l from to → joined c from to l.left ≡ joined c from to l.right
      go (inl e) = renamed_at from to (c l.left) e.0 ∙ sym at_to ∙ ap (renamed from to) (sym e.1)
      go (inr e) = ap (renamed from to) e.0 ∙ at_to ∙ sym (renamed_at from to (c l.right) e.1)

  pub near_joined : (i j : ℕ) → IsNear c (ws ++ l ∷ []) i j → IsNear (joined c from to) ws i j
  near_joined i j (inl e) = inl (ap (renamed from to) e)
  near_joined i j (inr w) = go (push_cases ws l w.position w.link w.found)
    where
      go : (slice_get ws w.position ≡ Some w.link) ⊎ ((w.position ≡ length ws) × (w.link ≡ l)) → IsNear (joined c from to) ws i j
      go (inl h) = inr (record { position = w.position; link = w.link; found = h; left = w.left; right = w.right })
      go (inr h) =
          let left : l.left ≡ i = ap (λ (m : Link). m.left) (sym h.1) ∙ w.left in
          let right : l.right ≡ j = ap (λ (m : Link). m.right) (sym h.1) ∙ w.right in
          inl (ap (joined c from to) (sym left) ∙ ends_joined ∙ ap (joined c from to) right)

  abbrev more : List Link
  more = ls ++ l ∷ []

  by_classes : (i j : ℕ) → i < length ns → j < length ns → SameClass c i j → Linked more i j
  by_classes i j wi wj e = linked_more ls l i j (sound.linked i j wi wj e)

  by_link : Linked more l.left l.right
  by_link = ByLink (length ls) l (push_new ls l)

  -- numbers of the two classes are connected
  across : (i j : ℕ) → i < length ns → j < length ns → c i ≡ from → c j ≡ to → Linked more i j
  across i j wi wj ei ej = go ends
    where
      go : AreEnds c l from to → Linked more i j
      go (inl e) =
          Chained i l.left j (by_classes i l.left wi reasonable.left (ei ∙ sym e.0))
          (Chained l.left l.right j by_link (by_classes l.right j reasonable.right wj (e.1 ∙ sym ej)))
      go (inr e) =
          Chained i l.right j (by_classes i l.right wi reasonable.right (ei ∙ sym e.1))
          (Chained l.right l.left j (Turned l.left l.right by_link) (by_classes l.left j reasonable.left wj (e.0 ∙ sym ej)))

  linked : (i j : ℕ) → i < length ns → j < length ns → SameClass (joined c from to) i j → Linked more i j
  linked i j wi wj e = go (cases_eq (c i) from) (cases_eq (c j) from)
    where
      go : (c i ≡ from) ⊎ (c i ≢ from) → (c j ≡ from) ⊎ (c j ≢ from) → Linked more i j
      go (inl a) (inl b) = by_classes i j wi wj (a ∙ sym b)
      go (inl a) (inr b) = across i j wi wj a (sym (renamed_other from to (c j) b) ∙ sym e ∙ renamed_at from to (c i) a)
      go (inr a) (inl b) = Turned j i (across j i wj wi b (sym (renamed_other from to (c i) a) ∙ e ∙ renamed_at from to (c j) b))
      go (inr a) (inr b) = by_classes i j wi wj (sym (renamed_other from to (c i) a) ∙ e ∙ renamed_other from to (c j) b)

  pub sound_joined : IsSound ns es (joined c from to) (ls ++ l ∷ []) ws
  sound_joined = record {
    terms = sound.terms;
    named = named;
    linked = linked;
    shown = shown_more ns es ls l sound.shown (reason_by ns es sound.terms (SameClass c) (Linked ls) sound.linked l.left l.right l.why reasonable.reason);
    reasons = λ k m e. later m (sound.reasons k m (push_kept ws l k m e));
    met = λ k e found. near_joined e.left e.right (sound.met k e found);
  }
    where
      later : (m : Link) → IsReasonable ns es c m → IsReasonable ns es (joined c from to) m
      later m r = record {
        reason = reason_by ns es sound.terms (SameClass c) (SameClass (joined c from to)) (λ i j wi wj e. ap (renamed from to) e) m.left m.right m.why r.reason;
        left = r.left;
        right = r.right;
      }

  -- a node without a part in the replaced class keeps its signature
  signed_same : (n : Node) → ((p : ℕ) → IsPart p n → c p ≢ from) → signed (joined c from to) n ≡ signed c n
  signed_same n none = signed_by_parts (joined c from to) c n (λ p part. renamed_other from to (c p) (none p part))

  dead_part : (n : Node) (p : ℕ) → IsPart p n → c p ≡ from → IsPart from (signed c n)
  dead_part (LeafNode h) p part e = absurd part
  dead_part (OneNode h a) p part e = sym e ∙ ap c part
  dead_part (TwoNode h a b) p (inl part) e = inl (sym e ∙ ap c part)
  dead_part (TwoNode h a b) p (inr part) e = inr (sym e ∙ ap c part)
  dead_part (ThreeNode h a b d) p (inl part) e = inl (sym e ∙ ap c part)
  dead_part (ThreeNode h a b d) p (inr (inl part)) e = inr (inl (sym e ∙ ap c part))
  dead_part (ThreeNode h a b d) p (inr (inr part)) e = inr (inr (sym e ∙ ap c part))

  from_gone : joined c from to from ≢ from
  from_gone e = apart (sym (sym (renamed_at from to (c from) is_from) ∙ e))

  pub honest_joined : (T : Node → Option ℕ) → IsHonest ns c T → IsHonest ns (joined c from to) T
  honest_joined T honest = record { each = λ s v held. entry s v (honest.each s v held) }
    where
      entry : (s : Node) (v : ℕ) → IsEntry ns c s v → IsEntry ns (joined c from to) s v
      entry s v e = record { node = e.node; found = e.found; is = go e.is (part_cases c from e.node) }
        where
          go : (signed c e.node ≡ s) ⊎ IsDead c s → HasPartIn c from e.node ⊎ ((p : ℕ) → IsPart p e.node → c p ≢ from) → (signed (joined c from to) e.node ≡ s) ⊎ IsDead (joined c from to) s
          go (inr d) _ = inr (still_dead c from to is_from is_to apart s d)
          go (inl h) (inr none) = inl (signed_same e.node none ∙ h)
          go (inl h) (inl (Has p part of_from)) = inr (record { part = from; is_part = subst (IsPart from) h (dead_part e.node p part of_from); dead = from_gone })

  pub tabled_joined : (T : Node → Option ℕ) (i : ℕ) → (t : IsTabled ns c T (ws ++ l ∷ []) i) → ((p : ℕ) → IsPart p t.node → c p ≢ from) → IsTabled ns (joined c from to) T ws i
  tabled_joined T i t none = record {
    node = t.node;
    found = t.found;
    holder = t.holder;
    held = ap T (signed_same t.node none) ∙ t.held;
    near = near_joined i t.holder t.near;
  }

  pub members_joined : (ms ms2 : List (List ℕ)) (moved : List ℕ) → AreMembers c (length ns) ms → AreMoved ms ms2 from to moved → AreMembers (joined c from to) (length ns) ms2
  members_joined ms ms2 moved members are = record {
    one_each = are.long ∙ members.one_each;
    all = λ i w. go i w (cases_eq (c i) from) (cases_eq (c i) to);
    within = λ k i h. inside k i h (cases_eq k from) (cases_eq k to);
  }
    where
      go : (i : ℕ) → i < length ns → (c i ≡ from) ⊎ (c i ≢ from) → (c i ≡ to) ⊎ (c i ≢ to) → Contains (numbers_at ms2 (joined c from to i)) i
      go i w (inl e) _ =
          let in_moved : Contains moved i = subst (λ xs. Contains xs i) (sym are.are) (subst (λ k. Contains (numbers_at ms k) i) e (members.all i w)) in
          subst (λ k. Contains (numbers_at ms2 k) i) (sym (renamed_at from to (c i) e)) (subst (λ xs. Contains xs i) (sym are.at) (Contains-append_right (numbers_at ms to) moved i in_moved))
      go i w (inr n) (inl e) =
          let at : Contains (numbers_at ms to) i = subst (λ k. Contains (numbers_at ms k) i) e (members.all i w) in
          let name : joined c from to i ≡ to = renamed_other from to (c i) n ∙ e in
          subst (λ k. Contains (numbers_at ms2 k) i) (sym name) (subst (λ xs. Contains xs i) (sym are.at) (Contains-append_left (numbers_at ms to) moved i at))
      go i w (inr n) (inr m) =
          subst (λ k. Contains (numbers_at ms2 k) i) (sym (renamed_other from to (c i) n)) (subst (λ xs. Contains xs i) (sym (are.others (c i) n m)) (members.all i w))

      nowhere : (i : ℕ) → Contains {X = ℕ} [] i → i < length ns
      nowhere i h = let w = h.1 in absurd (omega (arith, w))

      inside : (k i : ℕ) → Contains (numbers_at ms2 k) i → (k ≡ from) ⊎ (k ≢ from) → (k ≡ to) ⊎ (k ≢ to) → i < length ns
      inside k i h (inl e) _ = nowhere i (subst (λ xs. Contains xs i) are.gone (subst (λ n. Contains (numbers_at ms2 n) i) e h))
      inside k i h (inr n) (inl e) = ⊎_elim (λ a. members.within to i a) (λ a. members.within from i (subst (λ xs. Contains xs i) are.are a)) (Contains-append_cases (numbers_at ms to) moved i (subst (λ xs. Contains xs i) are.at (subst (λ n. Contains (numbers_at ms2 n) i) e h)))
      inside k i h (inr n) (inr m) = members.within k i (subst (λ xs. Contains xs i) (are.others k n m) h)

-- ---- extensions

pub sound_grown : (ns : List Node) (es : List Equation) (c : ℕ → ℕ) (ls : List Link) (T : Node → Option ℕ) (ws : List Link) (T2 : Node → Option ℕ) (ws2 : List Link) → IsSound ns es c ls ws → IsGrown ns c T ws T2 ws2 → IsSound ns es c ls ws2
sound_grown ns es c ls T ws T2 ws2 sound grown = record {
  terms = sound.terms;
  named = sound.named;
  linked = sound.linked;
  shown = sound.shown;
  reasons = λ k l e. go k l (grown.added k l e);
  met = λ k e found. grown.near e.left e.right (sound.met k e found);
}
  where
    go : (k : ℕ) (l : Link) → (slice_get ws k ≡ Some l) ⊎ IsAlikeLink ns c l → IsReasonable ns es c l
    go k l (inl e) = sound.reasons k l e
    go k l (inr a) = record { reason = subst (IsReason ns es (SameClass c) l.left l.right) (sym a.why) a.alike; left = a.left; right = a.right }

-- ---- the whole invariant

module _ (ns : List Node) (es : List Equation) (cs : List ℕ) (ms us : List (List ℕ)) (T : Node → Option ℕ) (ls ws : List Link) (kept : IsKept ns es cs ms us T ls ws) where
  -- a member, or a node of a use list, is a number of the list
  pub moved_within : (from count : ℕ) (moved : List ℕ) → moved ≡ numbers_at ms from → length ns ≡ count → (k : ℕ) → k < length moved → get_or moved k 0 < count
  moved_within from count moved is long k w =
      let h = kept.members.within from (get_or moved k 0) (subst (λ xs. Contains xs (get_or moved k 0)) is (Contains-get_or moved k 0 w)) in
      omega (arith, h, long)

  pub moved_all : (from : ℕ) (moved : List ℕ) → moved ≡ numbers_at ms from → (i : ℕ) → i < length cs → class_in cs i ≡ from → Contains moved i
  moved_all from moved is i w e =
      let long = kept.one_each in
      subst (λ xs. Contains xs i) (sym is) (subst (λ k. Contains (numbers_at ms k) i) e (kept.members.all i (omega (arith, w, long))))

  pub users_within : (m k : ℕ) → k < length (numbers_at us m) → get_or (numbers_at us m) k 0 < length ns
  users_within m k w = kept.users.within m (get_or (numbers_at us m) k 0) (Contains-get_or (numbers_at us m) k 0 w)

module _ (ns : List Node) (es : List Equation) (cs cs2 : List ℕ) (ms ms2 us : List (List ℕ)) (T T2 : Node → Option ℕ) (ls ws ws2 : List Link) (l : Link) (from to : ℕ) (moved : List ℕ) (kept : IsKept ns es cs ms us T ls (ws ++ l ∷ [])) (ends : AreEnds (class_in cs) l from to) (apart : from ≢ to) (renaming : IsRenamed cs cs2 from to) where
  pub same_classes : class_in cs2 ≡ joined (class_in cs) from to
  same_classes = λ t i. renaming.each i t

  pub named_after : AreNamed (length ns) (class_in cs2)
  named_after = subst (AreNamed (length ns)) (sym same_classes) (sound_joined ns es (class_in cs) ls ws l from to kept.sound ends apart).named

  pub honest_after : IsHonest ns (class_in cs2) T
  honest_after = subst (λ d. IsHonest ns d T) (sym same_classes) (honest_joined ns es (class_in cs) ls ws l from to kept.sound ends apart T kept.tabled.honest)

  pub kept_after : AreMoved ms ms2 from to moved → AreEntered ns (class_in cs2) T ws T2 ws2 (IsUserOf us moved) → IsKept ns es cs2 ms2 us T2 (ls ++ l ∷ []) ws2
  kept_after are entered = record {
    one_each = renaming.long ∙ kept.one_each;
    sound = sound_grown ns es (class_in cs2) (ls ++ l ∷ []) T ws T2 ws2 (subst (λ d. IsSound ns es d (ls ++ l ∷ []) ws) (sym same_classes) (sound_joined ns es (class_in cs) ls ws l from to kept.sound ends apart)) entered.grown;
    tabled = record { honest = entered.grown.honest; each = λ i w. at i (kept.tabled.each i w) };
    members = subst (λ d. AreMembers d (length ns) ms2) (sym same_classes) (members_joined ns es (class_in cs) ls ws l from to kept.sound ends apart ms ms2 moved kept.members are);
    users = kept.users;
  }
    where
      at : (i : ℕ) → IsTabled ns (class_in cs) T (ws ++ l ∷ []) i → IsTabled ns (class_in cs2) T2 ws2 i
      at i t = go (part_cases (class_in cs) from t.node)
        where
          go : HasPartIn (class_in cs) from t.node ⊎ ((p : ℕ) → IsPart p t.node → class_in cs p ≢ from) → IsTabled ns (class_in cs2) T2 ws2 i
          go (inr none) = entered.grown.kept i (subst (λ d. IsTabled ns d T ws i) (sym same_classes) (tabled_joined ns es (class_in cs) ls ws l from to kept.sound ends apart T i t none))
          go (inl (Has p part of_from)) =
              let user = kept.users.all i p t.node t.found part in
              let member = kept.members.all p (part_within i t.node t.found p part) in
              let in_moved : Contains moved p = subst (λ xs. Contains xs p) (sym are.are) (subst (λ k. Contains (numbers_at ms k) p) of_from member) in
              entered.tabled i (p, in_moved, user)
            where
              inside : (n : Node) (p : ℕ) → IsPart p n → IsWithin (length ns) n → p < length ns
              inside (LeafNode h) p part w = absurd part
              inside (OneNode h a) p e w = subst (λ k. k < length ns) (sym e) w
              inside (TwoNode h a b) p (inl e) w = subst (λ k. k < length ns) (sym e) w.0
              inside (TwoNode h a b) p (inr e) w = subst (λ k. k < length ns) (sym e) w.1
              inside (ThreeNode h a b d) p (inl e) w = subst (λ k. k < length ns) (sym e) w.0
              inside (ThreeNode h a b d) p (inr (inl e)) w = subst (λ k. k < length ns) (sym e) w.1
              inside (ThreeNode h a b d) p (inr (inr e)) w = subst (λ k. k < length ns) (sym e) w.2

              part_within : (i : ℕ) (n : Node) → slice_get ns i ≡ Some n → (p : ℕ) → IsPart p n → p < length ns
              part_within i n found p part = inside n p part (kept.sound.terms.parts i n found)

  pub one_fewer : classes_among (length ns) (class_in cs2) < classes_among (length ns) (class_in cs)
  one_fewer =
      let sound = kept.sound in
      subst (λ (d : ℕ → ℕ). classes_among (length ns) d < classes_among (length ns) (class_in cs)) (sym same_classes)
      (fewer (class_in cs) from to (is_from ns es (class_in cs) ls ws l from to sound ends apart) (is_to ns es (class_in cs) ls ws l from to sound ends apart) apart (length ns) (from_within ns es (class_in cs) ls ws l from to sound ends apart))

-- the same, in the form of the code
module _ (ns : List Node) (es : List Equation) (cs : List ℕ) (ms us : List (List ℕ)) (T : Node → Option ℕ) (ls ws : List Link) (l : Link) (from to : ℕ) (kept : IsKept ns es cs ms us T ls (ws ++ l ∷ [])) (ends : AreEnds (class_in cs) l from to) (apart : from ≢ to) (cs2 cs3 : List ℕ) (renaming : IsRenamed cs cs2 from to) (classes : cs3 ≡ cs2) where
  pub merged_named : (ns0 : List Node) → ns0 ≡ ns → AreNamed (length ns0) (class_in cs3)
  merged_named ns0 e =
      subst (λ (xs : List Node). AreNamed (length xs) (class_in cs3)) (sym e)
      (subst (λ (xs : List ℕ). AreNamed (length ns) (class_in xs)) (sym classes) (named_after ns es cs cs2 ms ms us T T ls ws ws l from to [] kept ends apart renaming))

  pub merged_honest : (ns0 : List Node) → ns0 ≡ ns → IsHonest ns0 (class_in cs3) T
  merged_honest ns0 e =
      subst (λ (xs : List Node). IsHonest xs (class_in cs3) T) (sym e)
      (subst (λ (xs : List ℕ). IsHonest ns (class_in xs) T) (sym classes) (honest_after ns es cs cs2 ms ms us T T ls ws ws l from to [] kept ends apart renaming))

  pub merged_fewer : (cs4 : List ℕ) → cs4 ≡ cs2 → classes_among (length ns) (class_in cs4) < classes_among (length ns) (class_in cs)
  merged_fewer cs4 e = subst (λ (xs : List ℕ). classes_among (length ns) (class_in xs) < classes_among (length ns) (class_in cs)) (sym e) (one_fewer ns es cs cs2 ms ms us T T ls ws ws l from to [] kept ends apart renaming)

  pub merged : (ms2 ms3 : List (List ℕ)) (moved moved0 : List ℕ) (ns0 : List Node) (us0 : List (List ℕ)) (cs4 : List ℕ) (ls2 : List Link) (T2 : Node → Option ℕ) (ws2 : List Link) → AreMoved ms ms2 from to moved → ms3 ≡ ms2 → ns0 ≡ ns → us0 ≡ us → moved0 ≡ moved → cs4 ≡ cs2 → ls2 ≡ ls ++ l ∷ [] → AreEntered ns0 (class_in cs3) T ws T2 ws2 (IsUserOf us0 moved0) → IsKept ns es cs4 ms3 us T2 ls2 ws2
  merged ms2 ms3 moved moved0 ns0 us0 cs4 ls2 T2 ws2 are members nodes users movers after links entered =
      let entered_there : AreEntered ns (class_in cs2) T ws T2 ws2 (IsUserOf us moved) =
      subst (λ (xs : List ℕ). AreEntered ns (class_in cs2) T ws T2 ws2 (IsUserOf us xs)) movers
      (subst (λ (xs : List (List ℕ)). AreEntered ns (class_in cs2) T ws T2 ws2 (IsUserOf xs moved0)) users
      (subst (λ (xs : List ℕ). AreEntered ns (class_in xs) T ws T2 ws2 (IsUserOf us0 moved0)) classes
      (subst (λ (xs : List Node). AreEntered xs (class_in cs3) T ws T2 ws2 (IsUserOf us0 moved0)) nodes entered))) in
      subst (λ (xs : List ℕ). IsKept ns es xs ms3 us T2 ls2 ws2) (sym after)
      (subst (λ (xs : List (List ℕ)). IsKept ns es cs2 xs us T2 ls2 ws2) (sym members)
      (subst (λ (xs : List Link). IsKept ns es cs2 ms2 us T2 xs ws2) (sym links)
      (kept_after ns es cs cs2 ms ms2 us T T2 ls ws ws2 l from to moved kept ends apart renaming are entered_there)))
