-- The invariants when a node is added.
use Rattle.std.proofs.Common.{◌≡◌, ◌≢◌, ◌⊎◌, inl, inr, ℕ, ◌+◌, ◌<◌, ◌≤◌, List, [], ◌∷◌, ◌++◌, length, take, get_or, Option, Some, sym, ap, ◌∙◌, subst, arith}
use Rattle.std.specs.Prelude.{slice_get, Contains}
use Rattle.std.proofs.lemmas.Bool.{cases_eq, cases_lt}
use Rattle.std.proofs.lemmas.List.{length_push, get_or_append_left, get_or_push, get_or_past}
use Rattle.term_pool.specs.declared.node.Node.{Node}
use Rattle.term_pool.specs.declared.node.Node.TheVariants.{Leaf as LeafNode, One as OneNode, Two as TwoNode, Three as ThreeNode}
use Rattle.congruence_closure.specs.Congruence.{IsWithin, AreTerms}
use Rattle.congruence_closure.specs.Links.{Linked, Itself, IsReason}
use Rattle.congruence_closure.specs.Signatures.{class_in, AreNamed}
use Rattle.congruence_closure.specs.States.{SameClass, IsPart, IsPartOf, IsReasonable, IsEntry, IsHonest, IsTabled, AreEntered, numbers_at, AreMembers, AreUsers, AreUsersAdded, IsSound, IsKept}
use Rattle.congruence_closure.specs.declared.classes.link.Equation.{Equation}
use Rattle.congruence_closure.specs.declared.classes.link.Link.{Link}
use Rattle.congruence_closure.specs.declared.classes.link.Why.{Why}
use Rattle.congruence_closure.specs.declared.classes.link.Why.TheVariants.{Given, Alike}
use Rattle.congruence_closure.proofs.ListLemmas.{push_kept, push_cases, alone_more}
use Rattle.congruence_closure.proofs.UnionLemmas.{sound_grown}

within_more : (count more : ℕ) (n : Node) → count ≤ more → IsWithin count n → IsWithin more n
within_more count more (LeafNode h) le w = w
within_more count more (OneNode h a) le w = omega (arith, le, w)
within_more count more (TwoNode h a b) le w = let p = w.0 in let q = w.1 in (omega (arith, le, p), omega (arith, le, q))
within_more count more (ThreeNode h a b c) le w = let p = w.0 in let q = w.1 in let r = w.2 in (omega (arith, le, p), omega (arith, le, q), omega (arith, le, r))

pub part_within : (count : ℕ) (n : Node) (p : ℕ) → IsPart p n → IsWithin count n → p < count
part_within count (LeafNode h) p part w = absurd part
part_within count (OneNode h a) p e w = subst (λ k. k < count) (sym e) w
part_within count (TwoNode h a b) p (inl e) w = subst (λ k. k < count) (sym e) w.0
part_within count (TwoNode h a b) p (inr e) w = subst (λ k. k < count) (sym e) w.1
part_within count (ThreeNode h a b d) p (inl e) w = subst (λ k. k < count) (sym e) w.0
part_within count (ThreeNode h a b d) p (inr (inl e)) w = subst (λ k. k < count) (sym e) w.1
part_within count (ThreeNode h a b d) p (inr (inr e)) w = subst (λ k. k < count) (sym e) w.2

module _ (ns : List Node) (node : Node) where
  longer : length (ns ++ node ∷ []) ≡ length ns + 1
  longer = length_push ns node

  reason_more : (es : List Equation) (R : ℕ → ℕ → Type 0) (i j : ℕ) (why : Why) → IsReason ns es R i j why → IsReason (ns ++ node ∷ []) es R i j why
  reason_more es R i j (Given k) r = r
  reason_more es R i j Alike r = record { one = r.one; other = r.other; is_one = push_kept ns node i r.one r.is_one; is_other = push_kept ns node j r.other r.is_other; alike = r.alike }

  pub terms_more : (es : List Equation) → AreTerms ns es → IsWithin (length ns) node → AreTerms (ns ++ node ∷ []) es
  terms_more es terms w = record {
    parts = λ i m e. go i m (push_cases ns node i m e);
    left = λ k e found. (let h = terms.left k e found in omega (arith, h, longer));
    right = λ k e found. (let h = terms.right k e found in omega (arith, h, longer));
  }
    where
      go : (i : ℕ) (m : Node) → (slice_get ns i ≡ Some m) ⊎ ((i ≡ length ns) × (m ≡ node)) → IsWithin (length (ns ++ node ∷ [])) m
      go i m (inl h) = within_more (length ns) (length (ns ++ node ∷ [])) m (omega (arith, longer)) (terms.parts i m h)
      go i m (inr h) = within_more (length ns) (length (ns ++ node ∷ [])) m (omega (arith, longer)) (subst (IsWithin (length ns)) (sym h.1) w)

  pub honest_more : (c : ℕ → ℕ) (T : Node → Option ℕ) → IsHonest ns c T → IsHonest (ns ++ node ∷ []) c T
  honest_more c T honest = record { each = λ s v h. entry s v (honest.each s v h) }
    where
      entry : (s : Node) (v : ℕ) → IsEntry ns c s v → IsEntry (ns ++ node ∷ []) c s v
      entry s v e = record { node = e.node; found = push_kept ns node v e.node e.found; is = e.is }

  tabled_more : (c : ℕ → ℕ) (T : Node → Option ℕ) (ws : List Link) (i : ℕ) → IsTabled ns c T ws i → IsTabled (ns ++ node ∷ []) c T ws i
  tabled_more c T ws i t = record { node = t.node; found = push_kept ns node i t.node t.found; holder = t.holder; held = t.held; near = t.near }

  pub named_more : (c : ℕ → ℕ) → AreNamed (length ns) c → AreNamed (length (ns ++ node ∷ [])) c
  named_more c named = record {
    within = λ i w. go i w (cases_lt i (length ns));
    named = named.named;
    beyond = λ i w. named.beyond i (omega (arith, w, longer));
  }
    where
      go : (i : ℕ) → i < length (ns ++ node ∷ []) → (i < length ns) ⊎ (length ns ≤ i) → c i < length (ns ++ node ∷ [])
      go i w (inl h) = let k = named.within i h in omega (arith, k, longer)
      go i w (inr h) = let k = named.beyond i h in omega (arith, k, w)

  linked_more : (c : ℕ → ℕ) (ls : List Link) → AreNamed (length ns) c → ((i j : ℕ) → i < length ns → j < length ns → SameClass c i j → Linked ls i j) → (i j : ℕ) → i < length (ns ++ node ∷ []) → j < length (ns ++ node ∷ []) → SameClass c i j → Linked ls i j
  linked_more c ls named linked i j wi wj e = go (cases_lt i (length ns)) (cases_lt j (length ns))
    where
      go : (i < length ns) ⊎ (length ns ≤ i) → (j < length ns) ⊎ (length ns ≤ j) → Linked ls i j
      go (inl a) (inl b) = linked i j a b e
      go (inl a) (inr b) = let h = named.within i a in let k = named.beyond j b in absurd (omega (arith, h, k, e, b))
      go (inr a) (inl b) = let h = named.within j b in let k = named.beyond i a in absurd (omega (arith, h, k, e, a))
      go (inr a) (inr b) = let same : i ≡ j = omega (arith, a, b, wi, wj, longer) in subst (Linked ls i) same (Itself i)

  pub sound_more : (es : List Equation) (c : ℕ → ℕ) (ls ws : List Link) → IsWithin (length ns) node → IsSound ns es c ls ws → IsSound (ns ++ node ∷ []) es c ls ws
  sound_more es c ls ws w sound = record {
    terms = terms_more es sound.terms w;
    named = named_more c sound.named;
    linked = linked_more c ls sound.named sound.linked;
    shown = record { each = λ k l e. reason_more es (Linked (take k ls)) l.left l.right l.why (sound.shown.each k l e) };
    reasons = λ k l e. reasonable l (sound.reasons k l e);
    met = sound.met;
  }
    where
      reasonable : (l : Link) → IsReasonable ns es c l → IsReasonable (ns ++ node ∷ []) es c l
      reasonable l r = (let h = r.left in let k = r.right in record { reason = reason_more es (SameClass c) l.left l.right l.why r.reason; left = omega (arith, h, longer); right = omega (arith, k, longer) })

  -- lists by number, with one more
  list_kept : (xs : List (List ℕ)) (x : List ℕ) (k : ℕ) → k < length xs → numbers_at (xs ++ x ∷ []) k ≡ numbers_at xs k
  list_kept xs x k w = get_or_append_left xs (x ∷ []) [] k w

  list_cases : (xs : List (List ℕ)) (x : List ℕ) (k i : ℕ) → Contains (numbers_at (xs ++ x ∷ []) k) i → Contains (numbers_at xs k) i ⊎ Contains x i
  list_cases xs x k i h = go (cases_lt k (length xs)) (cases_eq k (length xs))
    where
      go : (k < length xs) ⊎ (length xs ≤ k) → (k ≡ length xs) ⊎ (k ≢ length xs) → Contains (numbers_at xs k) i ⊎ Contains x i
      go (inl w) _ = inl (subst (λ ys. Contains ys i) (list_kept xs x k w) h)
      go (inr w) (inl e) = inr (subst (λ ys. Contains ys i) (get_or_push xs x [] k (sym e)) h)
      go (inr w) (inr n) =
          let long = length_push xs x in
          let none : Contains {X = ℕ} [] i = subst (λ ys. Contains ys i) (get_or_past (xs ++ x ∷ []) k [] (omega (arith, long, w, n))) h in
          let v = none.1 in
          absurd (omega (arith, v))

  pub members_more : (c : ℕ → ℕ) (ms : List (List ℕ)) → AreNamed (length ns) c → AreMembers c (length ns) ms → AreMembers c (length (ns ++ node ∷ [])) (ms ++ (length ns ∷ []) ∷ [])
  members_more c ms named members = record {
    one_each = length_push ms (length ns ∷ []) ∙ ap (λ k. k + 1) members.one_each ∙ sym longer;
    all = λ i w. go i w (cases_lt i (length ns));
    within = λ k i h. inside k i (list_cases ms (length ns ∷ []) k i h);
  }
    where
      inside : (k i : ℕ) → Contains (numbers_at ms k) i ⊎ Contains (length ns ∷ []) i → i < length (ns ++ node ∷ [])
      inside k i (inl h) = let w = members.within k i h in omega (arith, w, longer)
      inside k i (inr h) = let w = h.1 in let first : h.0 ≡ 0 = omega (arith, w) in let is : length ns ≡ i = ap (λ m. get_or (length ns ∷ []) m i) (sym first) ∙ h.2 in omega (arith, is, longer)

      go : (i : ℕ) → i < length (ns ++ node ∷ []) → (i < length ns) ⊎ (length ns ≤ i) → Contains (numbers_at (ms ++ (length ns ∷ []) ∷ []) (c i)) i
      go i w (inl h) =
          let k = named.within i h in
          let long = members.one_each in
          subst (λ ys. Contains ys i) (sym (list_kept ms (length ns ∷ []) (c i) (omega (arith, k, long)))) (members.all i h)
      go i w (inr h) =
          let same : length ns ≡ i = omega (arith, h, w, longer) in
          let position : length ms ≡ c i = members.one_each ∙ same ∙ sym (named.beyond i h) in
          subst (λ ys. Contains ys i) (sym (get_or_push ms (length ns ∷ []) [] (c i) position)) (0, omega arith, same)

  pub users_more : (us us2 : List (List ℕ)) → AreUsers ns us → AreUsersAdded (us ++ [] ∷ []) us2 (length ns) (IsPartOf node) → ((i : ℕ) (m : Node) → slice_get ns i ≡ Some m → IsWithin (length ns) m) → AreUsers (ns ++ node ∷ []) us2
  users_more us us2 users added parts = record {
    one_each = added.long ∙ length_push us [] ∙ ap (λ k. k + 1) users.one_each ∙ sym longer;
    all = λ i p m found part. go i p m part (push_cases ns node i m found);
    within = λ k i h. inside k i (added.only k i h);
  }
    where
      go : (i p : ℕ) (m : Node) → IsPart p m → (slice_get ns i ≡ Some m) ⊎ ((i ≡ length ns) × (m ≡ node)) → Contains (numbers_at us2 p) i
      go i p m part (inl h) =
          let w = part_within (length ns) m p part (parts i m h) in
          let long = users.one_each in
          added.stay p i (subst (λ ys. Contains ys i) (sym (list_kept us [] p (omega (arith, w, long)))) (users.all i p m h part))
      go i p m part (inr h) = subst (λ k. Contains (numbers_at us2 p) k) (sym h.0) (added.all p (subst (IsPart p) h.1 part))

      old : (k i : ℕ) → Contains (numbers_at us k) i ⊎ Contains {X = ℕ} [] i → i < length (ns ++ node ∷ [])
      old k i (inl h) = let w = users.within k i h in omega (arith, w, longer)
      old k i (inr h) = let w = h.1 in absurd (omega (arith, w))

      inside : (k i : ℕ) → Contains (numbers_at (us ++ [] ∷ []) k) i ⊎ (i ≡ length ns) → i < length (ns ++ node ∷ [])
      inside k i (inl h) = old k i (list_cases us [] k i h)
      inside k i (inr e) = omega (arith, e, longer)

  -- the whole invariant
  module _ (es : List Equation) (cs : List ℕ) (ms us us2 : List (List ℕ)) (T new_table : Node → Option ℕ) (ls ws new_links : List Link) (kept : IsKept ns es cs ms us T ls ws) (w : IsWithin (length ns) node) where
    same_classes : class_in (cs ++ length ns ∷ []) ≡ class_in cs
    same_classes = ap (λ k. class_in (cs ++ k ∷ [])) (sym kept.one_each) ∙ alone_more cs

    pub new_named : AreNamed (length (ns ++ node ∷ [])) (class_in (cs ++ length ns ∷ []))
    new_named = subst (AreNamed (length (ns ++ node ∷ []))) (sym same_classes) (named_more (class_in cs) kept.sound.named)

    pub new_honest : IsHonest (ns ++ node ∷ []) (class_in (cs ++ length ns ∷ [])) T
    new_honest = subst (λ d. IsHonest (ns ++ node ∷ []) d T) (sym same_classes) (honest_more (class_in cs) T kept.tabled.honest)

    pub node_kept : AreUsersAdded (us ++ [] ∷ []) us2 (length ns) (IsPartOf node) → AreEntered (ns ++ node ∷ []) (class_in (cs ++ length ns ∷ [])) T ws new_table new_links (λ i. i ≡ length ns) → IsKept (ns ++ node ∷ []) es (cs ++ length ns ∷ []) (ms ++ (length ns ∷ []) ∷ []) us2 new_table ls new_links
    node_kept added entered = record {
      one_each = length_push cs (length ns) ∙ ap (λ k. k + 1) kept.one_each ∙ sym longer;
      sound = sound_grown (ns ++ node ∷ []) es (class_in (cs ++ length ns ∷ [])) ls T ws new_table new_links (subst (λ d. IsSound (ns ++ node ∷ []) es d ls ws) (sym same_classes) (sound_more es (class_in cs) ls ws w kept.sound)) entered.grown;
      tabled = record { honest = entered.grown.honest; each = λ i v. at i v (cases_lt i (length ns)) };
      members = subst (λ d. AreMembers d (length (ns ++ node ∷ [])) (ms ++ (length ns ∷ []) ∷ [])) (sym same_classes) (members_more (class_in cs) ms kept.sound.named kept.members);
      users = users_more us us2 kept.users added kept.sound.terms.parts;
    }
      where
        at : (i : ℕ) → i < length (ns ++ node ∷ []) → (i < length ns) ⊎ (length ns ≤ i) → IsTabled (ns ++ node ∷ []) (class_in (cs ++ length ns ∷ [])) new_table new_links i
        at i v (inl h) = entered.grown.kept i (subst (λ d. IsTabled (ns ++ node ∷ []) d T ws i) (sym same_classes) (tabled_more (class_in cs) T ws i (kept.tabled.each i h)))
        at i v (inr h) = entered.tabled i (omega (arith, h, v, longer))

-- the same, in the form of the code
module _ (ns : List Node) (es : List Equation) (cs : List ℕ) (ms us : List (List ℕ)) (T : Node → Option ℕ) (ls ws : List Link) (kept : IsKept ns es cs ms us T ls ws) (node : Node) (w : IsWithin (length ns) node) (number : ℕ) (is_number : number ≡ length ns) (ns2 : List Node) (nodes : ns2 ≡ ns ++ node ∷ []) (cs2 : List ℕ) (classes : cs2 ≡ cs ++ number ∷ []) where
  classes_are : cs2 ≡ cs ++ length ns ∷ []
  classes_are = classes ∙ ap (λ k. cs ++ k ∷ []) is_number

  pub node_parts : (i : ℕ) (n : Node) → slice_get ns2 i ≡ Some n → IsWithin (length ns2) n
  node_parts = subst (λ (xs : List Node). (i : ℕ) (n : Node) → slice_get xs i ≡ Some n → IsWithin (length xs) n) (sym nodes) (terms_more ns node es kept.sound.terms w).parts

  pub node_named : AreNamed (length ns2) (class_in cs2)
  node_named =
      subst (λ (xs : List Node). AreNamed (length xs) (class_in cs2)) (sym nodes)
      (subst (λ (xs : List ℕ). AreNamed (length (ns ++ node ∷ [])) (class_in xs)) (sym classes_are) (new_named ns node es cs ms us us T T ls ws ws kept w))

  pub node_honest : IsHonest ns2 (class_in cs2) T
  node_honest =
      subst (λ (xs : List Node). IsHonest xs (class_in cs2) T) (sym nodes)
      (subst (λ (xs : List ℕ). IsHonest (ns ++ node ∷ []) (class_in xs) T) (sym classes_are) (new_honest ns node es cs ms us us T T ls ws ws kept w))

  pub node_in : (ms2 us0 us2 us3 : List (List ℕ)) (new_table : Node → Option ℕ) (new_links : List Link) → ms2 ≡ ms ++ (number ∷ []) ∷ [] → us0 ≡ us ++ [] ∷ [] → us3 ≡ us2 → AreUsersAdded us0 us2 number (IsPartOf node) → AreEntered ns2 (class_in cs2) T ws new_table new_links (λ i. i ≡ number) → IsKept ns2 es cs2 ms2 us3 new_table ls new_links
  node_in ms2 us0 us2 us3 new_table new_links members users same added entered =
      let members_are : ms2 ≡ ms ++ (length ns ∷ []) ∷ [] = members ∙ ap (λ k. ms ++ (k ∷ []) ∷ []) is_number in
      let added_there : AreUsersAdded (us ++ [] ∷ []) us2 (length ns) (IsPartOf node) = subst (λ (k : ℕ). AreUsersAdded (us ++ [] ∷ []) us2 k (IsPartOf node)) is_number (subst (λ (xs : List (List ℕ)). AreUsersAdded xs us2 number (IsPartOf node)) users added) in
      let entered_there : AreEntered (ns ++ node ∷ []) (class_in (cs ++ length ns ∷ [])) T ws new_table new_links (λ i. i ≡ length ns) =
      subst (λ (k : ℕ). AreEntered (ns ++ node ∷ []) (class_in (cs ++ length ns ∷ [])) T ws new_table new_links (λ i. i ≡ k)) is_number
      (subst (λ (xs : List ℕ). AreEntered (ns ++ node ∷ []) (class_in xs) T ws new_table new_links (λ i. i ≡ number)) classes_are
      (subst (λ (xs : List Node). AreEntered xs (class_in cs2) T ws new_table new_links (λ i. i ≡ number)) nodes entered)) in
      subst (λ (xs : List Node). IsKept xs es cs2 ms2 us3 new_table ls new_links) (sym nodes)
      (subst (λ (xs : List ℕ). IsKept (ns ++ node ∷ []) es xs ms2 us3 new_table ls new_links) (sym classes_are)
      (subst (λ (xs : List (List ℕ)). IsKept (ns ++ node ∷ []) es (cs ++ length ns ∷ []) xs us3 new_table ls new_links) (sym members_are)
      (subst (λ (xs : List (List ℕ)). IsKept (ns ++ node ∷ []) es (cs ++ length ns ∷ []) (ms ++ (length ns ∷ []) ∷ []) xs new_table ls new_links) (sym same)
      (node_kept ns node es cs ms us us2 T new_table ls ws new_links kept w added_there entered_there))))
