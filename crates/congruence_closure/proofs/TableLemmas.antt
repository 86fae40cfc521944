-- The effect of an entry of the table, or a pending edge, on the invariants.
use Rattle.std.proofs.Common.{◌≡◌, ◌⊎◌, inl, inr, ℕ, ◌+◌, ◌<◌, ◌≤◌, Bool, true, false, cond, List, [], ◌∷◌, ◌++◌, length, get_or, Option, Some, None, refl, sym, ap, ◌∙◌, subst, arith}
use Rattle.std.specs.Prelude.{slice_get, Contains}
use Rattle.std.proofs.lemmas.Bool.{cases_lt}
use Rattle.std.proofs.lemmas.List.{get_or_default}
use Rattle.std.proofs.lemmas.Option.{slice_get_within, slice_get-get_or}
use Rattle.term_pool.specs.NodeCodes.{same_node, same_node_decides}
use Rattle.term_pool.specs.declared.node.Node.{Node}
use Rattle.congruence_closure.specs.Links.{AreAlikeAt}
use Rattle.congruence_closure.specs.Signatures.{class_in, signed, AreNamed}
use Rattle.congruence_closure.specs.States.{numbers_at, SameClass, IsNear, IsDead, IsEntry, IsHonest, IsTabled, IsAlikeLink, IsLinkedUp, IsGrown, AreEntered}
use Rattle.congruence_closure.specs.declared.classes.link.Link.{Link}
use Rattle.congruence_closure.specs.declared.classes.link.Why.TheVariants.{Alike}
use Rattle.congruence_closure.proofs.ListLemmas.{push_kept, push_cases}
use Rattle.congruence_closure.proofs.SignedLemmas.{alike_by_signature, not_dead}

pub near_more : (c : ℕ → ℕ) (ws : List Link) (l : Link) (i j : ℕ) → IsNear c ws i j → IsNear c (ws ++ l ∷ []) i j
near_more c ws l i j (inl e) = inl e
near_more c ws l i j (inr w) = inr (record { position = w.position; link = w.link; found = push_kept ws l w.position w.link w.found; left = w.left; right = w.right })

module _ (ns : List Node) (c : ℕ → ℕ) where
  -- nothing changes
  pub grown_itself : (T : Node → Option ℕ) (ws : List Link) → IsHonest ns c T → IsGrown ns c T ws T ws
  grown_itself T ws honest = record { honest = honest; added = λ k l e. inl e; near = λ i j h. h; kept = λ i h. h }

  pub grown_chained : (T : Node → Option ℕ) (ws : List Link) (T2 : Node → Option ℕ) (ws2 : List Link) (T3 : Node → Option ℕ) (ws3 : List Link) → IsGrown ns c T ws T2 ws2 → IsGrown ns c T2 ws2 T3 ws3 → IsGrown ns c T ws T3 ws3
  grown_chained T ws T2 ws2 T3 ws3 g h = record {
    honest = h.honest;
    added = λ k l e. go k l (h.added k l e);
    near = λ i j n. h.near i j (g.near i j n);
    kept = λ i t. h.kept i (g.kept i t);
  }
    where
      go : (k : ℕ) (l : Link) → (slice_get ws2 k ≡ Some l) ⊎ IsAlikeLink ns c l → (slice_get ws k ≡ Some l) ⊎ IsAlikeLink ns c l
      go k l (inl e) = g.added k l e
      go k l (inr a) = inr a

  module _ (named : AreNamed (length ns) c) (T : Node → Option ℕ) (honest : IsHonest ns c T) (ws : List Link) (number : ℕ) (node : Node) (found : slice_get ns number ≡ Some node) where
    -- the number that has the signature in the table has an equal one
    alike_at : (holder : ℕ) → T (signed c node) ≡ Some holder → AreAlikeAt ns (SameClass c) number holder
    alike_at holder held =
        let e = honest.each (signed c node) holder held in
        record { one = node; other = e.node; is_one = found; is_other = e.found; alike = alike_by_signature c node e.node (same e e.is) }
      where
        same : (e : IsEntry ns c (signed c node) holder) → (signed c e.node ≡ signed c node) ⊎ IsDead c (signed c node) → signed c node ≡ signed c e.node
        same e (inl h) = sym h
        same e (inr d) = absurd (not_dead c named.named node d)

    pub holder_within : (holder : ℕ) → T (signed c node) ≡ Some holder → holder < length ns
    holder_within holder held = let e = honest.each (signed c node) holder held in slice_get_within ns holder e.node e.found

    pub linked_up : (ws2 : List Link) (holder : ℕ) → T (signed c node) ≡ Some holder → IsLinkedUp c ws ws2 number holder → AreEntered ns c T ws T ws2 (λ i. i ≡ number)
    linked_up ws2 holder held up = record {
      grown = record {
        honest = honest;
        added = λ k l e. added up.is k l e;
        near = λ i j h. near up.is i j h;
        kept = λ i t. record { node = t.node; found = t.found; holder = t.holder; held = t.held; near = near up.is i t.holder t.near };
      };
      tabled = λ i e. subst (IsTabled ns c T ws2) (sym e) (record { node = node; found = found; holder = holder; held = held; near = up.near });
    }
      where
        new : Link
        new = record { left = number; right = holder; why = Alike }

        added : (ws2 ≡ ws) ⊎ (ws2 ≡ ws ++ new ∷ []) → (k : ℕ) (l : Link) → slice_get ws2 k ≡ Some l → (slice_get ws k ≡ Some l) ⊎ IsAlikeLink ns c l
        added (inl e) k l h = inl (subst (λ vs. slice_get vs k ≡ Some l) e h)
        added (inr e) k l h = go (push_cases ws new k l (subst (λ vs. slice_get vs k ≡ Some l) e h))
          where
            go : (slice_get ws k ≡ Some l) ⊎ ((k ≡ length ws) × (l ≡ new)) → (slice_get ws k ≡ Some l) ⊎ IsAlikeLink ns c l
            go (inl h) = inl h
            go (inr h) = inr (subst (IsAlikeLink ns c) (sym h.1) (record { why = refl; alike = alike_at holder held; left = slice_get_within ns number node found; right = holder_within holder held }))

        near : (ws2 ≡ ws) ⊎ (ws2 ≡ ws ++ new ∷ []) → (i j : ℕ) → IsNear c ws i j → IsNear c ws2 i j
        near (inl e) i j h = subst (λ vs. IsNear c vs i j) (sym e) h
        near (inr e) i j h = subst (λ vs. IsNear c vs i j) (sym e) (near_more c ws new i j h)

    pub noted : (T2 : Node → Option ℕ) → T (signed c node) ≡ None → ((q : Node) → T2 q ≡ cond (same_node (signed c node) q) (Some number) (T q)) → AreEntered ns c T ws T2 ws (λ i. i ≡ number)
    noted T2 none is = record {
      grown = record {
        honest = record { each = λ s v h. entry s v (same_node (signed c node) s) refl (sym (is s) ∙ h) };
        added = λ k l e. inl e;
        near = λ i j h. h;
        kept = λ i t. record { node = t.node; found = t.found; holder = t.holder; held = stays (signed c t.node) t.holder t.held (same_node (signed c node) (signed c t.node)) refl; near = t.near };
      };
      tabled = λ i e. subst (IsTabled ns c T2 ws) (sym e) (record { node = node; found = found; holder = number; held = is (signed c node) ∙ ap (λ b. cond b (Some number) (T (signed c node))) ((same_node_decides (signed c node) (signed c node)).1 refl); near = inl refl });
    }
      where
        entry : (s : Node) (v : ℕ) (b : Bool) → same_node (signed c node) s ≡ b → cond (same_node (signed c node) s) (Some number) (T s) ≡ Some v → IsEntry ns c s v
        entry s v true t h =
            let at : cond true (Some number) (T s) ≡ Some v = subst (λ b. cond b (Some number) (T s) ≡ Some v) t h in
            let here : number ≡ v = cc in
            subst (IsEntry ns c s) here (record { node = node; found = found; is = inl ((same_node_decides (signed c node) s).0 t) })
        entry s v false t h = honest.each s v (subst (λ b. cond b (Some number) (T s) ≡ Some v) t h)

        stays : (s : Node) (v : ℕ) → T s ≡ Some v → (b : Bool) → same_node (signed c node) s ≡ b → T2 s ≡ Some v
        stays s v held true t =
            let same : signed c node ≡ s = (same_node_decides (signed c node) s).0 t in
            let both : None ≡ Some v = sym none ∙ ap T same ∙ held in
            absurd (cc)
        stays s v held false t = is s ∙ ap (λ b. cond b (Some number) (T s)) t ∙ held

-- ---- the node of a number, in the form of the code

module _ (ns : List Node) (cs : List ℕ) (named : AreNamed (length ns) (class_in cs)) (T : Node → Option ℕ) (honest : IsHonest ns (class_in cs) T) (ws : List Link) (number : ℕ) (d key : Node) (within : number < length ns) (is_key : key ≡ signed (class_in cs) (get_or ns number d)) (r : Option ℕ) (is : r ≡ T key) where
  found : slice_get ns number ≡ Some (get_or ns number d)
  found = slice_get-get_or ns number d within

  at_key : T (signed (class_in cs) (get_or ns number d)) ≡ r
  at_key = ap T (sym is_key) ∙ sym is

  pub key_within : (holder : ℕ) → r ≡ Some holder → holder < length ns
  key_within holder e = holder_within ns (class_in cs) named T honest ws number (get_or ns number d) found holder (at_key ∙ e)

  pub key_linked : (ws2 : List Link) (holder : ℕ) → r ≡ Some holder → IsLinkedUp (class_in cs) ws ws2 number holder → AreEntered ns (class_in cs) T ws T ws2 (λ i. i ≡ number)
  key_linked ws2 holder e up = linked_up ns (class_in cs) named T honest ws number (get_or ns number d) found ws2 holder (at_key ∙ e) up

  pub key_noted : (T2 : Node → Option ℕ) → r ≡ None → ((q : Node) → T2 q ≡ cond (same_node key q) (Some number) (T q)) → AreEntered ns (class_in cs) T ws T2 ws (λ i. i ≡ number)
  key_noted T2 e noted_at = noted ns (class_in cs) named T honest ws number (get_or ns number d) found T2 (at_key ∙ e) (λ q. noted_at q ∙ ap (λ k. cond (same_node k q) (Some number) (T q)) is_key)

-- ---- several nodes

pub entered_chained : (ns : List Node) (c : ℕ → ℕ) (T : Node → Option ℕ) (ws : List Link) (T2 : Node → Option ℕ) (ws2 : List Link) (T3 : Node → Option ℕ) (ws3 : List Link) (These Those All : ℕ → Type 0) → AreEntered ns c T ws T2 ws2 These → AreEntered ns c T2 ws2 T3 ws3 Those → ((i : ℕ) → All i → These i ⊎ Those i) → AreEntered ns c T ws T3 ws3 All
entered_chained ns c T ws T2 ws2 T3 ws3 These Those All a b cases = record {
  grown = grown_chained ns c T ws T2 ws2 T3 ws3 a.grown b.grown;
  tabled = λ i h. go i (cases i h);
}
  where
    go : (i : ℕ) → These i ⊎ Those i → IsTabled ns c T3 ws3 i
    go i (inl h) = b.grown.kept i (a.tabled i h)
    go i (inr h) = b.tabled i h

pub entered_none : (ns : List Node) (c : ℕ → ℕ) (T : Node → Option ℕ) (ws : List Link) (These : ℕ → Type 0) → IsHonest ns c T → ((i : ℕ) → These i → ⊥) → AreEntered ns c T ws T ws These
entered_none ns c T ws These honest none = record { grown = grown_itself ns c T ws honest; tabled = λ i h. absurd (none i h) }

pub entered_fewer : (ns : List Node) (c : ℕ → ℕ) (T : Node → Option ℕ) (ws : List Link) (T2 : Node → Option ℕ) (ws2 : List Link) (These Those : ℕ → Type 0) → AreEntered ns c T ws T2 ws2 These → ((i : ℕ) → Those i → These i) → AreEntered ns c T ws T2 ws2 Those
entered_fewer ns c T ws T2 ws2 These Those a to = record { grown = a.grown; tabled = λ i h. a.tabled i (to i h) }

-- the number is one of the first of a list
abbrev pub IsAmongFirst : List ℕ → ℕ → ℕ → Type 0
IsAmongFirst xs n i = (k : ℕ) × (k < n) × (k < length xs) × (get_or xs k i ≡ i)

pub none_first : (xs : List ℕ) (i : ℕ) → IsAmongFirst xs 0 i → ⊥
none_first xs i h = let w = h.1 in omega (arith, w)

pub first_cases : (xs : List ℕ) (n x i : ℕ) → n < length xs → x ≡ get_or xs n 0 → IsAmongFirst xs (n + 1) i → IsAmongFirst xs n i ⊎ (i ≡ x)
first_cases xs n x i within e h = go (cases_lt h.0 n)
  where
    go : (h.0 < n) ⊎ (n ≤ h.0) → IsAmongFirst xs n i ⊎ (i ≡ x)
    go (inl w) = inl (h.0, w, h.2, h.3)
    go (inr w) =
        let late = h.1 in
        let here : h.0 ≡ n = omega (arith, w, late) in
        inr (sym h.3 ∙ ap (λ k. get_or xs k i) here ∙ get_or_default xs n i 0 within ∙ sym e)

pub among_all : (xs : List ℕ) (n i : ℕ) → length xs ≤ n → Contains xs i → IsAmongFirst xs n i
among_all xs n i long h = let w = h.1 in (h.0, omega (arith, long, w), h.1, h.2)

-- the same for the use lists of numbers
abbrev pub IsUserOfFirst : List (List ℕ) → List ℕ → ℕ → ℕ → Type 0
IsUserOfFirst us xs n i = (m : ℕ) × IsAmongFirst xs n m × Contains (numbers_at us m) i

pub user_cases : (us : List (List ℕ)) (xs : List ℕ) (n x i : ℕ) → n < length xs → x ≡ get_or xs n 0 → IsUserOfFirst us xs (n + 1) i → IsUserOfFirst us xs n i ⊎ Contains (numbers_at us x) i
user_cases us xs n x i within e h = go (first_cases xs n x h.0 within e h.1)
  where
    go : IsAmongFirst xs n h.0 ⊎ (h.0 ≡ x) → IsUserOfFirst us xs n i ⊎ Contains (numbers_at us x) i
    go (inl a) = inl (h.0, a, h.2)
    go (inr a) = inr (subst (λ m. Contains (numbers_at us m) i) a h.2)

pub user_cases_at : (us : List (List ℕ)) (xs : List ℕ) (n x i : ℕ) (ys : List ℕ) → ys ≡ numbers_at us x → n < length xs → x ≡ get_or xs n 0 → IsUserOfFirst us xs (n + 1) i → IsUserOfFirst us xs n i ⊎ Contains ys i
user_cases_at us xs n x i ys is within e h = subst (λ zs. IsUserOfFirst us xs n i ⊎ Contains zs i) (sym is) (user_cases us xs n x i within e h)
