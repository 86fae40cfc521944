-- Signatures, and classes with other representatives.
use Rattle.std.proofs.Common.{◌≡◌, ◌≢◌, ◌⊎◌, inl, inr, ℕ, zero, suc, ◌<◌, ◌≤◌, cond, nat_eq, refl, sym, ap, ◌∙◌, subst, arith}
use Rattle.std.proofs.lemmas.Bool.{cases_eq}
use Rattle.std.proofs.lemmas.Bool.Decides.{nat_tests}
use Rattle.term_pool.specs.declared.node.Node.{Node}
use Rattle.term_pool.specs.declared.node.Node.TheVariants.{Leaf as LeafNode, One as OneNode, Two as TwoNode, Three as ThreeNode}
use Rattle.congruence_closure.specs.Links.{AreAlike}
use Rattle.congruence_closure.specs.Signatures.{signed, AreNamed, renamed, classes_among}
use Rattle.congruence_closure.specs.States.{SameClass, IsPart, IsDead}

-- ---- signatures

pub alike_by_signature : (c : ℕ → ℕ) (m n : Node) → signed c m ≡ signed c n → AreAlike (SameClass c) m n
alike_by_signature c (LeafNode h) (LeafNode k) e = cc
alike_by_signature c (OneNode h a) (OneNode k x) e = (cc, cc)
alike_by_signature c (TwoNode h a b) (TwoNode k x y) e = (cc, cc, cc)
alike_by_signature c (ThreeNode h a b d) (ThreeNode k x y z) e = (cc, cc, cc, cc)
alike_by_signature c _ _ e = absurd (cc)

pub signature_of_alike : (c : ℕ → ℕ) (m n : Node) → AreAlike (SameClass c) m n → signed c m ≡ signed c n
signature_of_alike c (LeafNode h) (LeafNode k) e = ap LeafNode e
signature_of_alike c (OneNode h a) (OneNode k x) e = λ i. OneNode (e.0 i) (e.1 i)
signature_of_alike c (TwoNode h a b) (TwoNode k x y) e = λ i. TwoNode (e.0 i) (e.1 i) (e.2 i)
signature_of_alike c (ThreeNode h a b d) (ThreeNode k x y z) e = λ i. ThreeNode (e.0 i) (e.1 i) (e.2 i) (e.3 i)
signature_of_alike c _ _ e = absurd e

-- the parts of a signature are representatives
part_named : (c : ℕ → ℕ) → ((i : ℕ) → c (c i) ≡ c i) → (n : Node) (p : ℕ) → IsPart p (signed c n) → c p ≡ p
part_named c named (LeafNode h) p part = absurd part
part_named c named (OneNode h a) p e = ap c e ∙ named a ∙ sym e
part_named c named (TwoNode h a b) p (inl e) = ap c e ∙ named a ∙ sym e
part_named c named (TwoNode h a b) p (inr e) = ap c e ∙ named b ∙ sym e
part_named c named (ThreeNode h a b d) p (inl e) = ap c e ∙ named a ∙ sym e
part_named c named (ThreeNode h a b d) p (inr (inl e)) = ap c e ∙ named b ∙ sym e
part_named c named (ThreeNode h a b d) p (inr (inr e)) = ap c e ∙ named d ∙ sym e

-- so a signature is not dead
pub not_dead : (c : ℕ → ℕ) → ((i : ℕ) → c (c i) ≡ c i) → (n : Node) → IsDead c (signed c n) → ⊥
not_dead c named n d = d.dead (part_named c named n d.part d.is_part)

-- a signature depends on the classes of the parts alone
pub signed_by_parts : (c d : ℕ → ℕ) (n : Node) → ((p : ℕ) → IsPart p n → c p ≡ d p) → signed c n ≡ signed d n
signed_by_parts c d (LeafNode h) same = refl
signed_by_parts c d (OneNode h a) same = ap (OneNode h) (same a refl)
signed_by_parts c d (TwoNode h a b) same =
    let e = same a (inl refl) in
    let f = same b (inr refl) in
    λ i. TwoNode h (e i) (f i)
signed_by_parts c d (ThreeNode h x y z) same =
    let e = same x (inl refl) in
    let f = same y (inr (inl refl)) in
    let g = same z (inr (inr refl)) in
    λ i. ThreeNode h (e i) (f i) (g i)

-- ---- another representative

pub renamed_at : (from to x : ℕ) → x ≡ from → renamed from to x ≡ to
renamed_at from to x e = grind (arith, nat_tests)

pub renamed_other : (from to x : ℕ) → x ≢ from → renamed from to x ≡ x
renamed_other from to x e = grind (arith, nat_tests)

-- the classes after one gets another representative
abbrev pub joined : (ℕ → ℕ) → ℕ → ℕ → ℕ → ℕ
joined c from to i = renamed from to (c i)

one_at : (x k : ℕ) → x ≡ k → ◌≡◌ {A = ℕ} (cond (nat_eq x k) 1 0) 1
one_at x k e = grind (arith, nat_tests)

none_at : (x k : ℕ) → x ≢ k → ◌≡◌ {A = ℕ} (cond (nat_eq x k) 1 0) 0
none_at x k e = grind (arith, nat_tests)

module _ (c : ℕ → ℕ) (from to : ℕ) (is_from : c from ≡ from) (is_to : c to ≡ to) (apart : from ≢ to) where
  -- a representative remains one, except for the replaced one
  stays : (k : ℕ) → joined c from to k ≡ k → c k ≡ k
  stays k e = go (cases_eq (c k) from)
    where
      go : (c k ≡ from) ⊎ (c k ≢ from) → c k ≡ k
      go (inl h) = let there : k ≡ to = sym e ∙ renamed_at from to (c k) h in absurd (apart (sym h ∙ ap c there ∙ is_to))
      go (inr h) = sym (renamed_other from to (c k) h) ∙ e

  one_less : (k : ℕ) → cond (nat_eq (joined c from to k) k) 1 0 ≤ cond (nat_eq (c k) k) 1 0
  one_less k = go (cases_eq (joined c from to k) k)
    where
      go : (joined c from to k ≡ k) ⊎ (joined c from to k ≢ k) → cond (nat_eq (joined c from to k) k) 1 0 ≤ cond (nat_eq (c k) k) 1 0
      go (inl e) = let f = one_at (joined c from to k) k e in let g = one_at (c k) k (stays k e) in omega (arith, f, g)
      go (inr e) = let f = none_at (joined c from to k) k e in omega (arith, f)

  no_more : (count : ℕ) → classes_among count (joined c from to) ≤ classes_among count c
  no_more zero = omega arith
  no_more (suc n) = let h = one_less n in let rest = no_more n in omega (arith, h, rest)

  gone : joined c from to from ≢ from
  gone e = apart (sym (sym (renamed_at from to (c from) is_from) ∙ e))

  pub fewer : (count : ℕ) → from < count → classes_among count (joined c from to) < classes_among count c
  fewer zero within = absurd (omega arith)
  fewer (suc n) within = go (cases_eq from n) (λ h. fewer n h)
    where
      go : (from ≡ n) ⊎ (from ≢ n) → (from < n → classes_among n (joined c from to) < classes_among n c) → classes_among (suc n) (joined c from to) < classes_among (suc n) c
      go (inl e) less =
          let f = none_at (joined c from to n) n (subst (λ k. joined c from to k ≢ k) e gone) in
          let g = one_at (c n) n (subst (λ k. c k ≡ k) e is_from) in
          let rest = no_more n in
          omega (arith, f, g, rest)
      go (inr e) less = let h = one_less n in let rest = less (omega (arith, e, within)) in omega (arith, h, rest)

  pub still_named : (count : ℕ) → from < count → to < count → AreNamed count c → AreNamed count (joined c from to)
  still_named count wf wt named = record {
    within = λ i w. inside i w (cases_eq (c i) from);
    named = λ i. again i (cases_eq (c i) from);
    beyond = λ i w. out i w;
  }
    where
      inside : (i : ℕ) → i < count → (c i ≡ from) ⊎ (c i ≢ from) → joined c from to i < count
      inside i w (inl e) = subst (λ k. k < count) (sym (renamed_at from to (c i) e)) wt
      inside i w (inr e) = subst (λ k. k < count) (sym (renamed_other from to (c i) e)) (named.within i w)

      at_to : joined c from to to ≡ to
      at_to = renamed_other from to (c to) (λ e. apart (sym e ∙ is_to)) ∙ is_to

      again : (i : ℕ) → (c i ≡ from) ⊎ (c i ≢ from) → joined c from to (joined c from to i) ≡ joined c from to i
      again i (inl e) = let h = renamed_at from to (c i) e in ap (joined c from to) h ∙ at_to ∙ sym h
      again i (inr e) =
          let h = renamed_other from to (c i) e in
          let own : joined c from to (c i) ≡ c i = ap (renamed from to) (named.named i) ∙ h in
          ap (joined c from to) h ∙ own ∙ sym h

      out : (i : ℕ) → count ≤ i → joined c from to i ≡ i
      out i w = let alone = named.beyond i w in renamed_other from to (c i) (λ e. absurd (omega (arith, alone, e, wf, w))) ∙ alone

  -- a dead signature remains dead
  pub still_dead : (s : Node) → IsDead c s → IsDead (joined c from to) s
  still_dead s d = record { part = d.part; is_part = d.is_part; dead = λ e. d.dead (stays d.part e) }
