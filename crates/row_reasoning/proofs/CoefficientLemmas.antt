-- Coefficients of classes, and one more of them.
use Rattle.std.proofs.Common.{◌≡◌, ◌≢◌, ◌⊎◌, inl, inr, ℕ, zero, suc, ◌+◌, ℤ, pos, ◌+ℤ◌, ◌*ℤ◌, Bool, true, false, cond, nat_eq, List, [], ◌∷◌, ◌++◌, take, Some, None, unwrap_or, refl, sym, ap, ◌∙◌, subst, arith}
use Rattle.std.specs.Prelude.{slice_get}
use Rattle.std.specs.Map.{lookup, keys_of}
use Rattle.std.specs.Option.{SomeIff}
use Rattle.std.specs.List.{IsDistinct, AllByRecursion}
use Rattle.std.proofs.lemmas.Bool.{cases_eq, eq-eqb, ne_eqb}
use Rattle.indexmap.specs.IndexMap.{insert_entry}
use Rattle.linear_arith.specs.Combination.{IsAdded as FitsAdded}
use Rattle.row_reasoning.specs.Sums.{coefficient_in, Has, plus_multiple_of, IsAdded, LeavesAdded}
use Rattle.row_reasoning.proofs.KeptLemmas.{plus_is}

-- ---- look-ups

pub looked_up : (es : List (ℕ × ℤ)) (n : ℕ) → unwrap_or (lookup (nat_eq n) es) (pos 0) ≡ coefficient_in es n
looked_up [] n = refl
looked_up (e ∷ es) n = go (nat_eq n e.0) (looked_up es n)
  where
    go : (b : Bool) → unwrap_or (lookup (nat_eq n) es) (pos 0) ≡ coefficient_in es n → unwrap_or (cond b (Some e.1) (lookup (nat_eq n) es)) (pos 0) ≡ cond b e.1 (coefficient_in es n)
    go true h = refl
    go false h = h

pub has_or : (es : List (ℕ × ℤ)) (n : ℕ) → Has es n ⊎ (Has es n → ⊥)
has_or [] n = inr (λ h. h)
has_or (e ∷ es) n = go (cases_eq n e.0) (has_or es n)
  where
    go : (n ≡ e.0) ⊎ (n ≢ e.0) → Has es n ⊎ (Has es n → ⊥) → Has (e ∷ es) n ⊎ (Has (e ∷ es) n → ⊥)
    go (inl s) h = inl (inl s)
    go (inr s) (inl h) = inl (inr h)
    go (inr s) (inr h) = inr (λ a. elim a [ inl f ↦ s f | inr g ↦ h g ])

by_equal : {X : Type 0} (n m : ℕ) (x y : X) → n ≡ m → cond (nat_eq n m) x y ≡ x
by_equal n m x y e = ap (λ b. cond b x y) (eq-eqb n m e)

by_different : {X : Type 0} (n m : ℕ) (x y : X) → n ≢ m → cond (nat_eq n m) x y ≡ y
by_different n m x y e = ap (λ b. cond b x y) (ne_eqb n m e)

pub absent : (es : List (ℕ × ℤ)) (n : ℕ) → (Has es n → ⊥) → coefficient_in es n ≡ pos 0
absent [] n h = refl
absent (e ∷ es) n h = by_different n e.0 e.1 (coefficient_in es n) (λ s. h (inl s)) ∙ absent es n (λ g. h (inr g))

-- ---- a coefficient that is stored

module _ (k : ℕ) (v : ℤ) where
  pub put_same : (es : List (ℕ × ℤ)) → coefficient_in (insert_entry nat_eq es k v) k ≡ v
  put_same [] = by_equal k k v (pos 0) refl
  put_same (e ∷ es) = go (cases_eq k e.0) (put_same es)
    where
      go : (k ≡ e.0) ⊎ (k ≢ e.0) → coefficient_in (insert_entry nat_eq es k v) k ≡ v → coefficient_in (insert_entry nat_eq (e ∷ es) k v) k ≡ v
      go (inl s) h = ap (λ xs. coefficient_in xs k) (by_equal k e.0 ((e.0, v) ∷ es) (e ∷ insert_entry nat_eq es k v) s) ∙ by_equal k e.0 v (coefficient_in es k) s
      go (inr s) h = ap (λ xs. coefficient_in xs k) (by_different k e.0 ((e.0, v) ∷ es) (e ∷ insert_entry nat_eq es k v) s) ∙ by_different k e.0 e.1 (coefficient_in (insert_entry nat_eq es k v) k) s ∙ h

  pub put_other : (es : List (ℕ × ℤ)) (n : ℕ) → n ≢ k → coefficient_in (insert_entry nat_eq es k v) n ≡ coefficient_in es n
  put_other [] n d = by_different n k v (pos 0) d
  put_other (e ∷ es) n d = go (cases_eq k e.0) (put_other es n d)
    where
      go : (k ≡ e.0) ⊎ (k ≢ e.0) → coefficient_in (insert_entry nat_eq es k v) n ≡ coefficient_in es n → coefficient_in (insert_entry nat_eq (e ∷ es) k v) n ≡ coefficient_in (e ∷ es) n
      go (inl s) h =
          let other : n ≢ e.0 = λ f. d (f ∙ sym s) in
          ap (λ xs. coefficient_in xs n) (by_equal k e.0 ((e.0, v) ∷ es) (e ∷ insert_entry nat_eq es k v) s) ∙ by_different n e.0 v (coefficient_in es n) other ∙ sym (by_different n e.0 e.1 (coefficient_in es n) other)
      go (inr s) h =
          ap (λ xs. coefficient_in xs n) (by_different k e.0 ((e.0, v) ∷ es) (e ∷ insert_entry nat_eq es k v) s)
          ∙ ap (cond (nat_eq n e.0) e.1) h

  pub put_has : (es : List (ℕ × ℤ)) → Has (insert_entry nat_eq es k v) k
  put_has [] = inl refl
  put_has (e ∷ es) = go (cases_eq k e.0) (put_has es)
    where
      go : (k ≡ e.0) ⊎ (k ≢ e.0) → Has (insert_entry nat_eq es k v) k → Has (insert_entry nat_eq (e ∷ es) k v) k
      go (inl s) h = subst (λ xs. Has xs k) (sym (by_equal k e.0 ((e.0, v) ∷ es) (e ∷ insert_entry nat_eq es k v) s)) (inl s)
      go (inr s) h = subst (λ xs. Has xs k) (sym (by_different k e.0 ((e.0, v) ∷ es) (e ∷ insert_entry nat_eq es k v) s)) (inr h)

  pub put_keeps : (es : List (ℕ × ℤ)) (n : ℕ) → Has es n → Has (insert_entry nat_eq es k v) n
  put_keeps [] n h = absurd h
  put_keeps (e ∷ es) n h = go (cases_eq k e.0) h (put_keeps es n)
    where
      go : (k ≡ e.0) ⊎ (k ≢ e.0) → (n ≡ e.0) ⊎ Has es n → (Has es n → Has (insert_entry nat_eq es k v) n) → Has (insert_entry nat_eq (e ∷ es) k v) n
      go (inl s) (inl f) g = subst (λ xs. Has xs n) (sym (by_equal k e.0 ((e.0, v) ∷ es) (e ∷ insert_entry nat_eq es k v) s)) (inl f)
      go (inl s) (inr f) g = subst (λ xs. Has xs n) (sym (by_equal k e.0 ((e.0, v) ∷ es) (e ∷ insert_entry nat_eq es k v) s)) (inr f)
      go (inr s) (inl f) g = subst (λ xs. Has xs n) (sym (by_different k e.0 ((e.0, v) ∷ es) (e ∷ insert_entry nat_eq es k v) s)) (inl f)
      go (inr s) (inr f) g = subst (λ xs. Has xs n) (sym (by_different k e.0 ((e.0, v) ∷ es) (e ∷ insert_entry nat_eq es k v) s)) (inr (g f))

  pub put_cases : (es : List (ℕ × ℤ)) (n : ℕ) → Has (insert_entry nat_eq es k v) n → Has es n ⊎ (n ≡ k)
  put_cases [] n (inl f) = inr f
  put_cases [] n (inr f) = absurd f
  put_cases (e ∷ es) n h = go (cases_eq k e.0) h (put_cases es n)
    where
      split : (n ≡ e.0) ⊎ Has (insert_entry nat_eq es k v) n → (Has (insert_entry nat_eq es k v) n → Has es n ⊎ (n ≡ k)) → Has (e ∷ es) n ⊎ (n ≡ k)
      split (inl f) g = inl (inl f)
      split (inr f) g = elim (g f) [ inl a ↦ inl (inr a) | inr a ↦ inr a ]

      go : (k ≡ e.0) ⊎ (k ≢ e.0) → Has (insert_entry nat_eq (e ∷ es) k v) n → (Has (insert_entry nat_eq es k v) n → Has es n ⊎ (n ≡ k)) → Has (e ∷ es) n ⊎ (n ≡ k)
      go (inl s) f g = inl (subst (λ xs. Has xs n) (by_equal k e.0 ((e.0, v) ∷ es) (e ∷ insert_entry nat_eq es k v) s) f)
      go (inr s) f g = split (subst (λ xs. Has xs n) (by_different k e.0 ((e.0, v) ∷ es) (e ∷ insert_entry nat_eq es k v) s) f) g

-- ---- one more entry at the end

take_next : {X : Type 0} (xs : List X) (k : ℕ) (x : X) → slice_get xs k ≡ Some x → take (suc k) xs ≡ take k xs ++ x ∷ []
take_next [] k x e = absurd (cc)
take_next (y ∷ xs) zero x e = (let same : y ≡ x = cc in ap (λ z. z ∷ []) same)
take_next (y ∷ xs) (suc k) x e = ap (λ zs. y ∷ zs) (take_next xs k x e)

pub take_found : {X : Type 0} (xs : List X) (k : ℕ) (x : X) → slice_get xs k ≡ Some x → take (k + 1) xs ≡ take k xs ++ x ∷ []
take_found xs k x e = (let next : k + 1 ≡ suc k = omega arith in ap (λ n. take n xs) next ∙ take_next xs k x e)

module _ (e : ℕ × ℤ) where
  pub last_same : (es : List (ℕ × ℤ)) → (Has es e.0 → ⊥) → coefficient_in (es ++ e ∷ []) e.0 ≡ e.1
  last_same [] h = by_equal e.0 e.0 e.1 (pos 0) refl
  last_same (x ∷ es) h = by_different e.0 x.0 x.1 (coefficient_in (es ++ e ∷ []) e.0) (λ s. h (inl s)) ∙ last_same es (λ g. h (inr g))

  pub last_other : (es : List (ℕ × ℤ)) (n : ℕ) → n ≢ e.0 → coefficient_in (es ++ e ∷ []) n ≡ coefficient_in es n
  last_other [] n d = by_different n e.0 e.1 (pos 0) d
  last_other (x ∷ es) n d = ap (cond (nat_eq n x.0) x.1) (last_other es n d)

  pub last_has : (es : List (ℕ × ℤ)) → Has (es ++ e ∷ []) e.0
  last_has [] = inl refl
  last_has (x ∷ es) = inr (last_has es)

  pub last_keeps : (es : List (ℕ × ℤ)) (n : ℕ) → Has es n → Has (es ++ e ∷ []) n
  last_keeps [] n h = absurd h
  last_keeps (x ∷ es) n (inl f) = inl f
  last_keeps (x ∷ es) n (inr f) = inr (last_keeps es n f)

  pub last_cases : (es : List (ℕ × ℤ)) (n : ℕ) → Has (es ++ e ∷ []) n → Has es n ⊎ (n ≡ e.0)
  last_cases [] n (inl f) = inr f
  last_cases [] n (inr f) = absurd f
  last_cases (x ∷ es) n (inl f) = inl (inl f)
  last_cases (x ∷ es) n (inr f) = elim (last_cases es n f) [ inl g ↦ inl (inr g) | inr g ↦ inr g ]

-- ---- each class once

key_at : (P : ℕ → Type 0) (es : List (ℕ × ℤ)) (k : ℕ) (e : ℕ × ℤ) → AllByRecursion P (keys_of es) → slice_get es k ≡ Some e → P e.0
key_at P [] k e all f = absurd (cc)
key_at P (x ∷ es) zero e all f = (let same : x ≡ e = cc in subst P (ap (λ (y : ℕ × ℤ). y.0) same) all.0)
key_at P (x ∷ es) (suc k) e all f = key_at P es k e all.1 f

pub not_before : (es : List (ℕ × ℤ)) (k : ℕ) (e : ℕ × ℤ) → IsDistinct nat_eq (keys_of es) → slice_get es k ≡ Some e → Has (take k es) e.0 → ⊥
unfolding IsDistinct
not_before [] k e d f h = absurd (cc)
not_before (x ∷ es) zero e d f h = h
not_before (x ∷ es) (suc k) e d f (inl s) = (let no : nat_eq x.0 e.0 ≡ false = key_at (λ y. nat_eq x.0 y ≡ false) es k e d.0 f in let yes : nat_eq x.0 e.0 ≡ true = eq-eqb x.0 e.0 (sym s) in cc)
not_before (x ∷ es) (suc k) e d f (inr h) = not_before es k e d.1 f h

pub has_at : (es : List (ℕ × ℤ)) (k : ℕ) (e : ℕ × ℤ) → slice_get es k ≡ Some e → Has es e.0
has_at [] k e f = absurd (cc)
has_at (x ∷ es) zero e f = (let same : x ≡ e = cc in inl (sym (ap (λ (y : ℕ × ℤ). y.0) same)))
has_at (x ∷ es) (suc k) e f = inr (has_at es k e f)

pub coefficient_at : (es : List (ℕ × ℤ)) (k : ℕ) (e : ℕ × ℤ) → IsDistinct nat_eq (keys_of es) → slice_get es k ≡ Some e → coefficient_in es e.0 ≡ e.1
unfolding IsDistinct
coefficient_at [] k e d f = absurd (cc)
coefficient_at (x ∷ es) zero e d f = (let same : x ≡ e = cc in ap (λ (y : ℕ × ℤ). coefficient_in (y ∷ es) e.0) same ∙ by_equal e.0 e.0 e.1 (coefficient_in es e.0) refl)
coefficient_at (x ∷ es) (suc k) e d f =
    let no : nat_eq x.0 e.0 ≡ false = key_at (λ y. nat_eq x.0 y ≡ false) es k e d.0 f in
    by_different e.0 x.0 x.1 (coefficient_in es e.0) (λ s. (let yes : nat_eq x.0 e.0 ≡ true = eq-eqb x.0 e.0 (sym s) in absurd (cc))) ∙ coefficient_at es k e d.1 f

-- ---- multiples added up

pub added_none : (factor : ℤ) (es gs : List (ℕ × ℤ)) → gs ≡ es → IsAdded factor es [] gs
added_none factor es gs e = record {
  sums = λ n h. absurd h;
  others = λ n h. ap (λ xs. coefficient_in xs n) e;
  left = λ n h. subst (λ xs. Has xs n) (sym e) h;
  right = λ n h. absurd h;
  from = λ n h. inl (subst (λ xs. Has xs n) e h);
}

module _ (factor : ℤ) (es fs gs hs : List (ℕ × ℤ)) (k : ℕ) (e : ℕ × ℤ) (distinct : IsDistinct nat_eq (keys_of fs)) (found : slice_get fs k ≡ Some e) (before : IsAdded factor es (take k fs) gs) where
  new_class : Has (take k fs) e.0 → ⊥
  new_class = not_before fs k e distinct found

  total_is : coefficient_in es e.0 ≡ coefficient_in gs e.0
  total_is = sym (before.others e.0 new_class)

  pub added_more : (total sum : ℤ) → total ≡ coefficient_in gs e.0 → SomeIff (Some sum) (FitsAdded total (factor *ℤ e.1)) (total +ℤ (factor *ℤ e.1)) → hs ≡ insert_entry nat_eq gs e.0 sum → IsAdded factor es (take (k + 1) fs) hs
  added_more total sum is made put = subst (λ xs. IsAdded factor es (take (k + 1) fs) xs) (sym put) (subst (λ xs. IsAdded factor es xs (insert_entry nat_eq gs e.0 sum)) (sym (take_found fs k e found)) (record {
    sums = λ n h. at n (last_cases e (take k fs) n h);
    others = λ n h. put_other e.0 sum gs n (λ s. h (subst (Has (take k fs ++ e ∷ [])) (sym s) (last_has e (take k fs)))) ∙ before.others n (λ g. h (last_keeps e (take k fs) n g));
    left = λ n h. put_keeps e.0 sum gs n (before.left n h);
    right = λ n h. right n (last_cases e (take k fs) n h);
    from = λ n h. from n (put_cases e.0 sum gs n h);
  }))
    where
      plus : plus_multiple_of total factor e.1 ≡ Some sum
      plus = sym (plus_is total factor e.1 (Some sum) made)

      here : plus_multiple_of (coefficient_in es e.0) factor (coefficient_in (take k fs ++ e ∷ []) e.0) ≡ Some (coefficient_in (insert_entry nat_eq gs e.0 sum) e.0)
      here =
          ap (λ z. plus_multiple_of z factor (coefficient_in (take k fs ++ e ∷ []) e.0)) (total_is ∙ sym is)
          ∙ ap (plus_multiple_of total factor) (last_same e (take k fs) new_class)
          ∙ plus
          ∙ ap Some (sym (put_same e.0 sum gs))

      at : (n : ℕ) → Has (take k fs) n ⊎ (n ≡ e.0) → plus_multiple_of (coefficient_in es n) factor (coefficient_in (take k fs ++ e ∷ []) n) ≡ Some (coefficient_in (insert_entry nat_eq gs e.0 sum) n)
      at n (inl h) =
          let other : n ≢ e.0 = λ s. new_class (subst (Has (take k fs)) s h) in
          ap (plus_multiple_of (coefficient_in es n) factor) (last_other e (take k fs) n other) ∙ before.sums n h ∙ ap Some (sym (put_other e.0 sum gs n other))
      at n (inr s) = subst (λ m. plus_multiple_of (coefficient_in es m) factor (coefficient_in (take k fs ++ e ∷ []) m) ≡ Some (coefficient_in (insert_entry nat_eq gs e.0 sum) m)) (sym s) here

      right : (n : ℕ) → Has (take k fs) n ⊎ (n ≡ e.0) → Has (insert_entry nat_eq gs e.0 sum) n
      right n (inl h) = put_keeps e.0 sum gs n (before.right n h)
      right n (inr s) = subst (Has (insert_entry nat_eq gs e.0 sum)) (sym s) (put_has e.0 sum gs)

      from : (n : ℕ) → Has gs n ⊎ (n ≡ e.0) → Has es n ⊎ Has (take k fs ++ e ∷ []) n
      from n (inl h) = elim (before.from n h) [ inl a ↦ inl a | inr a ↦ inr (last_keeps e (take k fs) n a) ]
      from n (inr s) = inr (subst (Has (take k fs ++ e ∷ [])) (sym s) (last_has e (take k fs)))

  pub added_leaves : (total : ℤ) → total ≡ coefficient_in gs e.0 → SomeIff None (FitsAdded total (factor *ℤ e.1)) (total +ℤ (factor *ℤ e.1)) → LeavesAdded factor es fs
  added_leaves total is made = record {
    class = e.0;
    has = has_at fs k e found;
    leaves = ap (λ z. plus_multiple_of z factor (coefficient_in fs e.0)) (total_is ∙ sym is) ∙ ap (plus_multiple_of total factor) (coefficient_at fs k e distinct found) ∙ sym (plus_is total factor e.1 None made);
  }
