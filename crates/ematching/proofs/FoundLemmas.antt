-- Numbers that were found, each once.
use Rattle.std.proofs.Common.{◌≡◌, ◌⊎◌, inl, inr, ℕ, ◌<◌, Bool, true, false, cond, eqb, List, [], ◌∷◌, ◌++◌, get_or, Some, refl, sym, ap, ◌∙◌, subst}
use Rattle.std.specs.Prelude.{◌↔◌, slice_get}
use Rattle.std.specs.List.{list_any, IsDistinct}
use Rattle.std.proofs.lemmas.Bool.{or_cases, eqb-true, eq-eqb, cases_order}
use Rattle.std.proofs.lemmas.Option.{slice_get_within, get_or_from_slice_get}
use Rattle.std.proofs.lemmas.Map.Keys.{apart_from_distinct}
use Rattle.indexmap.specs.IndexSet.{insert_key}
use Rattle.ematching.specs.Numbers.{IsAmong, IsOnce}

any_among : (k : ℕ) (ks : List ℕ) → list_any (eqb k) ks ≡ true → IsAmong k ks
any_among k [] e = absurd (cc)
any_among k (n ∷ ks) e = go (or_cases (eqb k n) (list_any (eqb k) ks) e) (λ f. any_among k ks f)
  where
    go : (eqb k n ≡ true) ⊎ (list_any (eqb k) ks ≡ true) → (list_any (eqb k) ks ≡ true → IsAmong k ks) → IsAmong k (n ∷ ks)
    go (inl h) rest = inl (eqb-true k n h)
    go (inr h) rest = inr (rest h)

push_to : (n k : ℕ) (ks : List ℕ) → IsAmong n (ks ++ k ∷ []) → IsAmong n ks ⊎ (n ≡ k)
push_to n k [] (inl e) = inr e
push_to n k [] (inr z) = absurd z
push_to n k (x ∷ ks) (inl e) = inl (inl e)
push_to n k (x ∷ ks) (inr h) = go (push_to n k ks h)
  where
    go : IsAmong n ks ⊎ (n ≡ k) → IsAmong n (x ∷ ks) ⊎ (n ≡ k)
    go (inl e) = inl (inr e)
    go (inr e) = inr e

push_from : (n k : ℕ) (ks : List ℕ) → IsAmong n ks ⊎ (n ≡ k) → IsAmong n (ks ++ k ∷ [])
push_from n k [] (inl z) = absurd z
push_from n k [] (inr e) = inl e
push_from n k (x ∷ ks) (inl (inl e)) = inl e
push_from n k (x ∷ ks) (inl (inr h)) = inr (push_from n k ks (inl h))
push_from n k (x ∷ ks) (inr e) = inr (push_from n k ks (inr e))

-- one more number
pub inserted : (ks ls : List ℕ) (k : ℕ) → ls ≡ insert_key eqb ks k → (n : ℕ) → IsAmong n ls ↔ (IsAmong n ks ⊎ (n ≡ k))
inserted ks ls k e n = go (list_any (eqb k) ks) refl
  where
    go : (b : Bool) → list_any (eqb k) ks ≡ b → IsAmong n ls ↔ (IsAmong n ks ⊎ (n ≡ k))
    go true f =
        let same : ls ≡ ks = e ∙ ap (λ b. cond b ks (ks ++ k ∷ [])) f in
        (λ h. inl (subst (IsAmong n) same h), λ h. subst (IsAmong n) (sym same) (known f h))
      where
        known : list_any (eqb k) ks ≡ true → IsAmong n ks ⊎ (n ≡ k) → IsAmong n ks
        known f (inl h) = h
        known f (inr h) = subst (λ m. IsAmong m ks) (sym h) (any_among k ks f)
    go false f =
        let same : ls ≡ ks ++ k ∷ [] = e ∙ ap (λ b. cond b ks (ks ++ k ∷ [])) f in
        (λ h. push_to n k ks (subst (IsAmong n) same h), λ h. subst (IsAmong n) (sym same) (push_from n k ks h))

pub once_from_distinct : (xs : List ℕ) → IsDistinct eqb xs → IsOnce xs
once_from_distinct xs h = record { once = λ i j x e f. go i j x e f (cases_order i j) }
  where
    apart : (i j x : ℕ) → slice_get xs i ≡ Some x → slice_get xs j ≡ Some x → i < j → ⊥
    apart i j x e f w =
        let differ : eqb (get_or xs i 0) (get_or xs j 0) ≡ false = apart_from_distinct eqb xs i j 0 h w (slice_get_within xs j x f) in
        let same : get_or xs i 0 ≡ get_or xs j 0 = get_or_from_slice_get xs i x 0 e ∙ sym (get_or_from_slice_get xs j x 0 f) in
        let yes : eqb (get_or xs i 0) (get_or xs j 0) ≡ true = eq-eqb (get_or xs i 0) (get_or xs j 0) same in
        absurd (cc)

    go : (i j x : ℕ) → slice_get xs i ≡ Some x → slice_get xs j ≡ Some x → (i ≡ j) ⊎ ((i < j) ⊎ (j < i)) → i ≡ j
    go i j x e f (inl s) = s
    go i j x e f (inr (inl w)) = absurd (apart i j x e f w)
    go i j x e f (inr (inr w)) = absurd (apart j i x f e w)
