-- One more item of a list.
use Rattle.std.proofs.Common.{◌≡◌, ◌≢◌, ◌⊎◌, inl, inr, ℕ, zero, suc, ◌<◌, ◌≤◌, List, [], ◌∷◌, ◌++◌, length, take, drop, Some, refl, sym, ap, ◌∙◌, arith}
use Rattle.std.specs.Prelude.{slice_get}
use Rattle.std.proofs.lemmas.Bool.{cases_eq, cases_lt}
use Rattle.std.proofs.lemmas.List.{get_or_append_left, get_or_past, get_or_push, length_push}
use Rattle.congruence_closure.specs.Signatures.{class_in}

module _ {X : Type 0} where
  pub push_kept : (xs : List X) (y : X) (k : ℕ) (x : X) → slice_get xs k ≡ Some x → slice_get (xs ++ y ∷ []) k ≡ Some x
  push_kept [] y k x e = absurd (cc)
  push_kept (z ∷ xs) y zero x e = e
  push_kept (z ∷ xs) y (suc k) x e = push_kept xs y k x e

  pub push_new : (xs : List X) (y : X) → slice_get (xs ++ y ∷ []) (length xs) ≡ Some y
  push_new [] y = refl
  push_new (z ∷ xs) y = push_new xs y

  -- an item of a list with one more item is one of the old list, or the new one at the end
  pub push_cases : (xs : List X) (y : X) (k : ℕ) (x : X) → slice_get (xs ++ y ∷ []) k ≡ Some x → (slice_get xs k ≡ Some x) ⊎ ((k ≡ length xs) × (x ≡ y))
  push_cases [] y zero x e = inr (refl, (let h : y ≡ x = cc in sym h))
  push_cases [] y (suc k) x e = absurd (cc)
  push_cases (z ∷ xs) y zero x e = inl e
  push_cases (z ∷ xs) y (suc k) x e = go (push_cases xs y k x e)
    where
      go : (slice_get xs k ≡ Some x) ⊎ ((k ≡ length xs) × (x ≡ y)) → (slice_get xs k ≡ Some x) ⊎ ((suc k ≡ suc (length xs)) × (x ≡ y))
      go (inl h) = inl h
      go (inr h) = inr (ap suc h.0, h.1)

  pub take_push : (xs : List X) (y : X) (k : ℕ) → k ≤ length xs → take k (xs ++ y ∷ []) ≡ take k xs
  take_push [] y zero h = refl
  take_push [] y (suc k) h = absurd (omega arith)
  take_push (z ∷ xs) y zero h = refl
  take_push (z ∷ xs) y (suc k) h = ap (λ zs. z ∷ zs) (take_push xs y k (omega arith))

  pub take_length : (xs : List X) → take (length xs) xs ≡ xs
  take_length [] = refl
  take_length (x ∷ xs) = ap (λ ys. x ∷ ys) (take_length xs)

module _ {X : Type 0} where
  drop_whole : (xs : List X) (n : ℕ) → length xs ≤ n → drop n xs ≡ []
  drop_whole [] zero h = refl
  drop_whole [] (suc n) h = refl
  drop_whole (x ∷ xs) zero h = absurd (omega arith)
  drop_whole (x ∷ xs) (suc n) h = drop_whole xs n (omega arith)

  take_whole : (xs : List X) (n : ℕ) → length xs ≤ n → take n (xs ++ []) ≡ xs
  take_whole [] zero h = refl
  take_whole [] (suc n) h = refl
  take_whole (x ∷ xs) zero h = absurd (omega arith)
  take_whole (x ∷ xs) (suc n) h = ap (λ ys. x ∷ ys) (take_whole xs n (omega arith))

  -- a list of the same length that is written over another one
  pub written : (n : ℕ) (old new : List X) → length new ≡ length old → n ≡ length old → take n (new ++ drop (length new) old) ≡ new
  written n old new long all = ap (λ xs. take n (new ++ xs)) (drop_whole old (length new) (omega (arith, long))) ∙ take_whole new n (omega (arith, long, all))

-- a number that is alone
pub alone_more : (cs : List ℕ) → class_in (cs ++ length cs ∷ []) ≡ class_in cs
alone_more cs = λ t i. go i (cases_eq i (length cs)) (cases_lt i (length cs)) t
  where
    go : (i : ℕ) → (i ≡ length cs) ⊎ (i ≢ length cs) → (i < length cs) ⊎ (length cs ≤ i) → class_in (cs ++ length cs ∷ []) i ≡ class_in cs i
    go i (inl e) w = get_or_push cs (length cs) i i (sym e) ∙ sym e ∙ sym (get_or_past cs i i (omega arith))
    go i (inr e) (inl w) = get_or_append_left cs (length cs ∷ []) i i w
    go i (inr e) (inr w) =
        let long = length_push cs (length cs) in
        get_or_past (cs ++ length cs ∷ []) i i (omega arith) ∙ sym (get_or_past cs i i w)
