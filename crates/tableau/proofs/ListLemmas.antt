-- One more item of a list.
use Rattle.std.proofs.Common.{◌≡◌, ◌⊎◌, inl, inr, ℕ, zero, suc, List, [], ◌∷◌, ◌++◌, length, Some, refl, sym, ap}
use Rattle.std.specs.Prelude.{slice_get}

module _ {X : Type 0} where
  pub push_kept : (xs : List X) (y : X) (k : ℕ) (x : X) → slice_get xs k ≡ Some x → slice_get (xs ++ y ∷ []) k ≡ Some x
  push_kept [] y k x e = absurd (cc)
  push_kept (z ∷ xs) y zero x e = e
  push_kept (z ∷ xs) y (suc k) x e = push_kept xs y k x e

  pub push_new : (xs : List X) (y : X) → slice_get (xs ++ y ∷ []) (length xs) ≡ Some y
  push_new [] y = refl
  push_new (z ∷ xs) y = push_new xs y

  -- an item of a list with one more item is one of the old list, or the new one at the end
  pub push_cases : (xs : List X) (y : X) (k : ℕ) (x : X) → slice_get (xs ++ y ∷ []) k ≡ Some x → (slice_get xs k ≡ Some x) ⊎ ((k ≡ length xs) × (x ≡ y))
  push_cases [] y zero x e = inr (refl, (let h : y ≡ x = cc in sym h))
  push_cases [] y (suc k) x e = absurd (cc)
  push_cases (z ∷ xs) y zero x e = inl e
  push_cases (z ∷ xs) y (suc k) x e = go (push_cases xs y k x e)
    where
      go : (slice_get xs k ≡ Some x) ⊎ ((k ≡ length xs) × (x ≡ y)) → (slice_get xs k ≡ Some x) ⊎ ((suc k ≡ suc (length xs)) × (x ≡ y))
      go (inl h) = inl h
      go (inr h) = inr (ap suc h.0, h.1)
