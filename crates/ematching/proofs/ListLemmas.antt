-- Members of lists.
use Rattle.std.proofs.Common.{◌≡◌, ◌⊎◌, inl, inr, ℕ, zero, suc, ◌+◌, ◌<◌, List, [], ◌∷◌, ◌++◌, length, get_or, take, refl, sym, subst, arith}
use Rattle.std.specs.Prelude.{Contains}
use Rattle.std.proofs.lemmas.List.{take_more}
use Rattle.std.proofs.lemmas.List.Elements.{Contains-append_left, Contains-append_right, Contains-push}
use Rattle.ematching.specs.Numbers.{IsAmong}

module _ {X : Type 0} where
  pub among_first : (x : X) (xs ys : List X) → IsAmong x xs → IsAmong x (xs ++ ys)
  among_first x [] ys h = absurd h
  among_first x (z ∷ xs) ys (inl e) = inl e
  among_first x (z ∷ xs) ys (inr h) = inr (among_first x xs ys h)

  pub among_last : (x : X) (xs ys : List X) → IsAmong x ys → IsAmong x (xs ++ ys)
  among_last x [] ys h = h
  among_last x (z ∷ xs) ys h = inr (among_last x xs ys h)

  pub among_cases : (x : X) (xs ys : List X) → IsAmong x (xs ++ ys) → IsAmong x xs ⊎ IsAmong x ys
  among_cases x [] ys h = inr h
  among_cases x (z ∷ xs) ys (inl e) = inl (inl e)
  among_cases x (z ∷ xs) ys (inr h) = go (among_cases x xs ys h)
    where
      go : IsAmong x xs ⊎ IsAmong x ys → IsAmong x (z ∷ xs) ⊎ IsAmong x ys
      go (inl e) = inl (inr e)
      go (inr e) = inr e

  pub among_push : (xs : List X) (x : X) → IsAmong x (xs ++ x ∷ [])
  among_push xs x = among_last x xs (x ∷ []) (inl refl)

  pub among_push_cases : (x y : X) (xs : List X) → IsAmong x (xs ++ y ∷ []) → IsAmong x xs ⊎ (x ≡ y)
  among_push_cases x y xs h = go (among_cases x xs (y ∷ []) h)
    where
      go : IsAmong x xs ⊎ IsAmong x (y ∷ []) → IsAmong x xs ⊎ (x ≡ y)
      go (inl e) = inl e
      go (inr (inl e)) = inr e
      go (inr (inr z)) = absurd z

  -- by index
  pub among_get_or : (xs : List X) (i : ℕ) (d : X) → i < length xs → IsAmong (get_or xs i d) xs
  among_get_or [] i d w = absurd (omega arith)
  among_get_or (x ∷ xs) zero d w = inl refl
  among_get_or (x ∷ xs) (suc i) d w = inr (among_get_or xs i d (omega arith))

  pub among_take_more : (x : X) (xs : List X) (i : ℕ) (d : X) → i < length xs → IsAmong x (take (i + 1) xs) → IsAmong x (take i xs) ⊎ (x ≡ get_or xs i d)
  among_take_more x xs i d w h = among_push_cases x (get_or xs i d) (take i xs) (subst (IsAmong x) (take_more xs i d w) h)

  -- in the form of the standard library
  pub among_contains : (xs : List X) (x : X) → Contains xs x → IsAmong x xs
  among_contains xs x h = subst (λ y. IsAmong y xs) h.2 (among_get_or xs h.0 x h.1)

  pub contains_among : (xs : List X) (x : X) → IsAmong x xs → Contains xs x
  contains_among [] x h = absurd h
  contains_among (y ∷ xs) x (inl e) = Contains-append_left (y ∷ []) xs x (subst (λ z. Contains (y ∷ []) z) (sym e) (Contains-push [] y))
  contains_among (y ∷ xs) x (inr h) = Contains-append_right (y ∷ []) xs x (contains_among xs x h)
