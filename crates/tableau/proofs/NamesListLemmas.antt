-- Items of lists.
use Rattle.std.proofs.Common.{◌≡◌, ℕ, zero, suc, ◌+◌, ◌≤◌, List, [], ◌∷◌, ◌++◌, length, take, Some, None, ap, ◌∙◌, arith}
use Rattle.std.specs.Prelude.{slice_get}
use Rattle.std.proofs.lemmas.List.{take_more}
use Rattle.std.proofs.lemmas.Option.{slice_get_within, get_or_from_slice_get}

module _ {X : Type 0} where
  pub found_kept : (xs ys : List X) (i : ℕ) (x : X) → slice_get xs i ≡ Some x → slice_get (xs ++ ys) i ≡ Some x
  found_kept [] ys i x h = absurd (cc)
  found_kept (z ∷ xs) ys zero x h = h
  found_kept (z ∷ xs) ys (suc i) x h = found_kept xs ys i x h

  -- one more item
  pub take_found : (xs : List X) (i : ℕ) (x : X) → slice_get xs i ≡ Some x → take (i + 1) xs ≡ take i xs ++ x ∷ []
  take_found xs i x h = take_more xs i x (slice_get_within xs i x h) ∙ ap (λ y. take i xs ++ y ∷ []) (get_or_from_slice_get xs i x x h)

  pub past_end : (xs : List X) (i : ℕ) → None ≡ slice_get xs i → length xs ≤ i
  past_end [] i h = omega arith
  past_end (x ∷ xs) zero h = absurd (cc)
  past_end (x ∷ xs) (suc i) h = (let l = past_end xs i h in omega (arith, l))
