-- Lists that are traversed, and lists that are written in place.
use Rattle.std.proofs.Common.{◌≡◌, ◌⊎◌, inl, inr, ℕ, zero, suc, ◌+◌, ◌<◌, ◌≤◌, List, [], ◌∷◌, length, get_or, set, refl, subst, arith}
use Rattle.std.specs.List.{AllZip, Contains}

-- ---- elements

pub at_head : {X : Type 0} (x : X) (xs : List X) → Contains (x ∷ xs) x
at_head x xs = (0, omega arith, refl)

pub in_tail : {X : Type 0} (x : X) (xs : List X) (y : X) → Contains xs y → Contains (x ∷ xs) y
in_tail x xs y h = (suc h.0, omega (arith, h.1), h.2)

pub in_none : {X : Type 0} (y : X) → Contains [] y → ⊥
in_none y h = absurd (omega (arith, h.1))

pub in_head_or_tail : {X : Type 0} (x : X) (xs : List X) (y : X) → Contains (x ∷ xs) y → (x ≡ y) ⊎ Contains xs y
in_head_or_tail x xs y h = go h.0 h.1 h.2
  where
    go : (k : ℕ) → k < length (x ∷ xs) → get_or (x ∷ xs) k y ≡ y → (x ≡ y) ⊎ Contains xs y
    go zero w e = inl e
    go (suc k) w e = inr (k, omega (arith, w), e)

-- ---- a loop that relates each element to its new value

-- the first elements are related to the old ones, and the others are unchanged
abbrev pub AreSoFar : {X : Type 0} → (X → X → Type 0) → ℕ → List X → List X → Type 0
AreSoFar R zero xs ys = ys ≡ xs
AreSoFar R (suc i) [] [] = Unit {0}
AreSoFar R (suc i) [] (y ∷ ys) = ⊥
AreSoFar R (suc i) (x ∷ xs) [] = ⊥
AreSoFar R (suc i) (x ∷ xs) (y ∷ ys) = R x y × AreSoFar R i xs ys

so_far_next : {X : Type 0} (R : X → X → Type 0) (i : ℕ) (xs ys : List X) (x y : X) → AreSoFar R i xs ys → i < length ys → x ≡ get_or ys i x → R x y → AreSoFar R (suc i) xs (set ys i y)
so_far_next R zero xs [] x y h w e r = absurd (omega (arith, w))
so_far_next R zero xs (z ∷ zs) x y h w e r = subst (λ ws. AreSoFar R 1 ws (y ∷ zs)) h (subst (λ v. R v y) e r, refl)
so_far_next R (suc i) [] [] x y h w e r = absurd (omega (arith, w))
so_far_next R (suc i) [] (z ∷ zs) x y h w e r = absurd h
so_far_next R (suc i) (v ∷ vs) [] x y h w e r = absurd h
so_far_next R (suc i) (v ∷ vs) (z ∷ zs) x y h w e r = (h.0, so_far_next R i vs zs x y h.1 (omega (arith, w)) e r)

pub so_far_more : {X : Type 0} (R : X → X → Type 0) (i : ℕ) (xs ys : List X) (x y : X) → AreSoFar R i xs ys → i < length ys → x ≡ get_or ys i x → R x y → AreSoFar R (i + 1) xs (set ys i y)
so_far_more R i xs ys x y h w e r =
    let next : suc i ≡ i + 1 = omega arith in
    subst (λ k. AreSoFar R k xs (set ys i y)) next (so_far_next R i xs ys x y h w e r)

pub so_far_all : {X : Type 0} (R : X → X → Type 0) (i : ℕ) (xs ys : List X) → AreSoFar R i xs ys → length ys ≤ i → AllZip R xs ys
so_far_all R zero [] [] h w = tt
so_far_all R zero [] (y ∷ ys) h w = absurd (omega (arith, w))
so_far_all R zero (x ∷ xs) [] h w = absurd (cc)
so_far_all R zero (x ∷ xs) (y ∷ ys) h w = absurd (omega (arith, w))
so_far_all R (suc i) [] [] h w = tt
so_far_all R (suc i) [] (y ∷ ys) h w = absurd h
so_far_all R (suc i) (x ∷ xs) [] h w = absurd h
so_far_all R (suc i) (x ∷ xs) (y ∷ ys) h w = (h.0, so_far_all R i xs ys h.1 (omega (arith, w)))
