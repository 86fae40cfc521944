-- The elements that a loop over a list has visited, and lists made of others element by element.
use Rattle.std.proofs.Common.{◌≡◌, ◌⊎◌, inl, inr, ℕ, suc, ◌+◌, ◌<◌, List, [], ◌∷◌, length, map, take, get_or, refl, sym, subst, arith}
use Rattle.std.specs.Prelude.{Contains}
use Rattle.std.specs.List.{flat_map}
use Rattle.std.proofs.lemmas.List.{take_more}
use Rattle.std.proofs.lemmas.List.Elements.{Contains-append_left, Contains-append_cases, Contains-push, Contains-push_cases}

pub none_taken : {X : Type 0} (x : X) → Contains [] x → ⊥
none_taken x h = let w = h.1 in omega (arith, w)

module _ {X : Type 0} (xs : List X) (i : ℕ) (d : X) (w : i < length xs) where
  pub taken_kept : (x : X) → Contains (take i xs) x → Contains (take (i + 1) xs) x
  taken_kept x h = subst (λ ys. Contains ys x) (sym (take_more xs i d w)) (Contains-append_left (take i xs) (get_or xs i d ∷ []) x h)

  pub taken_last : Contains (take (i + 1) xs) (get_or xs i d)
  taken_last = subst (λ ys. Contains ys (get_or xs i d)) (sym (take_more xs i d w)) (Contains-push (take i xs) (get_or xs i d))

  pub taken_cases : (x : X) → Contains (take (i + 1) xs) x → Contains (take i xs) x ⊎ (get_or xs i d ≡ x)
  taken_cases x h = Contains-push_cases (take i xs) (get_or xs i d) x (subst (λ ys. Contains ys x) (take_more xs i d w) h)

module _ {X : Type 0} where
  pub here : (xs : List X) (x : X) → Contains (x ∷ xs) x
  here xs x = (0, omega arith, refl)

  pub later : (xs : List X) (y x : X) → Contains xs x → Contains (y ∷ xs) x
  later xs y x (k, w, e) = (suc k, omega (arith, w), e)

  the_one : (x y : X) → Contains (x ∷ []) y → x ≡ y
  the_one x y h = (elim (Contains-push_cases [] x y h) [ inl z ↦ absurd (none_taken y z) | inr e ↦ e ])

-- an element of which the other one is made
pub record IsMapped {X Y : Type 0} (f : X → Y) (xs : List X) (y : Y) : Type 0 where
  pub element : X
  pub among : Contains xs element
  pub is : f element ≡ y

pub of_map : {X Y : Type 0} (f : X → Y) (xs : List X) (y : Y) → Contains (map f xs) y → IsMapped f xs y
of_map f [] y h = absurd (none_taken y h)
of_map f (x ∷ xs) y h = elim (Contains-append_cases (f x ∷ []) (map f xs) y h) [
  | inl o ↦ record { element = x; among = here xs x; is = the_one (f x) y o }
  | inr o ↦ (let rest = of_map f xs y o in record { element = rest.element; among = later xs x rest.element rest.among; is = rest.is })
]

pub record IsFlat {X Y : Type 0} (f : X → List Y) (xs : List X) (y : Y) : Type 0 where
  pub element : X
  pub among : Contains xs element
  pub has : Contains (f element) y

pub of_flat_map : {X Y : Type 0} (f : X → List Y) (xs : List X) (y : Y) → Contains (flat_map f xs) y → IsFlat f xs y
of_flat_map f [] y h = absurd (none_taken y h)
of_flat_map f (x ∷ xs) y h = elim (Contains-append_cases (f x) (flat_map f xs) y h) [
  | inl o ↦ record { element = x; among = here xs x; has = o }
  | inr o ↦ (let rest = of_flat_map f xs y o in record { element = rest.element; among = later xs x rest.element rest.among; has = rest.has })
]
