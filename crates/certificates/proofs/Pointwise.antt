-- A comparison of two lists, item by item: the image of one list under a function, with the other.
use Rattle.std.proofs.Common.{◌≡◌, ◌↔◌, ℕ, ◌+◌, ◌<◌, ◌≤◌, List, ◌∷◌, length, get_or, drop, map, sym, ap, ◌∙◌, add-one, drop-cons}
use Rattle.std.proofs.Math.ListN.{drop_of_length-le}
use Rattle.std.proofs.lemmas.List.{length-map}
use Rattle.base.proofs.ListEnds.{head_is, tail_is}

module _ {A B C : Type 0} (f : A → C) (g : B → C) where
  -- the rests of the lists are alike exactly when the lists are
  pub record AlikeFrom (i : ℕ) (xs : List A) (ys : List B) : Type 0 where
    pub rest : (map f (drop i xs) ≡ map g (drop i ys)) ↔ (map f xs ≡ map g ys)

  pub alike_start : (xs : List A) (ys : List B) → AlikeFrom 0 xs ys
  alike_start xs ys = record { rest = (λ e. e, λ e. e) }

  here : (xs : List A) (ys : List B) (i : ℕ) (x : A) (y : B) → i < length xs → i < length ys → x ≡ get_or xs i x → y ≡ get_or ys i y → (map f (drop i xs) ≡ f x ∷ map f (drop (i + 1) xs)) × (map g (drop i ys) ≡ g y ∷ map g (drop (i + 1) ys))
  here xs ys i x y h k e d =
      let left : drop i xs ≡ get_or xs i x ∷ drop (i + 1) xs = rw add-one (drop-cons xs i x h) in
      let right : drop i ys ≡ get_or ys i y ∷ drop (i + 1) ys = rw add-one (drop-cons ys i y k) in
      (ap (map f) left ∙ ap (λ z. f z ∷ map f (drop (i + 1) xs)) (sym e), ap (map g) right ∙ ap (λ z. g z ∷ map g (drop (i + 1) ys)) (sym d))

  pub alike_reversed : (xs : List A) (ys : List B) (i : ℕ) (x : A) (y : B) → i < length xs → i < length ys → x ≡ get_or xs i x → y ≡ get_or ys i y → f x ≡ g y → AlikeFrom i xs ys → AlikeFrom (i + 1) xs ys
  alike_reversed xs ys i x y h k e d same alike =
      let both = here xs ys i x y h k e d in
      record {
        rest = (
          λ p. alike.rest.0 (both.0 ∙ (λ j. same j ∷ p j) ∙ sym both.1),
          λ p. tail_is (sym both.0 ∙ alike.rest.1 p ∙ both.1),
        );
      }

  pub alike_differ : (xs : List A) (ys : List B) (i : ℕ) (x : A) (y : B) → i < length xs → i < length ys → x ≡ get_or xs i x → y ≡ get_or ys i y → (f x ≡ g y → ⊥) → AlikeFrom i xs ys → map f xs ≡ map g ys → ⊥
  alike_differ xs ys i x y h k e d differ alike p =
      let both = here xs ys i x y h k e d in
      differ (head_is (sym both.0 ∙ alike.rest.1 p ∙ both.1))

  pub alike_end : (xs : List A) (ys : List B) (i : ℕ) → length xs ≤ i → length ys ≤ i → AlikeFrom i xs ys → map f xs ≡ map g ys
  alike_end xs ys i e d alike =
      alike.rest.0 (ap (map f) (drop_of_length-le xs e) ∙ sym (ap (map g) (drop_of_length-le ys d)))

  -- lists of different lengths differ
  pub lengths_differ : (xs : List A) (ys : List B) → (length xs ≡ length ys → ⊥) → map f xs ≡ map g ys → ⊥
  lengths_differ xs ys differ p = differ (sym (length-map xs f) ∙ ap length p ∙ length-map ys g)
