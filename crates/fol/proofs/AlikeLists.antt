-- The comparison of two lists, item by item.
use Rattle.std.proofs.Common.{◌≡◌, ◌↔◌, ◌⊎◌, inl, inr, ℕ, ◌≤◌, List, [], ◌∷◌, length, sym, ◌∙◌, ap, arith}
use Rattle.base.proofs.ListEnds.{head_is, tail_is}

-- the invariant of a comparison of `left` and `right` with the rests xs and ys: the rests are equal exactly where the
-- lists are, they have the same length, and they are no larger than the lists
pub record Alike {A : Type 0} (size : List A → ℕ) (left right xs ys : List A) : Type 0 where
  pub same_rest : (xs ≡ ys) ↔ (left ≡ right)
  pub same_length : length xs ≡ length ys
  pub within : size xs ≤ size left

both_empty : {A : Type 0} (xs ys : List A) → length xs ≡ length ys → (xs ≡ []) ⊎ (ys ≡ []) → xs ≡ ys
both_empty [] [] e h = λ i. []
both_empty [] (y ∷ ys) e h = absurd (omega arith)
both_empty (x ∷ xs) [] e h = absurd (omega arith)
both_empty (x ∷ xs) (y ∷ ys) e (inl h) = absurd (cc)
both_empty (x ∷ xs) (y ∷ ys) e (inr h) = absurd (cc)

module _ {A : Type 0} {size : List A → ℕ} {left right : List A} where
  pub alike_start : (xs ys : List A) → xs ≡ left → ys ≡ right → length left ≡ length right → Alike size left right xs ys
  alike_start xs ys p q e = record {
    same_rest = (λ r. sym p ∙ r ∙ q, λ r. p ∙ r ∙ sym q);
    same_length = ap length p ∙ e ∙ ap length (sym q);
    within = omega (arith, ap size p);
  }

  pub alike_reversed : {x y : A} {xs ys : List A} → Alike size left right (x ∷ xs) (y ∷ ys) → x ≡ y → size xs ≤ size (x ∷ xs) → Alike size left right xs ys
  alike_reversed h e less = record {
    same_rest = (λ p. h.same_rest.0 (λ i. e i ∷ p i), λ p. tail_is (h.same_rest.1 p));
    same_length = omega (arith, h.same_length);
    within = omega (arith, h.within);
  }

  pub alike_differ : {x y : A} {xs ys : List A} → Alike size left right (x ∷ xs) (y ∷ ys) → (x ≡ y → ⊥) → left ≡ right → ⊥
  alike_differ h differ p = differ (head_is (h.same_rest.1 p))

  pub alike_end : {xs ys : List A} → Alike size left right xs ys → (xs ≡ []) ⊎ (ys ≡ []) → left ≡ right
  alike_end {xs} {ys} h none = h.same_rest.0 (both_empty xs ys h.same_length none)
