-- A property of each element, by its number, once one more is appended.
use Rattle.std.proofs.Common.{◌≡◌, ℕ, ◌+◌, ◌<◌, inl, inr, List, [], ◌∷◌, ◌++◌, length, get_or, Some, sym, ◌∙◌, ap, subst, arith}
use Rattle.std.specs.Prelude.{slice_get}
use Rattle.std.proofs.lemmas.Bool.{cases_lt}
use Rattle.std.proofs.lemmas.List.{get_or_append_left, get_or_push, length_push}
use Rattle.std.proofs.lemmas.Option.{slice_get-get_or, slice_get_within, get_or_from_slice_get}

pub pushed : {A : Type 0} (P : ℕ → A → Type 0) (old new : List A) (x : A) (n : ℕ) → length old ≡ n → new ≡ old ++ x ∷ []
    → ((k : ℕ) (a : A) → slice_get old k ≡ Some a → P k a) → P n x → (k : ℕ) (a : A) → slice_get new k ≡ Some a → P k a
pushed {A} P old new x n long is each here k a at =
    let stands : slice_get (old ++ x ∷ []) k ≡ Some a = ap (λ (xs : List A). slice_get xs k) (sym is) ∙ at in
    let read : get_or (old ++ x ∷ []) k a ≡ a = get_or_from_slice_get (old ++ x ∷ []) k a a stands in
    let within = slice_get_within (old ++ x ∷ []) k a stands in
    let longer = length_push old x in
    elim (cases_lt k n) [
      | inl before ↦
          let below : k < length old = omega (arith, before, long) in
          each k a (slice_get-get_or old k a below ∙ ap (λ (b : A). Some b) (sym (get_or_append_left old (x ∷ []) a k below) ∙ read))
      | inr past ↦
          let last : length old ≡ k = omega (arith, past, within, longer, long) in
          let same : x ≡ a = sym (get_or_push old x a k last) ∙ read in
          subst (λ (b : A). P k b) same (subst (λ (m : ℕ). P m x) (sym long ∙ last) here)
    ]

pub longer : {A : Type 0} (old new : List A) (x : A) (n : ℕ) → length old ≡ n → new ≡ old ++ x ∷ [] → length new ≡ n + 1
longer {A} old new x n long is =
    let size : length new ≡ length (old ++ x ∷ []) = ap (λ (xs : List A). length xs) is in
    let more = length_push old x in
    omega (arith, long, size, more)
