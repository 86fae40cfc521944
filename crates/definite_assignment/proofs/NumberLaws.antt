-- The first numbers, as a list.
use Rattle.std.proofs.Common.{◌≡◌, ℕ, zero, suc, false, ◌||◌, eqb, ltb, [], ◌∷◌, sym, ap, ◌∙◌, inl, inr, arith, lt-ltb, le-ltb, eq-eqb, ne_eqb}
use Rattle.std.proofs.lemmas.Bool.{cases_lt, cases_eq}
use Rattle.typing_rules.specs.LocalRules.{first_numbers}
use Rattle.definite_assignment.specs.LocalEffects.{is_among}
use Rattle.definite_assignment.proofs.PieceLaws.{among_append}

next_number : (l n : ℕ) → (ltb l n || (eqb n l || false)) ≡ ltb l (suc n)
next_number l n =
    elim (cases_lt l n) [
      | inl b ↦ ap (λ x. x || (eqb n l || false)) (lt-ltb l n b) ∙ sym (lt-ltb l (suc n) (omega arith))
      | inr a ↦ ap (λ x. x || (eqb n l || false)) (le-ltb l n a) ∙ elim (cases_eq n l) [
        | inl e ↦ ap (λ x. x || false) (eq-eqb n l e) ∙ sym (lt-ltb l (suc n) (omega arith))
        | inr d ↦ ap (λ x. x || false) (ne_eqb n l d) ∙ sym (le-ltb l (suc n) (omega (arith, d)))
      ]
    ]

pub among_first : (l n : ℕ) → is_among l (first_numbers n) ≡ ltb l n
among_first l zero = sym (le-ltb l 0 (omega arith))
among_first l (suc n) = among_append l (first_numbers n) (n ∷ []) ∙ ap (λ x. x || (eqb n l || false)) (among_first l n) ∙ next_number l n
