-- Repeated steps: their result, and one step of the loop.
use Rattle.std.proofs.Common.{◌≡◌, ℕ, zero, suc, Bool, true, false, cond, List, Some, None, ap, subst, ◌∙◌, inl, inr}
use Rattle.std.specs.Prelude.{option_and_then}
use Rattle.tokens.specs.declared.token.Token.{Token}
use Rattle.parser_base.specs.TokenReading.{Read}
use Rattle.parser_base.proofs.Steps.{step, some_one, either_read, bind_some, cond_true, cond_false}
use Rattle.expression_parser.specs.RepeatReading.{repeat_at}

module _ {X : Type 0} (more : List Token → Bool) (one : X → List Token → Read X) where
  -- what each step preserves is preserved
  pub repeat_at-sound : (P : X → List Token → Type 0) → ((x : X) (ts : List Token) (r : X × List Token) → P x ts → one x ts ≡ Some r → P r.0 r.1)
      → (n : ℕ) (x : X) (ts : List Token) (r : X × List Token) → P x ts → repeat_at more one n x ts ≡ Some r → P r.0 r.1
  unfolding repeat_at
  repeat_at-sound P keeps zero x ts r p e = absurd (cc)
  repeat_at-sound P keeps (suc n) x ts r p e =
      elim (either_read (more ts) _ _ r e) [
        | inl c ↦ let s = step (one x ts) _ r c.1 in repeat_at-sound P keeps n s.value.0 s.value.1 r (keeps x ts s.value p s.first) s.then
        | inr c ↦ subst (λ q. P q.0 q.1) (some_one (x, ts) r c.1) p
      ]

  pub repeat_at-turn : (n : ℕ) (x : X) (ts : List Token) (r : X × List Token) → more ts ≡ true → one x ts ≡ Some r → repeat_at more one (suc n) x ts ≡ repeat_at more one n r.0 r.1
  unfolding repeat_at
  repeat_at-turn n x ts r m e = cond_true (more ts) _ _ m ∙ bind_some (one x ts) (λ r. repeat_at more one n r.0 r.1) r e

  pub repeat_at-end : (n : ℕ) (x : X) (ts : List Token) → more ts ≡ false → repeat_at more one (suc n) x ts ≡ Some (x, ts)
  unfolding repeat_at
  repeat_at-end n x ts m = cond_false (more ts) _ _ m

  -- ---- one step of the loop

  turn : ℕ → X → List Token → Bool → Read X → Read X
  turn n x ts goes next = cond goes (option_and_then (λ r. repeat_at more one n r.0 r.1) next) (Some (x, ts))

  pub repeat_is_over : (all : Read X) (k : ℕ) (x : X) (ts : List Token) → all ≡ repeat_at more one k x ts → k ≡ 0 → all ≡ None
  unfolding repeat_at
  repeat_is_over all k x ts before e = before ∙ ap (λ j. repeat_at more one j x ts) e

  pub repeat_ends : (all : Read X) (k n : ℕ) (x : X) (ts : List Token) → all ≡ repeat_at more one k x ts → k ≡ suc n → more ts ≡ false → all ≡ Some (x, ts)
  repeat_ends all k n x ts before e m = before ∙ ap (λ j. repeat_at more one j x ts) e ∙ repeat_at-end n x ts m

  pub repeat_is_stuck : (all : Read X) (k n : ℕ) (x : X) (ts : List Token) → all ≡ repeat_at more one k x ts → k ≡ suc n → more ts ≡ true → one x ts ≡ None → all ≡ None
  unfolding repeat_at turn
  repeat_is_stuck all k n x ts before e m s = before ∙ ap (λ j. repeat_at more one j x ts) e ∙ ap (λ b. turn n x ts b (one x ts)) m ∙ ap (turn n x ts true) s

  pub repeat_goes_on : (all : Read X) (k n : ℕ) (x : X) (ts : List Token) (y : X) (us : List Token) → all ≡ repeat_at more one k x ts → k ≡ suc n → more ts ≡ true → one x ts ≡ Some (y, us) → all ≡ repeat_at more one n y us
  repeat_goes_on all k n x ts y us before e m s = before ∙ ap (λ j. repeat_at more one j x ts) e ∙ repeat_at-turn n x ts (y, us) m s
