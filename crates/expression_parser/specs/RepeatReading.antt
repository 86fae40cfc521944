-- Repetition of a step, as long as the tokens continue it.
use Rattle.std.specs.Prelude.{ℕ, zero, suc, Bool, if◌then◌else◌, List, Some, None, option_and_then, length}
use Rattle.tokens.specs.declared.token.Token.{Token}
use Rattle.parser_base.specs.TokenReading.{Read}

-- the result of repeated steps on a value, in at most this many steps; `more` decides whether a step follows
unfoldable pub repeat_at : {X : Type 0} → (List Token → Bool) → (X → List Token → Read X) → ℕ → X → List Token → Read X
repeat_at more step zero x ts = None
repeat_at more step (suc n) x ts = if more ts then option_and_then (λ r. repeat_at more step n r.0 r.1) (step x ts) else Some (x, ts)

-- the same with a step for each token, and one for the end
abbrev pub whole_repeat_at : {X : Type 0} → (List Token → Bool) → (X → List Token → Read X) → X → List Token → Read X
whole_repeat_at more step x ts = repeat_at more step (suc (length ts)) x ts
