-- The last of some nodes.
use Rattle.std.proofs.Common.{◌≡◌, ℕ, ◌+◌, List, [], ◌∷◌, length, refl, ◌∙◌, ap, arith}
use Rattle.typing_rules.specs.Constraint.{Constraint, Barred}
use Rattle.typing_rules.specs.CodeSystems.{last_by}

last_from : {A : Type 0} (ask : ℕ → Constraint) (x : A) (xs : List A) (n : ℕ) → last_by ask (x ∷ xs) n ≡ ask (n + length xs)
last_from ask x [] n = ap ask (omega arith)
last_from ask x (y ∷ ys) n = last_from ask y ys (n + 1) ∙ ap ask (omega arith)

pub last_none : {A : Type 0} (ask : ℕ → Constraint) (xs : List A) (n : ℕ) → length xs ≡ 0 → last_by ask xs n ≡ Barred
last_none ask [] n h = refl
last_none ask (x ∷ xs) n h = absurd (omega arith)

pub last_some : {A : Type 0} (ask : ℕ → Constraint) (xs : List A) (k : ℕ) → length xs ≡ k + 1 → last_by ask xs 0 ≡ ask k
last_some ask [] k h = absurd (omega arith)
last_some ask (x ∷ xs) k h = last_from ask x xs 0 ∙ ap ask (omega arith)
