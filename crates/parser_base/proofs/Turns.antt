-- Nested trees are read with a nesting of one less.
use Rattle.std.proofs.Common.{◌≡◌, ℕ, zero, suc, ◌<◌, ◌-◌, List, ap, arith}
use Rattle.tokens.specs.declared.token.Token.{Token}
use Rattle.parser_base.specs.TypeReading.{type_at, type_form}
use Rattle.parser_base.specs.PatternReading.{pattern_at, pattern_form}

pub type_at-turn : (n : ℕ) (ts : List Token) → 0 < n → type_at n ts ≡ type_form (type_at (n - 1)) ts
unfolding type_at
type_at-turn zero ts h = absurd (omega (arith, h))
type_at-turn (suc n) ts h = ap (λ k. type_form (type_at k) ts) (omega arith)

pub pattern_at-turn : (n : ℕ) (ts : List Token) → 0 < n → pattern_at n ts ≡ pattern_form (type_at (n - 1)) (pattern_at (n - 1)) ts
unfolding pattern_at
pattern_at-turn zero ts h = absurd (omega (arith, h))
pattern_at-turn (suc n) ts h = ap (λ k. pattern_form (type_at k) (pattern_at k) ts) (omega arith)
