-- The ends of the loop over clauses.
use Rattle.std.proofs.Common.{◌≡◌, true, false, cond, List, Some, None, ap}
use Rattle.std.specs.Prelude.{is_some}
use Rattle.tokens.specs.declared.token.Token.{Token}
use Rattle.tokens.specs.declared.token.Punctuation.TheVariants.{RightBrace}
use Rattle.parser_base.specs.TokenReading.{after_sign}
use Rattle.item_parser.specs.BlockReading.{before_clause}

pub no_clause : (ts : List Token) → is_some (after_sign RightBrace ts) ≡ true → before_clause ts ≡ None
unfolding before_clause
no_clause ts e = ap (λ b. cond b None (Some ts)) e

pub one_clause : (ts : List Token) → is_some (after_sign RightBrace ts) ≡ false → before_clause ts ≡ Some ts
unfolding before_clause
one_clause ts e = ap (λ b. cond b None (Some ts)) e
