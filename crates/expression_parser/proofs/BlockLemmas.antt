-- The bodies of functions are read exactly.
use Rattle.std.proofs.Common.{◌≡◌, ℕ, suc, ◌≤◌, List, [], ◌∷◌, ◌++◌, Some, None, length, sym, ap, subst, ◌∙◌, arith}
use Rattle.base.specs.declared.span.Span.{Span}
use Rattle.tokens.specs.declared.token.Token.{Token}
use Rattle.tokens.specs.declared.token.Punctuation.TheVariants.{LeftBrace, RightBrace}
use Rattle.syntax_tree.specs.declared.lexeme.Lexeme.{Lexeme}
use Rattle.syntax_tree.specs.Lexemes.{sign, sign_at}
use Rattle.syntax_tree.specs.ExpressionData.{BlockExpression, BlockData, BlockOf, items_of, list_of_items, maybe_expression_of}
use Rattle.syntax_tree.specs.ExpressionSpelling.{block_spelling, items_spelling, maybe_expression_spelling}
use Rattle.syntax_tree.specs.ProperExpressions.{IsProperExpression}
use Rattle.parser_base.specs.Beginnings.{Begins}
use Rattle.parser_base.proofs.Steps.{last, map_some}
use Rattle.parser_base.proofs.BeginLemmas.{Begins-append, Begins-same}
use Rattle.parser_base.proofs.TypeLemmas.{type_at-sound, type_at-complete}
use Rattle.parser_base.proofs.PatternLemmas.{pattern_at-sound, pattern_at-complete}
use Rattle.expression_parser.specs.ExpressionReading.{readers, whole_contents_at, body_block_at}
use Rattle.expression_parser.proofs.Sound.{block_spelled, contents-sound, expression_at-sound}
use Rattle.expression_parser.proofs.KindLemmas.{option_of, maybe_option, listed_items}
use Rattle.expression_parser.proofs.Complete.{contents-complete, expression_at-complete}

pub body_block-sound : (n : ℕ) (span : Span) (whole ts : List Token) (r : BlockData × List Token) → Begins (sign_at span LeftBrace ∷ []) whole ts → body_block_at (readers n) span ts ≡ Some r → Begins (block_spelling r.0) whole r.1 × IsProperExpression (BlockExpression r.0)
unfolding body_block_at
body_block-sound n span whole ts r front e =
    let l = last (whole_contents_at (readers n) ts) _ r e in
    let c = contents-sound (readers n) (type_at-sound n) (pattern_at-sound n) (expression_at-sound n) (length ts) ts l.value l.first in
    let inside = items_spelling (items_of l.value.0.0) ++ (maybe_expression_spelling (maybe_expression_of l.value.0.1) ++ sign RightBrace ∷ []) in
    subst (λ q. Begins (block_spelling q.0) whole q.1 × IsProperExpression (BlockExpression q.0)) l.then (
      Begins-same _ _ whole l.value.1 (sym (block_spelled (sign_at span LeftBrace) (items_spelling (items_of l.value.0.0)) (maybe_expression_spelling (maybe_expression_of l.value.0.1)) (sign RightBrace ∷ [])))
          (Begins-append (sign_at span LeftBrace ∷ []) inside whole ts l.value.1 front c.spelled),
      (tt, c.items_proper, c.value_proper),
    )

-- the span of a block's brace
abbrev pub block_span : BlockData → Span
block_span (BlockOf span spec items value) = span

-- a block without its brace
abbrev pub block_inside : BlockData → List Lexeme
block_inside (BlockOf span spec items value) = items_spelling items ++ (maybe_expression_spelling value ++ sign RightBrace ∷ [])

pub body_block_spelled : (b : BlockData) → IsProperExpression (BlockExpression b) → block_spelling b ≡ sign_at (block_span b) LeftBrace ∷ block_inside b
body_block_spelled (BlockOf span None items value) p = block_spelled (sign_at span LeftBrace) (items_spelling items) (maybe_expression_spelling value) (sign RightBrace ∷ [])
body_block_spelled (BlockOf span (Some spec) items value) p = absurd p.0

pub body_block-complete : (n : ℕ) (b : BlockData) (ts rest : List Token) → length ts ≤ n → Begins (block_inside b) ts rest → IsProperExpression (BlockExpression b) → body_block_at (readers (suc n)) (block_span b) ts ≡ Some (b, rest)
unfolding body_block_at
body_block-complete n (BlockOf span (Some spec) items value) ts rest h b p = absurd p.0
body_block-complete n (BlockOf span None items value) ts rest h b p =
    map_some (whole_contents_at (readers (suc n)) ts) (λ c. (BlockOf span None (items_of c.0.0) (maybe_expression_of c.0.1), c.1)) ((list_of_items items, option_of value), rest)
    (contents-complete n (readers (suc n)) (type_at-complete n) (pattern_at-complete n) (expression_at-complete n) (length ts) items value ts rest (omega arith) h b p.1 p.2)
    ∙ ap (λ xs. Some (BlockOf span None xs (maybe_expression_of (option_of value)), rest)) (listed_items items) ∙ ap (λ w. Some (BlockOf span None items w, rest)) (maybe_option value)
