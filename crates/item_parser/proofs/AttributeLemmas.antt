-- Attributes are read exactly.
use Rattle.std.proofs.Common.{◌≡◌, List, [], ◌∷◌, ◌++◌, Some, None, length, refl, subst, ◌∙◌, arith}
use Rattle.std.specs.Prelude.{map}
use Rattle.std.specs.Option.{option_map}
use Rattle.std.specs.List.{AllByRecursion, flat_map}
use Rattle.base.specs.declared.span.Span.{Span}
use Rattle.tokens.specs.declared.token.Token.{Token}
use Rattle.tokens.specs.declared.token.Punctuation.TheVariants.{NumberSign, LeftBracket, RightBracket}
use Rattle.syntax_tree.specs.Lexemes.{sign, sign_at}
use Rattle.syntax_tree.specs.SpecTokenSpelling.{kept}
use Rattle.syntax_tree.specs.declared.member.Attribute.{Attribute}
use Rattle.syntax_tree.specs.MemberSpelling.{attribute_spelling}
use Rattle.syntax_tree.specs.ProperMembers.{IsProperAttribute}
use Rattle.parser_base.specs.Beginnings.{Begins}
use Rattle.parser_base.specs.TokenReading.{after_sign, sign_span_at}
use Rattle.parser_base.specs.BalanceReading.{balanced_at}
use Rattle.parser_base.proofs.Steps.{step, last, bind_some, map_some}
use Rattle.parser_base.proofs.BeginLemmas.{Begins-append, Begins-first}
use Rattle.parser_base.proofs.TokenLemmas.{after_sign-sound, after_sign-complete, sign_span_at-sound, sign_span_at-complete, sign_span_at-none}
use Rattle.parser_base.proofs.BalanceLemmas.{balanced_at-sound, balanced_at-complete}
use Rattle.item_parser.specs.AttributeReading.{attribute_at, placed_attribute_at, attributes_at}
use Rattle.parser_base.proofs.RepeatLemmas.{Opening, repeat_at-sound, repeat_at-complete}

pub attribute_at-sound : (span : Span) (whole ts : List Token) (r : Attribute × List Token) → Begins (sign_at span NumberSign ∷ []) whole ts → attribute_at span ts ≡ Some r
    → Begins (attribute_spelling r.0) whole r.1 × IsProperAttribute r.0
unfolding attribute_at
attribute_at-sound span whole ts r front e =
    let i = step (after_sign LeftBracket ts) _ r e in
    let l = last (balanced_at RightBracket i.value) _ r i.then in
    let b = balanced_at-sound RightBracket i.value l.value l.first in
    subst (λ q. Begins (attribute_spelling q.0) whole q.1 × IsProperAttribute q.0) l.then (
      Begins-append (sign_at span NumberSign ∷ []) (sign LeftBracket ∷ map kept l.value.0 ++ sign RightBracket ∷ []) whole ts l.value.1 front
          (Begins-append (sign LeftBracket ∷ []) (map kept l.value.0 ++ sign RightBracket ∷ []) ts i.value l.value.1 (after_sign-sound LeftBracket ts i.value i.first) b.spelled),
      b.balanced,
    )

pub attribute_at-complete : (a : Attribute) (ts rest : List Token) → Begins (sign LeftBracket ∷ map kept a.tokens ++ sign RightBracket ∷ []) ts rest → IsProperAttribute a → attribute_at a.span ts ≡ Some (a, rest)
unfolding attribute_at
attribute_at-complete a ts rest b p =
    let i = Begins-first (sign LeftBracket) (map kept a.tokens ++ sign RightBracket ∷ []) ts rest b in
    bind_some (after_sign LeftBracket ts) (λ inside. option_map (λ r. (record { span = a.span; tokens = r.0 }, r.1)) (balanced_at RightBracket inside)) i.mid (after_sign-complete LeftBracket ts i.mid i.front)
    ∙ map_some (balanced_at RightBracket i.mid) (λ r. (record { span = a.span; tokens = r.0 }, r.1)) (a.tokens, rest) (balanced_at-complete RightBracket a.tokens i.mid rest refl i.back p)

pub attributes_at-sound : (ts : List Token) (r : List Attribute × List Token) → attributes_at ts ≡ Some r → Begins (flat_map attribute_spelling r.0) ts r.1 × AllByRecursion IsProperAttribute r.0
unfolding attributes_at
attributes_at-sound ts r e =
    repeat_at-sound (sign_span_at NumberSign) placed_attribute_at attribute_spelling IsProperAttribute
    (λ ts p r o i. attribute_at-sound p.0 ts p.1 r (sign_span_at-sound NumberSign ts p o) i) (length ts) ts r e

pub attributes_at-complete : (xs : List Attribute) (ts rest : List Token) → Begins (flat_map attribute_spelling xs) ts rest → AllByRecursion IsProperAttribute xs → after_sign NumberSign rest ≡ None → attributes_at ts ≡ Some (xs, rest)
unfolding attributes_at
attributes_at-complete xs ts rest b p e =
    repeat_at-complete (sign_span_at NumberSign) placed_attribute_at attribute_spelling IsProperAttribute (length ts) (λ a ts rest h b p. opening a ts rest b p) (λ a p. omega arith) (length ts) xs ts rest (omega arith) (omega arith) b p (sign_span_at-none NumberSign rest e)
  where
    opening : (a : Attribute) (ts rest : List Token) → Begins (attribute_spelling a) ts rest → IsProperAttribute a → Opening (sign_span_at NumberSign) placed_attribute_at a ts rest
    opening a ts rest b p =
        let s = Begins-first (sign_at a.span NumberSign) (sign LeftBracket ∷ map kept a.tokens ++ sign RightBracket ∷ []) ts rest b in
        record { value = (a.span, s.mid); first = sign_span_at-complete NumberSign a.span ts s.mid s.front; then = attribute_at-complete a s.mid rest s.back p }
