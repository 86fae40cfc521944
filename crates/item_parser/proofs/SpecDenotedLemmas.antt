-- Tokens denote exactly the spec expression that is read from them.
use Rattle.std.proofs.Common.{◌≡◌, ℕ, suc, ◌+◌, List, Option, Some, None, length, sym, ap, subst, ◌∙◌, arith}
use Rattle.tokens.specs.declared.token.Token.{Token}
use Rattle.syntax_tree.specs.Lexemes.{AreTokens}
use Rattle.syntax_tree.specs.SpecExpressionData.{SpecExpressionData}
use Rattle.syntax_tree.specs.SpecExpressionSpelling.{spec_spelling}
use Rattle.syntax_tree.specs.ProperSpecExpressions.{IsProperSpec}
use Rattle.parser_base.specs.ReadFault.{IfNoTree}
use Rattle.parser_base.specs.declared.fault.ReadFault.{ReadFault}
use Rattle.parser_base.specs.declared.fault.ReadFault.TheVariants.{NoTree, NoMemory as no_memory}
use Rattle.parser_base.proofs.Steps.{some_one}
use Rattle.parser_base.proofs.BeginLemmas.{are_tokens, begin_all}
use Rattle.parser_base.proofs.SpelledTokens.{tokens_for, are_tokens_for}
use Rattle.parser_base.specs.declared.explain.ParseFault.{ParseFault}
use Rattle.parser_base.specs.declared.explain.ParseFault.TheVariants.{Grammar, LeftOut, NoMemory}
use Rattle.parser_base.specs.ParseFault.{Explains}
use Rattle.item_parser.specs.WholeReading.{whole_at}
use Rattle.item_parser.specs.SpecDenoted.{IsSpecExpressionOf, AreOfNoSpecExpression, IsCause}
use Rattle.item_parser.proofs.WholeLemmas.{whole_at-sound, whole_at-complete}

pub read_is_spec_expression : (n : ℕ) (ts : List Token) (e : SpecExpressionData) → whole_at n ts ≡ Some e → IsSpecExpressionOf e ts
read_is_spec_expression n ts e h = let s = whole_at-sound n ts e h in record { spelled = are_tokens (spec_spelling e) ts s.0; proper = s.1 }

-- the spec expression that tokens denote is read from them
pub spec_expression_is_read : (ts : List Token) (e : SpecExpressionData) → IsSpecExpressionOf e ts → whole_at (suc (length ts)) ts ≡ Some e
spec_expression_is_read ts e f = whole_at-complete (length ts) e ts (omega arith) (begin_all (spec_spelling e) ts f.spelled) f.proper

pub none_read : (n : ℕ) (ts : List Token) → n ≡ length ts + 1 → whole_at n ts ≡ None → AreOfNoSpecExpression ts
none_read n ts k h e f = absurd (differs e (sym h ∙ ap (λ m. whole_at m ts) (more n (length ts) k) ∙ spec_expression_is_read ts e f))
  where
    more : (a b : ℕ) → a ≡ b + 1 → a ≡ suc b
    more a b h = omega (arith, h)

    differs : {A : Type 0} (x : A) → ◌≡◌ {A = Option A} None (Some x) → ⊥
    differs x h = cc

-- the reason why no spec expression was read is the reason why the tokens denote none
pub cause_is_known : (ts : List Token) (n : ℕ) (fault : ReadFault) (why : ParseFault) → n ≡ length ts + 1 → IfNoTree fault (whole_at n ts ≡ None) → Explains ts fault why → IsCause ts why
cause_is_known ts n (NoTree left) (Grammar span) k h w = (none_read n ts k h, w.0)
cause_is_known ts n (NoTree left) (LeftOut index) k h w = (none_read n ts k h, w)
cause_is_known ts n (NoTree left) NoMemory k h w = absurd w
cause_is_known ts n no_memory why k h w = subst (IsCause ts) (sym w) tt

pub one_spec_expression : (ts : List Token) (e f : SpecExpressionData) → IsSpecExpressionOf e ts → IsSpecExpressionOf f ts → e ≡ f
one_spec_expression ts e f d g = some_one e f (sym (spec_expression_is_read ts e d) ∙ spec_expression_is_read ts f g)

pub one_spelling : (e f : SpecExpressionData) → IsProperSpec e → IsProperSpec f → spec_spelling e ≡ spec_spelling f → e ≡ f
one_spelling e f p q h =
    one_spec_expression (tokens_for (spec_spelling e)) e f (record { spelled = are_tokens_for (spec_spelling e); proper = p })
    (record { spelled = subst (AreTokens (tokens_for (spec_spelling e))) h (are_tokens_for (spec_spelling e)); proper = q })
