-- Spec expressions in clauses are read exactly, and so are the clauses with just one of them.
use Rattle.std.proofs.Common.{◌≡◌, ℕ, suc, ◌≤◌, true, List, [], ◌∷◌, ◌++◌, Some, length, refl, sym, ap, subst, ◌∙◌, arith, append-nil}
use Rattle.base.specs.declared.span.Span.{Span}
use Rattle.tokens.specs.declared.token.Token.{Token}
use Rattle.tokens.specs.declared.token.Punctuation.TheVariants.{Semicolon}
use Rattle.syntax_tree.specs.declared.lexeme.Lexeme.{Lexeme}
use Rattle.syntax_tree.specs.Lexemes.{sign}
use Rattle.syntax_tree.specs.SpecExpressionData.{SpecExpressionData}
use Rattle.syntax_tree.specs.SpecExpressionSpelling.{spec_spelling}
use Rattle.syntax_tree.specs.ProperSpecExpressions.{IsProperSpec}
use Rattle.syntax_tree.specs.ClauseSpelling.{requires_word, ensures_word, aborts_if_word, code_spelling, condition_spelling, clause_spelling}
use Rattle.syntax_tree.specs.ProperClauses.{IsProperForm}
use Rattle.syntax_tree.specs.declared.clause.AbortCode.TheVariants.{Bare}
use Rattle.syntax_tree.specs.declared.clause.Clause.{Clause}
use Rattle.syntax_tree.specs.declared.clause.Clause.TheVariants.{Requires as requires_clause, Ensures as ensures_clause, AbortsIf as aborts_if_clause}
use Rattle.parser_base.specs.Beginnings.{Begins}
use Rattle.parser_base.specs.TokenReading.{after_sign}
use Rattle.parser_base.proofs.Steps.{step, last, bind_some, map_some}
use Rattle.parser_base.proofs.BeginLemmas.{Begins-append, Begins-split, Begins-same}
use Rattle.parser_base.proofs.TokenLemmas.{after_sign-sound, after_sign-complete}
use Rattle.expression_parser.specs.SpecReading.{spec_at}
use Rattle.expression_parser.proofs.TermSound.{ReadsSpecs}
use Rattle.expression_parser.proofs.SpecTermComplete.{SpecEnds, ReadsBackSpecs, sign_ends}
use Rattle.expression_parser.proofs.FormSound.{spec_at-sound}
use Rattle.expression_parser.proofs.FormComplete.{spec_at-complete}
use Rattle.item_parser.specs.ClauseReading.{condition_at, requires_at, ensures_at, aborts_if_at}

-- ---- spec expressions

pub spec_sound : (n : ℕ) → ReadsSpecs (spec_at n true 0)
spec_sound n ts r e = let s = spec_at-sound n true 0 ts r (omega arith) e in (s.spelled, s.is_proper)

pub spec_complete : (n : ℕ) → ReadsBackSpecs n (spec_at (suc n) true 0)
spec_complete n e ts rest h b p d = (spec_at-complete n).loose true e ts rest h b p tt d

-- a spec expression ends before the end of its clause
pub before_semicolon : (ts rest : List Token) → Begins (sign Semicolon ∷ []) ts rest → SpecEnds true ts
before_semicolon ts rest b = sign_ends true Semicolon (refl, refl, λ h. refl, refl, refl, refl, refl) [] ts rest b

pub condition_at-sound : (n : ℕ) (ts : List Token) (r : SpecExpressionData × List Token) → condition_at n ts ≡ Some r → Begins (condition_spelling r.0) ts r.1 × IsProperSpec r.0
unfolding condition_at
condition_at-sound n ts r e =
    let s = step (spec_at n true 0 ts) _ r e in
    let l = last (after_sign Semicolon s.value.1) (λ rest. (s.value.0, rest)) r s.then in
    let read = spec_sound n ts s.value s.first in
    subst (λ q. Begins (condition_spelling q.0) ts q.1 × IsProperSpec q.0) l.then
    (Begins-append (spec_spelling s.value.0) (sign Semicolon ∷ []) ts s.value.1 l.value read.0 (after_sign-sound Semicolon s.value.1 l.value l.first), read.1)

pub condition_at-complete : (n : ℕ) (e : SpecExpressionData) (ts rest : List Token) → length ts ≤ n → Begins (condition_spelling e) ts rest → IsProperSpec e → condition_at (suc n) ts ≡ Some (e, rest)
unfolding condition_at
condition_at-complete n e ts rest h b p =
    let s = Begins-split (spec_spelling e) (sign Semicolon ∷ []) ts rest b in
    bind_some (spec_at (suc n) true 0 ts) _ (e, s.mid) (spec_complete n e ts s.mid h s.front p (before_semicolon s.mid rest s.back))
    ∙ map_some (after_sign Semicolon s.mid) (λ rest. (e, rest)) rest (after_sign-complete Semicolon s.mid rest s.back)

-- ---- clauses with one condition

pub requires_at-sound : (n : ℕ) (span : Span) (whole ts : List Token) (r : Clause × List Token) → Begins (requires_word span ∷ []) whole ts → requires_at n span ts ≡ Some r → Begins (clause_spelling r.0) whole r.1 × IsProperForm r.0
unfolding requires_at
requires_at-sound n span whole ts r front e =
    let l = last (condition_at n ts) (λ e. (requires_clause span e.0, e.1)) r e in
    let read = condition_at-sound n ts l.value l.first in
    subst (λ q. Begins (clause_spelling q.0) whole q.1 × IsProperForm q.0) l.then
    (Begins-append (requires_word span ∷ []) (condition_spelling l.value.0) whole ts l.value.1 front read.0, read.1)

pub requires_at-complete : (n : ℕ) (span : Span) (e : SpecExpressionData) (ts rest : List Token) → length ts ≤ n → Begins (condition_spelling e) ts rest → IsProperSpec e → requires_at (suc n) span ts ≡ Some (requires_clause span e, rest)
unfolding requires_at
requires_at-complete n span e ts rest h b p = map_some (condition_at (suc n) ts) (λ e. (requires_clause span e.0, e.1)) (e, rest) (condition_at-complete n e ts rest h b p)

pub ensures_at-sound : (n : ℕ) (span : Span) (whole ts : List Token) (r : Clause × List Token) → Begins (ensures_word span ∷ []) whole ts → ensures_at n span ts ≡ Some r → Begins (clause_spelling r.0) whole r.1 × IsProperForm r.0
unfolding ensures_at
ensures_at-sound n span whole ts r front e =
    let l = last (condition_at n ts) (λ e. (ensures_clause span e.0, e.1)) r e in
    let read = condition_at-sound n ts l.value l.first in
    subst (λ q. Begins (clause_spelling q.0) whole q.1 × IsProperForm q.0) l.then
    (Begins-append (ensures_word span ∷ []) (condition_spelling l.value.0) whole ts l.value.1 front read.0, read.1)

pub ensures_at-complete : (n : ℕ) (span : Span) (e : SpecExpressionData) (ts rest : List Token) → length ts ≤ n → Begins (condition_spelling e) ts rest → IsProperSpec e → ensures_at (suc n) span ts ≡ Some (ensures_clause span e, rest)
unfolding ensures_at
ensures_at-complete n span e ts rest h b p = map_some (condition_at (suc n) ts) (λ e. (ensures_clause span e.0, e.1)) (e, rest) (condition_at-complete n e ts rest h b p)

-- without a code, the condition ends the clause
bare_spelled : (l : Lexeme) (e : SpecExpressionData) → ((l ∷ spec_spelling e) ++ code_spelling Bare) ++ sign Semicolon ∷ [] ≡ l ∷ condition_spelling e
bare_spelled l e = ap (λ ls. ls ++ sign Semicolon ∷ []) (append-nil (l ∷ spec_spelling e))

pub aborts_if_at-sound : (n : ℕ) (span : Span) (whole ts : List Token) (r : Clause × List Token) → Begins (aborts_if_word span ∷ []) whole ts → aborts_if_at n span ts ≡ Some r → Begins (clause_spelling r.0) whole r.1 × IsProperForm r.0
unfolding aborts_if_at
aborts_if_at-sound n span whole ts r front e =
    let l = last (condition_at n ts) (λ e. (aborts_if_clause span e.0 Bare, e.1)) r e in
    let read = condition_at-sound n ts l.value l.first in
    subst (λ q. Begins (clause_spelling q.0) whole q.1 × IsProperForm q.0) l.then (
      Begins-same _ _ whole l.value.1 (sym (bare_spelled (aborts_if_word span) l.value.0)) (Begins-append (aborts_if_word span ∷ []) (condition_spelling l.value.0) whole ts l.value.1 front read.0),
      (read.1, tt),
    )

pub aborts_if-spelled : (span : Span) (e : SpecExpressionData) (ts rest : List Token) → Begins (clause_spelling (aborts_if_clause span e Bare)) ts rest → Begins (aborts_if_word span ∷ condition_spelling e) ts rest
aborts_if-spelled span e ts rest b = Begins-same _ _ ts rest (bare_spelled (aborts_if_word span) e) b

pub aborts_if_at-complete : (n : ℕ) (span : Span) (e : SpecExpressionData) (ts rest : List Token) → length ts ≤ n → Begins (condition_spelling e) ts rest → IsProperSpec e
    → aborts_if_at (suc n) span ts ≡ Some (aborts_if_clause span e Bare, rest)
unfolding aborts_if_at
aborts_if_at-complete n span e ts rest h b p = map_some (condition_at (suc n) ts) (λ e. (aborts_if_clause span e.0 Bare, e.1)) (e, rest) (condition_at-complete n e ts rest h b p)
