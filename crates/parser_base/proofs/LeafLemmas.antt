-- The tokens that begin terms, control forms and blocks are read exactly.
use Rattle.std.proofs.Common.{◌≡◌, ◌≢◌, ℕ, Bool, true, false, cond, ◌&&◌, ◌||◌, List, [], ◌∷◌, ◌++◌, Option, Some, None, refl, sym, ap, subst, ◌∙◌, inl, inr}
use Rattle.std.specs.Prelude.{codes, is_some, option_and_then}
use Rattle.std.specs.Option.{option_map}
use Rattle.std.specs.Cmp.Lexicographic.{same_text}
use Rattle.base.specs.declared.span.Span.{Span}
use Rattle.base.proofs.TruthValues.{both_true}
use Rattle.tokens.specs.declared.token.Token.{Token}
use Rattle.tokens.specs.declared.token.TokenKind.{TokenKind}
use Rattle.tokens.specs.declared.token.TokenKind.TheVariants.{Word, Number, ByteString, Punctuation}
use Rattle.tokens.specs.declared.token.NumberLiteral.{NumberLiteral}
use Rattle.tokens.specs.declared.token.NumberSuffix.{NumberSuffix}
use Rattle.tokens.specs.declared.token.NumberSuffix.TheVariants.{Absent, U8, U16, U32, U64, U128, U256}
use Rattle.tokens.specs.declared.token.Punctuation.{Punctuation as Sign}
use Rattle.tokens.specs.declared.token.Punctuation.TheVariants.{LeftBrace, LeftBracket, Semicolon, Less, Exclaim, Star, Ampersand, ColonColon}
use Rattle.syntax_tree.specs.declared.lexeme.Numeral.{Numeral}
use Rattle.syntax_tree.specs.declared.lexeme.Lexeme.{Lexeme}
use Rattle.syntax_tree.specs.declared.literal.Literal.{Literal}
use Rattle.syntax_tree.specs.declared.literal.Literal.TheVariants.{Number as number_literal, Truth as truth_literal}
use Rattle.syntax_tree.specs.declared.operator.UnaryOperator.{UnaryOperator}
use Rattle.syntax_tree.specs.declared.operator.UnaryOperator.TheVariants.{Not, Dereference, Borrow, BorrowMutable}
use Rattle.syntax_tree.specs.declared.operator.UseKind.{UseKind}
use Rattle.syntax_tree.specs.declared.operator.UseKind.TheVariants.{Move, Copy}
use Rattle.syntax_tree.specs.Lexemes.{Says, lexeme, word, sign, sign_at, numeral}
use Rattle.syntax_tree.specs.LiteralSpelling.{literal_spelling}
use Rattle.syntax_tree.specs.declared.spec_tokens.KeptSpec.{KeptSpec}
use Rattle.syntax_tree.specs.SpecTokenSpelling.{kept_spelling}
use Rattle.syntax_tree.specs.KeptSpecs.{IsLoopSpec}
use Rattle.syntax_tree.specs.OperatorSpelling.{unary_spelling, use_spelling}
use Rattle.syntax_tree.specs.ProperExpressions.{IsProperLiteral}
use Rattle.parser_base.specs.Beginnings.{Begins}
use Rattle.parser_base.specs.TokenReading.{Read, is_sign, is_word, after_sign, sign_span_at, after_word, word_span_at}
use Rattle.base.specs.Names.{same_name}
use Rattle.parser_base.proofs.Steps.{step, last, some_one, either, not_read, if_some, bind_some, map_some, cond_true, map_or_none, map_or_some}
use Rattle.parser_base.specs.KeptReading.{loop_spec_at}
use Rattle.parser_base.proofs.BeginLemmas.{Begins-append, Begins-first, Begins-split}
use Rattle.parser_base.proofs.KeptLemmas.{loop_spec_at-sound, loop_spec_at-complete, loop_spec_word}
use Rattle.parser_base.proofs.TokenLemmas.{is_sign-sound, is_sign-same, after_sign-sound, after_sign-complete, sign_span_at-sound, sign_span_at-complete, sign_span_at-other, after_word-sound, after_word-complete, word_span_at-sound, word_span_at-complete, word_span_at-other}
use Rattle.parser_base.specs.declared.leaf.Control.{Control}
use Rattle.parser_base.specs.declared.leaf.Control.TheVariants.{If, While, Loop, Return, Abort, Break, Continue}
use Rattle.parser_base.specs.LeafReading.{fitting, fitting_number_of, number_at, truth_at, plain_literal_at, vector_span_at, assert_span_at, after_glued, borrow_behind, prefix_at, use_at, control_of_word, control_of, control_at, spec_opening_at, spec_statement_at}

-- ---- literals

fitting-sound : (literal : NumberLiteral) (suffix : NumberSuffix) (l : NumberLiteral) → fitting literal suffix ≡ Some l → (literal ≡ l) × (suffix ≢ U256)
fitting-sound literal U256 l e = absurd (cc)
fitting-sound literal Absent l e = (some_one literal l e, λ h. cc)
fitting-sound literal U8 l e = (some_one literal l e, λ h. cc)
fitting-sound literal U16 l e = (some_one literal l e, λ h. cc)
fitting-sound literal U32 l e = (some_one literal l e, λ h. cc)
fitting-sound literal U64 l e = (some_one literal l e, λ h. cc)
fitting-sound literal U128 l e = (some_one literal l e, λ h. cc)

pub fitting-complete : (literal : NumberLiteral) (suffix : NumberSuffix) → suffix ≢ U256 → fitting literal suffix ≡ Some literal
fitting-complete literal U256 h = absurd (h refl)
fitting-complete literal Absent h = refl
fitting-complete literal U8 h = refl
fitting-complete literal U16 h = refl
fitting-complete literal U32 h = refl
fitting-complete literal U64 h = refl
fitting-complete literal U128 h = refl

pub fitting_number_of-sound : (kind : TokenKind) (l : NumberLiteral) → fitting_number_of kind ≡ Some l → (kind ≡ Number l) × (l.suffix ≢ U256)
fitting_number_of-sound (Number literal) l e = let u = fitting-sound literal literal.suffix l e in (ap Number u.0, subst (λ m. m.suffix ≢ U256) u.0 u.1)
fitting_number_of-sound (Word w) l e = absurd (cc)
fitting_number_of-sound (ByteString text) l e = absurd (cc)
fitting_number_of-sound (Punctuation s) l e = absurd (cc)

number_at-sound : (ts : List Token) (r : Literal × List Token) → number_at ts ≡ Some r → Begins (literal_spelling r.0) ts r.1 × IsProperLiteral r.0
unfolding number_at
number_at-sound [] r e = absurd (cc)
number_at-sound (t ∷ ts) r e =
    let n = not_read (is_some (after_sign ColonColon ts)) _ r e in
    let l = last (fitting_number_of t.kind) (λ literal. (number_literal (record { literal = literal; span = t.span }), ts)) r n.1 in
    let s = fitting_number_of-sound t.kind l.value l.first in
    subst (λ q. Begins (literal_spelling q.0) (t ∷ ts) q.1 × IsProperLiteral q.0) l.then ((record { kind = s.0; placed = refl; glued = tt }, refl), s.1)

number_at-complete : (n : Numeral) (ts rest : List Token) → Begins (numeral n ∷ []) ts rest → n.literal.suffix ≢ U256 → after_sign ColonColon rest ≡ None → number_at ts ≡ Some (number_literal n, rest)
unfolding number_at
number_at-complete n [] rest b p e = absurd b
number_at-complete n (t ∷ ts) rest b p e =
    ap (λ us. cond (is_some (after_sign ColonColon us)) None (option_map (λ literal. (number_literal (record { literal = literal; span = t.span }), us)) (fitting_number_of t.kind))) b.1
    ∙ ap (λ o. cond (is_some {T = List Token} o) None (option_map (λ literal. (number_literal (record { literal = literal; span = t.span }), rest)) (fitting_number_of t.kind))) e
    ∙ ap (λ k. option_map (λ literal. (number_literal (record { literal = literal; span = t.span }), rest)) (fitting_number_of k)) b.0.kind
    ∙ ap (option_map (λ literal. (number_literal (record { literal = literal; span = t.span }), rest))) (fitting-complete n.literal n.literal.suffix p)
    ∙ ap (λ span. Some (number_literal (record { literal = n.literal; span = span }), rest)) b.0.placed

pub number_at-other : (l : Lexeme) (ls : List Lexeme) (ts rest : List Token) → fitting_number_of l.kind ≡ None → Begins (l ∷ ls) ts rest → number_at ts ≡ None
unfolding number_at
number_at-other l ls [] rest e b = absurd b
number_at-other l ls (t ∷ ts) rest e b =
    ap (λ k. cond (is_some (after_sign ColonColon ts)) None (option_map (λ literal. (number_literal (record { literal = literal; span = t.span }), ts)) (fitting_number_of k))) b.0.kind
    ∙ ap (λ o. cond (is_some (after_sign ColonColon ts)) None (option_map (λ literal. (number_literal (record { literal = literal; span = t.span }), ts)) o)) e ∙ both (is_some (after_sign ColonColon ts))
  where
    both : (c : Bool) → ◌≡◌ {A = Read Literal} (cond c None None) None
    both true = refl
    both false = refl

-- the number of an address is not a literal
pub number_at-path : (l : Lexeme) (ls : List Lexeme) (ts rest : List Token) → Begins (l ∷ sign ColonColon ∷ ls) ts rest → number_at ts ≡ None
unfolding number_at
number_at-path l ls [] rest b = absurd b
number_at-path l ls (t ∷ ts) rest b =
    let s = Begins-first (sign ColonColon) ls ts rest b.1 in
    ap (λ o. cond (is_some {T = List Token} o) None (option_map (λ literal. (number_literal (record { literal = literal; span = t.span }), ts)) (fitting_number_of t.kind))) (after_sign-complete ColonColon ts s.mid s.front)

pub plain_literal_at-sound : (ts : List Token) (r : Literal × List Token) → plain_literal_at ts ≡ Some r → Begins (literal_spelling r.0) ts r.1 × IsProperLiteral r.0
unfolding plain_literal_at truth_at
plain_literal_at-sound ts r e =
    elim (either (number_at ts) (λ l. Some (l.0, l.1)) _ r e) [
      | inl s ↦ subst (λ q. Begins (literal_spelling q.0) ts q.1 × IsProperLiteral q.0) (some_one (s.value.0, s.value.1) r s.then) (number_at-sound ts s.value s.first)
      | inr n ↦ elim (either (word_span_at (codes "true") ts) (λ p. Some (truth_literal p.0 true, p.1)) _ r n.1) [
        | inl s ↦ subst (λ q. Begins (literal_spelling q.0) ts q.1 × IsProperLiteral q.0) (some_one (truth_literal s.value.0 true, s.value.1) r s.then) (word_span_at-sound (codes "true") ts s.value s.first, tt)
        | inr m ↦
            let l = last (word_span_at (codes "false") ts) (λ p. (truth_literal p.0 false, p.1)) r m.1 in
            subst (λ q. Begins (literal_spelling q.0) ts q.1 × IsProperLiteral q.0) l.then (word_span_at-sound (codes "false") ts l.value l.first, tt)
      ]
    ]

pub plain_number : (n : Numeral) (ts rest : List Token) → Begins (numeral n ∷ []) ts rest → n.literal.suffix ≢ U256 → after_sign ColonColon rest ≡ None → plain_literal_at ts ≡ Some (number_literal n, rest)
unfolding plain_literal_at
plain_number n ts rest b p e = map_or_some (number_at ts) (λ l. Some (l.0, l.1)) _ (number_literal n, rest) (number_at-complete n ts rest b p e)

pub plain_truth : (span : Span) (value : Bool) (ts rest : List Token) → Begins (literal_spelling (truth_literal span value)) ts rest → plain_literal_at ts ≡ Some (truth_literal span value, rest)
unfolding plain_literal_at truth_at
plain_truth span true ts rest b =
    map_or_none (number_at ts) (λ l. Some (l.0, l.1)) _ (number_at-other (word (codes "true") (Some span)) [] ts rest refl b)
    ∙ map_or_some (word_span_at (codes "true") ts) (λ p. Some (truth_literal p.0 true, p.1)) _ (span, rest) (word_span_at-complete (codes "true") span ts rest b)
plain_truth span false ts rest b =
    map_or_none (number_at ts) (λ l. Some (l.0, l.1)) _ (number_at-other (word (codes "false") (Some span)) [] ts rest refl b)
    ∙ map_or_none (word_span_at (codes "true") ts) (λ p. Some (truth_literal p.0 true, p.1)) _ (word_span_at-other (codes "true") (word (codes "false") (Some span)) [] ts rest refl b)
    ∙ map_some (word_span_at (codes "false") ts) (λ p. (truth_literal p.0 false, p.1)) (span, rest) (word_span_at-complete (codes "false") span ts rest b)

-- a word that is not a boolean is not a literal
pub plain_none : (l : Lexeme) (ls : List Lexeme) (ts rest : List Token) → number_at ts ≡ None → is_word (codes "true") l.kind ≡ false → is_word (codes "false") l.kind ≡ false → Begins (l ∷ ls) ts rest → plain_literal_at ts ≡ None
unfolding plain_literal_at truth_at
plain_none l ls ts rest n a c b =
    map_or_none (number_at ts) (λ l. Some (l.0, l.1)) _ n
    ∙ map_or_none (word_span_at (codes "true") ts) (λ p. Some (truth_literal p.0 true, p.1)) _ (word_span_at-other (codes "true") l ls ts rest a b)
    ∙ ap (option_map (λ p. (truth_literal p.0 false, p.1))) (word_span_at-other (codes "false") l ls ts rest c b)

-- ---- `vector` and `assert!`

pub vector_span_at-sound : (ts : List Token) (r : Span × List Token) → vector_span_at ts ≡ Some r → Begins (word (codes "vector") (Some r.0) ∷ []) ts r.1
unfolding vector_span_at
vector_span_at-sound ts r e =
    let p = step (word_span_at (codes "vector") ts) _ r e in
    let c = if_some _ (p.value.0, p.value.1) r p.then in
    subst (λ q. Begins (word (codes "vector") (Some q.0) ∷ []) ts q.1) c.1 (word_span_at-sound (codes "vector") ts p.value p.first)

pub vector_span_at-complete : (span : Span) (ts rest : List Token) → Begins (word (codes "vector") (Some span) ∷ []) ts rest → (is_some (after_sign Less rest) || is_some (after_sign LeftBracket rest)) ≡ true → vector_span_at ts ≡ Some (span, rest)
unfolding vector_span_at
vector_span_at-complete span ts rest b h =
    bind_some (word_span_at (codes "vector") ts) (λ p. cond (is_some (after_sign Less p.1) || is_some (after_sign LeftBracket p.1)) (Some (p.0, p.1)) None) (span, rest) (word_span_at-complete (codes "vector") span ts rest b)
    ∙ ap (λ c. cond c (Some (span, rest)) None) h

pub vector_span_at-other : (l : Lexeme) (ls : List Lexeme) (ts rest : List Token) → is_word (codes "vector") l.kind ≡ false → Begins (l ∷ ls) ts rest → vector_span_at ts ≡ None
unfolding vector_span_at
vector_span_at-other l ls ts rest e b =
    ap (option_and_then (λ p. cond (is_some (after_sign Less p.1) || is_some (after_sign LeftBracket p.1)) (Some (p.0, p.1)) None)) (word_span_at-other (codes "vector") l ls ts rest e b)

-- the word `vector` before another token is a path
pub vector_span_at-path : (span : Span) (ts rest : List Token) → Begins (word (codes "vector") (Some span) ∷ []) ts rest → after_sign Less rest ≡ None → after_sign LeftBracket rest ≡ None → vector_span_at ts ≡ None
unfolding vector_span_at
vector_span_at-path span ts rest b h i =
    bind_some (word_span_at (codes "vector") ts) (λ p. cond (is_some (after_sign Less p.1) || is_some (after_sign LeftBracket p.1)) (Some (p.0, p.1)) None) (span, rest) (word_span_at-complete (codes "vector") span ts rest b)
    ∙ ap (λ o. cond (is_some {T = List Token} o || is_some (after_sign LeftBracket rest)) (Some (span, rest)) None) h
    ∙ ap (λ o. cond (is_some {T = List Token} o) (Some (span, rest)) None) i

pub assert_span_at-sound : (ts : List Token) (r : Span × List Token) → assert_span_at ts ≡ Some r → Begins (word (codes "assert") (Some r.0) ∷ sign Exclaim ∷ []) ts r.1
unfolding assert_span_at
assert_span_at-sound ts r e =
    let p = step (word_span_at (codes "assert") ts) _ r e in
    let l = last (after_sign Exclaim p.value.1) _ r p.then in
    subst (λ q. Begins (word (codes "assert") (Some q.0) ∷ sign Exclaim ∷ []) ts q.1) l.then
    (Begins-append (word (codes "assert") (Some p.value.0) ∷ []) (sign Exclaim ∷ []) ts p.value.1 l.value (word_span_at-sound (codes "assert") ts p.value p.first) (after_sign-sound Exclaim p.value.1 l.value l.first))

pub assert_span_at-complete : (span : Span) (ts mid rest : List Token) → Begins (word (codes "assert") (Some span) ∷ []) ts mid → Begins (sign Exclaim ∷ []) mid rest → assert_span_at ts ≡ Some (span, rest)
unfolding assert_span_at
assert_span_at-complete span ts mid rest a b =
    bind_some (word_span_at (codes "assert") ts) (λ p. option_map (λ rest. (p.0, rest)) (after_sign Exclaim p.1)) (span, mid) (word_span_at-complete (codes "assert") span ts mid a)
    ∙ map_some (after_sign Exclaim mid) (λ rest. (span, rest)) rest (after_sign-complete Exclaim mid rest b)

pub assert_span_at-other : (l : Lexeme) (ls : List Lexeme) (ts rest : List Token) → is_word (codes "assert") l.kind ≡ false → Begins (l ∷ ls) ts rest → assert_span_at ts ≡ None
unfolding assert_span_at
assert_span_at-other l ls ts rest e b = ap (option_and_then (λ p. option_map (λ rest. (p.0, rest)) (after_sign Exclaim p.1))) (word_span_at-other (codes "assert") l ls ts rest e b)

pub assert_span_at-path : (span : Span) (ts rest : List Token) → Begins (word (codes "assert") (Some span) ∷ []) ts rest → after_sign Exclaim rest ≡ None → assert_span_at ts ≡ None
unfolding assert_span_at
assert_span_at-path span ts rest b h =
    bind_some (word_span_at (codes "assert") ts) (λ p. option_map (λ rest. (p.0, rest)) (after_sign Exclaim p.1)) (span, rest) (word_span_at-complete (codes "assert") span ts rest b)
    ∙ ap (option_map (λ rest. (span, rest))) h

-- ---- glued signs

-- a sign that is glued to the token before it
abbrev pub glued : Sign → Lexeme
glued s = lexeme (Punctuation s) None (Some true)

pub after_glued-sound : (s : Sign) (ts rest : List Token) → after_glued s ts ≡ Some rest → Begins (lexeme (Punctuation s) None (Some true) ∷ []) ts rest
unfolding after_glued
after_glued-sound s [] rest e = absurd (cc)
after_glued-sound s (t ∷ ts) rest e =
    let c = if_some (is_sign s t.kind && t.glued) ts rest e in
    let p = both_true (is_sign s t.kind) t.glued c.0 in (record { kind = is_sign-sound s t.kind p.0; placed = tt; glued = p.1 }, c.1)

pub after_glued-complete : (s : Sign) (ts rest : List Token) → Begins (lexeme (Punctuation s) None (Some true) ∷ []) ts rest → after_glued s ts ≡ Some rest
unfolding after_glued
after_glued-complete s [] rest b = absurd b
after_glued-complete s (t ∷ ts) rest b =
    ap (λ k. cond (is_sign s k && t.glued) (Some ts) None) b.0.kind ∙ ap (λ c. cond (c && t.glued) (Some ts) None) (is_sign-same s) ∙ ap (λ g. cond g (Some ts) None) b.0.glued ∙ ap Some b.1

pub after_glued-other : (s : Sign) (l : Lexeme) (ls : List Lexeme) (ts rest : List Token) → is_sign s l.kind ≡ false → Begins (l ∷ ls) ts rest → after_glued s ts ≡ None
unfolding after_glued
after_glued-other s l ls [] rest e b = absurd b
after_glued-other s l ls (t ∷ ts) rest e b = ap (λ k. cond (is_sign s k && t.glued) (Some ts) None) b.0.kind ∙ ap (λ c. cond (c && t.glued) (Some ts) None) e

-- a sign that is not glued
pub after_glued-apart : (s : Sign) (l : Lexeme) (ls : List Lexeme) (ts rest : List Token) → l.glued ≡ Some false → Begins (l ∷ ls) ts rest → after_glued s ts ≡ None
unfolding after_glued
after_glued-apart s l ls [] rest e b = absurd b
after_glued-apart s l ls (t ∷ ts) rest e b = go (is_sign s t.kind) t.glued (subst (λ g. Says g t.glued) e b.0.glued)
  where
    go : (c g : Bool) → g ≡ false → ◌≡◌ {A = Option (List Token)} (cond (c && g) (Some ts) None) None
    go true true h = absurd (cc)
    go true false h = refl
    go false g h = refl

-- where there is no such sign, none is glued
pub after_glued-none : (s : Sign) (ts : List Token) → after_sign s ts ≡ None → after_glued s ts ≡ None
unfolding after_sign after_glued
after_glued-none s [] e = refl
after_glued-none s (t ∷ ts) e = go (is_sign s t.kind) e
  where
    go : (c : Bool) → cond c (Some ts) None ≡ None → ◌≡◌ {A = Option (List Token)} (cond (c && t.glued) (Some ts) None) None
    go true e = absurd (cc)
    go false e = refl

-- ---- unary operators

pub prefix_at-sound : (ts : List Token) (r : (UnaryOperator × Span) × List Token) → prefix_at ts ≡ Some r → Begins (unary_spelling r.0.0 r.0.1) ts r.1
unfolding prefix_at borrow_behind
prefix_at-sound ts r e =
    elim (either (sign_span_at Exclaim ts) (λ p. Some ((Not, p.0), p.1)) _ r e) [
      | inl s ↦ subst (λ q. Begins (unary_spelling q.0.0 q.0.1) ts q.1) (some_one ((Not, s.value.0), s.value.1) r s.then) (sign_span_at-sound Exclaim ts s.value s.first)
      | inr n ↦ elim (either (sign_span_at Star ts) (λ p. Some ((Dereference, p.0), p.1)) _ r n.1) [
        | inl s ↦ subst (λ q. Begins (unary_spelling q.0.0 q.0.1) ts q.1) (some_one ((Dereference, s.value.0), s.value.1) r s.then) (sign_span_at-sound Star ts s.value s.first)
        | inr m ↦
            let p = step (sign_span_at Ampersand ts) _ r m.1 in
            let front = sign_span_at-sound Ampersand ts p.value p.first in
            elim (either (after_word (codes "mut") p.value.1) _ _ r p.then) [
              | inl s ↦
                  subst (λ q. Begins (unary_spelling q.0.0 q.0.1) ts q.1) (some_one ((BorrowMutable, p.value.0), s.value) r s.then)
                  (Begins-append (sign_at p.value.0 Ampersand ∷ []) (word (codes "mut") None ∷ []) ts p.value.1 s.value front (after_word-sound (codes "mut") p.value.1 s.value s.first))
              | inr k ↦ subst (λ q. Begins (unary_spelling q.0.0 q.0.1) ts q.1) (some_one ((Borrow, p.value.0), p.value.1) r k.1) front
            ]
      ]
    ]

pub prefix_at-complete : (o : UnaryOperator) (span : Span) (ts rest : List Token) → Begins (unary_spelling o span) ts rest → after_word (codes "mut") rest ≡ None → prefix_at ts ≡ Some ((o, span), rest)
unfolding prefix_at borrow_behind
prefix_at-complete Not span ts rest b e = map_or_some (sign_span_at Exclaim ts) (λ p. Some ((Not, p.0), p.1)) _ (span, rest) (sign_span_at-complete Exclaim span ts rest b)
prefix_at-complete Dereference span ts rest b e =
    map_or_none (sign_span_at Exclaim ts) (λ p. Some ((Not, p.0), p.1)) _ (sign_span_at-other Exclaim (sign_at span Star) [] ts rest refl b)
    ∙ map_or_some (sign_span_at Star ts) (λ p. Some ((Dereference, p.0), p.1)) _ (span, rest) (sign_span_at-complete Star span ts rest b)
prefix_at-complete Borrow span ts rest b e =
    map_or_none (sign_span_at Exclaim ts) (λ p. Some ((Not, p.0), p.1)) _ (sign_span_at-other Exclaim (sign_at span Ampersand) [] ts rest refl b)
    ∙ map_or_none (sign_span_at Star ts) (λ p. Some ((Dereference, p.0), p.1)) _ (sign_span_at-other Star (sign_at span Ampersand) [] ts rest refl b)
    ∙ bind_some (sign_span_at Ampersand ts) _ (span, rest) (sign_span_at-complete Ampersand span ts rest b) ∙ map_or_none (after_word (codes "mut") rest) _ (Some ((Borrow, span), rest)) e
prefix_at-complete BorrowMutable span ts rest b e =
    let s = Begins-first (sign_at span Ampersand) (word (codes "mut") None ∷ []) ts rest b in
    map_or_none (sign_span_at Exclaim ts) (λ p. Some ((Not, p.0), p.1)) _ (sign_span_at-other Exclaim (sign_at span Ampersand) [] ts s.mid refl s.front)
    ∙ map_or_none (sign_span_at Star ts) (λ p. Some ((Dereference, p.0), p.1)) _ (sign_span_at-other Star (sign_at span Ampersand) [] ts s.mid refl s.front)
    ∙ bind_some (sign_span_at Ampersand ts) _ (span, s.mid) (sign_span_at-complete Ampersand span ts s.mid s.front) ∙ map_or_some (after_word (codes "mut") s.mid) _ (Some ((Borrow, span), s.mid)) rest (after_word-complete (codes "mut") s.mid rest s.back)

pub prefix_at-other : (l : Lexeme) (ls : List Lexeme) (ts rest : List Token) → is_sign Exclaim l.kind ≡ false → is_sign Star l.kind ≡ false → is_sign Ampersand l.kind ≡ false → Begins (l ∷ ls) ts rest → prefix_at ts ≡ None
unfolding prefix_at
prefix_at-other l ls ts rest a c d b =
    map_or_none (sign_span_at Exclaim ts) (λ p. Some ((Not, p.0), p.1)) _ (sign_span_at-other Exclaim l ls ts rest a b)
    ∙ map_or_none (sign_span_at Star ts) (λ p. Some ((Dereference, p.0), p.1)) _ (sign_span_at-other Star l ls ts rest c b)
    ∙ ap (option_and_then (λ p. borrow_behind p.0 p.1)) (sign_span_at-other Ampersand l ls ts rest d b)

-- ---- `move` and `copy`

pub use_at-sound : (ts : List Token) (r : (UseKind × Span) × List Token) → use_at ts ≡ Some r → Begins (use_spelling r.0.0 r.0.1) ts r.1
unfolding use_at
use_at-sound ts r e =
    elim (either (word_span_at (codes "move") ts) (λ p. Some ((Move, p.0), p.1)) _ r e) [
      | inl s ↦ subst (λ q. Begins (use_spelling q.0.0 q.0.1) ts q.1) (some_one ((Move, s.value.0), s.value.1) r s.then) (word_span_at-sound (codes "move") ts s.value s.first)
      | inr n ↦
          let l = last (word_span_at (codes "copy") ts) (λ p. ((Copy, p.0), p.1)) r n.1 in
          subst (λ q. Begins (use_spelling q.0.0 q.0.1) ts q.1) l.then (word_span_at-sound (codes "copy") ts l.value l.first)
    ]

pub use_at-complete : (k : UseKind) (span : Span) (ts rest : List Token) → Begins (use_spelling k span) ts rest → use_at ts ≡ Some ((k, span), rest)
unfolding use_at
use_at-complete Move span ts rest b = map_or_some (word_span_at (codes "move") ts) (λ p. Some ((Move, p.0), p.1)) _ (span, rest) (word_span_at-complete (codes "move") span ts rest b)
use_at-complete Copy span ts rest b =
    map_or_none (word_span_at (codes "move") ts) (λ p. Some ((Move, p.0), p.1)) _ (word_span_at-other (codes "move") (word (codes "copy") (Some span)) [] ts rest refl b)
    ∙ map_some (word_span_at (codes "copy") ts) (λ p. ((Copy, p.0), p.1)) (span, rest) (word_span_at-complete (codes "copy") span ts rest b)

pub use_at-other : (l : Lexeme) (ls : List Lexeme) (ts rest : List Token) → is_word (codes "move") l.kind ≡ false → is_word (codes "copy") l.kind ≡ false → Begins (l ∷ ls) ts rest → use_at ts ≡ None
unfolding use_at
use_at-other l ls ts rest a c b =
    map_or_none (word_span_at (codes "move") ts) (λ p. Some ((Move, p.0), p.1)) _ (word_span_at-other (codes "move") l ls ts rest a b)
    ∙ ap (option_map (λ p. ((Copy, p.0), p.1))) (word_span_at-other (codes "copy") l ls ts rest c b)

-- ---- control forms

abbrev pub control_word : Control → List ℕ
control_word If = codes "if"
control_word While = codes "while"
control_word Loop = codes "loop"
control_word Return = codes "return"
control_word Abort = codes "abort"
control_word Break = codes "break"
control_word Continue = codes "continue"

one_way : (w : List ℕ) (k : List ℕ) (c : Control) (other : Option Control) (r : Control) → control_word c ≡ k → cond (same_name w k) (Some c) other ≡ Some r → (other ≡ Some r → w ≡ control_word r) → w ≡ control_word r
one_way w k c other r is e more = go (same_name w k) refl e
  where
    go : (b : Bool) → same_name w k ≡ b → cond b (Some c) other ≡ Some r → w ≡ control_word r
    go true h e = same_text w k (sym h) ∙ sym is ∙ ap control_word (some_one c r e)
    go false h e = more e

control_of_word-sound : (w : List ℕ) (c : Control) → control_of_word w ≡ Some c → w ≡ control_word c
control_of_word-sound w c e =
    one_way w (codes "if") If _ c refl e (λ e.
    one_way w (codes "while") While _ c refl e (λ e.
    one_way w (codes "loop") Loop _ c refl e (λ e.
    one_way w (codes "return") Return _ c refl e (λ e.
    one_way w (codes "abort") Abort _ c refl e (λ e.
    one_way w (codes "break") Break _ c refl e (λ e.
    one_way w (codes "continue") Continue None c refl e (λ e. absurd (cc))))))))

pub control_of-sound : (kind : TokenKind) (c : Control) → control_of kind ≡ Some c → kind ≡ Word (control_word c)
control_of-sound (Word w) c e = ap Word (control_of_word-sound w c e)
control_of-sound (Number literal) c e = absurd (cc)
control_of-sound (ByteString text) c e = absurd (cc)
control_of-sound (Punctuation s) c e = absurd (cc)

pub control_at-sound : (ts : List Token) (r : (Control × Span) × List Token) → control_at ts ≡ Some r → Begins (word (control_word r.0.0) (Some r.0.1) ∷ []) ts r.1
unfolding control_at
control_at-sound [] r e = absurd (cc)
control_at-sound (t ∷ ts) r e =
    let l = last (control_of t.kind) (λ control. ((control, t.span), ts)) r e in
    subst (λ q. Begins (word (control_word q.0.0) (Some q.0.1) ∷ []) (t ∷ ts) q.1) l.then (record { kind = control_of-sound t.kind l.value l.first; placed = refl; glued = tt }, refl)

control_of-complete : (c : Control) → control_of_word (control_word c) ≡ Some c
control_of-complete If = refl
control_of-complete While = refl
control_of-complete Loop = refl
control_of-complete Return = refl
control_of-complete Abort = refl
control_of-complete Break = refl
control_of-complete Continue = refl

pub control_at-complete : (c : Control) (span : Span) (ts rest : List Token) → Begins (word (control_word c) (Some span) ∷ []) ts rest → control_at ts ≡ Some ((c, span), rest)
unfolding control_at
control_at-complete c span [] rest b = absurd b
control_at-complete c span (t ∷ ts) rest b =
    ap (λ k. option_map (λ control. ((control, t.span), ts)) (control_of k)) b.0.kind ∙ ap (option_map (λ control. ((control, t.span), ts))) (control_of-complete c)
    ∙ ap (λ p. Some ((c, p), ts)) b.0.placed ∙ ap (λ us. Some ((c, span), us)) b.1

pub control_at-other : (l : Lexeme) (ls : List Lexeme) (ts rest : List Token) → control_of l.kind ≡ None → Begins (l ∷ ls) ts rest → control_at ts ≡ None
unfolding control_at
control_at-other l ls [] rest e b = absurd b
control_at-other l ls (t ∷ ts) rest e b = ap (λ k. option_map (λ control. ((control, t.span), ts)) (control_of k)) b.0.kind ∙ ap (option_map (λ control. ((control, t.span), ts))) e

-- ---- the spec block of a loop

pub record Opened (span : Span) (inside ts : List Token) : Type 0 where
  pub spelled : Begins (sign_at span LeftBrace ∷ []) ts inside
  pub is_spec : is_some (after_word (codes "spec") inside) ≡ true

pub spec_opening_at-sound : (ts : List Token) (r : Span × List Token) → spec_opening_at ts ≡ Some r → Opened r.0 r.1 ts
unfolding spec_opening_at
spec_opening_at-sound ts r e =
    let p = step (sign_span_at LeftBrace ts) _ r e in
    let i = if_some (is_some (after_word (codes "spec") p.value.1)) p.value r p.then in
    subst (λ q. Opened q.0 q.1 ts) i.1 (record { spelled = sign_span_at-sound LeftBrace ts p.value p.first; is_spec = i.0 })

pub spec_opening_at-complete : (span : Span) (ts mid : List Token) → Begins (sign_at span LeftBrace ∷ []) ts mid → is_some (after_word (codes "spec") mid) ≡ true → spec_opening_at ts ≡ Some (span, mid)
unfolding spec_opening_at
spec_opening_at-complete span ts mid a e =
    bind_some (sign_span_at LeftBrace ts) (λ p. cond (is_some (after_word (codes "spec") p.1)) (Some p) None) (span, mid) (sign_span_at-complete LeftBrace span ts mid a)
    ∙ cond_true (is_some (after_word (codes "spec") mid)) (Some (span, mid)) None e

pub spec_opening_at-other : (l : Lexeme) (ls : List Lexeme) (ts rest : List Token) → is_sign LeftBrace l.kind ≡ false → Begins (l ∷ ls) ts rest → spec_opening_at ts ≡ None
unfolding spec_opening_at
spec_opening_at-other l ls ts rest e b = ap (option_and_then (λ p. cond (is_some (after_word (codes "spec") p.1)) (Some p) None)) (sign_span_at-other LeftBrace l ls ts rest e b)

-- the same with its semicolon
pub spec_statement_at-sound : (ts : List Token) (r : KeptSpec × List Token) → spec_statement_at ts ≡ Some r → Begins (kept_spelling r.0 ++ sign Semicolon ∷ []) ts r.1 × IsLoopSpec r.0
unfolding spec_statement_at
spec_statement_at-sound ts r e =
    let s = step (loop_spec_at ts) _ r e in
    let l = last (after_sign Semicolon s.value.1) (λ rest. (s.value.0, rest)) r s.then in
    let spec = loop_spec_at-sound ts s.value s.first in
    subst (λ q. Begins (kept_spelling q.0 ++ sign Semicolon ∷ []) ts q.1 × IsLoopSpec q.0) l.then
    (Begins-append (kept_spelling s.value.0) (sign Semicolon ∷ []) ts s.value.1 l.value spec.0 (after_sign-sound Semicolon s.value.1 l.value l.first), spec.1)

pub spec_statement_at-complete : (spec : KeptSpec) (ts rest : List Token) → Begins (kept_spelling spec ++ sign Semicolon ∷ []) ts rest → IsLoopSpec spec → spec_statement_at ts ≡ Some (spec, rest)
unfolding spec_statement_at
spec_statement_at-complete spec ts rest b p =
    let s = Begins-split (kept_spelling spec) (sign Semicolon ∷ []) ts rest b in
    bind_some (loop_spec_at ts) _ (spec, s.mid) (loop_spec_at-complete spec ts s.mid s.front p)
    ∙ map_some (after_sign Semicolon s.mid) (λ rest. (spec, rest)) rest (after_sign-complete Semicolon s.mid rest s.back)

-- the tokens of a loop's spec block begin with the word `spec`
pub statement_word : (spec : KeptSpec) (ts rest : List Token) → Begins (kept_spelling spec ++ sign Semicolon ∷ []) ts rest → IsLoopSpec spec → is_some (after_word (codes "spec") ts) ≡ true
statement_word spec ts rest b p = let s = Begins-split (kept_spelling spec) (sign Semicolon ∷ []) ts rest b in loop_spec_word spec ts s.mid s.front p
