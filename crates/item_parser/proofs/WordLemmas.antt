-- The words of clauses are read exactly.
use Rattle.std.proofs.Common.{◌≡◌, ℕ, true, false, List, [], ◌∷◌, Option, Some, None, refl, sym, ap, subst, ◌∙◌, inl, inr}
use Rattle.std.specs.Prelude.{codes, is_some}
use Rattle.std.specs.Option.{option_map, option_map_or}
use Rattle.base.specs.declared.span.Span.{Span}
use Rattle.tokens.specs.declared.token.Token.{Token}
use Rattle.tokens.specs.declared.token.TokenKind.{TokenKind}
use Rattle.tokens.specs.declared.token.TokenKind.TheVariants.{Word}
use Rattle.tokens.specs.declared.token.Punctuation.TheVariants.{Colon}
use Rattle.syntax_tree.specs.declared.lexeme.Identifier.{Identifier}
use Rattle.syntax_tree.specs.declared.lexeme.Lexeme.{Lexeme}
use Rattle.syntax_tree.specs.Lexemes.{word, identifier, sign}
use Rattle.syntax_tree.specs.NameRules.{IsName}
use Rattle.syntax_tree.specs.ClauseSpelling.{requires_word as requires_lexeme, ensures_word as ensures_lexeme, aborts_if_word as aborts_if_lexeme, modifies_word as modifies_lexeme, invariant_word as invariant_lexeme, include_word as include_lexeme}
use Rattle.parser_base.specs.Beginnings.{Begins}
use Rattle.parser_base.specs.TokenReading.{is_word, after_sign, identifier_at}
use Rattle.parser_base.proofs.Steps.{last, some_one, either_read, if_some, map_or_some}
use Rattle.parser_base.proofs.BeginLemmas.{Begins-first, Begins-same}
use Rattle.parser_base.proofs.TokenLemmas.{is_word-sound, after_sign-complete, identifier_at-complete}
use Rattle.item_parser.specs.declared.spec.words.ClauseWord.{ClauseWord}
use Rattle.item_parser.specs.declared.spec.words.ClauseWord.TheVariants.{Pragma as pragma_word, Requires as requires_word, Ensures as ensures_word, AbortsIf as aborts_if_word, Modifies as modifies_word, Invariant as invariant_word, Let as let_word, Include as include_word}
use Rattle.item_parser.specs.ClauseReading.{opens_variable, word_of, clause_word_at}

-- the first token of a clause
abbrev pub clause_lexeme : ClauseWord → Span → Lexeme
clause_lexeme pragma_word span = word (codes "pragma") (Some span)
clause_lexeme requires_word span = requires_lexeme span
clause_lexeme ensures_word span = ensures_lexeme span
clause_lexeme aborts_if_word span = aborts_if_lexeme span
clause_lexeme modifies_word span = modifies_lexeme span
clause_lexeme invariant_word span = invariant_lexeme span
clause_lexeme let_word span = word (codes "let") (Some span)
clause_lexeme include_word span = include_lexeme span

word_text : ClauseWord → List ℕ
word_text pragma_word = codes "pragma"
word_text requires_word = codes "requires"
word_text ensures_word = codes "ensures"
word_text aborts_if_word = codes "aborts_if"
word_text modifies_word = codes "modifies"
word_text invariant_word = codes "invariant"
word_text let_word = codes "let"
word_text include_word = codes "include"

lexeme_is : (w : ClauseWord) (span : Span) → clause_lexeme w span ≡ word (word_text w) (Some span)
unfolding word_text requires_lexeme ensures_lexeme aborts_if_lexeme modifies_lexeme invariant_lexeme include_lexeme
lexeme_is pragma_word span = refl
lexeme_is requires_word span = refl
lexeme_is ensures_word span = refl
lexeme_is aborts_if_word span = refl
lexeme_is modifies_word span = refl
lexeme_is invariant_word span = refl
lexeme_is let_word span = refl
lexeme_is include_word span = refl

-- the word of a token that is one of these words
found : (kind : TokenKind) (text : List ℕ) (one w : ClauseWord) → is_word text kind ≡ true → word_text one ≡ text → ◌≡◌ {A = Option ClauseWord} (Some one) (Some w) → kind ≡ Word (word_text w)
found kind text one w h t e = is_word-sound text kind h ∙ ap Word (sym t ∙ ap word_text (some_one one w e))

word_of-sound : (kind : TokenKind) (w : ClauseWord) → word_of kind ≡ Some w → kind ≡ Word (word_text w)
unfolding word_of word_text
word_of-sound kind w e =
    elim (either_read (is_word (codes "pragma") kind) _ _ w e) [
      | inl h ↦ found kind (codes "pragma") pragma_word w h.0 refl h.1
      | inr h ↦ elim (either_read (is_word (codes "requires") kind) _ _ w h.1) [
        | inl h ↦ found kind (codes "requires") requires_word w h.0 refl h.1
        | inr h ↦ elim (either_read (is_word (codes "ensures") kind) _ _ w h.1) [
          | inl h ↦ found kind (codes "ensures") ensures_word w h.0 refl h.1
          | inr h ↦ elim (either_read (is_word (codes "aborts_if") kind) _ _ w h.1) [
            | inl h ↦ found kind (codes "aborts_if") aborts_if_word w h.0 refl h.1
            | inr h ↦ elim (either_read (is_word (codes "modifies") kind) _ _ w h.1) [
              | inl h ↦ found kind (codes "modifies") modifies_word w h.0 refl h.1
              | inr h ↦ elim (either_read (is_word (codes "invariant") kind) _ _ w h.1) [
                | inl h ↦ found kind (codes "invariant") invariant_word w h.0 refl h.1
                | inr h ↦ elim (either_read (is_word (codes "let") kind) _ _ w h.1) [
                  | inl h ↦ found kind (codes "let") let_word w h.0 refl h.1
                  | inr h ↦ let k = if_some (is_word (codes "include") kind) include_word w h.1 in found kind (codes "include") include_word w k.0 refl (ap Some k.1)
                ]
              ]
            ]
          ]
        ]
      ]
    ]

word_of-complete : (w : ClauseWord) → word_of (Word (word_text w)) ≡ Some w
unfolding word_of word_text
word_of-complete pragma_word = refl
word_of-complete requires_word = refl
word_of-complete ensures_word = refl
word_of-complete aborts_if_word = refl
word_of-complete modifies_word = refl
word_of-complete invariant_word = refl
word_of-complete let_word = refl
word_of-complete include_word = refl

pub clause_word_at-sound : (ts : List Token) (r : (ClauseWord × Span) × List Token) → clause_word_at ts ≡ Some r → Begins (clause_lexeme r.0.0 r.0.1 ∷ []) ts r.1
unfolding clause_word_at
clause_word_at-sound [] r e = absurd (cc)
clause_word_at-sound (t ∷ ts) r e =
    let l = last (word_of t.kind) (λ word. ((word, t.span), ts)) r e in
    subst (λ q. Begins (clause_lexeme q.0.0 q.0.1 ∷ []) (t ∷ ts) q.1) l.then
    (Begins-same _ _ (t ∷ ts) ts (ap (λ m. m ∷ []) (sym (lexeme_is l.value t.span))) (record { kind = word_of-sound t.kind l.value l.first; placed = refl; glued = tt }, refl))

worded_at-complete : (w : ClauseWord) (span : Span) (ts us : List Token) → Begins (word (word_text w) (Some span) ∷ []) ts us → clause_word_at ts ≡ Some ((w, span), us)
unfolding clause_word_at
worded_at-complete w span [] us b = absurd b
worded_at-complete w span (t ∷ ts) us b =
    ap (λ k. option_map (λ word. ((word, t.span), ts)) (word_of k)) b.0.kind ∙ ap (option_map (λ word. ((word, t.span), ts))) (word_of-complete w)
    ∙ ap (λ p. Some ((w, p), ts)) b.0.placed ∙ ap (λ us. Some ((w, span), us)) b.1

pub clause_word_at-complete : (w : ClauseWord) (span : Span) (ts us : List Token) → Begins (clause_lexeme w span ∷ []) ts us → clause_word_at ts ≡ Some ((w, span), us)
clause_word_at-complete w span ts us b = worded_at-complete w span ts us (Begins-same _ _ ts us (ap (λ m. m ∷ []) (lexeme_is w span)) b)

-- ---- variables of schemas

no_colon : (t : Token) (ts : List Token) (name : Option (List ℕ)) → after_sign Colon ts ≡ None
    → option_map_or (λ (read : Identifier × List Token). is_some {T = List Token} (after_sign Colon read.1)) (option_map (λ n. (record { text = n; span = t.span }, ts)) name) false ≡ false
no_colon t ts None e = refl
no_colon t ts (Some n) e = ap (λ o. is_some {T = List Token} o) e

-- where no colon follows, there is no variable
pub no_variable : (l : Lexeme) (ts us : List Token) → Begins (l ∷ []) ts us → after_sign Colon us ≡ None → opens_variable ts ≡ false
unfolding opens_variable identifier_at
no_variable l [] us b e = absurd b
no_variable l (t ∷ ts) us b e = no_colon t ts _ (ap (after_sign Colon) b.1 ∙ e)

pub one_variable : (i : Identifier) (ls : List Lexeme) (ts rest : List Token) → IsName i.text → Begins (identifier i ∷ sign Colon ∷ ls) ts rest → opens_variable ts ≡ true
unfolding opens_variable
one_variable i ls ts rest n b =
    let s = Begins-first (identifier i) (sign Colon ∷ ls) ts rest b in
    let c = Begins-first (sign Colon) ls s.mid rest s.back in
    map_or_some (identifier_at ts) _ false (i, s.mid) (identifier_at-complete i ts s.mid s.front n)
    ∙ ap (λ o. is_some {T = List Token} o) (after_sign-complete Colon s.mid c.mid c.front)
