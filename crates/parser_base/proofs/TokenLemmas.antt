-- Single tokens are read exactly.
use Rattle.std.proofs.Common.{◌≡◌, ◌≢◌, ℕ, Bool, true, false, cond, ◌&&◌, ◌||◌, ◌==◌, ◌≤◌, ◌⊎◌, inl, inr, List, [], ◌∷◌, Some, None, refl, sym, ap, subst, ◌∙◌}
use Rattle.std.specs.Prelude.{is_some, nat_le}
use Rattle.std.proofs.lemmas.Bool.{leb-true, le-leb, eqb-true}
use Rattle.std.specs.Option.{option_map}
use Rattle.std.specs.List.{list_any, AllByRecursion}
use Rattle.std.specs.Cmp.Lexicographic.{same_text}
use denote.Enum.Bare.{same_true, true_same}
use Rattle.base.specs.declared.span.Span.{Span}
use Rattle.tokens.specs.contracts.token.Punctuation.{the_type}
use Rattle.tokens.specs.declared.token.Token.{Token}
use Rattle.tokens.specs.declared.token.TokenKind.{TokenKind}
use Rattle.tokens.specs.declared.token.TokenKind.TheVariants.{Word, Number, ByteString, Punctuation}
use Rattle.tokens.specs.declared.token.Punctuation.{Punctuation as Sign}
use Rattle.syntax_tree.specs.declared.lexeme.Identifier.{Identifier}
use Rattle.syntax_tree.specs.declared.lexeme.Lexeme.{Lexeme}
use Rattle.syntax_tree.specs.Lexemes.{word, sign, sign_at, identifier}
use Rattle.syntax_tree.specs.NameRules.{keywords, IsName, IsCapital, IsSmall}
use Rattle.parser_base.specs.Beginnings.{Begins}
use Rattle.parser_base.specs.TokenReading.{Read, is_sign, is_word, is_keyword, after_sign, sign_span_at, before_sign, after_word, word_span_at, name_of, identifier_at, begins_capital, begins_small}
use Rattle.base.specs.Names.{same_name}
use Rattle.base.proofs.NameLaws.{none_of-complete, none_of-sound, same_name-same, same_name-other}
use Rattle.base.proofs.TruthValues.{both_true, either_true}
use Rattle.parser_base.proofs.Steps.{last, if_some, if_not}

-- ---- words that are names

pub is_keyword-sound : (w : List ℕ) → is_keyword w ≡ false → IsName w
unfolding is_keyword
is_keyword-sound w e = none_of-sound keywords w e

pub is_keyword-complete : (w : List ℕ) → IsName w → is_keyword w ≡ false
unfolding is_keyword
is_keyword-complete w a = none_of-complete keywords w a

-- a keyword is not a name
pub name_is_no_keyword : (w k : List ℕ) → is_keyword k ≡ true → IsName w → same_name w k ≡ false
name_is_no_keyword w k is n = same_name-other w k (λ h. differs (sym is ∙ ap is_keyword (sym h) ∙ is_keyword-complete w n))
  where
    differs : true ≡ false → ⊥
    differs h = cc

-- ---- the first letters of names

between-complete : (low b high : ℕ) → low ≤ b → b ≤ high → (nat_le low b && nat_le b high) ≡ true
between-complete low b high l h = ap (λ x. x && nat_le b high) (le-leb low b l) ∙ le-leb b high h

pub begins_capital-sound : (w : List ℕ) → begins_capital w ≡ true → IsCapital w
begins_capital-sound [] e = absurd (cc)
begins_capital-sound (b ∷ bs) e = let c = both_true (nat_le 65 b) (nat_le b 90) e in (leb-true 65 b c.0, leb-true b 90 c.1)

pub begins_capital-complete : (w : List ℕ) → IsCapital w → begins_capital w ≡ true
begins_capital-complete [] c = absurd c
begins_capital-complete (b ∷ bs) c = between-complete 65 b 90 c.0 c.1

pub begins_small-sound : (w : List ℕ) → begins_small w ≡ true → IsSmall w
begins_small-sound [] e = absurd (cc)
begins_small-sound (b ∷ bs) e =
    elim (either_true (nat_le 97 b && nat_le b 122) (b == 95) e) [
      | inl h ↦ let c = both_true (nat_le 97 b) (nat_le b 122) h in inl (leb-true 97 b c.0, leb-true b 122 c.1)
      | inr h ↦ inr (eqb-true b 95 h)
    ]

pub begins_small-complete : (w : List ℕ) → IsSmall w → begins_small w ≡ true
begins_small-complete [] c = absurd c
begins_small-complete (b ∷ bs) (inl c) = ap (λ x. x || (b == 95)) (between-complete 97 b 122 c.0 c.1)
begins_small-complete (b ∷ bs) (inr c) = subst (λ d. begins_small (d ∷ bs) ≡ true) (sym c) refl

-- ---- the kind of a token

pub is_sign-sound : (s : Sign) (kind : TokenKind) → is_sign s kind ≡ true → kind ≡ Punctuation s
is_sign-sound s (Punctuation found) e = ap Punctuation (same_true the_type tt found s e)
is_sign-sound s (Word name) e = absurd (cc)
is_sign-sound s (Number literal) e = absurd (cc)
is_sign-sound s (ByteString text) e = absurd (cc)

pub is_sign-same : (s : Sign) → is_sign s (Punctuation s) ≡ true
is_sign-same s = true_same the_type s s refl

pub is_word-sound : (w : List ℕ) (kind : TokenKind) → is_word w kind ≡ true → kind ≡ Word w
is_word-sound w (Word name) e = ap Word (same_text name w (sym e))
is_word-sound w (Punctuation found) e = absurd (cc)
is_word-sound w (Number literal) e = absurd (cc)
is_word-sound w (ByteString text) e = absurd (cc)

-- ---- signs

pub after_sign-sound : (s : Sign) (ts rest : List Token) → after_sign s ts ≡ Some rest → Begins (sign s ∷ []) ts rest
unfolding after_sign
after_sign-sound s [] rest e = absurd (cc)
after_sign-sound s (t ∷ ts) rest e = let c = if_some (is_sign s t.kind) ts rest e in (record { kind = is_sign-sound s t.kind c.0; placed = tt; glued = tt }, c.1)

-- a sign whose span or gluing the tree keeps is read as well
pub after_sign-begins : (s : Sign) (l : Lexeme) (ts rest : List Token) → l.kind ≡ Punctuation s → Begins (l ∷ []) ts rest → after_sign s ts ≡ Some rest
unfolding after_sign
after_sign-begins s l [] rest e a = absurd a
after_sign-begins s l (t ∷ ts) rest e a = ap (λ k. cond (is_sign s k) (Some ts) None) (a.0.kind ∙ e) ∙ ap (λ b. cond b (Some ts) None) (is_sign-same s) ∙ ap Some a.1

pub after_sign-complete : (s : Sign) (ts rest : List Token) → Begins (sign s ∷ []) ts rest → after_sign s ts ≡ Some rest
after_sign-complete s ts rest a = after_sign-begins s (sign s) ts rest refl a

-- another token is here
pub after_sign-other : (s : Sign) (l : Lexeme) (ls : List Lexeme) (ts rest : List Token) → is_sign s l.kind ≡ false → Begins (l ∷ ls) ts rest → after_sign s ts ≡ None
unfolding after_sign
after_sign-other s l ls [] rest e a = absurd a
after_sign-other s l ls (t ∷ ts) rest e a = ap (λ k. cond (is_sign s k) (Some ts) None) a.0.kind ∙ ap (λ b. cond b (Some ts) None) e

pub sign_span_at-sound : (s : Sign) (ts : List Token) (r : Span × List Token) → sign_span_at s ts ≡ Some r → Begins (sign_at r.0 s ∷ []) ts r.1
unfolding sign_span_at
sign_span_at-sound s [] r e = absurd (cc)
sign_span_at-sound s (t ∷ ts) r e =
    let c = if_some (is_sign s t.kind) (t.span, ts) r e in
    subst (λ q. Begins (sign_at q.0 s ∷ []) (t ∷ ts) q.1) c.1 (record { kind = is_sign-sound s t.kind c.0; placed = refl; glued = tt }, refl)

pub sign_span_at-complete : (s : Sign) (span : Span) (ts rest : List Token) → Begins (sign_at span s ∷ []) ts rest → sign_span_at s ts ≡ Some (span, rest)
unfolding sign_span_at
sign_span_at-complete s span [] rest a = absurd a
sign_span_at-complete s span (t ∷ ts) rest a =
    ap (λ k. cond (is_sign s k) (Some (t.span, ts)) None) a.0.kind ∙ ap (λ b. cond b (Some (t.span, ts)) None) (is_sign-same s)
    ∙ ap (λ p. Some (p, ts)) a.0.placed ∙ ap (λ us. Some (span, us)) a.1

pub sign_span_at-other : (s : Sign) (l : Lexeme) (ls : List Lexeme) (ts rest : List Token) → is_sign s l.kind ≡ false → Begins (l ∷ ls) ts rest → sign_span_at s ts ≡ None
unfolding sign_span_at
sign_span_at-other s l ls [] rest e a = absurd a
sign_span_at-other s l ls (t ∷ ts) rest e a = ap (λ k. cond (is_sign s k) (Some (t.span, ts)) None) a.0.kind ∙ ap (λ b. cond b (Some (t.span, ts)) None) e

-- where there is no such sign, it has no span
pub sign_span_at-none : (s : Sign) (ts : List Token) → after_sign s ts ≡ None → sign_span_at s ts ≡ None
unfolding after_sign sign_span_at
sign_span_at-none s [] e = refl
sign_span_at-none s (t ∷ ts) e = go (is_sign s t.kind) e
  where
    go : (b : Bool) → cond b (Some ts) None ≡ None → ◌≡◌ {A = Read Span} (cond b (Some (t.span, ts)) None) None
    go true e = absurd (cc)
    go false e = refl

pub before_sign-sound : (s : Sign) (ts rest : List Token) → before_sign s ts ≡ Some rest → (ts ≡ rest) × (is_some (after_sign s ts) ≡ true)
unfolding before_sign
before_sign-sound s ts rest e = let c = if_some (is_some (after_sign s ts)) ts rest e in (c.1, c.0)

pub before_sign-complete : (s : Sign) (ts rest : List Token) → after_sign s ts ≡ Some rest → before_sign s ts ≡ Some ts
unfolding before_sign
before_sign-complete s ts rest e = ap (λ o. cond (is_some {T = List Token} o) (Some ts) None) e

pub before_sign-none : (s : Sign) (ts : List Token) → after_sign s ts ≡ None → before_sign s ts ≡ None
unfolding before_sign
before_sign-none s ts e = ap (λ o. cond (is_some {T = List Token} o) (Some ts) None) e

-- ---- words

pub after_word-sound : (w : List ℕ) (ts rest : List Token) → after_word w ts ≡ Some rest → Begins (word w None ∷ []) ts rest
unfolding after_word
after_word-sound w [] rest e = absurd (cc)
after_word-sound w (t ∷ ts) rest e = let c = if_some (is_word w t.kind) ts rest e in (record { kind = is_word-sound w t.kind c.0; placed = tt; glued = tt }, c.1)

pub after_word-complete : (w : List ℕ) (ts rest : List Token) → Begins (word w None ∷ []) ts rest → after_word w ts ≡ Some rest
unfolding after_word
after_word-complete w [] rest a = absurd a
after_word-complete w (t ∷ ts) rest a = ap (λ k. cond (is_word w k) (Some ts) None) a.0.kind ∙ ap (λ b. cond b (Some ts) None) (same_name-same w) ∙ ap Some a.1

pub after_word-other : (w : List ℕ) (l : Lexeme) (ls : List Lexeme) (ts rest : List Token) → is_word w l.kind ≡ false → Begins (l ∷ ls) ts rest → after_word w ts ≡ None
unfolding after_word
after_word-other w l ls [] rest e a = absurd a
after_word-other w l ls (t ∷ ts) rest e a = ap (λ k. cond (is_word w k) (Some ts) None) a.0.kind ∙ ap (λ b. cond b (Some ts) None) e

pub word_span_at-sound : (w : List ℕ) (ts : List Token) (r : Span × List Token) → word_span_at w ts ≡ Some r → Begins (word w (Some r.0) ∷ []) ts r.1
unfolding word_span_at
word_span_at-sound w [] r e = absurd (cc)
word_span_at-sound w (t ∷ ts) r e =
    let c = if_some (is_word w t.kind) (t.span, ts) r e in
    subst (λ q. Begins (word w (Some q.0) ∷ []) (t ∷ ts) q.1) c.1 (record { kind = is_word-sound w t.kind c.0; placed = refl; glued = tt }, refl)

pub word_span_at-complete : (w : List ℕ) (span : Span) (ts rest : List Token) → Begins (word w (Some span) ∷ []) ts rest → word_span_at w ts ≡ Some (span, rest)
unfolding word_span_at
word_span_at-complete w span [] rest a = absurd a
word_span_at-complete w span (t ∷ ts) rest a =
    ap (λ k. cond (is_word w k) (Some (t.span, ts)) None) a.0.kind ∙ ap (λ b. cond b (Some (t.span, ts)) None) (same_name-same w)
    ∙ ap (λ p. Some (p, ts)) a.0.placed ∙ ap (λ us. Some (span, us)) a.1

pub word_span_at-other : (w : List ℕ) (l : Lexeme) (ls : List Lexeme) (ts rest : List Token) → is_word w l.kind ≡ false → Begins (l ∷ ls) ts rest → word_span_at w ts ≡ None
unfolding word_span_at
word_span_at-other w l ls [] rest e a = absurd a
word_span_at-other w l ls (t ∷ ts) rest e a = ap (λ k. cond (is_word w k) (Some (t.span, ts)) None) a.0.kind ∙ ap (λ b. cond b (Some (t.span, ts)) None) e

-- ---- names

name_of-sound : (kind : TokenKind) (name : List ℕ) → name_of kind ≡ Some name → (kind ≡ Word name) × IsName name
name_of-sound (Word w) name e = let c = if_not (is_keyword w) w name e in (ap Word c.1, subst IsName c.1 (is_keyword-sound w c.0))
name_of-sound (Punctuation found) name e = absurd (cc)
name_of-sound (Number literal) name e = absurd (cc)
name_of-sound (ByteString text) name e = absurd (cc)

pub identifier_at-sound : (ts : List Token) (r : Identifier × List Token) → identifier_at ts ≡ Some r → Begins (identifier r.0 ∷ []) ts r.1 × IsName r.0.text
unfolding identifier_at
identifier_at-sound [] r e = absurd (cc)
identifier_at-sound (t ∷ ts) r e =
    let l = last (name_of t.kind) (λ n. (record { text = n; span = t.span }, ts)) r e in
    let s = name_of-sound t.kind l.value l.first in
    subst (λ q. Begins (identifier q.0 ∷ []) (t ∷ ts) q.1 × IsName q.0.text) l.then ((record { kind = s.0; placed = refl; glued = tt }, refl), s.1)

pub identifier_at-complete : (i : Identifier) (ts rest : List Token) → Begins (identifier i ∷ []) ts rest → IsName i.text → identifier_at ts ≡ Some (i, rest)
unfolding identifier_at
identifier_at-complete i [] rest a n = absurd a
identifier_at-complete i (t ∷ ts) rest a n =
    ap (λ k. option_map (λ w. (record { text = w; span = t.span }, ts)) (name_of k)) a.0.kind
    ∙ ap (λ b. option_map (λ w. (record { text = w; span = t.span }, ts)) (cond b None (Some i.text))) (is_keyword-complete i.text n)
    ∙ ap (λ p. Some (record { text = i.text; span = p }, ts)) a.0.placed ∙ ap (λ us. Some (i, us)) a.1

-- what is not a name is not read as one
pub identifier_at-other : (l : Lexeme) (ls : List Lexeme) (ts rest : List Token) → name_of l.kind ≡ None → Begins (l ∷ ls) ts rest → identifier_at ts ≡ None
unfolding identifier_at
identifier_at-other l ls [] rest e a = absurd a
identifier_at-other l ls (t ∷ ts) rest e a = ap (λ k. option_map (λ w. (record { text = w; span = t.span }, ts)) (name_of k)) a.0.kind ∙ ap (option_map (λ w. (record { text = w; span = t.span }, ts))) e
