-- Literals and the words of quantifiers are read exactly.
use Rattle.std.proofs.Common.{◌≡◌, ◌≢◌, ℕ, Bool, true, false, cond, ◌&&◌, ◌||◌, List, [], ◌∷◌, ◌++◌, Option, Some, None, refl, ap, subst, ◌∙◌, inl, inr}
use Rattle.std.specs.Prelude.{codes, is_some, option_and_then}
use Rattle.std.specs.Option.{option_map, option_map_or}
use Rattle.base.specs.declared.span.Span.{Span}
use Rattle.tokens.specs.declared.token.Token.{Token}
use Rattle.tokens.specs.declared.token.TokenKind.{TokenKind}
use Rattle.tokens.specs.declared.token.TokenKind.TheVariants.{Word, Number, ByteString, Punctuation}
use Rattle.tokens.specs.declared.token.NumberLiteral.{NumberLiteral}
use Rattle.tokens.specs.declared.token.NumberSuffix.{NumberSuffix}
use Rattle.tokens.specs.declared.token.NumberSuffix.TheVariants.{Absent, U8, U16, U32, U64, U128, U256}
use Rattle.tokens.specs.declared.token.Punctuation.TheVariants.{LeftBrace, Colon, ColonColon, AtSign}
use Rattle.syntax_tree.specs.declared.lexeme.Identifier.{Identifier}
use Rattle.syntax_tree.specs.declared.lexeme.Numeral.{Numeral}
use Rattle.syntax_tree.specs.declared.lexeme.Lexeme.{Lexeme}
use Rattle.syntax_tree.specs.declared.literal.Literal.{Literal}
use Rattle.syntax_tree.specs.declared.literal.Literal.TheVariants.{Number as number_literal, Truth, Address as address_literal}
use Rattle.syntax_tree.specs.declared.path.Address.{Address}
use Rattle.syntax_tree.specs.declared.path.Address.TheVariants.{Number as number_address, Name as name_address}
use Rattle.syntax_tree.specs.declared.path.Path.{Path}
use Rattle.syntax_tree.specs.declared.path.Path.TheVariants.{Name as name_path, Member as member_path, Full as full_path}
use Rattle.syntax_tree.specs.Lexemes.{word, sign, sign_at, identifier, numeral}
use Rattle.syntax_tree.specs.NameRules.{IsName, IsCapital}
use Rattle.syntax_tree.specs.LiteralSpelling.{literal_spelling}
use Rattle.syntax_tree.specs.PathSpelling.{address_spelling, path_spelling}
use Rattle.syntax_tree.specs.ProperTypes.{IsProperNumeral, IsProperAddress, IsProperPath, last_name}
use Rattle.syntax_tree.specs.ProperExpressions.{IsProperLiteral}
use Rattle.syntax_tree.specs.declared.spec_expression.operator.Quantifier.{Quantifier}
use Rattle.syntax_tree.specs.declared.spec_expression.operator.Quantifier.TheVariants.{ForAll, Exists}
use Rattle.syntax_tree.specs.SpecOperatorSpelling.{quantifier_spelling}
use Rattle.parser_base.specs.Beginnings.{Begins}
use Rattle.parser_base.specs.TokenReading.{Read, is_word, is_keyword, after_sign, after_word, word_span_at, identifier_at, name_of, begins_capital}
use Rattle.parser_base.proofs.Steps.{step, last, some_one, either, if_some, if_not, if_read, bind_some, map_some, map_or_none, map_or_some, cond_true, cond_false}
use Rattle.parser_base.proofs.BeginLemmas.{Begins-append, Begins-first}
use Rattle.parser_base.proofs.TokenLemmas.{after_sign-sound, after_sign-complete, after_sign-other, after_word-complete, word_span_at-sound, word_span_at-complete, word_span_at-other, identifier_at-complete, identifier_at-other, begins_capital-sound, begins_capital-complete}
use Rattle.parser_base.specs.PathReading.{address_at}
use Rattle.parser_base.specs.LeafReading.{number_at, plain_literal_at}
use Rattle.parser_base.proofs.PathLemmas.{path_opens, opens_no_word, address_at-sound, address_at-complete}
use Rattle.expression_parser.specs.LeafReading.{address_literal_at, opens_bind, quantifier_word_at, quantifier_at, pack_opened}
use Rattle.base.proofs.TruthValues.{both_true as both}
use Rattle.parser_base.proofs.LeafLemmas.{number_at-other, number_at-path, plain_none}

-- ---- literals

true_is_keyword : is_keyword (codes "true") ≡ true
unfolding is_keyword
true_is_keyword = refl

false_is_keyword : is_keyword (codes "false") ≡ true
unfolding is_keyword
false_is_keyword = refl

pub if_is_keyword : is_keyword (codes "if") ≡ true
unfolding is_keyword
if_is_keyword = refl

-- a keyword does not begin a path
pub path_no_span : (w : List ℕ) (p : Path) (ls : List Lexeme) (ts rest : List Token) → is_keyword w ≡ true → Begins (path_spelling p ++ ls) ts rest → IsProperPath p → word_span_at w ts ≡ None
path_no_span w p ls ts rest k b q = let o = path_opens p ls ts rest b q in word_span_at-other w o.lexeme o.others ts rest (opens_no_word w o.lexeme.kind k o.opens) o.begins

path_no_number : (p : Path) (ls : List Lexeme) (ts rest : List Token) → Begins (path_spelling p ++ ls) ts rest → number_at ts ≡ None
path_no_number (name_path i) ls ts rest b = number_at-other (identifier i) ls ts rest refl b
path_no_number (member_path i j) ls ts rest b = number_at-other (identifier i) (sign ColonColon ∷ identifier j ∷ ls) ts rest refl b
path_no_number (full_path m n) ls ts rest b = from_address m.address m.name n ls b
  where
    from_address : (a : Address) (m n : Identifier) (ls : List Lexeme) → Begins (path_spelling (full_path (record { address = a; name = m }) n) ++ ls) ts rest → number_at ts ≡ None
    from_address (number_address a) m n ls b = number_at-path (numeral a) (identifier m ∷ sign ColonColon ∷ identifier n ∷ ls) ts rest b
    from_address (name_address i) m n ls b = number_at-other (identifier i) (sign ColonColon ∷ identifier m ∷ sign ColonColon ∷ identifier n ∷ ls) ts rest refl b

-- a path begins with no number and no boolean
pub path_no_literal : (p : Path) (ls : List Lexeme) (ts rest : List Token) → Begins (path_spelling p ++ ls) ts rest → IsProperPath p → plain_literal_at ts ≡ None
path_no_literal p ls ts rest b q =
    let o = path_opens p ls ts rest b q in
    plain_none o.lexeme o.others ts rest (path_no_number p ls ts rest b) (opens_no_word (codes "true") o.lexeme.kind true_is_keyword o.opens) (opens_no_word (codes "false") o.lexeme.kind false_is_keyword o.opens) o.begins

pub address_literal_at-sound : (span : Span) (whole ts : List Token) (r : Literal × List Token) → Begins (sign_at span AtSign ∷ []) whole ts → address_literal_at span ts ≡ Some r → Begins (literal_spelling r.0) whole r.1 × IsProperLiteral r.0
unfolding address_literal_at
address_literal_at-sound span whole ts r b e =
    let a = last (address_at ts) (λ a. (address_literal span a.0, a.1)) r e in
    let s = address_at-sound ts a.value a.first in
    subst (λ q. Begins (literal_spelling q.0) whole q.1 × IsProperLiteral q.0) a.then (Begins-append (sign_at span AtSign ∷ []) (address_spelling a.value.0) whole ts a.value.1 b s.0, s.1)

pub address_literal_at-complete : (span : Span) (a : Address) (ts rest : List Token) → Begins (address_spelling a) ts rest → IsProperAddress a → address_literal_at span ts ≡ Some (address_literal span a, rest)
unfolding address_literal_at
address_literal_at-complete span a ts rest b p = map_some (address_at ts) (λ a. (address_literal span a.0, a.1)) (a, rest) (address_at-complete a ts rest b p)

-- ---- the words of quantifiers

pub opens_bind-other : (l : Lexeme) (ls : List Lexeme) (ts rest : List Token) → name_of l.kind ≡ None → Begins (l ∷ ls) ts rest → opens_bind ts ≡ false
unfolding opens_bind
opens_bind-other l ls ts rest e b = map_or_none (identifier_at ts) _ false (identifier_at-other l ls ts rest e b)

pub opens_bind-typed : (i : Identifier) (ls : List Lexeme) (ts rest : List Token) → IsName i.text → Begins (identifier i ∷ sign Colon ∷ ls) ts rest → opens_bind ts ≡ true
unfolding opens_bind
opens_bind-typed i ls ts rest n b =
    let s = Begins-first (identifier i) (sign Colon ∷ ls) ts rest b in
    let c = Begins-first (sign Colon) ls s.mid rest s.back in
    map_or_some (identifier_at ts) _ false (i, s.mid) (identifier_at-complete i ts s.mid s.front n)
    ∙ ap (λ o. is_some {T = List Token} o || is_some (after_word (codes "in") s.mid)) (after_sign-complete Colon s.mid c.mid c.front)

pub opens_bind-ranged : (i : Identifier) (ls : List Lexeme) (ts rest : List Token) → IsName i.text → Begins (identifier i ∷ word (codes "in") None ∷ ls) ts rest → opens_bind ts ≡ true
unfolding opens_bind
opens_bind-ranged i ls ts rest n b =
    let s = Begins-first (identifier i) (word (codes "in") None ∷ ls) ts rest b in
    let c = Begins-first (word (codes "in") None) ls s.mid rest s.back in
    map_or_some (identifier_at ts) _ false (i, s.mid) (identifier_at-complete i ts s.mid s.front n)
    ∙ ap (λ o. is_some {T = List Token} o || is_some (after_word (codes "in") s.mid)) (after_sign-other Colon (word (codes "in") None) ls s.mid rest refl s.back)
    ∙ ap (λ o. is_some {T = List Token} o) (after_word-complete (codes "in") s.mid c.mid c.front)

quantifier_word_at-sound : (ts : List Token) (r : (Quantifier × Span) × List Token) → quantifier_word_at ts ≡ Some r → Begins (quantifier_spelling r.0.0 r.0.1) ts r.1
unfolding quantifier_word_at
quantifier_word_at-sound ts r e =
    elim (either (word_span_at (codes "forall") ts) (λ p. Some ((ForAll, p.0), p.1)) _ r e) [
      | inl s ↦ subst (λ q. Begins (quantifier_spelling q.0.0 q.0.1) ts q.1) (some_one ((ForAll, s.value.0), s.value.1) r s.then) (word_span_at-sound (codes "forall") ts s.value s.first)
      | inr n ↦
          let s = last (word_span_at (codes "exists") ts) (λ p. ((Exists, p.0), p.1)) r n.1 in
          subst (λ q. Begins (quantifier_spelling q.0.0 q.0.1) ts q.1) s.then (word_span_at-sound (codes "exists") ts s.value s.first)
    ]

pub quantifier_at-sound : (ts : List Token) (r : (Quantifier × Span) × List Token) → quantifier_at ts ≡ Some r → Begins (quantifier_spelling r.0.0 r.0.1) ts r.1
unfolding quantifier_at
quantifier_at-sound ts r e =
    let s = step (quantifier_word_at ts) _ r e in
    let c = if_some (opens_bind s.value.1) (s.value.0, s.value.1) r s.then in
    subst (λ q. Begins (quantifier_spelling q.0.0 q.0.1) ts q.1) c.1 (quantifier_word_at-sound ts s.value s.first)

quantifier_word_at-complete : (q : Quantifier) (span : Span) (ts us : List Token) → Begins (quantifier_spelling q span) ts us → quantifier_word_at ts ≡ Some ((q, span), us)
unfolding quantifier_word_at
quantifier_word_at-complete ForAll span ts us b = map_or_some (word_span_at (codes "forall") ts) _ _ (span, us) (word_span_at-complete (codes "forall") span ts us b)
quantifier_word_at-complete Exists span ts us b =
    map_or_none (word_span_at (codes "forall") ts) _ _ (word_span_at-other (codes "forall") (word (codes "exists") (Some span)) [] ts us refl b)
    ∙ map_some (word_span_at (codes "exists") ts) (λ p. ((Exists, p.0), p.1)) (span, us) (word_span_at-complete (codes "exists") span ts us b)

pub quantifier_at-complete : (q : Quantifier) (span : Span) (ts us : List Token) → Begins (quantifier_spelling q span) ts us → opens_bind us ≡ true → quantifier_at ts ≡ Some ((q, span), us)
unfolding quantifier_at
quantifier_at-complete q span ts us b e =
    bind_some (quantifier_word_at ts) _ ((q, span), us) (quantifier_word_at-complete q span ts us b) ∙ cond_true (opens_bind us) (Some ((q, span), us)) None e

-- the result, if the word here is known
abbrev with_words : Bool → Bool → Span → List Token → Read (Quantifier × Span)
with_words is_forall is_exists span ts =
    option_and_then (λ (q : (Quantifier × Span) × List Token). cond (opens_bind q.1) (Some (q.0, q.1)) None)
    (option_map_or (λ (p : Span × List Token). Some ((ForAll, p.0), p.1)) (cond is_forall (Some (span, ts)) None) (option_map (λ (p : Span × List Token). ((Exists, p.0), p.1)) (cond is_exists (Some (span, ts)) None)))

with_words-none : (is_forall is_exists : Bool) (span : Span) (ts : List Token) → opens_bind ts ≡ false → with_words is_forall is_exists span ts ≡ None
with_words-none true is_exists span ts e = cond_false (opens_bind ts) (Some ((ForAll, span), ts)) None e
with_words-none false true span ts e = cond_false (opens_bind ts) (Some ((Exists, span), ts)) None e
with_words-none false false span ts e = refl

-- where no bind follows, there is no word of a quantifier
pub quantifier_at-behind : (l : Lexeme) (ts rest : List Token) → Begins (l ∷ []) ts rest → opens_bind rest ≡ false → quantifier_at ts ≡ None
unfolding quantifier_at quantifier_word_at word_span_at
quantifier_at-behind l [] rest b e = absurd b
quantifier_at-behind l (t ∷ ts) rest b e = with_words-none (is_word (codes "forall") t.kind) (is_word (codes "exists") t.kind) t.span ts (ap opens_bind b.1 ∙ e)

pub quantifier_at-other : (l : Lexeme) (ls : List Lexeme) (ts rest : List Token) → is_word (codes "forall") l.kind ≡ false → is_word (codes "exists") l.kind ≡ false → Begins (l ∷ ls) ts rest → quantifier_at ts ≡ None
unfolding quantifier_at quantifier_word_at
quantifier_at-other l ls ts rest a c b =
    ap (option_and_then (λ q. cond (opens_bind q.1) (Some (q.0, q.1)) None))
    (map_or_none (word_span_at (codes "forall") ts) (λ p. Some ((ForAll, p.0), p.1)) _ (word_span_at-other (codes "forall") l ls ts rest a b)
    ∙ ap (option_map (λ p. ((Exists, p.0), p.1))) (word_span_at-other (codes "exists") l ls ts rest c b))

-- ---- packs

pub pack_opened-sound : (packs : Bool) (path : Path) (ts rest : List Token) → pack_opened packs path ts ≡ Some rest → (packs ≡ true) × IsCapital (last_name path) × Begins (sign LeftBrace ∷ []) ts rest
unfolding pack_opened
pack_opened-sound packs path ts rest e =
    let c = if_read (packs && begins_capital (last_name path)) (after_sign LeftBrace ts) rest e in
    let b = both packs (begins_capital (last_name path)) c.0 in
    (b.0, begins_capital-sound (last_name path) b.1, after_sign-sound LeftBrace ts rest c.1)

pub pack_opened-complete : (path : Path) (ts rest : List Token) → IsCapital (last_name path) → Begins (sign LeftBrace ∷ []) ts rest → pack_opened true path ts ≡ Some rest
unfolding pack_opened
pack_opened-complete path ts rest c b = cond_true (begins_capital (last_name path)) (after_sign LeftBrace ts) None (begins_capital-complete (last_name path) c) ∙ after_sign-complete LeftBrace ts rest b

pub pack_opened-none : (packs : Bool) (path : Path) (ts : List Token) → (packs ≡ true → after_sign LeftBrace ts ≡ None) → pack_opened packs path ts ≡ None
unfolding pack_opened
pack_opened-none false path ts h = refl
pack_opened-none true path ts h = go (begins_capital (last_name path))
  where
    go : (b : Bool) → cond b (after_sign LeftBrace ts) None ≡ None
    go true = h refl
    go false = refl
