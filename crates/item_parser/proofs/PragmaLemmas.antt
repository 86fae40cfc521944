-- Pragmas are read exactly.
use Rattle.std.proofs.Common.{◌≡◌, ◌≢◌, length, Bool, true, false, cond, List, [], ◌∷◌, ◌++◌, Option, Some, None, refl, sym, ap, subst, ◌∙◌, inl, inr, arith}
use Rattle.std.specs.Prelude.{codes, map}
use Rattle.std.specs.Option.{option_map}
use Rattle.std.specs.List.{AllByRecursion}
use Rattle.base.specs.declared.span.Span.{Span}
use Rattle.tokens.specs.declared.token.Token.{Token}
use Rattle.tokens.specs.declared.token.TokenKind.{TokenKind}
use Rattle.tokens.specs.declared.token.TokenKind.TheVariants.{Word, Number, ByteString, Punctuation}
use Rattle.tokens.specs.declared.token.NumberLiteral.{NumberLiteral}
use Rattle.tokens.specs.declared.token.NumberSuffix.{NumberSuffix}
use Rattle.tokens.specs.declared.token.NumberSuffix.TheVariants.{Absent, U8, U16, U32, U64, U128, U256}
use Rattle.tokens.specs.declared.token.Punctuation.TheVariants.{Semicolon, Comma, Equal}
use Rattle.syntax_tree.specs.declared.lexeme.Lexeme.{Lexeme}
use Rattle.syntax_tree.specs.Lexemes.{word, sign, identifier, numeral, comma_list}
use Rattle.syntax_tree.specs.ProperMembers.{AreAny}
use Rattle.syntax_tree.specs.ClauseData.{PragmasData}
use Rattle.syntax_tree.specs.ClauseSpelling.{truth_spelling, pragma_value_spelling, pragma_spelling, pragmas_spelling, clause_spelling}
use Rattle.syntax_tree.specs.ProperClauses.{IsProperPragmaValue, IsProperPragma, AreProperPragmas, IsProperForm}
use Rattle.syntax_tree.specs.declared.clause.PragmaValue.{PragmaValue}
use Rattle.syntax_tree.specs.declared.clause.PragmaValue.TheVariants.{Truth as truth_value, Number as number_value}
use Rattle.syntax_tree.specs.declared.clause.Pragma.{Pragma}
use Rattle.syntax_tree.specs.declared.clause.Clause.{Clause}
use Rattle.syntax_tree.specs.declared.clause.Clause.TheVariants.{Pragma as pragma_clause}
use Rattle.parser_base.specs.Beginnings.{Begins}
use Rattle.parser_base.specs.TokenReading.{is_word, after_sign, identifier_at}
use Rattle.parser_base.specs.ListReading.{some_items_at}
use Rattle.parser_base.proofs.Steps.{step, last, some_one, either, either_read, bind_some, map_some, map_or_none, map_or_some}
use Rattle.parser_base.proofs.BeginLemmas.{Begins-append, Begins-first, Begins-same}
use Rattle.parser_base.proofs.TokenLemmas.{is_word-sound, after_sign-sound, after_sign-complete, after_sign-other, identifier_at-sound, identifier_at-complete}
use Rattle.parser_base.proofs.ListLemmas.{some_items_at-sound, some_items_at-complete}
use Rattle.parser_base.proofs.BeforeLists.{filled_is_any}
use Rattle.parser_base.specs.LeafReading.{fitting_number_of}
use Rattle.parser_base.proofs.LeafLemmas.{fitting-complete, fitting_number_of-sound}
use Rattle.item_parser.specs.ClauseReading.{value_of, value_at, setting_at, pragma_at, pragmas_at}

-- ---- values

-- the spelling of a value, after its `=`
abbrev value_spelling : PragmaValue → List Lexeme
value_spelling (truth_value span value) = truth_spelling span value
value_spelling (number_value n) = numeral n ∷ []

abbrev IsProperValue : PragmaValue → Type 0
IsProperValue value = IsProperPragmaValue (Some value)

value_spelled : (value : PragmaValue) → pragma_value_spelling (Some value) ≡ sign Equal ∷ value_spelling value
value_spelled (truth_value span value) = refl
value_spelled (number_value n) = refl

-- a token with this spelling
record Spells (t : Token) (value : PragmaValue) : Type 0 where
  pub spelled : (ts : List Token) → Begins (value_spelling value) (t ∷ ts) ts
  pub proper : IsProperValue value

value_of-sound : (t : Token) (value : PragmaValue) → value_of t ≡ Some value → Spells t value
unfolding value_of
value_of-sound t value e =
    elim (either_read (is_word (codes "true") t.kind) _ _ value e) [
      | inl h ↦ subst (Spells t) (some_one (truth_value t.span true) value h.1) (record { spelled = λ ts. (record { kind = is_word-sound (codes "true") t.kind h.0; placed = refl; glued = tt }, refl); proper = tt })
      | inr h ↦ elim (either_read (is_word (codes "false") t.kind) _ _ value h.1) [
        | inl h ↦ subst (Spells t) (some_one (truth_value t.span false) value h.1) (record { spelled = λ ts. (record { kind = is_word-sound (codes "false") t.kind h.0; placed = refl; glued = tt }, refl); proper = tt })
        | inr h ↦
            let l = last (fitting_number_of t.kind) (λ literal. number_value (record { literal = literal; span = t.span })) value h.1 in
            let n = fitting_number_of-sound t.kind l.value l.first in
            subst (Spells t) l.then (record { spelled = λ ts. (record { kind = n.0; placed = refl; glued = tt }, refl); proper = n.1 })
      ]
    ]

value_at-sound : (ts : List Token) (r : PragmaValue × List Token) → value_at ts ≡ Some r → Begins (value_spelling r.0) ts r.1 × IsProperValue r.0
unfolding value_at
value_at-sound [] r e = absurd (cc)
value_at-sound (t ∷ ts) r e =
    let l = last (value_of t) (λ value. (value, ts)) r e in
    let s = value_of-sound t l.value l.first in
    subst (λ q. Begins (value_spelling q.0) (t ∷ ts) q.1 × IsProperValue q.0) l.then (s.spelled ts, s.proper)

-- the value of a token, by its kind and span
abbrev valued : TokenKind → Span → Option PragmaValue
valued kind span =
    cond (is_word (codes "true") kind) (Some (truth_value span true)) (cond (is_word (codes "false") kind) (Some (truth_value span false)) (option_map (λ literal. number_value (record { literal = literal; span = span })) (fitting_number_of kind)))

valued-number : (l : NumberLiteral) (span : Span) → l.suffix ≢ U256 → valued (Number l) span ≡ Some (number_value (record { literal = l; span = span }))
valued-number l span p = ap (option_map (λ literal. number_value (record { literal = literal; span = span }))) (fitting-complete l l.suffix p)

value_at-valued : (value : PragmaValue) (kind : TokenKind) (span : Span) (ts rest : List Token) → valued kind span ≡ Some value → Begins (record { kind = kind; span = Some span; glued = None } ∷ []) ts rest → value_at ts ≡ Some (value, rest)
unfolding value_at value_of
value_at-valued value kind span [] rest v b = absurd b
value_at-valued value kind span (t ∷ ts) rest v b =
    ap (λ k. option_map (λ value. (value, ts)) (valued k t.span)) b.0.kind ∙ ap (λ p. option_map (λ value. (value, ts)) (valued kind p)) b.0.placed
    ∙ ap (option_map (λ value. (value, ts))) v ∙ ap (λ us. Some (value, us)) b.1

value_at-complete : (value : PragmaValue) (ts rest : List Token) → Begins (value_spelling value) ts rest → IsProperValue value → value_at ts ≡ Some (value, rest)
value_at-complete (truth_value span true) ts rest b p = value_at-valued (truth_value span true) (Word (codes "true")) span ts rest refl b
value_at-complete (truth_value span false) ts rest b p = value_at-valued (truth_value span false) (Word (codes "false")) span ts rest refl b
value_at-complete (number_value n) ts rest b p = value_at-valued (number_value n) (Number n.literal) n.span ts rest (valued-number n.literal n.span p) b

setting_at-sound : (ts : List Token) (r : Option PragmaValue × List Token) → setting_at ts ≡ Some r → Begins (pragma_value_spelling r.0) ts r.1 × IsProperPragmaValue r.0
unfolding setting_at
setting_at-sound ts r e =
    elim (either (after_sign Equal ts) (λ rest. option_map (λ value. (Some value.0, value.1)) (value_at rest)) _ r e) [
      | inl s ↦
          let v = last (value_at s.value) (λ value. (Some value.0, value.1)) r s.then in
          let read = value_at-sound s.value v.value v.first in
          subst (λ q. Begins (pragma_value_spelling q.0) ts q.1 × IsProperPragmaValue q.0) v.then (
            Begins-same _ _ ts v.value.1 (sym (value_spelled v.value.0)) (Begins-append (sign Equal ∷ []) (value_spelling v.value.0) ts s.value v.value.1 (after_sign-sound Equal ts s.value s.first) read.0),
            read.1,
          )
      | inr n ↦ subst (λ q. Begins (pragma_value_spelling q.0) ts q.1 × IsProperPragmaValue q.0) (some_one (None, ts) r n.1) (refl, tt)
    ]

setting_at-complete : (value : Option PragmaValue) (ts rest : List Token) → Begins (pragma_value_spelling value) ts rest → IsProperPragmaValue value → after_sign Equal rest ≡ None → setting_at ts ≡ Some (value, rest)
unfolding setting_at
setting_at-complete None ts rest b p e = map_or_none (after_sign Equal ts) _ (Some (None, ts)) (ap (after_sign Equal) b ∙ e) ∙ ap (λ us. Some (None, us)) b
setting_at-complete (Some value) ts rest b p e =
    let s = Begins-first (sign Equal) (value_spelling value) ts rest (Begins-same _ _ ts rest (value_spelled value) b) in
    map_or_some (after_sign Equal ts) (λ rest. option_map (λ value. (Some value.0, value.1)) (value_at rest)) (Some (None, ts)) s.mid (after_sign-complete Equal ts s.mid s.front)
    ∙ map_some (value_at s.mid) (λ value. (Some value.0, value.1)) (value, rest) (value_at-complete value s.mid rest s.back p)

-- ---- one pragma

pragma_at-sound : (ts : List Token) (r : Pragma × List Token) → pragma_at ts ≡ Some r → Begins (pragma_spelling r.0) ts r.1 × IsProperPragma r.0
unfolding pragma_at
pragma_at-sound ts r e =
    let i = step (identifier_at ts) _ r e in
    let v = last (setting_at i.value.1) (λ value. (record { name = i.value.0; value = value.0 }, value.1)) r i.then in
    let name = identifier_at-sound ts i.value i.first in
    let read = setting_at-sound i.value.1 v.value v.first in
    subst (λ q. Begins (pragma_spelling q.0) ts q.1 × IsProperPragma q.0) v.then
    (Begins-append (identifier i.value.0 ∷ []) (pragma_value_spelling v.value.0) ts i.value.1 v.value.1 name.0 read.0, (name.1, read.1))

pragma_at-complete : (x : Pragma) (ts rest : List Token) → Begins (pragma_spelling x) ts rest → IsProperPragma x → after_sign Equal rest ≡ None → pragma_at ts ≡ Some (x, rest)
unfolding pragma_at
pragma_at-complete x ts rest b p e =
    let i = Begins-first (identifier x.name) (pragma_value_spelling x.value) ts rest b in
    bind_some (identifier_at ts) _ (x.name, i.mid) (identifier_at-complete x.name ts i.mid i.front p.0)
    ∙ map_some (setting_at i.mid) (λ value. (record { name = x.name; value = value.0 }, value.1)) (x.value, rest) (setting_at-complete x.value i.mid rest i.back p.1 e)

-- ---- the clause

pub pragmas_at-sound : (span : Span) (whole ts : List Token) (r : Clause × List Token) → Begins (word (codes "pragma") (Some span) ∷ []) whole ts → pragmas_at span ts ≡ Some r → Begins (clause_spelling r.0) whole r.1 × IsProperForm r.0
unfolding pragmas_at
pragmas_at-sound span whole ts r front e =
    let l = last (some_items_at (after_sign Semicolon) pragma_at ts) (λ items. (pragma_clause span (record { items = items.0.0; last_comma = items.0.1 }), items.1)) r e in
    let s = some_items_at-sound Semicolon pragma_at pragma_spelling IsProperPragma pragma_at-sound ts l.value l.first in
    subst (λ q. Begins (clause_spelling q.0) whole q.1 × IsProperForm q.0) l.then (
      Begins-append (word (codes "pragma") (Some span) ∷ []) (comma_list (map pragma_spelling l.value.0.0) l.value.0.1 ++ sign Semicolon ∷ []) whole ts l.value.1 front s.0.spelled,
      (s.0.all_proper, filled_is_any l.value.0.0 s.1),
    )

pub pragmas_at-complete : (span : Span) (p : PragmasData) (ts rest : List Token) → Begins (pragmas_spelling p ++ sign Semicolon ∷ []) ts rest → AreProperPragmas p → pragmas_at span ts ≡ Some (pragma_clause span p, rest)
unfolding pragmas_at
pragmas_at-complete span p ts rest b q =
    map_some (some_items_at (after_sign Semicolon) pragma_at ts) (λ items. (pragma_clause span (record { items = items.0.0; last_comma = items.0.1 }), items.1)) ((p.items, p.last_comma), rest)
    (listed p.items p.last_comma b q.0 q.1)
  where
    listed : (xs : List Pragma) (last : Bool) → Begins (comma_list (map pragma_spelling xs) last ++ sign Semicolon ∷ []) ts rest → AllByRecursion IsProperPragma xs → AreAny xs
        → some_items_at (after_sign Semicolon) pragma_at ts ≡ Some ((xs, last), rest)
    listed [] last b q f = absurd f
    listed (x ∷ xs) last b q f =
        some_items_at-complete Semicolon pragma_at pragma_spelling IsProperPragma (λ us. after_sign Equal us ≡ None) (length ts) (λ x us rest h b p e. pragma_at-complete x us rest b p e)
        (λ x us rest b p. after_sign-other Semicolon (identifier x.name) (pragma_value_spelling x.value) us rest refl b)
        (λ us rest b. after_sign-other Equal (sign Semicolon) [] us rest refl b) (λ us rest b. after_sign-other Equal (sign Comma) [] us rest refl b) refl
        x xs last ts rest (omega arith) b q
