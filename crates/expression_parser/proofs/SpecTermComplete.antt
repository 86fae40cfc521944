-- Each proper term is read.
use Rattle.std.proofs.Common.{◌≡◌, ℕ, zero, suc, ◌<◌, ◌≤◌, Bool, true, false, ◌||◌, List, [], ◌∷◌, ◌++◌, Option, Some, None, length, refl, sym, ap, subst, ◌∙◌, arith, append_assoc, append-nil, length-append}
use Rattle.std.specs.Prelude.{codes, is_some, option_and_then}
use Rattle.std.specs.Option.{option_map}
use Rattle.base.specs.declared.span.Span.{Span}
use Rattle.tokens.specs.declared.token.Token.{Token}
use Rattle.tokens.specs.declared.token.TokenKind.TheVariants.{Punctuation}
use Rattle.tokens.specs.declared.token.Punctuation.{Punctuation as Sign}
use Rattle.tokens.specs.declared.token.Punctuation.TheVariants.{LeftParenthesis, RightParenthesis, LeftBrace, RightBrace, LeftBracket, RightBracket, Comma, Colon, ColonColon, Period, Exclaim, Less, AtSign}
use Rattle.syntax_tree.specs.declared.lexeme.Identifier.{Identifier}
use Rattle.syntax_tree.specs.declared.lexeme.Lexeme.{Lexeme}
use Rattle.syntax_tree.specs.declared.literal.Literal.{Literal}
use Rattle.syntax_tree.specs.declared.literal.Literal.TheVariants.{Number as number_literal, Truth, Address as address_literal}
use Rattle.syntax_tree.specs.declared.path.Path.{Path}
use Rattle.syntax_tree.specs.declared.path.Path.TheVariants.{Name as name_path, Member as member_path, Full as full_path}
use Rattle.syntax_tree.specs.Lexemes.{lexeme, word, sign, sign_at, identifier, numeral, comma_list}
use Rattle.syntax_tree.specs.PathSpelling.{address_spelling, module_spelling, path_spelling}
use Rattle.syntax_tree.specs.LiteralSpelling.{literal_spelling}
use Rattle.syntax_tree.specs.ProperTypes.{IsProperPath, AreProperMaybeArguments}
use Rattle.syntax_tree.specs.ProperExpressions.{term_level, IsProperLiteral}
use Rattle.syntax_tree.specs.TypeTreeData.{SourceTypeData, Arguments, MaybeArgumentsData, NoArguments, SomeArguments}
use Rattle.syntax_tree.specs.TypeSpelling.{maybe_arguments_spelling}
use Rattle.syntax_tree.specs.SpecExpressionData.{SpecExpressionData, SpecBinary, SpecQuantified, SpecIf, SpecNot, SpecField, SpecIndex, SpecLiteral, SpecPath, SpecCall, SpecPack, SpecParenthesized, SpecExpressionsData, SpecFieldData, ShortSpecField, LongSpecField, SpecFieldsData, spec_expressions_of, list_of_spec_expressions, spec_fields_of, list_of_spec_fields}
use Rattle.syntax_tree.specs.SpecExpressionSpelling.{ends_in_path, spec_spelling, spec_spellings, spec_field_spelling, spec_field_spellings}
use Rattle.syntax_tree.specs.ProperSpecExpressions.{level, AreSome, AreSomeFields, IsProperSpec, IsProperField, AreProperSpecs, AreProperFields}
use Rattle.parser_base.specs.Beginnings.{Begins}
use Rattle.parser_base.specs.TokenReading.{Read, is_sign, after_sign, sign_span_at, identifier_at}
use Rattle.parser_base.specs.ListReading.{comma_list_at}
use Rattle.parser_base.proofs.Steps.{bind_some, map_some, map_or_none, map_or_some}
use Rattle.parser_base.proofs.BeginLemmas.{Begins-split, Begins-first, Begins-same, length-Begins}
use Rattle.parser_base.proofs.TokenLemmas.{after_sign-complete, after_sign-other, sign_span_at-complete, sign_span_at-other, sign_span_at-none, identifier_at-complete}
use Rattle.parser_base.proofs.ListLemmas.{comma_list_at-complete}
use Rattle.parser_base.specs.PathReading.{path_at}
use Rattle.parser_base.specs.TypeReading.{arguments_at}
use Rattle.parser_base.proofs.PathLemmas.{path_at-complete, path_no_sign}
use Rattle.parser_base.proofs.TypeLemmas.{ReadsBackTypes, arguments_at-complete, arguments_spelled, inside_spelling}
use Rattle.expression_parser.specs.RepeatReading.{repeat_at}
use Rattle.parser_base.specs.LeafReading.{after_glued, plain_literal_at}
use Rattle.expression_parser.specs.OperatorReading.{kind_operator, spec_operator_at}
use Rattle.expression_parser.specs.LeafReading.{address_literal_at, opens_bind, has_postfix, pack_opened}
use Rattle.expression_parser.specs.SpecReading.{Reader, call_at, spec_field_at, pack_at, applied_at, path_form, parenthesized_at, plain_term_at, term_at, index_at, postfix_at}
use Rattle.expression_parser.proofs.RepeatLemmas.{repeat_at-turn}
use Rattle.parser_base.proofs.LeafLemmas.{glued, after_glued-complete, after_glued-other, plain_number, plain_truth}
use Rattle.expression_parser.proofs.OperatorLemmas.{level_is_some, spec_operator_at-other}
use Rattle.expression_parser.proofs.LeafLemmas.{path_no_literal, address_literal_at-complete, opens_bind-other, pack_opened-complete, pack_opened-none}
use Rattle.expression_parser.proofs.SpecLists.{specs_spelled_from, each_proper_spec, filled_specs, listed_specs, fields_spelled_from, each_proper_field, filled_fields, listed_fields}
use Rattle.expression_parser.proofs.ShapeLemmas.{spec_no_sign, spec_alone, three_behind}
use Rattle.expression_parser.proofs.JoinLemmas.{Allowed}
use Rattle.expression_parser.proofs.TermSound.{allowed_base}

-- ---- the tokens that can follow

-- no token after a term belongs to it
pub record TermEnds (packs : Bool) (e : SpecExpressionData) (rest : List Token) : Type 0 where
  pub no_colons : after_sign ColonColon rest ≡ None
  pub no_call : after_sign LeftParenthesis rest ≡ None
  pub no_pack : packs ≡ true → after_sign LeftBrace rest ≡ None
  pub no_arguments : ends_in_path e ≡ true → after_glued Less rest ≡ None

-- No token after a spec expression belongs to it, wherever it ends.
pub record SpecEnds (packs : Bool) (rest : List Token) : Type 0 where
  pub no_colons : after_sign ColonColon rest ≡ None
  pub no_call : after_sign LeftParenthesis rest ≡ None
  pub no_pack : packs ≡ true → after_sign LeftBrace rest ≡ None
  pub no_arguments : after_glued Less rest ≡ None
  pub no_postfix : has_postfix rest ≡ false
  pub no_operator : spec_operator_at false rest ≡ None
  pub no_bind : opens_bind rest ≡ false

-- a sign after which a spec expression has ended
abbrev pub EndingSign : Bool → Sign → Type 0
EndingSign packs s =
    (is_sign ColonColon (Punctuation s) ≡ false) × (is_sign LeftParenthesis (Punctuation s) ≡ false) × (packs ≡ true → is_sign LeftBrace (Punctuation s) ≡ false) × (is_sign Less (Punctuation s) ≡ false)
    × (is_sign Period (Punctuation s) ≡ false) × (is_sign LeftBracket (Punctuation s) ≡ false) × (kind_operator (Punctuation s) ≡ None)

pub has_postfix-other : (l : Lexeme) (ls : List Lexeme) (ts rest : List Token) → is_sign Period l.kind ≡ false → is_sign LeftBracket l.kind ≡ false → Begins (l ∷ ls) ts rest → has_postfix ts ≡ false
unfolding has_postfix
has_postfix-other l ls ts rest a c b =
    ap (λ o. is_some {T = List Token} o || is_some (after_sign LeftBracket ts)) (after_sign-other Period l ls ts rest a b) ∙ ap (λ o. is_some {T = List Token} o) (after_sign-other LeftBracket l ls ts rest c b)

-- Signs end a spec expression: `;`, `,`, `:` and the closing ones, and `{` where an open pack is not allowed.
pub sign_ends : (packs : Bool) (s : Sign) → EndingSign packs s → (ls : List Lexeme) (ts rest : List Token) → Begins (sign s ∷ ls) ts rest → SpecEnds packs ts
sign_ends packs s n ls ts rest b = record {
  no_colons = after_sign-other ColonColon (sign s) ls ts rest n.0 b;
  no_call = after_sign-other LeftParenthesis (sign s) ls ts rest n.1 b;
  no_pack = λ h. after_sign-other LeftBrace (sign s) ls ts rest (n.2 h) b;
  no_arguments = after_glued-other Less (sign s) ls ts rest n.3 b;
  no_postfix = has_postfix-other (sign s) ls ts rest n.4 n.5 b;
  no_operator = spec_operator_at-other false (sign s) ls ts rest n.6 b;
  no_bind = opens_bind-other (sign s) ls ts rest refl b;
}

-- A word that opens no bind ends it too, such as `else`.
pub word_ends : (packs : Bool) (w : List ℕ) (span : Option Span) (ls : List Lexeme) (ts rest : List Token) → Begins (word w span ∷ ls) ts rest → opens_bind ts ≡ false → SpecEnds packs ts
word_ends packs w span ls ts rest b n = record {
  no_colons = after_sign-other ColonColon (word w span) ls ts rest refl b;
  no_call = after_sign-other LeftParenthesis (word w span) ls ts rest refl b;
  no_pack = λ h. after_sign-other LeftBrace (word w span) ls ts rest refl b;
  no_arguments = after_glued-other Less (word w span) ls ts rest refl b;
  no_postfix = has_postfix-other (word w span) ls ts rest refl refl b;
  no_operator = spec_operator_at-other false (word w span) ls ts rest refl b;
  no_bind = n;
}

-- The end of the tokens ends it too.
pub nothing_ends : (packs : Bool) → SpecEnds packs []
unfolding after_sign after_glued has_postfix spec_operator_at opens_bind identifier_at
nothing_ends packs = record { no_colons = refl; no_call = refl; no_pack = λ h. refl; no_arguments = refl; no_postfix = refl; no_operator = refl; no_bind = refl }

abbrev pub ReadsBackSpecs : ℕ → Reader → Type 0
ReadsBackSpecs bound item = (e : SpecExpressionData) (ts rest : List Token) → length ts ≤ bound → Begins (spec_spelling e) ts rest → IsProperSpec e → SpecEnds true rest → item ts ≡ Some (e, rest)

abbrev FieldEnds : List Token → Type 0
FieldEnds rest = SpecEnds true rest × (after_sign Colon rest ≡ None)

field_no_sign : (s : Sign) (f : SpecFieldData) (ts rest : List Token) → Begins (spec_field_spelling f) ts rest → IsProperField f → after_sign s ts ≡ None
field_no_sign s (ShortSpecField name) ts rest b p = after_sign-other s (identifier name) [] ts rest refl b
field_no_sign s (LongSpecField name v) ts rest b p = after_sign-other s (identifier name) (sign Colon ∷ spec_spelling v) ts rest refl b

path_some : (p : Path) → 0 < length (path_spelling p)
path_some (name_path i) = omega arith
path_some (member_path i j) = omega arith
path_some (full_path m n) = omega (arith, length-append (module_spelling m) (sign ColonColon ∷ identifier n ∷ []))

-- type arguments or a bracket follow a path
bracket_no_sign : (s : Sign) (a : MaybeArgumentsData) (l : Lexeme) (ls : List Lexeme) (ts rest : List Token) → is_sign s l.kind ≡ false → is_sign s (Punctuation Less) ≡ false → Begins (maybe_arguments_spelling (Some true) a ++ l ∷ ls) ts rest → after_sign s ts ≡ None
bracket_no_sign s NoArguments l ls ts rest c d b = after_sign-other s l ls ts rest c b
bracket_no_sign s (SomeArguments (Arguments items last)) l ls ts rest c d b = after_sign-other s (lexeme (Punctuation Less) None (Some true)) (inside_spelling (Arguments items last) ++ l ∷ ls) ts rest d b

-- ---- terms begin with no `!`

literal_no_exclaim : (l : Literal) (ls : List Lexeme) (ts rest : List Token) → Begins (literal_spelling l ++ ls) ts rest → after_sign Exclaim ts ≡ None
literal_no_exclaim (number_literal n) ls ts rest b = after_sign-other Exclaim (numeral n) ls ts rest refl b
literal_no_exclaim (Truth span true) ls ts rest b = after_sign-other Exclaim (word (codes "true") (Some span)) ls ts rest refl b
literal_no_exclaim (Truth span false) ls ts rest b = after_sign-other Exclaim (word (codes "false") (Some span)) ls ts rest refl b
literal_no_exclaim (address_literal span address) ls ts rest b = after_sign-other Exclaim (sign_at span AtSign) (address_spelling address ++ ls) ts rest refl b

applied_no_exclaim : (p : Path) (a : MaybeArgumentsData) (l : Lexeme) (inside close ls : List Lexeme) (ts rest : List Token) → Begins ((((path_spelling p ++ maybe_arguments_spelling (Some true) a) ++ l ∷ inside) ++ close) ++ ls) ts rest → IsProperPath p → after_sign Exclaim ts ≡ None
applied_no_exclaim p a l inside close ls ts rest b q =
    path_no_sign Exclaim p (maybe_arguments_spelling (Some true) a ++ (l ∷ (inside ++ (close ++ ls)))) ts rest
    (Begins-same _ _ ts rest (append_assoc ((path_spelling p ++ maybe_arguments_spelling (Some true) a) ++ l ∷ inside) close ls ∙ three_behind (path_spelling p) (maybe_arguments_spelling (Some true) a) (l ∷ inside) (close ++ ls)) b) q

pub term_no_exclaim : (e : SpecExpressionData) (ls : List Lexeme) (ts rest : List Token) → Begins (spec_spelling e ++ ls) ts rest → IsProperSpec e → term_level ≤ level e → after_sign Exclaim ts ≡ None
term_no_exclaim (SpecBinary left operator span right) ls ts rest b p h = absurd (omega (arith, h, (level_is_some operator).1))
term_no_exclaim (SpecQuantified quantifier span binds _ body) ls ts rest b p h = absurd (omega (arith, h))
term_no_exclaim (SpecIf span condition then_branch else_branch) ls ts rest b p h = absurd (omega (arith, h))
term_no_exclaim (SpecNot span operand) ls ts rest b p h = absurd (omega (arith, h))
term_no_exclaim (SpecField base field) ls ts rest b p h =
    term_no_exclaim base (sign Period ∷ identifier field ∷ ls) ts rest (Begins-same _ _ ts rest (append_assoc (spec_spelling base) (sign Period ∷ identifier field ∷ []) ls) b) p.0 p.1
term_no_exclaim (SpecIndex base index) ls ts rest b p h =
    term_no_exclaim base (sign LeftBracket ∷ (spec_spelling index ++ (sign RightBracket ∷ ls))) ts rest
    (Begins-same _ _ ts rest (three_behind (spec_spelling base) (sign LeftBracket ∷ spec_spelling index) (sign RightBracket ∷ []) ls) b) p.0 p.1
term_no_exclaim (SpecLiteral literal) ls ts rest b p h = literal_no_exclaim literal ls ts rest b
term_no_exclaim (SpecPath path) ls ts rest b p h = path_no_sign Exclaim path ls ts rest b p
term_no_exclaim (SpecCall function given values last) ls ts rest b p h = applied_no_exclaim function given (sign LeftParenthesis) (comma_list (spec_spellings values) last) (sign RightParenthesis ∷ []) ls ts rest b p.0
term_no_exclaim (SpecPack path given fields last) ls ts rest b p h = applied_no_exclaim path given (sign LeftBrace) (comma_list (spec_field_spellings fields) last) (sign RightBrace ∷ []) ls ts rest b p.0
term_no_exclaim (SpecParenthesized span inner) ls ts rest b p h = after_sign-other Exclaim (sign_at span LeftParenthesis) ((spec_spelling inner ++ sign RightParenthesis ∷ []) ++ ls) ts rest refl b

-- a field or an index is here
period_goes_on : (ls : List Lexeme) (ts rest : List Token) → Begins (sign Period ∷ ls) ts rest → has_postfix ts ≡ true
unfolding has_postfix
period_goes_on ls ts rest b = let s = Begins-first (sign Period) ls ts rest b in ap (λ o. is_some {T = List Token} o || is_some (after_sign LeftBracket ts)) (after_sign-complete Period ts s.mid s.front)

bracket_goes_on : (ls : List Lexeme) (ts rest : List Token) → Begins (sign LeftBracket ∷ ls) ts rest → has_postfix ts ≡ true
unfolding has_postfix
bracket_goes_on ls ts rest b =
    let s = Begins-first (sign LeftBracket) ls ts rest b in
    ap (λ o. is_some {T = List Token} o || is_some (after_sign LeftBracket ts)) (after_sign-other Period (sign LeftBracket) ls ts rest refl b)
    ∙ ap (λ o. is_some {T = List Token} o) (after_sign-complete LeftBracket ts s.mid s.front)

module _ (bound : ℕ) (types : List Token → Read SourceTypeData) (types_complete : ReadsBackTypes bound types) (item : Reader) (complete : ReadsBackSpecs bound item) where
  -- ---- calls and packs

  call_at-complete : (path : Path) (a : MaybeArgumentsData) (values : SpecExpressionsData) (last : Bool) (ts rest : List Token) → length ts ≤ bound
      → Begins (comma_list (spec_spellings values) last ++ sign RightParenthesis ∷ []) ts rest → AreProperSpecs values → (last ≡ true → AreSome values) → call_at item path a ts ≡ Some (SpecCall path a values last, rest)
  unfolding call_at
  call_at-complete path a values last ts rest h b p f =
      map_some (comma_list_at (after_sign RightParenthesis) item ts) (λ values. (SpecCall path a (spec_expressions_of values.0.0) values.0.1, values.1)) ((list_of_spec_expressions values, last), rest)
      (comma_list_at-complete RightParenthesis item spec_spelling IsProperSpec (SpecEnds true) bound complete
      (λ e ts rest b p. spec_no_sign RightParenthesis (refl, refl, refl) e [] ts rest (spec_alone e ts rest b) p)
      (λ ts rest b. sign_ends true RightParenthesis (refl, refl, λ h. refl, refl, refl, refl, refl) [] ts rest b) (λ ts rest b. sign_ends true Comma (refl, refl, λ h. refl, refl, refl, refl, refl) [] ts rest b) refl
      (list_of_spec_expressions values) last ts rest h
      (subst (λ ls. Begins (comma_list ls last ++ sign RightParenthesis ∷ []) ts rest) (specs_spelled_from values) b)
      (each_proper_spec values p) (λ l. filled_specs values (f l)))
      ∙ ap (λ ys. Some (SpecCall path a ys last, rest)) (listed_specs values)

  pub spec_field_at-complete : (f : SpecFieldData) (ts rest : List Token) → length ts ≤ bound → Begins (spec_field_spelling f) ts rest → IsProperField f → FieldEnds rest → spec_field_at item ts ≡ Some (f, rest)
  unfolding spec_field_at
  spec_field_at-complete (ShortSpecField name) ts rest h b p d =
      bind_some (identifier_at ts) _ (name, rest) (identifier_at-complete name ts rest b p) ∙ map_or_none (after_sign Colon rest) _ (Some (ShortSpecField name, rest)) d.1
  spec_field_at-complete (LongSpecField name v) ts rest h b p d =
      let n = Begins-first (identifier name) (sign Colon ∷ spec_spelling v) ts rest b in
      let c = Begins-first (sign Colon) (spec_spelling v) n.mid rest n.back in
      bind_some (identifier_at ts) _ (name, n.mid) (identifier_at-complete name ts n.mid n.front p.0)
      ∙ map_or_some (after_sign Colon n.mid) _ _ c.mid (after_sign-complete Colon n.mid c.mid c.front)
      ∙ map_some (item c.mid) (λ v. (LongSpecField name v.0, v.1)) (v, rest)
      (complete v c.mid rest (omega (arith, h, length-Begins (identifier name ∷ []) ts n.mid n.front, length-Begins (sign Colon ∷ []) n.mid c.mid c.front)) c.back p.1 d.0)

  field_ends_at : (s : Sign) → EndingSign true s → is_sign Colon (Punctuation s) ≡ false → (ts rest : List Token) → Begins (sign s ∷ []) ts rest → FieldEnds ts
  field_ends_at s n c ts rest b = (sign_ends true s n [] ts rest b, after_sign-other Colon (sign s) [] ts rest c b)

  -- fields after their brace
  pub spec_fields-complete : (fields : SpecFieldsData) (last : Bool) (ts rest : List Token) → length ts ≤ bound → Begins (comma_list (spec_field_spellings fields) last ++ sign RightBrace ∷ []) ts rest
      → AreProperFields fields → (last ≡ true → AreSomeFields fields) → comma_list_at (after_sign RightBrace) (spec_field_at item) ts ≡ Some ((list_of_spec_fields fields, last), rest)
  spec_fields-complete fields last ts rest h b p f =
      comma_list_at-complete RightBrace (spec_field_at item) spec_field_spelling IsProperField FieldEnds bound spec_field_at-complete (field_no_sign RightBrace)
      (field_ends_at RightBrace (refl, refl, λ h. refl, refl, refl, refl, refl) refl) (field_ends_at Comma (refl, refl, λ h. refl, refl, refl, refl, refl) refl) refl
      (list_of_spec_fields fields) last ts rest h
      (subst (λ ls. Begins (comma_list ls last ++ sign RightBrace ∷ []) ts rest) (fields_spelled_from fields) b)
      (each_proper_field fields p) (λ l. filled_fields fields (f l))

  pack_at-complete : (path : Path) (a : MaybeArgumentsData) (fields : SpecFieldsData) (last : Bool) (ts rest : List Token) → length ts ≤ bound
      → Begins (comma_list (spec_field_spellings fields) last ++ sign RightBrace ∷ []) ts rest → AreProperFields fields → (last ≡ true → AreSomeFields fields) → pack_at item path a ts ≡ Some (SpecPack path a fields last, rest)
  unfolding pack_at
  pack_at-complete path a fields last ts rest h b p f =
      map_some (comma_list_at (after_sign RightBrace) (spec_field_at item) ts) (λ fields. (SpecPack path a (spec_fields_of fields.0.0) fields.0.1, fields.1)) ((list_of_spec_fields fields, last), rest)
      (spec_fields-complete fields last ts rest h b p f)
      ∙ ap (λ ys. Some (SpecPack path a ys last, rest)) (listed_fields fields)

  -- what follows a path, if it is known what follows its type arguments
  path_form-complete : (packs : Bool) (path : Path) (a : MaybeArgumentsData) (ts mid : List Token) (r : SpecExpressionData × List Token) → length ts ≤ bound → Begins (maybe_arguments_spelling (Some true) a) ts mid → AreProperMaybeArguments a
      → after_glued Less mid ≡ None → applied_at item packs path a mid ≡ Some r → path_form types item packs path ts ≡ Some r
  unfolding path_form
  path_form-complete packs path NoArguments ts mid r h b p g e =
      map_or_none (after_glued Less ts) _ (applied_at item packs path NoArguments ts) (ap (after_glued Less) b ∙ g) ∙ ap (applied_at item packs path NoArguments) b ∙ e
  path_form-complete packs path (SomeArguments a) ts mid r h b p g e =
      let s = Begins-first (glued Less) (inside_spelling a) ts mid (Begins-same _ _ ts mid (arguments_spelled (Some true) a) b) in
      map_or_some (after_glued Less ts) _ (applied_at item packs path NoArguments ts) s.mid (after_glued-complete Less ts s.mid s.front)
      ∙ bind_some (arguments_at types s.mid) (λ a. applied_at item packs path (SomeArguments a.0) a.1) (a, mid)
      (arguments_at-complete bound types types_complete a s.mid mid (omega (arith, h, length-Begins (glued Less ∷ []) ts s.mid s.front)) s.back p) ∙ e

  -- ---- terms that begin with a path

  from_path : (packs : Bool) (path : Path) (ls : List Lexeme) (ts rest : List Token) (r : SpecExpressionData × List Token) → Begins (path_spelling path ++ ls) ts rest → IsProperPath path
      → ((mid : List Token) → length mid < length ts → Begins ls mid rest → (after_sign ColonColon mid ≡ None) × (path_form types item packs path mid ≡ Some r)) → term_at types item packs ts ≡ Some r
  unfolding term_at plain_term_at
  from_path packs path ls ts rest r b p behind =
      let s = Begins-split (path_spelling path) ls ts rest b in
      let d = behind s.mid (omega (arith, length-Begins (path_spelling path) ts s.mid s.front, path_some path)) s.back in
      map_or_none (sign_span_at LeftParenthesis ts) (λ p. parenthesized_at item p.0 p.1) _ (sign_span_at-none LeftParenthesis ts (path_no_sign LeftParenthesis path ls ts rest b p))
      ∙ map_or_none (sign_span_at AtSign ts) _ _ (sign_span_at-none AtSign ts (path_no_sign AtSign path ls ts rest b p))
      ∙ map_or_none (plain_literal_at ts) (λ l. Some (SpecLiteral l.0, l.1)) _ (path_no_literal path ls ts rest b p)
      ∙ bind_some (path_at ts) (λ path. path_form types item packs path.0 path.1) (path, s.mid) (path_at-complete path ts s.mid s.front p d.0) ∙ d.1

  bare_applied : (packs : Bool) (path : Path) (rest : List Token) → after_sign LeftParenthesis rest ≡ None → (packs ≡ true → after_sign LeftBrace rest ≡ None) → applied_at item packs path NoArguments rest ≡ Some (SpecPath path, rest)
  unfolding applied_at
  bare_applied packs path rest c d =
      map_or_none (after_sign LeftParenthesis rest) (λ inside. call_at item path NoArguments inside) _ c ∙ map_or_none (pack_opened packs path rest) (λ inside. pack_at item path NoArguments inside) _ (pack_opened-none packs path rest d)

  bare-complete : (packs : Bool) (path : Path) (ts rest : List Token) → length ts ≤ suc bound → Begins (path_spelling path) ts rest → IsProperPath path → TermEnds packs (SpecPath path) rest → term_at types item packs ts ≡ Some (SpecPath path, rest)
  bare-complete packs path ts rest h b p d =
      from_path packs path [] ts rest (SpecPath path, rest) (Begins-same _ _ ts rest (sym (append-nil (path_spelling path))) b) p
      (λ mid l same. subst (λ us. (after_sign ColonColon us ≡ None) × (path_form types item packs path us ≡ Some (SpecPath path, rest))) (sym same)
      (d.no_colons, path_form-complete packs path NoArguments rest rest (SpecPath path, rest) (omega (arith, h, l, ap length same)) refl tt (d.no_arguments refl) (bare_applied packs path rest d.no_call d.no_pack)))

  call-complete : (packs : Bool) (path : Path) (a : MaybeArgumentsData) (values : SpecExpressionsData) (last : Bool) (ts rest : List Token) → length ts ≤ suc bound → Begins (spec_spelling (SpecCall path a values last)) ts rest
      → IsProperSpec (SpecCall path a values last) → term_at types item packs ts ≡ Some (SpecCall path a values last, rest)
  unfolding applied_at
  call-complete packs path a values last ts rest h b p =
      let inside = comma_list (spec_spellings values) last ++ sign RightParenthesis ∷ [] in
      from_path packs path (maybe_arguments_spelling (Some true) a ++ sign LeftParenthesis ∷ inside) ts rest (SpecCall path a values last, rest)
      (Begins-same _ _ ts rest (three_behind (path_spelling path) (maybe_arguments_spelling (Some true) a) (sign LeftParenthesis ∷ comma_list (spec_spellings values) last) (sign RightParenthesis ∷ [])) b) p.0
      (λ mid l behind.
      let s = Begins-split (maybe_arguments_spelling (Some true) a) (sign LeftParenthesis ∷ inside) mid rest behind in
      let o = Begins-first (sign LeftParenthesis) inside s.mid rest s.back in (
        bracket_no_sign ColonColon a (sign LeftParenthesis) inside mid rest refl refl behind,
        path_form-complete packs path a mid s.mid (SpecCall path a values last, rest) (omega (arith, h, l)) s.front p.1 (after_glued-other Less (sign LeftParenthesis) inside s.mid rest refl s.back)
            (map_or_some (after_sign LeftParenthesis s.mid) (λ inside. call_at item path a inside) _ o.mid (after_sign-complete LeftParenthesis s.mid o.mid o.front)
            ∙ call_at-complete path a values last o.mid rest
            (omega (arith, h, l, length-Begins (maybe_arguments_spelling (Some true) a) mid s.mid s.front, length-Begins (sign LeftParenthesis ∷ []) s.mid o.mid o.front)) o.back p.2 p.3),
      ))

  pack-complete : (path : Path) (a : MaybeArgumentsData) (fields : SpecFieldsData) (last : Bool) (ts rest : List Token) → length ts ≤ suc bound → Begins (spec_spelling (SpecPack path a fields last)) ts rest
      → IsProperSpec (SpecPack path a fields last) → term_at types item true ts ≡ Some (SpecPack path a fields last, rest)
  unfolding applied_at
  pack-complete path a fields last ts rest h b p =
      let inside = comma_list (spec_field_spellings fields) last ++ sign RightBrace ∷ [] in
      from_path true path (maybe_arguments_spelling (Some true) a ++ sign LeftBrace ∷ inside) ts rest (SpecPack path a fields last, rest)
      (Begins-same _ _ ts rest (three_behind (path_spelling path) (maybe_arguments_spelling (Some true) a) (sign LeftBrace ∷ comma_list (spec_field_spellings fields) last) (sign RightBrace ∷ [])) b) p.0
      (λ mid l behind.
      let s = Begins-split (maybe_arguments_spelling (Some true) a) (sign LeftBrace ∷ inside) mid rest behind in
      let o = Begins-first (sign LeftBrace) inside s.mid rest s.back in (
        bracket_no_sign ColonColon a (sign LeftBrace) inside mid rest refl refl behind,
        path_form-complete true path a mid s.mid (SpecPack path a fields last, rest) (omega (arith, h, l)) s.front p.2 (after_glued-other Less (sign LeftBrace) inside s.mid rest refl s.back)
            (map_or_none (after_sign LeftParenthesis s.mid) (λ inside. call_at item path a inside) _ (after_sign-other LeftParenthesis (sign LeftBrace) inside s.mid rest refl s.back)
            ∙ map_or_some (pack_opened true path s.mid) (λ inside. pack_at item path a inside) _ o.mid (pack_opened-complete path s.mid o.mid p.1 o.front)
            ∙ pack_at-complete path a fields last o.mid rest
            (omega (arith, h, l, length-Begins (maybe_arguments_spelling (Some true) a) mid s.mid s.front, length-Begins (sign LeftBrace ∷ []) s.mid o.mid o.front)) o.back p.3 p.4),
      ))

  -- ---- other terms

  parenthesized-complete : (packs : Bool) (span : Span) (e : SpecExpressionData) (ts rest : List Token) → length ts ≤ suc bound → Begins (sign_at span LeftParenthesis ∷ (spec_spelling e ++ sign RightParenthesis ∷ [])) ts rest → IsProperSpec e
      → term_at types item packs ts ≡ Some (SpecParenthesized span e, rest)
  unfolding term_at parenthesized_at
  parenthesized-complete packs span e ts rest h b p =
      let s = Begins-first (sign_at span LeftParenthesis) (spec_spelling e ++ sign RightParenthesis ∷ []) ts rest b in
      let i = Begins-split (spec_spelling e) (sign RightParenthesis ∷ []) s.mid rest s.back in
      map_or_some (sign_span_at LeftParenthesis ts) (λ p. parenthesized_at item p.0 p.1) _ (span, s.mid) (sign_span_at-complete LeftParenthesis span ts s.mid s.front)
      ∙ bind_some (item s.mid) (λ e. option_map (λ rest. (SpecParenthesized span e.0, rest)) (after_sign RightParenthesis e.1)) (e, i.mid)
      (complete e s.mid i.mid (omega (arith, h, length-Begins (sign_at span LeftParenthesis ∷ []) ts s.mid s.front)) i.front p
      (sign_ends true RightParenthesis (refl, refl, λ h. refl, refl, refl, refl, refl) [] i.mid rest i.back))
      ∙ map_some (after_sign RightParenthesis i.mid) (λ rest. (SpecParenthesized span e, rest)) rest (after_sign-complete RightParenthesis i.mid rest i.back)

  plain_literal-complete : (packs : Bool) (l : Literal) (first : Lexeme) (ls : List Lexeme) (ts rest : List Token) → Begins (first ∷ ls) ts rest → is_sign LeftParenthesis first.kind ≡ false → is_sign AtSign first.kind ≡ false
      → plain_literal_at ts ≡ Some (l, rest) → term_at types item packs ts ≡ Some (SpecLiteral l, rest)
  unfolding term_at plain_term_at
  plain_literal-complete packs l first ls ts rest b c d e =
      map_or_none (sign_span_at LeftParenthesis ts) (λ p. parenthesized_at item p.0 p.1) _ (sign_span_at-other LeftParenthesis first ls ts rest c b)
      ∙ map_or_none (sign_span_at AtSign ts) _ _ (sign_span_at-other AtSign first ls ts rest d b)
      ∙ map_or_some (plain_literal_at ts) (λ l. Some (SpecLiteral l.0, l.1)) _ (l, rest) e

  literal-complete : (packs : Bool) (l : Literal) (ts rest : List Token) → Begins (literal_spelling l) ts rest → IsProperLiteral l → after_sign ColonColon rest ≡ None → term_at types item packs ts ≡ Some (SpecLiteral l, rest)
  unfolding term_at
  literal-complete packs (number_literal n) ts rest b p d = plain_literal-complete packs (number_literal n) (numeral n) [] ts rest b refl refl (plain_number n ts rest b p d)
  literal-complete packs (Truth span true) ts rest b p d = plain_literal-complete packs (Truth span true) (word (codes "true") (Some span)) [] ts rest b refl refl (plain_truth span true ts rest b)
  literal-complete packs (Truth span false) ts rest b p d = plain_literal-complete packs (Truth span false) (word (codes "false") (Some span)) [] ts rest b refl refl (plain_truth span false ts rest b)
  literal-complete packs (address_literal span address) ts rest b p d =
      let s = Begins-first (sign_at span AtSign) (address_spelling address) ts rest b in
      map_or_none (sign_span_at LeftParenthesis ts) (λ p. parenthesized_at item p.0 p.1) _ (sign_span_at-other LeftParenthesis (sign_at span AtSign) (address_spelling address) ts rest refl b)
      ∙ map_or_some (sign_span_at AtSign ts) (λ p. option_map (λ l. (SpecLiteral l.0, l.1)) (address_literal_at p.0 p.1)) _ (span, s.mid) (sign_span_at-complete AtSign span ts s.mid s.front)
      ∙ map_some (address_literal_at span s.mid) (λ l. (SpecLiteral l.0, l.1)) (address_literal span address, rest) (address_literal_at-complete span address s.mid rest s.back p)

  -- ---- fields and indices, one after another

  -- the loop is after the term, with steps left
  pub record Reached (n : ℕ) (first : SpecExpressionData) (us : List Token) (e : SpecExpressionData) (rest : List Token) : Type 0 where
    pub left : ℕ
    pub enough : length rest < left
    pub same : repeat_at has_postfix (postfix_at item) n first us ≡ repeat_at has_postfix (postfix_at item) left e rest

  pub record PostfixWalk (packs : Bool) (e : SpecExpressionData) (ts rest : List Token) : Type 0 where
    pub first : SpecExpressionData
    pub us : List Token
    pub read : term_at types item packs ts ≡ Some (first, us)
    pub goes : (n : ℕ) → length us < n → Reached n first us e rest

  term_walk : (packs : Bool) (e : SpecExpressionData) (ts rest : List Token) → term_at types item packs ts ≡ Some (e, rest) → PostfixWalk packs e ts rest
  term_walk packs e ts rest r = record { first = e; us = rest; read = r; goes = λ n k. record { left = n; enough = k; same = refl } }

  once_more : (n k : ℕ) (first base e : SpecExpressionData) (us mid rest : List Token) → repeat_at has_postfix (postfix_at item) n first us ≡ repeat_at has_postfix (postfix_at item) k base mid → length mid < k → length rest < length mid
      → has_postfix mid ≡ true → postfix_at item base mid ≡ Some (e, rest) → Reached n first us e rest
  once_more n zero first base e us mid rest s l d m r = absurd (omega (arith, l))
  once_more n (suc k) first base e us mid rest s l d m r = record { left = k; enough = omega (arith, l, d); same = s ∙ repeat_at-turn has_postfix (postfix_at item) k base mid (e, rest) m r }

  longer : (packs : Bool) (base e : SpecExpressionData) (ts mid rest : List Token) → PostfixWalk packs base ts mid → length rest < length mid → has_postfix mid ≡ true → postfix_at item base mid ≡ Some (e, rest) → PostfixWalk packs e ts rest
  longer packs base e ts mid rest w d m r = record {
    first = w.first;
    us = w.us;
    read = w.read;
    goes = λ n k. let reached = w.goes n k in once_more n reached.left w.first base e w.us mid rest reached.same reached.enough d m r;
  }

  field-complete : (base : SpecExpressionData) (field : Identifier) (ts rest : List Token) → Begins (sign Period ∷ identifier field ∷ []) ts rest → IsProperSpec (SpecField base field) → postfix_at item base ts ≡ Some (SpecField base field, rest)
  unfolding postfix_at
  field-complete base field ts rest b p =
      let s = Begins-first (sign Period) (identifier field ∷ []) ts rest b in
      map_or_some (after_sign Period ts) (λ rest. option_map (λ name. (SpecField base name.0, name.1)) (identifier_at rest)) _ s.mid (after_sign-complete Period ts s.mid s.front)
      ∙ map_some (identifier_at s.mid) (λ name. (SpecField base name.0, name.1)) (field, rest) (identifier_at-complete field s.mid rest s.back p.2)

  index-complete : (base index : SpecExpressionData) (ts rest : List Token) → length ts ≤ suc bound → Begins (sign LeftBracket ∷ (spec_spelling index ++ sign RightBracket ∷ [])) ts rest → IsProperSpec index → postfix_at item base ts ≡ Some (SpecIndex base index, rest)
  unfolding postfix_at index_at
  index-complete base index ts rest h b p =
      let s = Begins-first (sign LeftBracket) (spec_spelling index ++ sign RightBracket ∷ []) ts rest b in
      let i = Begins-split (spec_spelling index) (sign RightBracket ∷ []) s.mid rest s.back in
      map_or_none (after_sign Period ts) _ (option_and_then (λ rest. index_at item base rest) (after_sign LeftBracket ts)) (after_sign-other Period (sign LeftBracket) (spec_spelling index ++ sign RightBracket ∷ []) ts rest refl b)
      ∙ bind_some (after_sign LeftBracket ts) (λ rest. index_at item base rest) s.mid (after_sign-complete LeftBracket ts s.mid s.front)
      ∙ bind_some (item s.mid) (λ e. option_map (λ rest. (SpecIndex base e.0, rest)) (after_sign RightBracket e.1)) (index, i.mid)
      (complete index s.mid i.mid (omega (arith, h, length-Begins (sign LeftBracket ∷ []) ts s.mid s.front)) i.front p
      (sign_ends true RightBracket (refl, refl, λ h. refl, refl, refl, refl, refl) [] i.mid rest i.back))
      ∙ map_some (after_sign RightBracket i.mid) (λ rest. (SpecIndex base index, rest)) rest (after_sign-complete RightBracket i.mid rest i.back)

  -- after a term, before a field or an index
  ends_before : (packs : Bool) (e : SpecExpressionData) (s : Sign) → is_sign ColonColon (Punctuation s) ≡ false → is_sign LeftParenthesis (Punctuation s) ≡ false → is_sign LeftBrace (Punctuation s) ≡ false → is_sign Less (Punctuation s) ≡ false
      → (ls : List Lexeme) (ts rest : List Token) → Begins (sign s ∷ ls) ts rest → TermEnds packs e ts
  ends_before packs e s c d f g ls ts rest b = record {
    no_colons = after_sign-other ColonColon (sign s) ls ts rest c b;
    no_call = after_sign-other LeftParenthesis (sign s) ls ts rest d b;
    no_pack = λ h. after_sign-other LeftBrace (sign s) ls ts rest f b;
    no_arguments = λ h. after_glued-other Less (sign s) ls ts rest g b;
  }

  pub postfix_walk : (packs : Bool) (e : SpecExpressionData) (ts rest : List Token) → length ts ≤ suc bound → Begins (spec_spelling e) ts rest → IsProperSpec e → Allowed packs e → term_level ≤ level e → TermEnds packs e rest → PostfixWalk packs e ts rest
  postfix_walk packs (SpecBinary left operator span right) ts rest h b p a l d = absurd (omega (arith, l, (level_is_some operator).1))
  postfix_walk packs (SpecQuantified quantifier span binds _ body) ts rest h b p a l d = absurd (omega (arith, l))
  postfix_walk packs (SpecIf span condition then_branch else_branch) ts rest h b p a l d = absurd (omega (arith, l))
  postfix_walk packs (SpecNot span operand) ts rest h b p a l d = absurd (omega (arith, l))
  postfix_walk packs (SpecField base field) ts rest h b p a l d =
      let s = Begins-split (spec_spelling base) (sign Period ∷ identifier field ∷ []) ts rest b in
      longer packs base (SpecField base field) ts s.mid rest
      (postfix_walk packs base ts s.mid h s.front p.0 (allowed_base packs (SpecField base field) base (λ h. h) a) p.1 (ends_before packs base Period refl refl refl refl (identifier field ∷ []) s.mid rest s.back))
      (omega (arith, length-Begins (sign Period ∷ identifier field ∷ []) s.mid rest s.back)) (period_goes_on (identifier field ∷ []) s.mid rest s.back) (field-complete base field s.mid rest s.back p)
  postfix_walk packs (SpecIndex base index) ts rest h b p a l d =
      let behind = spec_spelling index ++ sign RightBracket ∷ [] in
      let s = Begins-split (spec_spelling base) (sign LeftBracket ∷ behind) ts rest (Begins-same _ _ ts rest (append_assoc (spec_spelling base) (sign LeftBracket ∷ spec_spelling index) (sign RightBracket ∷ [])) b) in
      longer packs base (SpecIndex base index) ts s.mid rest
      (postfix_walk packs base ts s.mid h s.front p.0 (allowed_base packs (SpecIndex base index) base (λ h. h) a) p.1 (ends_before packs base LeftBracket refl refl refl refl behind s.mid rest s.back))
      (omega (arith, length-Begins (sign LeftBracket ∷ behind) s.mid rest s.back)) (bracket_goes_on behind s.mid rest s.back)
      (index-complete base index s.mid rest (omega (arith, h, length-Begins (spec_spelling base) ts s.mid s.front)) s.back p.2)
  postfix_walk packs (SpecLiteral literal) ts rest h b p a l d = term_walk packs (SpecLiteral literal) ts rest (literal-complete packs literal ts rest b p d.no_colons)
  postfix_walk packs (SpecPath path) ts rest h b p a l d = term_walk packs (SpecPath path) ts rest (bare-complete packs path ts rest h b p d)
  postfix_walk packs (SpecCall function given values last) ts rest h b p a l d = term_walk packs (SpecCall function given values last) ts rest (call-complete packs function given values last ts rest h b p)
  postfix_walk true (SpecPack path given fields last) ts rest h b p a l d = term_walk true (SpecPack path given fields last) ts rest (pack-complete path given fields last ts rest h b p)
  postfix_walk false (SpecPack path given fields last) ts rest h b p a l d = absurd a
  postfix_walk packs (SpecParenthesized span inner) ts rest h b p a l d = term_walk packs (SpecParenthesized span inner) ts rest (parenthesized-complete packs span inner ts rest h b p)
