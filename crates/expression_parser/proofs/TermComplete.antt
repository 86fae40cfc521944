-- Each proper term is read.
use Rattle.std.proofs.Common.{◌≡◌, ℕ, suc, ◌≤◌, Bool, true, false, cond, ◌||◌, List, [], ◌∷◌, ◌++◌, Some, None, length, refl, sym, ap, subst, ◌∙◌, arith, append_assoc, append-nil, ◌⊎◌, inl, inr}
use Rattle.std.specs.Prelude.{codes, map, is_some}
use Rattle.std.specs.Option.{option_map}
use Rattle.std.specs.List.{AllByRecursion}
use Rattle.std.specs.Cmp.Lexicographic.{same_text}
use Rattle.base.specs.declared.span.Span.{Span}
use Rattle.tokens.specs.declared.token.Token.{Token}
use Rattle.tokens.specs.declared.token.TokenKind.TheVariants.{Word, Punctuation}
use Rattle.tokens.specs.declared.token.Punctuation.{Punctuation as Sign}
use Rattle.tokens.specs.declared.token.Punctuation.TheVariants.{LeftParenthesis, RightParenthesis, LeftBrace, RightBrace, LeftBracket, RightBracket, Less, Comma as comma_sign, Colon, ColonColon, Exclaim, AtSign}
use Rattle.syntax_tree.specs.declared.lexeme.Identifier.{Identifier}
use Rattle.syntax_tree.specs.declared.lexeme.Lexeme.{Lexeme}
use Rattle.syntax_tree.specs.declared.literal.Literal.{Literal}
use Rattle.syntax_tree.specs.declared.literal.Literal.TheVariants.{Number as number_literal, Truth as truth_literal, Address as address_literal}
use Rattle.syntax_tree.specs.declared.path.Address.{Address}
use Rattle.syntax_tree.specs.declared.path.Address.TheVariants.{Number as number_address, Name as name_address}
use Rattle.syntax_tree.specs.declared.path.Path.{Path}
use Rattle.syntax_tree.specs.declared.path.Path.TheVariants.{Name as name_path, Member as member_path, Full as full_path}
use Rattle.syntax_tree.specs.Lexemes.{lexeme, word, sign, sign_at, identifier, numeral, comma_list}
use Rattle.syntax_tree.specs.NameRules.{IsName, IsCapital}
use Rattle.syntax_tree.specs.PathSpelling.{address_spelling, path_spelling}
use Rattle.syntax_tree.specs.LiteralSpelling.{literal_spelling}
use Rattle.syntax_tree.specs.TypeTreeData.{SourceTypeData, Arguments, MaybeArgumentsData, NoArguments, SomeArguments}
use Rattle.syntax_tree.specs.TypeSpelling.{type_spelling, maybe_arguments_spelling}
use Rattle.syntax_tree.specs.ProperTypes.{IsProperAddress, IsProperPath, IsOther, AreProperMaybeArguments, last_name}
use Rattle.syntax_tree.specs.ExpressionData.{ExpressionData, LiteralExpression, PathExpression, CallExpression, PackExpression, VectorExpression, AssertExpression, TupleExpression, CastExpression, FieldValueData, ShortFieldValue, LongFieldValue, ExpressionsData, NoExpressions, MoreExpressions, FieldValuesData, NoFieldValues, MoreFieldValues, expressions_of, field_values_of, list_of_expressions, list_of_field_values}
use Rattle.syntax_tree.specs.ExpressionSpelling.{expression_spelling, expression_spellings, field_value_spelling, field_value_spellings}
use Rattle.syntax_tree.specs.ProperExpressions.{elsewhere, level, IsProperExpression, IsProperLiteral, IsProperFieldValue, AreProperExpressions, AreProperFieldValues, AreSomeExpressions, AreSomeValues, MayHaveArguments}
use Rattle.parser_base.specs.Beginnings.{Begins}
use Rattle.parser_base.specs.TokenReading.{Read, is_sign, is_word, is_keyword, after_sign, sign_span_at, after_word, identifier_at, begins_capital}
use Rattle.parser_base.specs.ListReading.{comma_list_at}
use Rattle.parser_base.proofs.Steps.{bind_some, map_some, map_or_none, map_or_some, cond_true, cond_false}
use Rattle.parser_base.proofs.BeginLemmas.{Begins-split, Begins-first, Begins-same, length-Begins}
use Rattle.parser_base.proofs.TokenLemmas.{after_sign-complete, after_sign-other, sign_span_at-complete, sign_span_at-none, sign_span_at-other, after_word-complete, after_word-other, identifier_at-complete, begins_capital-complete, name_is_no_keyword}
use Rattle.base.proofs.NameLaws.{same_name-other}
use Rattle.parser_base.proofs.FirstLemmas.{after_sign-first}
use Rattle.parser_base.proofs.ListLemmas.{Filled, comma_list_at-complete}
use Rattle.parser_base.specs.PathReading.{path_at, address_at, is_single}
use Rattle.parser_base.specs.TypeReading.{arguments_at, maybe_arguments_at}
use Rattle.parser_base.proofs.PathLemmas.{path_at-complete, address_at-complete, path_no_sign, is_single-sound, is_single-complete}
use Rattle.parser_base.proofs.TypeLemmas.{ReadsBackTypes, inside_spelling, arguments_spelled, arguments_at-complete, maybe_arguments_at-complete}
use Rattle.parser_base.specs.declared.leaf.PathForm.TheVariants.{Call, Pack, Alone}
use Rattle.parser_base.specs.declared.leaf.BehindFirst.{BehindFirst}
use Rattle.parser_base.specs.declared.leaf.BehindFirst.TheVariants.{Close, As, Comma}
use Rattle.parser_base.specs.LeafReading.{begins_operand, plain_literal_at, vector_span_at, assert_span_at, path_form_at, glued_arguments_at, has_arguments, behind_first_at, cast_target_at, after_glued}
use Rattle.parser_base.specs.ParenthesesReading.{several}
use Rattle.expression_parser.specs.ExpressionReading.{Readers, any, field_value_at, path_term_at, vector_at, assert_at, behind_first, parenthesized_at, term_at}
use Rattle.parser_base.proofs.LeafLemmas.{number_at-other, number_at-path, plain_number, plain_truth, plain_none, vector_span_at-complete, vector_span_at-other, vector_span_at-path, assert_span_at-complete, assert_span_at-other, assert_span_at-path, after_glued-complete, after_glued-other}
use Rattle.parser_base.proofs.OpenLemmas.{expression_no_sign}
use Rattle.parser_base.proofs.EndLemmas.{Quiet, TermEnds, Follows, follows_sign, follows_closed, closes_word, as_begins_none, closing}
use Rattle.expression_parser.proofs.Sound.{assert_spelled, cast_spelled, several_spelled}

abbrev pub ReadsBackExpressions : ℕ → (ℕ → List Token → Read ExpressionData) → Type 0
ReadsBackExpressions bound reader = (m : ℕ) (e : ExpressionData) (ts rest : List Token) → length ts ≤ bound → Begins (expression_spelling e) ts rest → IsProperExpression e → m ≤ level e → Follows m e rest → reader m ts ≡ Some (e, rest)

-- ---- lists

expressions_spelled_from : (xs : ExpressionsData) → expression_spellings xs ≡ map expression_spelling (list_of_expressions xs)
expressions_spelled_from NoExpressions = refl
expressions_spelled_from (MoreExpressions x xs) = ap (λ ls. expression_spelling x ∷ ls) (expressions_spelled_from xs)

each_proper_expression : (xs : ExpressionsData) → AreProperExpressions xs → AllByRecursion IsProperExpression (list_of_expressions xs)
each_proper_expression NoExpressions p = tt
each_proper_expression (MoreExpressions x xs) p = (p.0, each_proper_expression xs p.1)

filled_expressions : (xs : ExpressionsData) → AreSomeExpressions xs → Filled (list_of_expressions xs)
filled_expressions NoExpressions f = f
filled_expressions (MoreExpressions x xs) f = tt

listed_expressions : (xs : ExpressionsData) → expressions_of (list_of_expressions xs) ≡ xs
listed_expressions NoExpressions = refl
listed_expressions (MoreExpressions x xs) = ap (MoreExpressions x) (listed_expressions xs)

values_spelled_from : (xs : FieldValuesData) → field_value_spellings xs ≡ map field_value_spelling (list_of_field_values xs)
values_spelled_from NoFieldValues = refl
values_spelled_from (MoreFieldValues x xs) = ap (λ ls. field_value_spelling x ∷ ls) (values_spelled_from xs)

each_proper_value : (xs : FieldValuesData) → AreProperFieldValues xs → AllByRecursion IsProperFieldValue (list_of_field_values xs)
each_proper_value NoFieldValues p = tt
each_proper_value (MoreFieldValues x xs) p = (p.0, each_proper_value xs p.1)

filled_values : (xs : FieldValuesData) → AreSomeValues xs → Filled (list_of_field_values xs)
filled_values NoFieldValues f = f
filled_values (MoreFieldValues x xs) f = tt

listed_values : (xs : FieldValuesData) → field_values_of (list_of_field_values xs) ≡ xs
listed_values NoFieldValues = refl
listed_values (MoreFieldValues x xs) = ap (MoreFieldValues x) (listed_values xs)

regroup : (p m c r : List Lexeme) (b : Lexeme) → ((p ++ m) ++ b ∷ c) ++ r ≡ p ++ (m ++ b ∷ (c ++ r))
regroup p m c r b = append_assoc (p ++ m) (b ∷ c) r ∙ append_assoc p m (b ∷ (c ++ r))

-- ---- words with a special meaning before certain tokens

true_is_keyword : is_keyword (codes "true") ≡ true
unfolding is_keyword
true_is_keyword = refl

false_is_keyword : is_keyword (codes "false") ≡ true
unfolding is_keyword
false_is_keyword = refl

full_spelled : (a : Address) (m n : Identifier) (ls : List Lexeme) → path_spelling (full_path (record { address = a; name = m }) n) ++ ls ≡ address_spelling a ++ (sign ColonColon ∷ identifier m ∷ sign ColonColon ∷ identifier n ∷ ls)
full_spelled (number_address x) m n ls = refl
full_spelled (name_address i) m n ls = refl

-- a name is not the word `vector` before a `<` or a bracket
vector_none : (i : Identifier) (ts mid : List Token) → Begins (identifier i ∷ []) ts mid → after_sign Less mid ≡ None → after_sign LeftBracket mid ≡ None → vector_span_at ts ≡ None
vector_none i ts mid b h k = go (is_word (codes "vector") (Word i.text)) refl
  where
    go : (c : Bool) → is_word (codes "vector") (Word i.text) ≡ c → vector_span_at ts ≡ None
    go true is = vector_span_at-path i.span ts mid (subst (λ w. Begins (word w (Some i.span) ∷ []) ts mid) (same_text i.text (codes "vector") (sym is)) b) h k
    go false is = vector_span_at-other (identifier i) [] ts mid is b

assert_none : (i : Identifier) (ts mid : List Token) → Begins (identifier i ∷ []) ts mid → after_sign Exclaim mid ≡ None → assert_span_at ts ≡ None
assert_none i ts mid b h = go (is_word (codes "assert") (Word i.text)) refl
  where
    go : (c : Bool) → is_word (codes "assert") (Word i.text) ≡ c → assert_span_at ts ≡ None
    go true is = assert_span_at-path i.span ts mid (subst (λ w. Begins (word w (Some i.span) ∷ []) ts mid) (same_text i.text (codes "assert") (sym is)) b) h
    go false is = assert_span_at-other (identifier i) [] ts mid is b

-- a path does not begin with such a word
NoVector : Path → List Token → Type 0
NoVector path mid = IsOther (codes "vector") path ⊎ ((after_sign Less mid ≡ None) × (after_sign LeftBracket mid ≡ None))

no_vector : (path : Path) (ts mid : List Token) → Begins (path_spelling path) ts mid → NoVector path mid → vector_span_at ts ≡ None
unfolding NoVector
no_vector (name_path i) ts mid b (inl o) = vector_span_at-other (identifier i) [] ts mid (same_name-other i.text (codes "vector") o) b
no_vector (name_path i) ts mid b (inr n) = vector_none i ts mid b n.0 n.1
no_vector (member_path i j) ts mid b n =
    let s = Begins-first (identifier i) (sign ColonColon ∷ identifier j ∷ []) ts mid b in
    vector_none i ts s.mid s.front (after_sign-other Less (sign ColonColon) (identifier j ∷ []) s.mid mid refl s.back) (after_sign-other LeftBracket (sign ColonColon) (identifier j ∷ []) s.mid mid refl s.back)
no_vector (full_path m n) ts mid b o =
    full m.address m.name n (subst (λ l. Begins l ts mid) (sym (append-nil (path_spelling (full_path m n))) ∙ full_spelled m.address m.name n []) b)
  where
    full : (a : Address) (m n : Identifier) → Begins (address_spelling a ++ (sign ColonColon ∷ identifier m ∷ sign ColonColon ∷ identifier n ∷ [])) ts mid → vector_span_at ts ≡ None
    full (number_address x) m n b = vector_span_at-other (numeral x) (sign ColonColon ∷ identifier m ∷ sign ColonColon ∷ identifier n ∷ []) ts mid refl b
    full (name_address i) m n b =
        let s = Begins-first (identifier i) (sign ColonColon ∷ identifier m ∷ sign ColonColon ∷ identifier n ∷ []) ts mid b in
        vector_none i ts s.mid s.front (after_sign-other Less (sign ColonColon) (identifier m ∷ sign ColonColon ∷ identifier n ∷ []) s.mid mid refl s.back)
        (after_sign-other LeftBracket (sign ColonColon) (identifier m ∷ sign ColonColon ∷ identifier n ∷ []) s.mid mid refl s.back)

no_assert : (path : Path) (ts mid : List Token) → Begins (path_spelling path) ts mid → after_sign Exclaim mid ≡ None → assert_span_at ts ≡ None
no_assert (name_path i) ts mid b h = assert_none i ts mid b h
no_assert (member_path i j) ts mid b h =
    let s = Begins-first (identifier i) (sign ColonColon ∷ identifier j ∷ []) ts mid b in
    assert_none i ts s.mid s.front (after_sign-other Exclaim (sign ColonColon) (identifier j ∷ []) s.mid mid refl s.back)
no_assert (full_path m n) ts mid b h =
    full m.address m.name n (subst (λ l. Begins l ts mid) (sym (append-nil (path_spelling (full_path m n))) ∙ full_spelled m.address m.name n []) b)
  where
    full : (a : Address) (m n : Identifier) → Begins (address_spelling a ++ (sign ColonColon ∷ identifier m ∷ sign ColonColon ∷ identifier n ∷ [])) ts mid → assert_span_at ts ≡ None
    full (number_address x) m n b = assert_span_at-other (numeral x) (sign ColonColon ∷ identifier m ∷ sign ColonColon ∷ identifier n ∷ []) ts mid refl b
    full (name_address i) m n b =
        let s = Begins-first (identifier i) (sign ColonColon ∷ identifier m ∷ sign ColonColon ∷ identifier n ∷ []) ts mid b in
        assert_none i ts s.mid s.front (after_sign-other Exclaim (sign ColonColon) (identifier m ∷ sign ColonColon ∷ identifier n ∷ []) s.mid mid refl s.back)

-- after the path of a call or a pack
no_vector_behind : (path : Path) (a : MaybeArgumentsData) (l : Lexeme) (ls : List Lexeme) (ts rest : List Token) → MayHaveArguments path a → is_sign Less l.kind ≡ false → is_sign LeftBracket l.kind ≡ false → Begins (maybe_arguments_spelling (Some true) a ++ l ∷ ls) ts rest → NoVector path ts
unfolding NoVector
no_vector_behind path NoArguments l ls ts rest m e f b = inr (after_sign-other Less l ls ts rest e b, after_sign-other LeftBracket l ls ts rest f b)
no_vector_behind path (SomeArguments a) l ls ts rest m e f b = inl m

no_exclaim_behind : (a : MaybeArgumentsData) (l : Lexeme) (ls : List Lexeme) (ts rest : List Token) → is_sign Exclaim l.kind ≡ false → Begins (maybe_arguments_spelling (Some true) a ++ l ∷ ls) ts rest → after_sign Exclaim ts ≡ None
no_exclaim_behind NoArguments l ls ts rest e b = after_sign-other Exclaim l ls ts rest e b
no_exclaim_behind (SomeArguments (Arguments items last)) l ls ts rest e b = after_sign-first Exclaim (maybe_arguments_spelling (Some true) (SomeArguments (Arguments items last)) ++ l ∷ ls) ts rest refl b

-- the word `vector` does not begin with a capital
capital_may_have : (path : Path) (a : MaybeArgumentsData) → IsCapital (last_name path) → MayHaveArguments path a
capital_may_have path NoArguments c = tt
capital_may_have (name_path i) (SomeArguments a) c = λ h. small (subst IsCapital h c)
  where
    small : IsCapital (codes "vector") → ⊥
    small c = absurd (omega (arith, c.1))
capital_may_have (member_path i j) (SomeArguments a) c = tt
capital_may_have (full_path m n) (SomeArguments a) c = tt

alone_no_vector : (path : Path) (ts rest : List Token) → Begins (path_spelling path) ts rest → TermEnds (PathExpression path) rest → vector_span_at ts ≡ None
unfolding NoVector
alone_no_vector path ts rest b d = no_vector path ts rest b (go (is_single (codes "vector") path) refl)
  where
    go : (c : Bool) → is_single (codes "vector") path ≡ c → NoVector path rest
    go true is = inr (d.vector is, d.quiet.bracket)
    go false is = inl (is_single-sound (codes "vector") path is)

opens_vector : (a : MaybeArgumentsData) (ls : List Lexeme) (ts rest : List Token) → Begins (maybe_arguments_spelling None a ++ sign LeftBracket ∷ ls) ts rest → (is_some (after_sign Less ts) || is_some (after_sign LeftBracket ts)) ≡ true
opens_vector NoArguments ls ts rest b =
    let s = Begins-first (sign LeftBracket) ls ts rest b in
    ap (λ o. is_some {T = List Token} o || is_some (after_sign LeftBracket ts)) (after_sign-other Less (sign LeftBracket) ls ts rest refl b) ∙ ap (λ o. is_some {T = List Token} o) (after_sign-complete LeftBracket ts s.mid s.front)
opens_vector (SomeArguments a) ls ts rest b =
    let s = Begins-first (sign Less) (inside_spelling a ++ sign LeftBracket ∷ ls) ts rest (Begins-same _ _ ts rest (ap (λ l. l ++ sign LeftBracket ∷ ls) (arguments_spelled None a)) b) in
    ap (λ o. is_some {T = List Token} o || is_some (after_sign LeftBracket ts)) (after_sign-complete Less ts s.mid s.front)

module _ (bound : ℕ) (inner : Readers) (types_complete : ReadsBackTypes bound inner.types) (complete : ReadsBackExpressions bound inner.expressions) where
  pub any-complete : (e : ExpressionData) (ts rest : List Token) → length ts ≤ bound → Begins (expression_spelling e) ts rest → IsProperExpression e → Follows 0 e rest → any inner ts ≡ Some (e, rest)
  any-complete e ts rest h b p f = complete 0 e ts rest h b p (omega arith) f

  -- expressions up to the closing sign
  list-complete : (close : Sign) → closing close ≡ true → is_sign close (Punctuation comma_sign) ≡ false → begins_operand close ≡ false → (xs : ExpressionsData) (last : Bool) (ts rest : List Token) → length ts ≤ bound
      → Begins (comma_list (expression_spellings xs) last ++ sign close ∷ []) ts rest → AreProperExpressions xs → (last ≡ true → AreSomeExpressions xs)
      → comma_list_at (after_sign close) (any inner) ts ≡ Some ((list_of_expressions xs, last), rest)
  list-complete close c d g xs last ts rest h b p f =
      comma_list_at-complete close (any inner) expression_spelling IsProperExpression (λ rest. (e : ExpressionData) → Follows 0 e rest) bound
      (λ e ts rest h b p ends. any-complete e ts rest h b p (ends e))
      (λ e ts rest b p. expression_no_sign close g elsewhere e ts rest b p)
      (λ ts rest b e. follows_sign close e [] ts rest c b) (λ ts rest b e. follows_sign comma_sign e [] ts rest refl b) d
      (list_of_expressions xs) last ts rest h (subst (λ ls. Begins (comma_list ls last ++ sign close ∷ []) ts rest) (expressions_spelled_from xs) b)
      (each_proper_expression xs p) (λ l. filled_expressions xs (f l))

  -- ---- fields of a pack

  field_value_at-complete : (f : FieldValueData) (ts rest : List Token) → length ts ≤ bound → Begins (field_value_spelling f) ts rest → IsProperFieldValue f → ((e : ExpressionData) → Follows 0 e rest) × (after_sign Colon rest ≡ None) → field_value_at (any inner) ts ≡ Some (f, rest)
  unfolding field_value_at
  field_value_at-complete (ShortFieldValue name) ts rest h b p d =
      bind_some (identifier_at ts) _ (name, rest) (identifier_at-complete name ts rest b p) ∙ map_or_none (after_sign Colon rest) _ (Some (ShortFieldValue name, rest)) d.1
  field_value_at-complete (LongFieldValue name e) ts rest h b p d =
      let n = Begins-first (identifier name) (sign Colon ∷ expression_spelling e) ts rest b in
      let c = Begins-first (sign Colon) (expression_spelling e) n.mid rest n.back in
      bind_some (identifier_at ts) _ (name, n.mid) (identifier_at-complete name ts n.mid n.front p.0)
      ∙ map_or_some (after_sign Colon n.mid) _ _ c.mid (after_sign-complete Colon n.mid c.mid c.front)
      ∙ map_some (any inner c.mid) (λ value. (LongFieldValue name value.0, value.1)) (e, rest)
      (any-complete e c.mid rest (omega (arith, h, length-Begins (identifier name ∷ []) ts n.mid n.front, length-Begins (sign Colon ∷ []) n.mid c.mid c.front)) c.back p.1 (d.0 e))

  value_no_brace : (f : FieldValueData) (ts rest : List Token) → Begins (field_value_spelling f) ts rest → IsProperFieldValue f → after_sign RightBrace ts ≡ None
  value_no_brace (ShortFieldValue name) ts rest b p = after_sign-other RightBrace (identifier name) [] ts rest refl b
  value_no_brace (LongFieldValue name e) ts rest b p = after_sign-other RightBrace (identifier name) (sign Colon ∷ expression_spelling e) ts rest refl b

  fields-complete : (xs : FieldValuesData) (last : Bool) (ts rest : List Token) → length ts ≤ bound → Begins (comma_list (field_value_spellings xs) last ++ sign RightBrace ∷ []) ts rest → AreProperFieldValues xs → (last ≡ true → AreSomeValues xs)
      → comma_list_at (after_sign RightBrace) (field_value_at (any inner)) ts ≡ Some ((list_of_field_values xs, last), rest)
  fields-complete xs last ts rest h b p f =
      comma_list_at-complete RightBrace (field_value_at (any inner)) field_value_spelling IsProperFieldValue (λ rest. ((e : ExpressionData) → Follows 0 e rest) × (after_sign Colon rest ≡ None)) bound
      field_value_at-complete value_no_brace
      (λ ts rest b. (λ e. follows_sign RightBrace e [] ts rest refl b, after_sign-other Colon (sign RightBrace) [] ts rest refl b))
      (λ ts rest b. (λ e. follows_sign comma_sign e [] ts rest refl b, after_sign-other Colon (sign comma_sign) [] ts rest refl b)) refl
      (list_of_field_values xs) last ts rest h (subst (λ ls. Begins (comma_list ls last ++ sign RightBrace ∷ []) ts rest) (values_spelled_from xs) b)
      (each_proper_value xs p) (λ l. filled_values xs (f l))

  -- ---- paths, calls and packs

  glued_arguments-complete : (a : MaybeArgumentsData) (ts rest : List Token) → length ts ≤ suc bound → Begins (maybe_arguments_spelling (Some true) a) ts rest → AreProperMaybeArguments a → after_glued Less rest ≡ None → glued_arguments_at inner.types ts ≡ Some (a, rest)
  unfolding glued_arguments_at
  glued_arguments-complete NoArguments ts rest h b p e = map_or_none (after_glued Less ts) _ (Some (NoArguments, ts)) (ap (after_glued Less) b ∙ e) ∙ ap (λ us. Some (NoArguments, us)) b
  glued_arguments-complete (SomeArguments a) ts rest h b p e =
      let s = Begins-first (lexeme (Punctuation Less) None (Some true)) (inside_spelling a) ts rest (Begins-same _ _ ts rest (arguments_spelled (Some true) a) b) in
      map_or_some (after_glued Less ts) _ (Some (NoArguments, ts)) s.mid (after_glued-complete Less ts s.mid s.front)
      ∙ map_some (arguments_at inner.types s.mid) (λ a. (SomeArguments a.0, a.1)) (a, rest)
      (arguments_at-complete bound inner.types types_complete a s.mid rest (omega (arith, h, length-Begins (lexeme (Punctuation Less) None (Some true) ∷ []) ts s.mid s.front)) s.back p)

  no_colons : (a : MaybeArgumentsData) (l : Lexeme) (ls : List Lexeme) (ts rest : List Token) → is_sign ColonColon l.kind ≡ false → Begins (maybe_arguments_spelling (Some true) a ++ l ∷ ls) ts rest → after_sign ColonColon ts ≡ None
  no_colons NoArguments l ls ts rest e b = after_sign-other ColonColon l ls ts rest e b
  no_colons (SomeArguments (Arguments items last)) l ls ts rest e b = after_sign-first ColonColon (maybe_arguments_spelling (Some true) (SomeArguments (Arguments items last)) ++ l ∷ ls) ts rest refl b

  call_form : (path : Path) (a : MaybeArgumentsData) (ts rest : List Token) → Begins (sign LeftParenthesis ∷ []) ts rest → MayHaveArguments path a → path_form_at (has_arguments a) path ts ≡ Some (Call, rest)
  unfolding path_form_at
  call_form path NoArguments ts rest b m = map_or_some (after_sign LeftParenthesis ts) _ _ rest (after_sign-complete LeftParenthesis ts rest b)
  call_form path (SomeArguments a) ts rest b m =
      map_or_some (after_sign LeftParenthesis ts) _ _ rest (after_sign-complete LeftParenthesis ts rest b) ∙ cond_false (is_single (codes "vector") path) None (Some (Call, rest)) (is_single-complete (codes "vector") path m)

  pack_form : (path : Path) (has : Bool) (ts rest : List Token) → Begins (sign LeftBrace ∷ []) ts rest → begins_capital (last_name path) ≡ true → path_form_at has path ts ≡ Some (Pack, rest)
  unfolding path_form_at
  pack_form path has ts rest b c =
      map_or_none (after_sign LeftParenthesis ts) _ _ (after_sign-other LeftParenthesis (sign LeftBrace) [] ts rest refl b)
      ∙ map_or_some (cond (begins_capital (last_name path)) (after_sign LeftBrace ts) None) _ _ rest (cond_true (begins_capital (last_name path)) (after_sign LeftBrace ts) None c ∙ after_sign-complete LeftBrace ts rest b)

  alone_form : (path : Path) (rest : List Token) → Quiet rest → path_form_at false path rest ≡ Some (Alone, rest)
  unfolding path_form_at
  alone_form path rest q =
      map_or_none (after_sign LeftParenthesis rest) _ _ q.parenthesis
      ∙ map_or_none (cond (begins_capital (last_name path)) (after_sign LeftBrace rest) None) _ (Some (Alone, rest)) (no_brace (begins_capital (last_name path)))
    where
      no_brace : (b : Bool) → cond b (after_sign LeftBrace rest) None ≡ None
      no_brace true = q.brace
      no_brace false = refl

  -- the reader of a term that begins with a path reaches the path
  path_term : (path : Path) (ls : List Lexeme) (ts rest : List Token) (r : ExpressionData × List Token) → Begins (path_spelling path ++ ls) ts rest → IsProperPath path
      → vector_span_at ts ≡ None → assert_span_at ts ≡ None → plain_literal_at ts ≡ None → path_term_at inner ts ≡ Some r → term_at inner ts ≡ Some r
  unfolding term_at
  path_term path ls ts rest r b p v a l e =
      map_or_none (sign_span_at LeftParenthesis ts) _ _ (sign_span_at-none LeftParenthesis ts (path_no_sign LeftParenthesis path ls ts rest b p))
      ∙ map_or_none (sign_span_at LeftBrace ts) _ _ (sign_span_at-none LeftBrace ts (path_no_sign LeftBrace path ls ts rest b p))
      ∙ map_or_none (sign_span_at AtSign ts) _ _ (sign_span_at-none AtSign ts (path_no_sign AtSign path ls ts rest b p))
      ∙ map_or_none (plain_literal_at ts) _ _ l ∙ map_or_none (vector_span_at ts) _ _ v ∙ map_or_none (assert_span_at ts) _ _ a ∙ e

  -- a path is not a literal
  truth_words : (w : List ℕ) → IsName w → (is_word (codes "true") (Word w) ≡ false) × (is_word (codes "false") (Word w) ≡ false)
  truth_words w n = (name_is_no_keyword w (codes "true") true_is_keyword n, name_is_no_keyword w (codes "false") false_is_keyword n)

  path_no_literal : (path : Path) (ls : List Lexeme) (ts rest : List Token) → Begins (path_spelling path ++ ls) ts rest → IsProperPath path → plain_literal_at ts ≡ None
  path_no_literal (name_path i) ls ts rest b p = let t = truth_words i.text p in plain_none (identifier i) ls ts rest (number_at-other (identifier i) ls ts rest refl b) t.0 t.1 b
  path_no_literal (member_path i j) ls ts rest b p = let t = truth_words i.text p.0 in plain_none (identifier i) (sign ColonColon ∷ identifier j ∷ ls) ts rest (number_at-other (identifier i) (sign ColonColon ∷ identifier j ∷ ls) ts rest refl b) t.0 t.1 b
  path_no_literal (full_path m n) ls ts rest b p = full m.address m.name n ls ts rest (subst (λ l. Begins l ts rest) (full_spelled m.address m.name n ls) b) p.0.0
    where
      full : (a : Address) (m n : Identifier) (ls : List Lexeme) (ts rest : List Token) → Begins (address_spelling a ++ (sign ColonColon ∷ identifier m ∷ sign ColonColon ∷ identifier n ∷ ls)) ts rest → IsProperAddress a → plain_literal_at ts ≡ None
      full (number_address x) m n ls ts rest b p =
          plain_none (numeral x) (sign ColonColon ∷ identifier m ∷ sign ColonColon ∷ identifier n ∷ ls) ts rest (number_at-path (numeral x) (identifier m ∷ sign ColonColon ∷ identifier n ∷ ls) ts rest b) refl refl b
      full (name_address i) m n ls ts rest b p =
          let t = truth_words i.text p in
          plain_none (identifier i) (sign ColonColon ∷ identifier m ∷ sign ColonColon ∷ identifier n ∷ ls) ts rest (number_at-other (identifier i) (sign ColonColon ∷ identifier m ∷ sign ColonColon ∷ identifier n ∷ ls) ts rest refl b) t.0 t.1 b

  pub call-complete : (path : Path) (a : MaybeArgumentsData) (values : ExpressionsData) (last : Bool) (ts rest : List Token) → length ts ≤ suc bound → Begins (expression_spelling (CallExpression path a values last)) ts rest → IsProperExpression (CallExpression path a values last)
      → term_at inner ts ≡ Some (CallExpression path a values last, rest)
  unfolding path_term_at
  call-complete path a values last ts rest h b p =
      let inside = comma_list (expression_spellings values) last ++ sign RightParenthesis ∷ [] in
      let whole = Begins-same _ (path_spelling path ++ (maybe_arguments_spelling (Some true) a ++ sign LeftParenthesis ∷ inside)) ts rest
      (regroup (path_spelling path) (maybe_arguments_spelling (Some true) a) (comma_list (expression_spellings values) last) (sign RightParenthesis ∷ []) (sign LeftParenthesis)) b in
      let s = Begins-split (path_spelling path) (maybe_arguments_spelling (Some true) a ++ sign LeftParenthesis ∷ inside) ts rest whole in
      let g = Begins-split (maybe_arguments_spelling (Some true) a) (sign LeftParenthesis ∷ inside) s.mid rest s.back in
      let o = Begins-first (sign LeftParenthesis) inside g.mid rest g.back in
      path_term path (maybe_arguments_spelling (Some true) a ++ sign LeftParenthesis ∷ inside) ts rest _ whole p.0
      (no_vector path ts s.mid s.front (no_vector_behind path a (sign LeftParenthesis) inside s.mid rest p.1 refl refl s.back)) (no_assert path ts s.mid s.front (no_exclaim_behind a (sign LeftParenthesis) inside s.mid rest refl s.back))
      (path_no_literal path (maybe_arguments_spelling (Some true) a ++ sign LeftParenthesis ∷ inside) ts rest whole p.0)
      (bind_some (path_at ts) _ (path, s.mid) (path_at-complete path ts s.mid s.front p.0 (no_colons a (sign LeftParenthesis) inside s.mid rest refl s.back))
      ∙ bind_some (glued_arguments_at inner.types s.mid) _ (a, g.mid) (glued_arguments-complete a s.mid g.mid (omega (arith, h, length-Begins (path_spelling path) ts s.mid s.front)) g.front p.2 (after_glued-other Less (sign LeftParenthesis) inside g.mid rest refl g.back))
      ∙ bind_some (path_form_at (has_arguments a) path g.mid) _ (Call, o.mid) (call_form path a g.mid o.mid o.front p.1)
      ∙ map_some (comma_list_at (after_sign RightParenthesis) (any inner) o.mid) (λ values. (CallExpression path a (expressions_of values.0.0) values.0.1, values.1)) ((list_of_expressions values, last), rest)
      (list-complete RightParenthesis refl refl refl values last o.mid rest
      (omega (arith, h, length-Begins (path_spelling path) ts s.mid s.front, length-Begins (maybe_arguments_spelling (Some true) a) s.mid g.mid g.front, length-Begins (sign LeftParenthesis ∷ []) g.mid o.mid o.front)) o.back p.3 p.4)
      ∙ ap (λ xs. Some (CallExpression path a xs last, rest)) (listed_expressions values))

  pub pack-complete : (path : Path) (a : MaybeArgumentsData) (fields : FieldValuesData) (last : Bool) (ts rest : List Token) → length ts ≤ suc bound → Begins (expression_spelling (PackExpression path a fields last)) ts rest → IsProperExpression (PackExpression path a fields last)
      → term_at inner ts ≡ Some (PackExpression path a fields last, rest)
  unfolding path_term_at
  pack-complete path a fields last ts rest h b p =
      let inside = comma_list (field_value_spellings fields) last ++ sign RightBrace ∷ [] in
      let whole = Begins-same _ (path_spelling path ++ (maybe_arguments_spelling (Some true) a ++ sign LeftBrace ∷ inside)) ts rest
      (regroup (path_spelling path) (maybe_arguments_spelling (Some true) a) (comma_list (field_value_spellings fields) last) (sign RightBrace ∷ []) (sign LeftBrace)) b in
      let s = Begins-split (path_spelling path) (maybe_arguments_spelling (Some true) a ++ sign LeftBrace ∷ inside) ts rest whole in
      let g = Begins-split (maybe_arguments_spelling (Some true) a) (sign LeftBrace ∷ inside) s.mid rest s.back in
      let o = Begins-first (sign LeftBrace) inside g.mid rest g.back in
      path_term path (maybe_arguments_spelling (Some true) a ++ sign LeftBrace ∷ inside) ts rest _ whole p.0
      (no_vector path ts s.mid s.front (no_vector_behind path a (sign LeftBrace) inside s.mid rest (capital_may_have path a p.1) refl refl s.back)) (no_assert path ts s.mid s.front (no_exclaim_behind a (sign LeftBrace) inside s.mid rest refl s.back))
      (path_no_literal path (maybe_arguments_spelling (Some true) a ++ sign LeftBrace ∷ inside) ts rest whole p.0)
      (bind_some (path_at ts) _ (path, s.mid) (path_at-complete path ts s.mid s.front p.0 (no_colons a (sign LeftBrace) inside s.mid rest refl s.back))
      ∙ bind_some (glued_arguments_at inner.types s.mid) _ (a, g.mid) (glued_arguments-complete a s.mid g.mid (omega (arith, h, length-Begins (path_spelling path) ts s.mid s.front)) g.front p.2 (after_glued-other Less (sign LeftBrace) inside g.mid rest refl g.back))
      ∙ bind_some (path_form_at (has_arguments a) path g.mid) _ (Pack, o.mid) (pack_form path (has_arguments a) g.mid o.mid o.front (begins_capital-complete (last_name path) p.1))
      ∙ map_some (comma_list_at (after_sign RightBrace) (field_value_at (any inner)) o.mid) (λ fields. (PackExpression path a (field_values_of fields.0.0) fields.0.1, fields.1)) ((list_of_field_values fields, last), rest)
      (fields-complete fields last o.mid rest
      (omega (arith, h, length-Begins (path_spelling path) ts s.mid s.front, length-Begins (maybe_arguments_spelling (Some true) a) s.mid g.mid g.front, length-Begins (sign LeftBrace ∷ []) g.mid o.mid o.front)) o.back p.3 p.4)
      ∙ ap (λ xs. Some (PackExpression path a xs last, rest)) (listed_values fields))

  pub path-complete : (path : Path) (ts rest : List Token) → length ts ≤ suc bound → Begins (path_spelling path) ts rest → IsProperPath path → TermEnds (PathExpression path) rest → term_at inner ts ≡ Some (PathExpression path, rest)
  unfolding path_term_at
  path-complete path ts rest h b p d =
      let whole = Begins-same _ _ ts rest (sym (append-nil (path_spelling path))) b in
      path_term path [] ts rest _ whole p (alone_no_vector path ts rest b d) (no_assert path ts rest b d.quiet.exclaim) (path_no_literal path [] ts rest whole p)
      (bind_some (path_at ts) _ (path, rest) (path_at-complete path ts rest b p d.quiet.colons)
      ∙ bind_some (glued_arguments_at inner.types rest) _ (NoArguments, rest) (glued_arguments-complete NoArguments rest rest (omega (arith, h, length-Begins (path_spelling path) ts rest b)) refl tt (d.glue refl))
      ∙ bind_some (path_form_at false path rest) _ (Alone, rest) (alone_form path rest d.quiet))

  -- ---- literals

  pub literal-complete : (l : Literal) (ts rest : List Token) → Begins (literal_spelling l) ts rest → IsProperLiteral l → after_sign ColonColon rest ≡ None → term_at inner ts ≡ Some (LiteralExpression l, rest)
  unfolding term_at
  literal-complete (number_literal n) ts rest b p e =
      map_or_none (sign_span_at LeftParenthesis ts) _ _ (sign_span_at-other LeftParenthesis (numeral n) [] ts rest refl b)
      ∙ map_or_none (sign_span_at LeftBrace ts) _ _ (sign_span_at-other LeftBrace (numeral n) [] ts rest refl b)
      ∙ map_or_none (sign_span_at AtSign ts) _ _ (sign_span_at-other AtSign (numeral n) [] ts rest refl b)
      ∙ map_or_some (plain_literal_at ts) _ _ (number_literal n, rest) (plain_number n ts rest b p e)
  literal-complete (truth_literal span true) ts rest b p e =
      map_or_none (sign_span_at LeftParenthesis ts) _ _ (sign_span_at-other LeftParenthesis (word (codes "true") (Some span)) [] ts rest refl b)
      ∙ map_or_none (sign_span_at LeftBrace ts) _ _ (sign_span_at-other LeftBrace (word (codes "true") (Some span)) [] ts rest refl b)
      ∙ map_or_none (sign_span_at AtSign ts) _ _ (sign_span_at-other AtSign (word (codes "true") (Some span)) [] ts rest refl b)
      ∙ map_or_some (plain_literal_at ts) _ _ (truth_literal span true, rest) (plain_truth span true ts rest b)
  literal-complete (truth_literal span false) ts rest b p e =
      map_or_none (sign_span_at LeftParenthesis ts) _ _ (sign_span_at-other LeftParenthesis (word (codes "false") (Some span)) [] ts rest refl b)
      ∙ map_or_none (sign_span_at LeftBrace ts) _ _ (sign_span_at-other LeftBrace (word (codes "false") (Some span)) [] ts rest refl b)
      ∙ map_or_none (sign_span_at AtSign ts) _ _ (sign_span_at-other AtSign (word (codes "false") (Some span)) [] ts rest refl b)
      ∙ map_or_some (plain_literal_at ts) _ _ (truth_literal span false, rest) (plain_truth span false ts rest b)
  literal-complete (address_literal span a) ts rest b p e =
      let s = Begins-first (sign_at span AtSign) (address_spelling a) ts rest b in
      map_or_none (sign_span_at LeftParenthesis ts) _ _ (sign_span_at-other LeftParenthesis (sign_at span AtSign) (address_spelling a) ts rest refl b)
      ∙ map_or_none (sign_span_at LeftBrace ts) _ _ (sign_span_at-other LeftBrace (sign_at span AtSign) (address_spelling a) ts rest refl b)
      ∙ map_or_some (sign_span_at AtSign ts) _ _ (span, s.mid) (sign_span_at-complete AtSign span ts s.mid s.front)
      ∙ map_some (address_at s.mid) (λ a. (LiteralExpression (address_literal span a.0), a.1)) (a, rest) (address_at-complete a s.mid rest s.back p)

  -- ---- vectors and `assert!`

  -- a word with a special meaning before the next token: no alternative before it in the reading order applies
  word_term : (w : List ℕ) (span : Span) (ls : List Lexeme) (ts rest : List Token) → Begins (word w (Some span) ∷ ls) ts rest → is_word (codes "true") (Word w) ≡ false → is_word (codes "false") (Word w) ≡ false
      → (sign_span_at LeftParenthesis ts ≡ None) × (sign_span_at LeftBrace ts ≡ None) × (sign_span_at AtSign ts ≡ None) × (plain_literal_at ts ≡ None)
  word_term w span ls ts rest b t f = (
    sign_span_at-other LeftParenthesis (word w (Some span)) ls ts rest refl b,
    sign_span_at-other LeftBrace (word w (Some span)) ls ts rest refl b,
    sign_span_at-other AtSign (word w (Some span)) ls ts rest refl b,
    plain_none (word w (Some span)) ls ts rest (number_at-other (word w (Some span)) ls ts rest refl b) t f b,
  )

  pub vector-complete : (span : Span) (a : MaybeArgumentsData) (items : ExpressionsData) (last : Bool) (ts rest : List Token) → length ts ≤ suc bound → Begins (expression_spelling (VectorExpression span a items last)) ts rest → IsProperExpression (VectorExpression span a items last)
      → term_at inner ts ≡ Some (VectorExpression span a items last, rest)
  unfolding term_at vector_at
  vector-complete span a items last ts rest h b p =
      let inside = comma_list (expression_spellings items) last ++ sign RightBracket ∷ [] in
      let w = word (codes "vector") (Some span) in
      let whole = Begins-same _ ((w ∷ []) ++ (maybe_arguments_spelling None a ++ sign LeftBracket ∷ inside)) ts rest
      (regroup (w ∷ []) (maybe_arguments_spelling None a) (comma_list (expression_spellings items) last) (sign RightBracket ∷ []) (sign LeftBracket)) b in
      let s = Begins-first w (maybe_arguments_spelling None a ++ sign LeftBracket ∷ inside) ts rest whole in
      let g = Begins-split (maybe_arguments_spelling None a) (sign LeftBracket ∷ inside) s.mid rest s.back in
      let o = Begins-first (sign LeftBracket) inside g.mid rest g.back in
      let none = word_term (codes "vector") span (maybe_arguments_spelling None a ++ sign LeftBracket ∷ inside) ts rest whole refl refl in
      map_or_none (sign_span_at LeftParenthesis ts) _ _ none.0 ∙ map_or_none (sign_span_at LeftBrace ts) _ _ none.1 ∙ map_or_none (sign_span_at AtSign ts) _ _ none.2 ∙ map_or_none (plain_literal_at ts) _ _ none.3
      ∙ map_or_some (vector_span_at ts) _ _ (span, s.mid) (vector_span_at-complete span ts s.mid s.front (opens_vector a inside s.mid rest s.back))
      ∙ bind_some (maybe_arguments_at inner.types s.mid) _ (a, g.mid) (maybe_arguments_at-complete bound inner.types types_complete a s.mid g.mid (omega (arith, h, length-Begins (w ∷ []) ts s.mid s.front)) g.front p.0 (after_sign-other Less (sign LeftBracket) inside g.mid rest refl g.back))
      ∙ bind_some (after_sign LeftBracket g.mid) _ o.mid (after_sign-complete LeftBracket g.mid o.mid o.front)
      ∙ map_some (comma_list_at (after_sign RightBracket) (any inner) o.mid) (λ items. (VectorExpression span a (expressions_of items.0.0) items.0.1, items.1)) ((list_of_expressions items, last), rest)
      (list-complete RightBracket refl refl refl items last o.mid rest
      (omega (arith, h, length-Begins (w ∷ []) ts s.mid s.front, length-Begins (maybe_arguments_spelling None a) s.mid g.mid g.front, length-Begins (sign LeftBracket ∷ []) g.mid o.mid o.front)) o.back p.1 p.2)
      ∙ ap (λ xs. Some (VectorExpression span a xs last, rest)) (listed_expressions items)

  pub assert-complete : (span : Span) (c d : ExpressionData) (ts rest : List Token) → length ts ≤ suc bound → Begins (expression_spelling (AssertExpression span c d)) ts rest → IsProperExpression (AssertExpression span c d) → term_at inner ts ≡ Some (AssertExpression span c d, rest)
  unfolding term_at assert_at
  assert-complete span c d ts rest h b p =
      let w = word (codes "assert") (Some span) in
      let tail = expression_spelling c ++ sign comma_sign ∷ (expression_spelling d ++ sign RightParenthesis ∷ []) in
      let whole = Begins-same _ (w ∷ sign Exclaim ∷ sign LeftParenthesis ∷ tail) ts rest (assert_spelled w (expression_spelling c) (expression_spelling d)) b in
      let s = Begins-first w (sign Exclaim ∷ sign LeftParenthesis ∷ tail) ts rest whole in
      let e = Begins-first (sign Exclaim) (sign LeftParenthesis ∷ tail) s.mid rest s.back in
      let o = Begins-first (sign LeftParenthesis) tail e.mid rest e.back in
      let x = Begins-split (expression_spelling c) (sign comma_sign ∷ (expression_spelling d ++ sign RightParenthesis ∷ [])) o.mid rest o.back in
      let m = Begins-first (sign comma_sign) (expression_spelling d ++ sign RightParenthesis ∷ []) x.mid rest x.back in
      let y = Begins-split (expression_spelling d) (sign RightParenthesis ∷ []) m.mid rest m.back in
      let none = word_term (codes "assert") span (sign Exclaim ∷ sign LeftParenthesis ∷ tail) ts rest whole refl refl in
      let shorter : length o.mid ≤ bound = omega (arith, h, length-Begins (w ∷ []) ts s.mid s.front, length-Begins (sign Exclaim ∷ []) s.mid e.mid e.front, length-Begins (sign LeftParenthesis ∷ []) e.mid o.mid o.front) in
      map_or_none (sign_span_at LeftParenthesis ts) _ _ none.0 ∙ map_or_none (sign_span_at LeftBrace ts) _ _ none.1 ∙ map_or_none (sign_span_at AtSign ts) _ _ none.2 ∙ map_or_none (plain_literal_at ts) _ _ none.3
      ∙ map_or_none (vector_span_at ts) _ _ (vector_span_at-other w (sign Exclaim ∷ sign LeftParenthesis ∷ tail) ts rest refl whole)
      ∙ map_or_some (assert_span_at ts) _ _ (span, e.mid) (assert_span_at-complete span ts s.mid e.mid s.front e.front)
      ∙ bind_some (after_sign LeftParenthesis e.mid) _ o.mid (after_sign-complete LeftParenthesis e.mid o.mid o.front)
      ∙ bind_some (any inner o.mid) _ (c, x.mid) (any-complete c o.mid x.mid shorter x.front p.0 (follows_sign comma_sign c [] x.mid m.mid refl m.front))
      ∙ bind_some (after_sign comma_sign x.mid) _ m.mid (after_sign-complete comma_sign x.mid m.mid m.front)
      ∙ bind_some (any inner m.mid) _ (d, y.mid) (any-complete d m.mid y.mid (omega (arith, shorter, length-Begins (expression_spelling c) o.mid x.mid x.front, length-Begins (sign comma_sign ∷ []) x.mid m.mid m.front)) y.front p.1 (follows_sign RightParenthesis d [] y.mid rest refl y.back))
      ∙ map_some (after_sign RightParenthesis y.mid) (λ rest. (AssertExpression span c d, rest)) rest (after_sign-complete RightParenthesis y.mid rest y.back)

  -- ---- parentheses

  -- the term is in parentheses
  opened : (span : Span) (ls : List Lexeme) (ts mid rest : List Token) (r : ExpressionData × List Token) → Begins (sign_at span LeftParenthesis ∷ []) ts mid → parenthesized_at inner span mid ≡ Some r → term_at inner ts ≡ Some r
  unfolding term_at
  opened span ls ts mid rest r b e = map_or_some (sign_span_at LeftParenthesis ts) _ _ (span, mid) (sign_span_at-complete LeftParenthesis span ts mid b) ∙ e

  -- the first expression, and what follows it
  first_in : (span : Span) (x : ExpressionData) (form : BehindFirst) (ts us vs : List Token) (r : ExpressionData × List Token) → after_sign RightParenthesis ts ≡ None → any inner ts ≡ Some (x, us) → behind_first_at us ≡ Some (form, vs)
      → behind_first inner span x form vs ≡ Some r → parenthesized_at inner span ts ≡ Some r
  unfolding parenthesized_at
  first_in span x form ts us vs r n a f e = map_or_none (after_sign RightParenthesis ts) _ _ n ∙ bind_some (any inner ts) _ (x, us) a ∙ bind_some (behind_first_at us) _ (form, vs) f ∙ e

  behind_close : (ts rest : List Token) → Begins (sign RightParenthesis ∷ []) ts rest → behind_first_at ts ≡ Some (Close, rest)
  unfolding behind_first_at
  behind_close ts rest b = map_or_some (after_sign RightParenthesis ts) _ _ rest (after_sign-complete RightParenthesis ts rest b)

  behind_as : (ts rest : List Token) → Begins (word (codes "as") None ∷ []) ts rest → behind_first_at ts ≡ Some (As, rest)
  unfolding behind_first_at
  behind_as ts rest b =
      map_or_none (after_sign RightParenthesis ts) _ _ (after_sign-other RightParenthesis (word (codes "as") None) [] ts rest refl b) ∙ map_or_some (after_word (codes "as") ts) _ _ rest (after_word-complete (codes "as") ts rest b)

  behind_comma : (ts rest : List Token) → Begins (sign comma_sign ∷ []) ts rest → behind_first_at ts ≡ Some (Comma, rest)
  unfolding behind_first_at
  behind_comma ts rest b =
      map_or_none (after_sign RightParenthesis ts) _ _ (after_sign-other RightParenthesis (sign comma_sign) [] ts rest refl b)
      ∙ map_or_none (after_word (codes "as") ts) _ _ (after_word-other (codes "as") (sign comma_sign) [] ts rest refl b)
      ∙ map_some (after_sign comma_sign ts) (λ rest. (Comma, rest)) rest (after_sign-complete comma_sign ts rest b)

  pub cast-complete : (span : Span) (x : ExpressionData) (t : SourceTypeData) (ts rest : List Token) → length ts ≤ suc bound → Begins (expression_spelling (CastExpression span x t)) ts rest → IsProperExpression (CastExpression span x t) → term_at inner ts ≡ Some (CastExpression span x t, rest)
  unfolding cast_target_at
  cast-complete span x t ts rest h b p =
      let tail = expression_spelling x ++ word (codes "as") None ∷ (type_spelling t ++ sign RightParenthesis ∷ []) in
      let s = Begins-first (sign_at span LeftParenthesis) tail ts rest (Begins-same _ _ ts rest (cast_spelled (sign_at span LeftParenthesis) (expression_spelling x) (type_spelling t)) b) in
      let y = Begins-split (expression_spelling x) (word (codes "as") None ∷ (type_spelling t ++ sign RightParenthesis ∷ [])) s.mid rest s.back in
      let w = Begins-first (word (codes "as") None) (type_spelling t ++ sign RightParenthesis ∷ []) y.mid rest y.back in
      let z = Begins-split (type_spelling t) (sign RightParenthesis ∷ []) w.mid rest w.back in
      let shorter : length s.mid ≤ bound = omega (arith, h, length-Begins (sign_at span LeftParenthesis ∷ []) ts s.mid s.front) in
      opened span tail ts s.mid rest _ s.front
      (first_in span x As s.mid y.mid w.mid _ (expression_no_sign RightParenthesis refl elsewhere x s.mid y.mid y.front p.0)
      (any-complete x s.mid y.mid shorter y.front p.0 (follows_closed 0 x y.mid (closes_word (codes "as") [] y.mid w.mid as_begins_none w.front) (λ g. after_word-other (codes "else") (word (codes "as") None) [] y.mid w.mid refl w.front)))
      (behind_as y.mid w.mid w.front)
      (map_some (cast_target_at inner.types w.mid) (λ target. (CastExpression span x target.0, target.1)) (t, rest)
      (bind_some (inner.types w.mid) (λ target. option_map (λ rest. (target.0, rest)) (after_sign RightParenthesis target.1)) (t, z.mid)
      (types_complete t w.mid z.mid (omega (arith, shorter, length-Begins (expression_spelling x) s.mid y.mid y.front, length-Begins (word (codes "as") None ∷ []) y.mid w.mid w.front)) z.front p.1
      (after_sign-other ColonColon (sign RightParenthesis) [] z.mid rest refl z.back, after_sign-other Less (sign RightParenthesis) [] z.mid rest refl z.back))
      ∙ map_some (after_sign RightParenthesis z.mid) (λ rest. (t, rest)) rest (after_sign-complete RightParenthesis z.mid rest z.back))))

  pub tuple-complete : (span : Span) (items : ExpressionsData) (last : Bool) (ts rest : List Token) → length ts ≤ suc bound → Begins (expression_spelling (TupleExpression span items last)) ts rest → IsProperExpression (TupleExpression span items last)
      → term_at inner ts ≡ Some (TupleExpression span items last, rest)
  unfolding parenthesized_at
  tuple-complete span NoExpressions true ts rest h b p = absurd (p.1 refl)
  tuple-complete span NoExpressions false ts rest h b p =
      let s = Begins-first (sign_at span LeftParenthesis) (sign RightParenthesis ∷ []) ts rest b in
      opened span [] ts s.mid rest _ s.front (map_or_some (after_sign RightParenthesis s.mid) _ _ rest (after_sign-complete RightParenthesis s.mid rest s.back))
  tuple-complete span (MoreExpressions x NoExpressions) true ts rest h b p = absurd (p.1 refl)
  tuple-complete span (MoreExpressions x NoExpressions) false ts rest h b p =
      let s = Begins-first (sign_at span LeftParenthesis) (expression_spelling x ++ sign RightParenthesis ∷ []) ts rest
      (Begins-same _ _ ts rest (ap (λ l. sign_at span LeftParenthesis ∷ (l ++ sign RightParenthesis ∷ [])) (append-nil (expression_spelling x ++ []) ∙ append-nil (expression_spelling x))) b) in
      let y = Begins-split (expression_spelling x) (sign RightParenthesis ∷ []) s.mid rest s.back in
      opened span [] ts s.mid rest _ s.front
      (first_in span x Close s.mid y.mid rest _ (expression_no_sign RightParenthesis refl elsewhere x s.mid y.mid y.front p.0.0)
      (any-complete x s.mid y.mid (omega (arith, h, length-Begins (sign_at span LeftParenthesis ∷ []) ts s.mid s.front)) y.front p.0.0 (follows_sign RightParenthesis x [] y.mid rest refl y.back)) (behind_close y.mid rest y.back) refl)
  tuple-complete span (MoreExpressions x (MoreExpressions z zs)) last ts rest h b p =
      let inside = comma_list (expression_spellings (MoreExpressions z zs)) last ++ sign RightParenthesis ∷ [] in
      let s = Begins-first (sign_at span LeftParenthesis) (expression_spelling x ++ sign comma_sign ∷ inside) ts rest
      (Begins-same _ _ ts rest (ap (λ l. sign_at span LeftParenthesis ∷ l) (several_spelled (expression_spelling x) (expression_spelling z) (expression_spellings zs) last)) b) in
      let y = Begins-split (expression_spelling x) (sign comma_sign ∷ inside) s.mid rest s.back in
      let m = Begins-first (sign comma_sign) inside y.mid rest y.back in
      let shorter : length s.mid ≤ bound = omega (arith, h, length-Begins (sign_at span LeftParenthesis ∷ []) ts s.mid s.front) in
      opened span [] ts s.mid rest _ s.front
      (first_in span x Comma s.mid y.mid m.mid _ (expression_no_sign RightParenthesis refl elsewhere x s.mid y.mid y.front p.0.0)
      (any-complete x s.mid y.mid shorter y.front p.0.0 (follows_sign comma_sign x [] y.mid m.mid refl m.front)) (behind_comma y.mid m.mid m.front)
      (bind_some (comma_list_at (after_sign RightParenthesis) (any inner) m.mid) (λ items. several span x items.0 items.1) ((list_of_expressions (MoreExpressions z zs), last), rest)
      (list-complete RightParenthesis refl refl refl (MoreExpressions z zs) last m.mid rest (omega (arith, shorter, length-Begins (expression_spelling x) s.mid y.mid y.front, length-Begins (sign comma_sign ∷ []) y.mid m.mid m.front)) m.back p.0.1 (λ g. tt))
      ∙ ap (λ xs. Some (TupleExpression span (MoreExpressions x (MoreExpressions z xs)) last, rest)) (listed_expressions zs)))
