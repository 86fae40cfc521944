-- Patterns are read exactly.
use Rattle.std.proofs.Common.{◌≡◌, ℕ, zero, suc, ◌<◌, ◌≤◌, Bool, true, false, cond, ◌||◌, List, [], ◌∷◌, ◌++◌, Some, None, length, refl, sym, ap, subst, ◌∙◌, inl, inr, arith, append_assoc, length-append}
use Rattle.std.specs.Prelude.{codes, map, is_some}
use Rattle.std.specs.List.{AllByRecursion}
use Rattle.std.specs.Cmp.Lexicographic.{same_text}
use Rattle.base.specs.declared.span.Span.{Span}
use Rattle.tokens.specs.declared.token.Token.{Token}
use Rattle.tokens.specs.declared.token.TokenKind.TheVariants.{Punctuation}
use Rattle.tokens.specs.declared.token.Punctuation.{Punctuation as Sign}
use Rattle.tokens.specs.declared.token.Punctuation.TheVariants.{LeftParenthesis, RightParenthesis, LeftBrace, RightBrace, Less, Colon, Comma, ColonColon}
use Rattle.syntax_tree.specs.declared.lexeme.Identifier.{Identifier}
use Rattle.syntax_tree.specs.declared.lexeme.Lexeme.{Lexeme}
use Rattle.syntax_tree.specs.declared.path.Path.{Path}
use Rattle.syntax_tree.specs.declared.path.Path.TheVariants.{Name as name_path, Member as member_path, Full as full_path}
use Rattle.syntax_tree.specs.Lexemes.{word, identifier, sign, sign_at, comma_list}
use Rattle.syntax_tree.specs.NameRules.{IsName}
use Rattle.syntax_tree.specs.PathSpelling.{module_spelling, path_spelling}
use Rattle.syntax_tree.specs.TypeTreeData.{SourceTypeData, Arguments, MaybeArgumentsData, NoArguments, SomeArguments}
use Rattle.syntax_tree.specs.TypeSpelling.{maybe_arguments_spelling}
use Rattle.syntax_tree.specs.ProperTypes.{IsProperPath, AreProperMaybeArguments}
use Rattle.syntax_tree.specs.PatternData.{PatternData, BindPattern, IgnorePattern, UnpackPattern, TuplePattern, FieldPatternData, ShortFieldPattern, LongFieldPattern, PatternsData, NoPatterns, MorePatterns, FieldPatternsData, NoFieldPatterns, MoreFieldPatterns, patterns_of, list_of_patterns, field_patterns_of, list_of_field_patterns}
use Rattle.syntax_tree.specs.PatternSpelling.{pattern_spelling, pattern_spellings, field_pattern_spelling, field_pattern_spellings}
use Rattle.syntax_tree.specs.ProperPatterns.{IsProperPattern, IsProperFieldPattern, AreProperPatterns, AreProperFieldPatterns, AreSomePatterns, AreSomeFields}
use Rattle.parser_base.specs.Beginnings.{Begins}
use Rattle.parser_base.specs.TokenReading.{Read, is_sign, is_keyword, after_sign, sign_span_at, identifier_at, begins_small}
use Rattle.base.specs.Names.{same_name}
use Rattle.parser_base.specs.ListReading.{some_items_at, comma_list_at}
use Rattle.parser_base.proofs.Steps.{step, last, some_one, either, either_read, if_some, bind_some, map_some, map_or_none, map_or_some, cond_true, cond_false}
use Rattle.parser_base.proofs.BeginLemmas.{Begins-append, Begins-split, Begins-first, Begins-same, length-Begins}
use Rattle.parser_base.proofs.TokenLemmas.{after_sign-sound, after_sign-complete, after_sign-other, sign_span_at-sound, sign_span_at-complete, sign_span_at-none, identifier_at-sound, identifier_at-complete, begins_small-sound, begins_small-complete, is_keyword-sound}
use Rattle.base.proofs.NameLaws.{same_name-other}
use Rattle.parser_base.proofs.ListLemmas.{Filled, some_items_at-sound, comma_list_at-sound, some_items_at-complete, comma_list_at-complete}
use Rattle.parser_base.specs.PathReading.{path_at}
use Rattle.parser_base.specs.TypeReading.{maybe_arguments_at, type_at}
use Rattle.parser_base.specs.PatternReading.{tuple_pattern_at, bound_by, short_field, field_pattern_at, unpack_at, opens_fields, pattern_behind, pattern_form, pattern_at}
use Rattle.parser_base.proofs.PathLemmas.{path_opens, path_at-sound, path_at-complete, path_no_sign}
use Rattle.parser_base.proofs.TypeLemmas.{ReadsTypes, ReadsBackTypes, maybe_arguments_at-sound, maybe_arguments_at-complete, type_at-sound, type_at-complete, arguments_spelled, inside_spelling}

-- ---- lists of patterns and of fields

patterns_spelled : (xs : List PatternData) → pattern_spellings (patterns_of xs) ≡ map pattern_spelling xs
patterns_spelled [] = refl
patterns_spelled (x ∷ xs) = ap (λ ls. pattern_spelling x ∷ ls) (patterns_spelled xs)

patterns_spelled_from : (xs : PatternsData) → pattern_spellings xs ≡ map pattern_spelling (list_of_patterns xs)
patterns_spelled_from NoPatterns = refl
patterns_spelled_from (MorePatterns x xs) = ap (λ ls. pattern_spelling x ∷ ls) (patterns_spelled_from xs)

proper_patterns : (xs : List PatternData) → AllByRecursion IsProperPattern xs → AreProperPatterns (patterns_of xs)
proper_patterns [] p = tt
proper_patterns (x ∷ xs) p = (p.0, proper_patterns xs p.1)

each_proper_pattern : (xs : PatternsData) → AreProperPatterns xs → AllByRecursion IsProperPattern (list_of_patterns xs)
each_proper_pattern NoPatterns p = tt
each_proper_pattern (MorePatterns x xs) p = (p.0, each_proper_pattern xs p.1)

some_patterns : (xs : List PatternData) → Filled xs → AreSomePatterns (patterns_of xs)
some_patterns [] f = f
some_patterns (x ∷ xs) f = tt

listed_patterns : (xs : PatternsData) → patterns_of (list_of_patterns xs) ≡ xs
listed_patterns NoPatterns = refl
listed_patterns (MorePatterns x xs) = ap (MorePatterns x) (listed_patterns xs)

fields_spelled : (xs : List FieldPatternData) → field_pattern_spellings (field_patterns_of xs) ≡ map field_pattern_spelling xs
fields_spelled [] = refl
fields_spelled (x ∷ xs) = ap (λ ls. field_pattern_spelling x ∷ ls) (fields_spelled xs)

fields_spelled_from : (xs : FieldPatternsData) → field_pattern_spellings xs ≡ map field_pattern_spelling (list_of_field_patterns xs)
fields_spelled_from NoFieldPatterns = refl
fields_spelled_from (MoreFieldPatterns x xs) = ap (λ ls. field_pattern_spelling x ∷ ls) (fields_spelled_from xs)

proper_fields : (xs : List FieldPatternData) → AllByRecursion IsProperFieldPattern xs → AreProperFieldPatterns (field_patterns_of xs)
proper_fields [] p = tt
proper_fields (x ∷ xs) p = (p.0, proper_fields xs p.1)

each_proper_field : (xs : FieldPatternsData) → AreProperFieldPatterns xs → AllByRecursion IsProperFieldPattern (list_of_field_patterns xs)
each_proper_field NoFieldPatterns p = tt
each_proper_field (MoreFieldPatterns x xs) p = (p.0, each_proper_field xs p.1)

some_fields : (xs : List FieldPatternData) → Filled xs → AreSomeFields (field_patterns_of xs)
some_fields [] f = f
some_fields (x ∷ xs) f = tt

filled_fields : (xs : FieldPatternsData) → AreSomeFields xs → Filled (list_of_field_patterns xs)
filled_fields NoFieldPatterns f = f
filled_fields (MoreFieldPatterns x xs) f = tt

listed_fields : (xs : FieldPatternsData) → field_patterns_of (list_of_field_patterns xs) ≡ xs
listed_fields NoFieldPatterns = refl
listed_fields (MoreFieldPatterns x xs) = ap (MoreFieldPatterns x) (listed_fields xs)

-- the fields after their brace
abbrev fields_inside : FieldPatternsData → Bool → List Lexeme
fields_inside fields last = comma_list (field_pattern_spellings fields) last ++ sign RightBrace ∷ []

regroup : (p m c r : List Lexeme) (b : Lexeme) → ((p ++ m) ++ b ∷ c) ++ r ≡ p ++ (m ++ b ∷ (c ++ r))
regroup p m c r b = append_assoc (p ++ m) (b ∷ c) r ∙ append_assoc p m (b ∷ (c ++ r))

unpack_spelled : (path : Path) (a : MaybeArgumentsData) (fields : FieldPatternsData) (last : Bool) → pattern_spelling (UnpackPattern path a fields last) ≡ path_spelling path ++ (maybe_arguments_spelling None a ++ sign LeftBrace ∷ fields_inside fields last)
unpack_spelled path a fields last = regroup (path_spelling path) (maybe_arguments_spelling None a) (comma_list (field_pattern_spellings fields) last) (sign RightBrace ∷ []) (sign LeftBrace)

-- ---- the tokens spell what is read

abbrev pub ReadsPatterns : (List Token → Read PatternData) → Type 0
ReadsPatterns inner = (ts : List Token) (r : PatternData × List Token) → inner ts ≡ Some r → Begins (pattern_spelling r.0) ts r.1 × IsProperPattern r.0

tuple_pattern_at-sound : (inner : List Token → Read PatternData) → ReadsPatterns inner → (span : Span) (whole ts : List Token) (r : PatternData × List Token) → Begins (sign_at span LeftParenthesis ∷ []) whole ts
    → tuple_pattern_at inner span ts ≡ Some r → Begins (pattern_spelling r.0) whole r.1 × IsProperPattern r.0
unfolding tuple_pattern_at
tuple_pattern_at-sound inner sound span whole ts r front e =
    let l = last (some_items_at (after_sign RightParenthesis) inner ts) _ r e in
    let s = some_items_at-sound RightParenthesis inner pattern_spelling IsProperPattern sound ts l.value l.first in
    subst (λ q. Begins (pattern_spelling q.0) whole q.1 × IsProperPattern q.0) l.then (
      Begins-append (sign_at span LeftParenthesis ∷ []) (comma_list (pattern_spellings (patterns_of l.value.0.0)) l.value.0.1 ++ sign RightParenthesis ∷ []) whole ts l.value.1 front
          (subst (λ ls. Begins (comma_list ls l.value.0.1 ++ sign RightParenthesis ∷ []) ts l.value.1) (sym (patterns_spelled l.value.0.0)) s.0.spelled),
      (proper_patterns l.value.0.0 s.0.all_proper, some_patterns l.value.0.0 s.1),
    )

bound_by-sound : (path : Path) (p : PatternData) (ts rest : List Token) → bound_by path ≡ Some p → Begins (path_spelling path) ts rest → IsProperPath path → Begins (pattern_spelling p) ts rest × IsProperPattern p
bound_by-sound (name_path n) p ts rest e b q = go (same_name n.text (codes "_")) refl e
  where
    go : (c : Bool) → same_name n.text (codes "_") ≡ c → cond c (Some (IgnorePattern n.span)) (cond (begins_small n.text) (Some (BindPattern n)) None) ≡ Some p → Begins (pattern_spelling p) ts rest × IsProperPattern p
    go true is e = subst (λ p. Begins (pattern_spelling p) ts rest × IsProperPattern p) (some_one (IgnorePattern n.span) p e) (subst (λ w. Begins (word w (Some n.span) ∷ []) ts rest) (same_text n.text (codes "_") (sym is)) b, tt)
    go false is e =
        let c = if_some (begins_small n.text) (BindPattern n) p e in
        subst (λ p. Begins (pattern_spelling p) ts rest × IsProperPattern p) c.1 (b, (q, begins_small-sound n.text c.0, λ h. differs (sym (ap (λ w. same_name w (codes "_")) h) ∙ is)))
      where
        differs : true ≡ false → ⊥
        differs h = cc
bound_by-sound (member_path m n) p ts rest e b q = absurd (cc)
bound_by-sound (full_path m n) p ts rest e b q = absurd (cc)

field_pattern_at-sound : (inner : List Token → Read PatternData) → ReadsPatterns inner → (ts : List Token) (r : FieldPatternData × List Token) → field_pattern_at inner ts ≡ Some r → Begins (field_pattern_spelling r.0) ts r.1 × IsProperFieldPattern r.0
unfolding field_pattern_at short_field
field_pattern_at-sound inner sound ts r e =
    let n = step (identifier_at ts) _ r e in
    let name = identifier_at-sound ts n.value n.first in
    elim (either (after_sign Colon n.value.1) _ _ r n.then) [
      | inl s ↦
          let p = last (inner s.value) (λ p. (LongFieldPattern n.value.0 p.0, p.1)) r s.then in
          let read = sound s.value p.value p.first in
          subst (λ q. Begins (field_pattern_spelling q.0) ts q.1 × IsProperFieldPattern q.0) p.then (
            Begins-append (identifier n.value.0 ∷ []) (sign Colon ∷ pattern_spelling p.value.0) ts n.value.1 p.value.1 name.0
                (Begins-append (sign Colon ∷ []) (pattern_spelling p.value.0) n.value.1 s.value p.value.1 (after_sign-sound Colon n.value.1 s.value s.first) read.0),
            (name.1, read.1),
          )
      | inr m ↦
          let c = if_some (begins_small n.value.0.text) (ShortFieldPattern n.value.0, n.value.1) r m.1 in
          subst (λ q. Begins (field_pattern_spelling q.0) ts q.1 × IsProperFieldPattern q.0) c.1 (name.0, (name.1, begins_small-sound n.value.0.text c.0))
    ]

unpack_at-sound : (types : List Token → Read SourceTypeData) (inner : List Token → Read PatternData) → ReadsTypes types → ReadsPatterns inner → (path : Path) (whole ts : List Token) (r : PatternData × List Token) → Begins (path_spelling path) whole ts → IsProperPath path
    → unpack_at types inner path ts ≡ Some r → Begins (pattern_spelling r.0) whole r.1 × IsProperPattern r.0
unfolding unpack_at
unpack_at-sound types inner types_sound sound path whole ts r front p e =
    let a = step (maybe_arguments_at types ts) _ r e in
    let o = step (after_sign LeftBrace a.value.1) _ r a.then in
    let l = last (comma_list_at (after_sign RightBrace) (field_pattern_at inner) o.value) _ r o.then in
    let arguments = maybe_arguments_at-sound types types_sound ts a.value a.first in
    let s = comma_list_at-sound RightBrace (field_pattern_at inner) field_pattern_spelling IsProperFieldPattern (field_pattern_at-sound inner sound) o.value l.value l.first in
    let inside = fields_inside (field_patterns_of l.value.0.0) l.value.0.1 in
    subst (λ q. Begins (pattern_spelling q.0) whole q.1 × IsProperPattern q.0) l.then (
      Begins-same _ _ whole l.value.1 (sym (unpack_spelled path a.value.0 (field_patterns_of l.value.0.0) l.value.0.1))
          (Begins-append (path_spelling path) (maybe_arguments_spelling None a.value.0 ++ sign LeftBrace ∷ inside) whole ts l.value.1 front
          (Begins-append (maybe_arguments_spelling None a.value.0) (sign LeftBrace ∷ inside) ts a.value.1 l.value.1 arguments.0
          (Begins-append (sign LeftBrace ∷ []) inside a.value.1 o.value l.value.1 (after_sign-sound LeftBrace a.value.1 o.value o.first)
          (subst (λ ls. Begins (comma_list ls l.value.0.1 ++ sign RightBrace ∷ []) o.value l.value.1) (sym (fields_spelled l.value.0.0)) s.0.spelled)))),
      (p, arguments.1, proper_fields l.value.0.0 s.0.all_proper, λ h. some_fields l.value.0.0 (s.1 h)),
    )

pattern_form-sound : (types : List Token → Read SourceTypeData) (inner : List Token → Read PatternData) → ReadsTypes types → ReadsPatterns inner → ReadsPatterns (pattern_form types inner)
unfolding pattern_form pattern_behind
pattern_form-sound types inner types_sound sound ts r e =
    elim (either (sign_span_at LeftParenthesis ts) (λ p. tuple_pattern_at inner p.0 p.1) _ r e) [
      | inl s ↦ tuple_pattern_at-sound inner sound s.value.0 ts s.value.1 r (sign_span_at-sound LeftParenthesis ts s.value s.first) s.then
      | inr n ↦
          let p = step (path_at ts) _ r n.1 in
          let path = path_at-sound ts p.value p.first in
          elim (either_read (opens_fields p.value.1) _ _ r p.then) [
            | inl o ↦ unpack_at-sound types inner types_sound sound p.value.0 ts p.value.1 r path.0 path.1 o.1
            | inr o ↦
                let b = last (bound_by p.value.0) (λ q. (q, p.value.1)) r o.1 in
                subst (λ q. Begins (pattern_spelling q.0) ts q.1 × IsProperPattern q.0) b.then (bound_by-sound p.value.0 b.value ts p.value.1 b.first path.0 path.1)
          ]
    ]

pub pattern_at-sound : (n : ℕ) → ReadsPatterns (pattern_at n)
unfolding pattern_at
pattern_at-sound zero ts r e = absurd (cc)
pattern_at-sound (suc n) ts r e = pattern_form-sound (type_at n) (pattern_at n) (type_at-sound n) (pattern_at-sound n) ts r e

-- ---- each proper pattern is read

-- no token after a pattern belongs to it
abbrev pub PatternEnds : List Token → Type 0
PatternEnds rest = (after_sign ColonColon rest ≡ None) × (after_sign Less rest ≡ None) × (after_sign LeftBrace rest ≡ None)

abbrev pub ReadsBackPatterns : ℕ → (List Token → Read PatternData) → Type 0
ReadsBackPatterns bound inner = (p : PatternData) (ts rest : List Token) → length ts ≤ bound → Begins (pattern_spelling p) ts rest → IsProperPattern p → PatternEnds rest → inner ts ≡ Some (p, rest)

opens_fields-none : (ts : List Token) → PatternEnds ts → opens_fields ts ≡ false
unfolding opens_fields
opens_fields-none ts e = ap (λ o. is_some {T = List Token} o || is_some (after_sign LeftBrace ts)) e.1 ∙ ap (λ o. is_some {T = List Token} o) e.2

fields_no_colons : (a : MaybeArgumentsData) (ls : List Lexeme) (ts rest : List Token) → Begins (maybe_arguments_spelling None a ++ sign LeftBrace ∷ ls) ts rest → after_sign ColonColon ts ≡ None
fields_no_colons NoArguments ls ts rest b = after_sign-other ColonColon (sign LeftBrace) ls ts rest refl b
fields_no_colons (SomeArguments (Arguments items last)) ls ts rest b = after_sign-other ColonColon (sign Less) ((inside_spelling (Arguments items last)) ++ sign LeftBrace ∷ ls) ts rest refl b

fields_open : (a : MaybeArgumentsData) (ls : List Lexeme) (ts rest : List Token) → Begins (maybe_arguments_spelling None a ++ sign LeftBrace ∷ ls) ts rest → opens_fields ts ≡ true
unfolding opens_fields
fields_open NoArguments ls ts rest b =
    let s = Begins-first (sign LeftBrace) ls ts rest b in
    ap (λ o. is_some {T = List Token} o || is_some (after_sign LeftBrace ts)) (after_sign-other Less (sign LeftBrace) ls ts rest refl b)
    ∙ ap (λ o. is_some {T = List Token} o) (after_sign-complete LeftBrace ts s.mid s.front)
fields_open (SomeArguments a) ls ts rest b =
    let s = Begins-first (sign Less) (inside_spelling a ++ sign LeftBrace ∷ ls) ts rest (Begins-same _ _ ts rest (ap (λ l. l ++ sign LeftBrace ∷ ls) (arguments_spelled None a)) b) in
    ap (λ o. is_some {T = List Token} o || is_some (after_sign LeftBrace ts)) (after_sign-complete Less ts s.mid s.front)

path_some : (p : Path) → 0 < length (path_spelling p)
path_some (name_path i) = omega arith
path_some (member_path i j) = omega arith
path_some (full_path m n) = omega (arith, length-append (module_spelling m) (sign ColonColon ∷ identifier n ∷ []))

underscore_is_no_keyword : is_keyword (codes "_") ≡ false
unfolding is_keyword
underscore_is_no_keyword = refl

underscore_is_name : IsName (codes "_")
underscore_is_name = is_keyword-sound (codes "_") underscore_is_no_keyword

-- a pattern begins with a parenthesis or a path
pattern_no_sign : (s : Sign) → is_sign s (Punctuation LeftParenthesis) ≡ false → (p : PatternData) (ts rest : List Token) → Begins (pattern_spelling p) ts rest → IsProperPattern p → after_sign s ts ≡ None
pattern_no_sign s e (BindPattern name) ts rest b p = after_sign-other s (identifier name) [] ts rest refl b
pattern_no_sign s e (IgnorePattern span) ts rest b p = after_sign-other s (word (codes "_") (Some span)) [] ts rest refl b
pattern_no_sign s e (TuplePattern span items last) ts rest b p = after_sign-other s (sign_at span LeftParenthesis) (comma_list (pattern_spellings items) last ++ sign RightParenthesis ∷ []) ts rest e b
pattern_no_sign s e (UnpackPattern path arguments fields last) ts rest b p =
    path_no_sign s path (maybe_arguments_spelling None arguments ++ sign LeftBrace ∷ fields_inside fields last) ts rest (Begins-same _ _ ts rest (unpack_spelled path arguments fields last) b) p.0

field_no_sign : (s : Sign) (f : FieldPatternData) (ts rest : List Token) → Begins (field_pattern_spelling f) ts rest → IsProperFieldPattern f → after_sign s ts ≡ None
field_no_sign s (ShortFieldPattern name) ts rest b p = after_sign-other s (identifier name) [] ts rest refl b
field_no_sign s (LongFieldPattern name q) ts rest b p = after_sign-other s (identifier name) (sign Colon ∷ pattern_spelling q) ts rest refl b

ends_at : (s : Sign) → is_sign ColonColon (Punctuation s) ≡ false → is_sign Less (Punctuation s) ≡ false → is_sign LeftBrace (Punctuation s) ≡ false → (ts rest : List Token) → Begins (sign s ∷ []) ts rest → PatternEnds ts
ends_at s a b c ts rest h = (after_sign-other ColonColon (sign s) [] ts rest a h, after_sign-other Less (sign s) [] ts rest b h, after_sign-other LeftBrace (sign s) [] ts rest c h)

-- no token after a field belongs to it
abbrev FieldEnds : List Token → Type 0
FieldEnds rest = PatternEnds rest × (after_sign Colon rest ≡ None)

field_ends_at : (s : Sign) → is_sign ColonColon (Punctuation s) ≡ false → is_sign Less (Punctuation s) ≡ false → is_sign LeftBrace (Punctuation s) ≡ false → is_sign Colon (Punctuation s) ≡ false → (ts rest : List Token) → Begins (sign s ∷ []) ts rest → FieldEnds ts
field_ends_at s a b c d ts rest h = (ends_at s a b c ts rest h, after_sign-other Colon (sign s) [] ts rest d h)

module _ (bound : ℕ) (types : List Token → Read SourceTypeData) (types_complete : ReadsBackTypes bound types) (inner : List Token → Read PatternData) (complete : ReadsBackPatterns bound inner) where
  field_pattern_at-complete : (f : FieldPatternData) (ts rest : List Token) → length ts ≤ bound → Begins (field_pattern_spelling f) ts rest → IsProperFieldPattern f → FieldEnds rest → field_pattern_at inner ts ≡ Some (f, rest)
  unfolding field_pattern_at short_field
  field_pattern_at-complete (ShortFieldPattern name) ts rest h b p d =
      bind_some (identifier_at ts) _ (name, rest) (identifier_at-complete name ts rest b p.0)
      ∙ map_or_none (after_sign Colon rest) _ _ d.1 ∙ cond_true (begins_small name.text) (Some (ShortFieldPattern name, rest)) None (begins_small-complete name.text p.1)
  field_pattern_at-complete (LongFieldPattern name q) ts rest h b p d =
      let n = Begins-first (identifier name) (sign Colon ∷ pattern_spelling q) ts rest b in
      let c = Begins-first (sign Colon) (pattern_spelling q) n.mid rest n.back in
      bind_some (identifier_at ts) _ (name, n.mid) (identifier_at-complete name ts n.mid n.front p.0)
      ∙ map_or_some (after_sign Colon n.mid) _ _ c.mid (after_sign-complete Colon n.mid c.mid c.front)
      ∙ map_some (inner c.mid) (λ p. (LongFieldPattern name p.0, p.1)) (q, rest)
      (complete q c.mid rest (omega (arith, length-Begins (identifier name ∷ []) ts n.mid n.front, length-Begins (sign Colon ∷ []) n.mid c.mid c.front)) c.back p.1 d.0)

  unpack_at-complete : (path : Path) (a : MaybeArgumentsData) (fields : FieldPatternsData) (last : Bool) (ts rest : List Token) → length ts ≤ bound
      → Begins (maybe_arguments_spelling None a ++ sign LeftBrace ∷ fields_inside fields last) ts rest
      → AreProperMaybeArguments a → AreProperFieldPatterns fields → (last ≡ true → AreSomeFields fields) → unpack_at types inner path ts ≡ Some (UnpackPattern path a fields last, rest)
  unfolding unpack_at
  unpack_at-complete path a fields last ts rest h b p q f =
      let s = Begins-split (maybe_arguments_spelling None a) (sign LeftBrace ∷ fields_inside fields last) ts rest b in
      let o = Begins-first (sign LeftBrace) (fields_inside fields last) s.mid rest s.back in
      bind_some (maybe_arguments_at types ts) _ (a, s.mid) (maybe_arguments_at-complete bound types types_complete a ts s.mid (omega (arith, h)) s.front p (after_sign-other Less (sign LeftBrace) [] s.mid o.mid refl o.front))
      ∙ bind_some (after_sign LeftBrace s.mid) _ o.mid (after_sign-complete LeftBrace s.mid o.mid o.front)
      ∙ map_some (comma_list_at (after_sign RightBrace) (field_pattern_at inner) o.mid) (λ fields. (UnpackPattern path a (field_patterns_of fields.0.0) fields.0.1, fields.1)) ((list_of_field_patterns fields, last), rest)
      (comma_list_at-complete RightBrace (field_pattern_at inner) field_pattern_spelling IsProperFieldPattern FieldEnds bound field_pattern_at-complete (field_no_sign RightBrace)
      (field_ends_at RightBrace refl refl refl refl) (field_ends_at Comma refl refl refl refl) refl (list_of_field_patterns fields) last o.mid rest
      (omega (arith, h, length-Begins (maybe_arguments_spelling None a) ts s.mid s.front, length-Begins (sign LeftBrace ∷ []) s.mid o.mid o.front))
      (subst (λ ls. Begins (comma_list ls last ++ sign RightBrace ∷ []) o.mid rest) (fields_spelled_from fields) o.back)
      (each_proper_field fields q) (λ l. filled_fields fields (f l)))
      ∙ ap (λ ys. Some (UnpackPattern path a ys last, rest)) (listed_fields fields)

  -- a path alone
  alone : (i : Identifier) (p : PatternData) (ts rest : List Token) → Begins (identifier i ∷ []) ts rest → IsName i.text → PatternEnds rest → bound_by (name_path i) ≡ Some p → pattern_form types inner ts ≡ Some (p, rest)
  unfolding pattern_form pattern_behind
  alone i p ts rest b n d e =
      map_or_none (sign_span_at LeftParenthesis ts) (λ p. tuple_pattern_at inner p.0 p.1) _ (sign_span_at-none LeftParenthesis ts (after_sign-other LeftParenthesis (identifier i) [] ts rest refl b))
      ∙ bind_some (path_at ts) (λ path. pattern_behind types inner path.0 path.1) (name_path i, rest) (path_at-complete (name_path i) ts rest b n d.0)
      ∙ cond_false (opens_fields rest) _ _ (opens_fields-none rest d) ∙ map_some (bound_by (name_path i)) (λ p. (p, rest)) p e

  pattern_form-complete : (p : PatternData) (ts rest : List Token) → length ts ≤ suc bound → Begins (pattern_spelling p) ts rest → IsProperPattern p → PatternEnds rest → pattern_form types inner ts ≡ Some (p, rest)
  unfolding pattern_form pattern_behind tuple_pattern_at
  pattern_form-complete (BindPattern name) ts rest h b p d =
      alone name (BindPattern name) ts rest b p.0 d (cond_false (same_name name.text (codes "_")) _ _ (same_name-other name.text (codes "_") p.2) ∙ cond_true (begins_small name.text) (Some (BindPattern name)) None (begins_small-complete name.text p.1))
  pattern_form-complete (IgnorePattern span) ts rest h b p d =
      alone (record { text = codes "_"; span = span }) (IgnorePattern span) ts rest b underscore_is_name d refl
  pattern_form-complete (TuplePattern span NoPatterns last) ts rest h b p d = absurd p.1
  pattern_form-complete (TuplePattern span (MorePatterns x xs) last) ts rest h b p d =
      let s = Begins-first (sign_at span LeftParenthesis) (comma_list (pattern_spelling x ∷ pattern_spellings xs) last ++ sign RightParenthesis ∷ []) ts rest b in
      map_or_some (sign_span_at LeftParenthesis ts) (λ p. tuple_pattern_at inner p.0 p.1) _ (span, s.mid) (sign_span_at-complete LeftParenthesis span ts s.mid s.front)
      ∙ map_some (some_items_at (after_sign RightParenthesis) inner s.mid) (λ items. (TuplePattern span (patterns_of items.0.0) items.0.1, items.1)) ((x ∷ list_of_patterns xs, last), rest)
      (some_items_at-complete RightParenthesis inner pattern_spelling IsProperPattern PatternEnds bound complete (pattern_no_sign RightParenthesis refl)
      (ends_at RightParenthesis refl refl refl) (ends_at Comma refl refl refl) refl x (list_of_patterns xs) last s.mid rest (omega (arith, h, length-Begins (sign_at span LeftParenthesis ∷ []) ts s.mid s.front))
      (subst (λ ls. Begins (comma_list (pattern_spelling x ∷ ls) last ++ sign RightParenthesis ∷ []) s.mid rest) (patterns_spelled_from xs) s.back)
      (p.0.0, each_proper_pattern xs p.0.1))
      ∙ ap (λ ys. Some (TuplePattern span (MorePatterns x ys) last, rest)) (listed_patterns xs)
  pattern_form-complete (UnpackPattern path a fields last) ts rest h b p d =
      let inside = sign LeftBrace ∷ fields_inside fields last in
      let whole = Begins-same _ (path_spelling path ++ (maybe_arguments_spelling None a ++ inside)) ts rest (unpack_spelled path a fields last) b in
      let s = Begins-split (path_spelling path) (maybe_arguments_spelling None a ++ inside) ts rest whole in
      map_or_none (sign_span_at LeftParenthesis ts) (λ p. tuple_pattern_at inner p.0 p.1) _ (sign_span_at-none LeftParenthesis ts (path_no_sign LeftParenthesis path (maybe_arguments_spelling None a ++ inside) ts rest whole p.0))
      ∙ bind_some (path_at ts) (λ path. pattern_behind types inner path.0 path.1) (path, s.mid) (path_at-complete path ts s.mid s.front p.0 (fields_no_colons a (fields_inside fields last) s.mid rest s.back))
      ∙ cond_true (opens_fields s.mid) _ _ (fields_open a (fields_inside fields last) s.mid rest s.back)
      ∙ unpack_at-complete path a fields last s.mid rest (omega (arith, h, length-Begins (path_spelling path) ts s.mid s.front, path_some path)) s.back p.1 p.2 p.3

-- no pattern has an empty spelling
nothing_spells : (p : PatternData) (rest : List Token) → Begins (pattern_spelling p) [] rest → IsProperPattern p → ⊥
nothing_spells (BindPattern name) rest b p = b
nothing_spells (IgnorePattern span) rest b p = b
nothing_spells (TuplePattern span items last) rest b p = b
nothing_spells (UnpackPattern path a fields last) rest b p =
    let o = path_opens path (maybe_arguments_spelling None a ++ sign LeftBrace ∷ fields_inside fields last) [] rest (Begins-same _ _ [] rest (unpack_spelled path a fields last) b) p.0 in o.begins

pub pattern_at-complete : (n : ℕ) → ReadsBackPatterns n (pattern_at (suc n))
unfolding pattern_at
pattern_at-complete zero p [] rest h b q d = absurd (nothing_spells p rest b q)
pattern_at-complete zero p (t ∷ ts) rest h b q d = absurd (omega (arith, h))
pattern_at-complete (suc n) p ts rest h b q d = pattern_form-complete n (type_at (suc n)) (type_at-complete n) (pattern_at (suc n)) (pattern_at-complete n) p ts rest h b q d
