-- A term that is read is proper, and the tokens spell it.
use Rattle.std.proofs.Common.{◌≡◌, ℕ, ◌≤◌, Bool, true, false, List, [], ◌∷◌, ◌++◌, Some, sym, subst, inl, inr, arith, append_assoc, append-nil}
use Rattle.base.specs.declared.span.Span.{Span}
use Rattle.tokens.specs.declared.token.Token.{Token}
use Rattle.tokens.specs.declared.token.Punctuation.TheVariants.{LeftParenthesis, RightParenthesis, LeftBrace, RightBrace, LeftBracket, RightBracket, Colon, Period, Less, AtSign}
use Rattle.syntax_tree.specs.declared.path.Path.{Path}
use Rattle.syntax_tree.specs.Lexemes.{sign, sign_at, identifier, comma_list}
use Rattle.syntax_tree.specs.PathSpelling.{path_spelling}
use Rattle.syntax_tree.specs.ProperTypes.{IsProperPath, AreProperMaybeArguments}
use Rattle.syntax_tree.specs.ProperExpressions.{term_level}
use Rattle.syntax_tree.specs.TypeTreeData.{SourceTypeData, MaybeArgumentsData, NoArguments, SomeArguments}
use Rattle.syntax_tree.specs.TypeSpelling.{maybe_arguments_spelling}
use Rattle.syntax_tree.specs.SpecExpressionData.{SpecExpressionData, SpecField, SpecIndex, SpecLiteral, SpecPath, SpecCall, SpecPack, SpecParenthesized, SpecFieldData, ShortSpecField, LongSpecField, spec_expressions_of, spec_fields_of}
use Rattle.syntax_tree.specs.SpecExpressionSpelling.{spec_spelling, spec_spellings, spec_field_spelling, spec_field_spellings}
use Rattle.syntax_tree.specs.ProperSpecExpressions.{level, HasNoOpenPack, IsProperSpec, IsProperField}
use Rattle.parser_base.specs.Beginnings.{Begins}
use Rattle.parser_base.specs.TokenReading.{Read, after_sign, sign_span_at, identifier_at}
use Rattle.parser_base.specs.ListReading.{comma_list_at}
use Rattle.parser_base.proofs.Steps.{step, last, some_one, either}
use Rattle.parser_base.proofs.BeginLemmas.{Begins-append, Begins-same}
use Rattle.parser_base.proofs.TokenLemmas.{after_sign-sound, sign_span_at-sound, identifier_at-sound}
use Rattle.parser_base.proofs.ListLemmas.{comma_list_at-sound}
use Rattle.parser_base.specs.PathReading.{path_at}
use Rattle.parser_base.specs.TypeReading.{arguments_at}
use Rattle.parser_base.proofs.PathLemmas.{path_at-sound}
use Rattle.parser_base.proofs.TypeLemmas.{ReadsTypes, arguments_at-sound, arguments_spelled, inside_spelling}
use Rattle.parser_base.specs.LeafReading.{after_glued, plain_literal_at}
use Rattle.expression_parser.specs.LeafReading.{address_literal_at, pack_opened}
use Rattle.expression_parser.specs.SpecReading.{Reader, call_at, spec_field_at, pack_at, bare_path, applied_at, path_form, parenthesized_at, plain_term_at, term_at, index_at, postfix_at}
use Rattle.parser_base.proofs.LeafLemmas.{glued, after_glued-sound, plain_literal_at-sound}
use Rattle.expression_parser.proofs.LeafLemmas.{address_literal_at-sound, pack_opened-sound}
use Rattle.expression_parser.proofs.SpecLists.{specs_spelled, proper_specs, some_specs, fields_spelled, proper_fields, some_fields}
use Rattle.expression_parser.proofs.JoinLemmas.{Allowed, allowed}

-- a reader of spec expressions in brackets
abbrev pub ReadsSpecs : Reader → Type 0
ReadsSpecs item = (ts : List Token) (r : SpecExpressionData × List Token) → item ts ≡ Some r → Begins (spec_spelling r.0) ts r.1 × IsProperSpec r.0

-- a spec expression of at least this level
pub record Found (packs : Bool) (low : ℕ) (whole : List Token) (r : SpecExpressionData × List Token) : Type 0 where
  pub spelled : Begins (spec_spelling r.0) whole r.1
  pub is_proper : IsProperSpec r.0
  pub allows : Allowed packs r.0
  pub high : low ≤ level r.0

pub allowed_base : (packs : Bool) (base : SpecExpressionData) (whole : SpecExpressionData) → (HasNoOpenPack base → HasNoOpenPack whole) → Allowed packs base → Allowed packs whole
allowed_base true base whole f a = tt
allowed_base false base whole f a = f a

module _ (item : Reader) (item_sound : ReadsSpecs item) where
  -- ---- calls and packs

  call_at-sound : (packs : Bool) (path : Path) (a : MaybeArgumentsData) (whole mid ts : List Token) (r : SpecExpressionData × List Token) → Begins (path_spelling path ++ maybe_arguments_spelling (Some true) a) whole mid → Begins (sign LeftParenthesis ∷ []) mid ts
      → IsProperPath path → AreProperMaybeArguments a → call_at item path a ts ≡ Some r → Found packs term_level whole r
  unfolding call_at
  call_at-sound packs path a whole mid ts r front paren p q e =
      let l = last (comma_list_at (after_sign RightParenthesis) item ts) _ r e in
      let s = comma_list_at-sound RightParenthesis item spec_spelling IsProperSpec item_sound ts l.value l.first in
      let inside = comma_list (spec_spellings (spec_expressions_of l.value.0.0)) l.value.0.1 in
      subst (Found packs term_level whole) l.then (record {
        spelled = Begins-same _ _ whole l.value.1 (sym (append_assoc (path_spelling path ++ maybe_arguments_spelling (Some true) a) (sign LeftParenthesis ∷ inside) (sign RightParenthesis ∷ [])))
            (Begins-append (path_spelling path ++ maybe_arguments_spelling (Some true) a) (sign LeftParenthesis ∷ (inside ++ sign RightParenthesis ∷ [])) whole mid l.value.1 front
            (Begins-append (sign LeftParenthesis ∷ []) (inside ++ sign RightParenthesis ∷ []) mid ts l.value.1 paren
            (subst (λ ls. Begins (comma_list ls l.value.0.1 ++ sign RightParenthesis ∷ []) ts l.value.1) (sym (specs_spelled l.value.0.0)) s.0.spelled)));
        is_proper = (p, q, proper_specs l.value.0.0 s.0.all_proper, λ h. some_specs l.value.0.0 (s.1 h));
        allows = allowed packs (SpecCall path a (spec_expressions_of l.value.0.0) l.value.0.1) tt;
        high = omega arith;
      })

  pub spec_field_at-sound : (ts : List Token) (r : SpecFieldData × List Token) → spec_field_at item ts ≡ Some r → Begins (spec_field_spelling r.0) ts r.1 × IsProperField r.0
  unfolding spec_field_at
  spec_field_at-sound ts r e =
      let n = step (identifier_at ts) _ r e in
      let name = identifier_at-sound ts n.value n.first in
      elim (either (after_sign Colon n.value.1) _ _ r n.then) [
        | inl s ↦
            let v = last (item s.value) (λ v. (LongSpecField n.value.0 v.0, v.1)) r s.then in
            let read = item_sound s.value v.value v.first in
            subst (λ q. Begins (spec_field_spelling q.0) ts q.1 × IsProperField q.0) v.then (
              Begins-append (identifier n.value.0 ∷ []) (sign Colon ∷ spec_spelling v.value.0) ts n.value.1 v.value.1 name.0
                  (Begins-append (sign Colon ∷ []) (spec_spelling v.value.0) n.value.1 s.value v.value.1 (after_sign-sound Colon n.value.1 s.value s.first) read.0),
              (name.1, read.1),
            )
        | inr m ↦ subst (λ q. Begins (spec_field_spelling q.0) ts q.1 × IsProperField q.0) (some_one (ShortSpecField n.value.0, n.value.1) r m.1) (name.0, name.1)
      ]

  pack_at-sound : (packs : Bool) (path : Path) (a : MaybeArgumentsData) (whole mid ts : List Token) (r : SpecExpressionData × List Token) → Begins (path_spelling path ++ maybe_arguments_spelling (Some true) a) whole mid
      → IsProperPath path → AreProperMaybeArguments a → pack_opened packs path mid ≡ Some ts → pack_at item path a ts ≡ Some r → Found packs term_level whole r
  unfolding pack_at
  pack_at-sound packs path a whole mid ts r front p q o e =
      let opened = pack_opened-sound packs path mid ts o in
      let l = last (comma_list_at (after_sign RightBrace) (spec_field_at item) ts) _ r e in
      let s = comma_list_at-sound RightBrace (spec_field_at item) spec_field_spelling IsProperField spec_field_at-sound ts l.value l.first in
      let inside = comma_list (spec_field_spellings (spec_fields_of l.value.0.0)) l.value.0.1 in
      subst (Found packs term_level whole) l.then (record {
        spelled = Begins-same _ _ whole l.value.1 (sym (append_assoc (path_spelling path ++ maybe_arguments_spelling (Some true) a) (sign LeftBrace ∷ inside) (sign RightBrace ∷ [])))
            (Begins-append (path_spelling path ++ maybe_arguments_spelling (Some true) a) (sign LeftBrace ∷ (inside ++ sign RightBrace ∷ [])) whole mid l.value.1 front
            (Begins-append (sign LeftBrace ∷ []) (inside ++ sign RightBrace ∷ []) mid ts l.value.1 opened.2
            (subst (λ ls. Begins (comma_list ls l.value.0.1 ++ sign RightBrace ∷ []) ts l.value.1) (sym (fields_spelled l.value.0.0)) s.0.spelled)));
        is_proper = (p, opened.1, q, proper_fields l.value.0.0 s.0.all_proper, λ h. some_fields l.value.0.0 (s.1 h));
        allows = subst (λ b. Allowed b (SpecPack path a (spec_fields_of l.value.0.0) l.value.0.1)) (sym opened.0) tt;
        high = omega arith;
      })

  bare_path-sound : (packs : Bool) (path : Path) (a : MaybeArgumentsData) (whole ts : List Token) (r : SpecExpressionData × List Token) → Begins (path_spelling path ++ maybe_arguments_spelling (Some true) a) whole ts
      → IsProperPath path → bare_path path a ts ≡ Some r → Found packs term_level whole r
  bare_path-sound packs path NoArguments whole ts r front p e =
      subst (Found packs term_level whole) (some_one (SpecPath path, ts) r e)
      (record { spelled = Begins-same _ _ whole ts (append-nil (path_spelling path)) front; is_proper = p; allows = allowed packs (SpecPath path) tt; high = omega arith })
  bare_path-sound packs path (SomeArguments a) whole ts r front p e = absurd (cc)

  applied_at-sound : (packs : Bool) (path : Path) (a : MaybeArgumentsData) (whole ts : List Token) (r : SpecExpressionData × List Token) → Begins (path_spelling path ++ maybe_arguments_spelling (Some true) a) whole ts
      → IsProperPath path → AreProperMaybeArguments a → applied_at item packs path a ts ≡ Some r → Found packs term_level whole r
  unfolding applied_at
  applied_at-sound packs path a whole ts r front p q e =
      elim (either (after_sign LeftParenthesis ts) (λ inside. call_at item path a inside) _ r e) [
        | inl s ↦ call_at-sound packs path a whole ts s.value r front (after_sign-sound LeftParenthesis ts s.value s.first) p q s.then
        | inr n ↦ elim (either (pack_opened packs path ts) (λ inside. pack_at item path a inside) _ r n.1) [
          | inl s ↦ pack_at-sound packs path a whole ts s.value r front p q s.first s.then
          | inr m ↦ bare_path-sound packs path a whole ts r front p m.1
        ]
      ]

  path_form-sound : (types : List Token → Read SourceTypeData) → ReadsTypes types → (packs : Bool) (path : Path) (whole ts : List Token) (r : SpecExpressionData × List Token) → Begins (path_spelling path) whole ts → IsProperPath path
      → path_form types item packs path ts ≡ Some r → Found packs term_level whole r
  unfolding path_form
  path_form-sound types types_sound packs path whole ts r front p e =
      elim (either (after_glued Less ts) _ _ r e) [
        | inl s ↦
            let a = step (arguments_at types s.value) _ r s.then in
            let read = arguments_at-sound types types_sound s.value a.value a.first in
            applied_at-sound packs path (SomeArguments a.value.0) whole a.value.1 r
            (Begins-append (path_spelling path) (maybe_arguments_spelling (Some true) (SomeArguments a.value.0)) whole ts a.value.1 front
            (Begins-same _ _ ts a.value.1 (sym (arguments_spelled (Some true) a.value.0))
            (Begins-append (glued Less ∷ []) (inside_spelling a.value.0) ts s.value a.value.1 (after_glued-sound Less ts s.value s.first) read.0)))
            p read.1 a.then
        | inr n ↦ applied_at-sound packs path NoArguments whole ts r (Begins-same _ _ whole ts (sym (append-nil (path_spelling path))) front) p tt n.1
      ]

  -- ---- terms

  parenthesized_at-sound : (packs : Bool) (span : Span) (whole ts : List Token) (r : SpecExpressionData × List Token) → Begins (sign_at span LeftParenthesis ∷ []) whole ts → parenthesized_at item span ts ≡ Some r → Found packs term_level whole r
  unfolding parenthesized_at
  parenthesized_at-sound packs span whole ts r front e =
      let x = step (item ts) _ r e in
      let c = last (after_sign RightParenthesis x.value.1) (λ rest. (SpecParenthesized span x.value.0, rest)) r x.then in
      let read = item_sound ts x.value x.first in
      subst (Found packs term_level whole) c.then (record {
        spelled = Begins-append (sign_at span LeftParenthesis ∷ []) (spec_spelling x.value.0 ++ sign RightParenthesis ∷ []) whole ts c.value front
            (Begins-append (spec_spelling x.value.0) (sign RightParenthesis ∷ []) ts x.value.1 c.value read.0 (after_sign-sound RightParenthesis x.value.1 c.value c.first));
        is_proper = read.1;
        allows = allowed packs (SpecParenthesized span x.value.0) tt;
        high = omega arith;
      })

  plain_term_at-sound : (types : List Token → Read SourceTypeData) → ReadsTypes types → (packs : Bool) (ts : List Token) (r : SpecExpressionData × List Token) → plain_term_at types item packs ts ≡ Some r → Found packs term_level ts r
  unfolding plain_term_at
  plain_term_at-sound types types_sound packs ts r e =
      elim (either (plain_literal_at ts) (λ l. Some (SpecLiteral l.0, l.1)) _ r e) [
        | inl s ↦
            let l = plain_literal_at-sound ts s.value s.first in
            subst (Found packs term_level ts) (some_one (SpecLiteral s.value.0, s.value.1) r s.then) (record { spelled = l.0; is_proper = l.1; allows = allowed packs (SpecLiteral s.value.0) tt; high = omega arith })
        | inr n ↦
            let p = step (path_at ts) _ r n.1 in
            let path = path_at-sound ts p.value p.first in
            path_form-sound types types_sound packs p.value.0 ts p.value.1 r path.0 path.1 p.then
      ]

  pub term_at-sound : (types : List Token → Read SourceTypeData) → ReadsTypes types → (packs : Bool) (ts : List Token) (r : SpecExpressionData × List Token) → term_at types item packs ts ≡ Some r → Found packs term_level ts r
  unfolding term_at
  term_at-sound types types_sound packs ts r e =
      elim (either (sign_span_at LeftParenthesis ts) (λ p. parenthesized_at item p.0 p.1) _ r e) [
        | inl s ↦ parenthesized_at-sound packs s.value.0 ts s.value.1 r (sign_span_at-sound LeftParenthesis ts s.value s.first) s.then
        | inr n ↦ elim (either (sign_span_at AtSign ts) _ _ r n.1) [
          | inl s ↦
              let l = last (address_literal_at s.value.0 s.value.1) (λ l. (SpecLiteral l.0, l.1)) r s.then in
              let read = address_literal_at-sound s.value.0 ts s.value.1 l.value (sign_span_at-sound AtSign ts s.value s.first) l.first in
              subst (Found packs term_level ts) l.then (record { spelled = read.0; is_proper = read.1; allows = allowed packs (SpecLiteral l.value.0) tt; high = omega arith })
          | inr m ↦ plain_term_at-sound types types_sound packs ts r m.1
        ]
      ]

  -- ---- fields and indices

  index_at-sound : (packs : Bool) (base : SpecExpressionData) (whole mid ts : List Token) (r : SpecExpressionData × List Token) → Found packs term_level whole (base, mid) → Begins (sign LeftBracket ∷ []) mid ts
      → index_at item base ts ≡ Some r → Found packs term_level whole r
  unfolding index_at
  index_at-sound packs base whole mid ts r before bracket e =
      let x = step (item ts) _ r e in
      let c = last (after_sign RightBracket x.value.1) (λ rest. (SpecIndex base x.value.0, rest)) r x.then in
      let read = item_sound ts x.value x.first in
      subst (Found packs term_level whole) c.then (record {
        spelled = Begins-same _ _ whole c.value (sym (append_assoc (spec_spelling base) (sign LeftBracket ∷ spec_spelling x.value.0) (sign RightBracket ∷ [])))
            (Begins-append (spec_spelling base) (sign LeftBracket ∷ (spec_spelling x.value.0 ++ sign RightBracket ∷ [])) whole mid c.value before.spelled
            (Begins-append (sign LeftBracket ∷ []) (spec_spelling x.value.0 ++ sign RightBracket ∷ []) mid ts c.value bracket
            (Begins-append (spec_spelling x.value.0) (sign RightBracket ∷ []) ts x.value.1 c.value read.0 (after_sign-sound RightBracket x.value.1 c.value c.first))));
        is_proper = (before.is_proper, before.high, read.1);
        allows = allowed_base packs base (SpecIndex base x.value.0) (λ h. h) before.allows;
        high = omega arith;
      })

  pub postfix_at-sound : (packs : Bool) (whole : List Token) (base : SpecExpressionData) (ts : List Token) (r : SpecExpressionData × List Token) → Found packs term_level whole (base, ts) → postfix_at item base ts ≡ Some r → Found packs term_level whole r
  unfolding postfix_at
  postfix_at-sound packs whole base ts r before e =
      elim (either (after_sign Period ts) _ _ r e) [
        | inl s ↦
            let n = last (identifier_at s.value) (λ name. (SpecField base name.0, name.1)) r s.then in
            let name = identifier_at-sound s.value n.value n.first in
            subst (Found packs term_level whole) n.then (record {
              spelled = Begins-append (spec_spelling base) (sign Period ∷ identifier n.value.0 ∷ []) whole ts n.value.1 before.spelled
                  (Begins-append (sign Period ∷ []) (identifier n.value.0 ∷ []) ts s.value n.value.1 (after_sign-sound Period ts s.value s.first) name.0);
              is_proper = (before.is_proper, before.high, name.1);
              allows = allowed_base packs base (SpecField base n.value.0) (λ h. h) before.allows;
              high = omega arith;
            })
        | inr n ↦ let b = step (after_sign LeftBracket ts) _ r n.1 in index_at-sound packs base whole ts b.value r before (after_sign-sound LeftBracket ts b.value b.first) b.then
      ]
