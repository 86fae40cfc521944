-- Types are read exactly.
use Rattle.std.proofs.Common.{◌≡◌, ℕ, zero, suc, ◌≤◌, Bool, true, false, cond, List, [], ◌∷◌, ◌++◌, Option, Some, None, length, refl, sym, ap, subst, ◌∙◌, inl, inr, arith, append_assoc, append-nil}
use Rattle.std.specs.Prelude.{codes, map}
use Rattle.std.specs.Option.{option_map}
use Rattle.std.specs.List.{AllByRecursion}
use Rattle.base.specs.declared.span.Span.{Span}
use Rattle.tokens.specs.declared.token.Token.{Token}
use Rattle.tokens.specs.declared.token.TokenKind.TheVariants.{Punctuation}
use Rattle.tokens.specs.declared.token.Punctuation.{Punctuation as Sign}
use Rattle.tokens.specs.declared.token.Punctuation.TheVariants.{Ampersand, LeftParenthesis, RightParenthesis, Less, Greater, Comma, ColonColon}
use Rattle.syntax_tree.specs.declared.lexeme.Lexeme.{Lexeme}
use Rattle.syntax_tree.specs.Lexemes.{lexeme, word, sign, sign_at, comma_list}
use Rattle.syntax_tree.specs.PathSpelling.{path_spelling}
use Rattle.syntax_tree.specs.TypeTreeData.{SourceTypeData, SharedSourceType, MutableSourceType, NamedSourceType, TupleSourceType, ArgumentsData, Arguments, MaybeArgumentsData, NoArguments, SomeArguments, SourceTypesData, NoSourceTypes, MoreSourceTypes, source_types_of, list_of_source_types}
use Rattle.syntax_tree.specs.TypeSpelling.{type_spelling, type_spellings, arguments_spelling, maybe_arguments_spelling}
use Rattle.syntax_tree.specs.ProperTypes.{IsProperType, AreProperTypes, AreProperArguments, AreProperMaybeArguments, AreSome}
use Rattle.parser_base.specs.Beginnings.{Begins}
use Rattle.parser_base.specs.TokenReading.{Read, is_sign, is_keyword, after_sign, sign_span_at, after_word}
use Rattle.parser_base.specs.ListReading.{some_items_at, comma_list_at}
use Rattle.parser_base.proofs.Steps.{step, last, some_one, either, not_read, bind_some, map_some, map_or_none, map_or_some, cond_false}
use Rattle.parser_base.proofs.BeginLemmas.{Begins-append, Begins-split, Begins-first, Begins-same, length-Begins}
use Rattle.parser_base.proofs.TokenLemmas.{after_sign-sound, after_sign-complete, after_sign-other, sign_span_at-sound, sign_span_at-complete, sign_span_at-other, sign_span_at-none, after_word-sound, after_word-complete, after_word-other}
use Rattle.parser_base.proofs.ListLemmas.{Filled, some_items_at-sound, comma_list_at-sound, some_items_at-complete, comma_list_at-complete}
use Rattle.parser_base.specs.PathReading.{path_at, is_single}
use Rattle.parser_base.specs.TypeReading.{arguments_at, maybe_arguments_at, named_at, reference_at, tuple_at, type_form, type_at}
use Rattle.parser_base.proofs.PathLemmas.{path_opens, path_at-sound, path_at-complete, path_no_sign, path_no_word, is_single-sound, is_single-complete}

-- ---- lists of types

types_spelled : (xs : List SourceTypeData) → type_spellings (source_types_of xs) ≡ map type_spelling xs
types_spelled [] = refl
types_spelled (x ∷ xs) = ap (λ ls. type_spelling x ∷ ls) (types_spelled xs)

proper_types : (xs : List SourceTypeData) → AllByRecursion IsProperType xs → AreProperTypes (source_types_of xs)
proper_types [] p = tt
proper_types (x ∷ xs) p = (p.0, proper_types xs p.1)

each_proper_type : (xs : List SourceTypeData) → AreProperTypes (source_types_of xs) → AllByRecursion IsProperType xs
each_proper_type [] p = tt
each_proper_type (x ∷ xs) p = (p.0, each_proper_type xs p.1)

some_types : (xs : List SourceTypeData) → Filled xs → AreSome (source_types_of xs)
some_types [] f = f
some_types (x ∷ xs) f = tt

filled_types : (xs : List SourceTypeData) → AreSome (source_types_of xs) → Filled xs
filled_types [] f = f
filled_types (x ∷ xs) f = tt

listed_types : (xs : SourceTypesData) → source_types_of (list_of_source_types xs) ≡ xs
listed_types NoSourceTypes = refl
listed_types (MoreSourceTypes x xs) = ap (MoreSourceTypes x) (listed_types xs)

types_spelled_from : (xs : SourceTypesData) → type_spellings xs ≡ map type_spelling (list_of_source_types xs)
types_spelled_from NoSourceTypes = refl
types_spelled_from (MoreSourceTypes x xs) = ap (λ ls. type_spelling x ∷ ls) (types_spelled_from xs)

-- ---- the tokens spell what is read

abbrev pub ReadsTypes : (List Token → Read SourceTypeData) → Type 0
ReadsTypes inner = (ts : List Token) (r : SourceTypeData × List Token) → inner ts ≡ Some r → Begins (type_spelling r.0) ts r.1 × IsProperType r.0

-- type arguments without their `<`
abbrev pub inside_spelling : ArgumentsData → List Lexeme
inside_spelling (Arguments items last) = comma_list (type_spellings items) last ++ sign Greater ∷ []

pub arguments_spelled : (glued : Option Bool) (a : ArgumentsData) → arguments_spelling glued a ≡ lexeme (Punctuation Less) None glued ∷ inside_spelling a
arguments_spelled glued (Arguments items last) = refl

pub arguments_at-sound : (inner : List Token → Read SourceTypeData) → ReadsTypes inner → (ts : List Token) (r : ArgumentsData × List Token) → arguments_at inner ts ≡ Some r → Begins (inside_spelling r.0) ts r.1 × AreProperArguments r.0
unfolding arguments_at
arguments_at-sound inner sound ts r e =
    let l = last (some_items_at (after_sign Greater) inner ts) _ r e in
    let s = some_items_at-sound Greater inner type_spelling IsProperType sound ts l.value l.first in
    subst (λ q. Begins (inside_spelling q.0) ts q.1 × AreProperArguments q.0) l.then (
      subst (λ ls. Begins (comma_list ls l.value.0.1 ++ sign Greater ∷ []) ts l.value.1) (sym (types_spelled l.value.0.0)) s.0.spelled,
      (proper_types l.value.0.0 s.0.all_proper, some_types l.value.0.0 s.1),
    )

pub maybe_arguments_at-sound : (inner : List Token → Read SourceTypeData) → ReadsTypes inner → (ts : List Token) (r : MaybeArgumentsData × List Token) → maybe_arguments_at inner ts ≡ Some r
    → Begins (maybe_arguments_spelling None r.0) ts r.1 × AreProperMaybeArguments r.0
unfolding maybe_arguments_at
maybe_arguments_at-sound inner sound ts r e =
    elim (either (after_sign Less ts) (λ inside. option_map (λ a. (SomeArguments a.0, a.1)) (arguments_at inner inside)) _ r e) [
      | inl s ↦
          let a = last (arguments_at inner s.value) (λ a. (SomeArguments a.0, a.1)) r s.then in
          let read = arguments_at-sound inner sound s.value a.value a.first in
          subst (λ q. Begins (maybe_arguments_spelling None q.0) ts q.1 × AreProperMaybeArguments q.0) a.then (
            Begins-same _ _ ts a.value.1 (sym (arguments_spelled None a.value.0)) (Begins-append (sign Less ∷ []) (inside_spelling a.value.0) ts s.value a.value.1 (after_sign-sound Less ts s.value s.first) read.0),
            read.1,
          )
      | inr n ↦ subst (λ q. Begins (maybe_arguments_spelling None q.0) ts q.1 × AreProperMaybeArguments q.0) (some_one (NoArguments, ts) r n.1) (refl, tt)
    ]

named_at-sound : (inner : List Token → Read SourceTypeData) → ReadsTypes inner → ReadsTypes (named_at inner)
unfolding named_at
named_at-sound inner sound ts r e =
    let p = step (path_at ts) _ r e in
    let n = not_read (is_single (codes "u256") p.value.0) _ r p.then in
    let a = last (maybe_arguments_at inner p.value.1) _ r n.1 in
    let path = path_at-sound ts p.value p.first in
    let arguments = maybe_arguments_at-sound inner sound p.value.1 a.value a.first in
    subst (λ q. Begins (type_spelling q.0) ts q.1 × IsProperType q.0) a.then (
      Begins-append (path_spelling p.value.0) (maybe_arguments_spelling None a.value.0) ts p.value.1 a.value.1 path.0 arguments.0,
      (path.1, is_single-sound (codes "u256") p.value.0 n.0, arguments.1),
    )

reference_at-sound : (inner : List Token → Read SourceTypeData) → ReadsTypes inner → (span : Span) (whole ts : List Token) (r : SourceTypeData × List Token) → Begins (sign_at span Ampersand ∷ []) whole ts
    → reference_at inner span ts ≡ Some r → Begins (type_spelling r.0) whole r.1 × IsProperType r.0
unfolding reference_at
reference_at-sound inner sound span whole ts r front e =
    elim (either (after_word (codes "mut") ts) (λ rest. option_map (λ t. (MutableSourceType span t.0, t.1)) (inner rest)) _ r e) [
      | inl s ↦
          let t = last (inner s.value) (λ t. (MutableSourceType span t.0, t.1)) r s.then in
          let read = sound s.value t.value t.first in
          subst (λ q. Begins (type_spelling q.0) whole q.1 × IsProperType q.0) t.then (
            Begins-append (sign_at span Ampersand ∷ []) (word (codes "mut") None ∷ type_spelling t.value.0) whole ts t.value.1 front
                (Begins-append (word (codes "mut") None ∷ []) (type_spelling t.value.0) ts s.value t.value.1 (after_word-sound (codes "mut") ts s.value s.first) read.0),
            read.1,
          )
      | inr n ↦
          let t = last (inner ts) (λ t. (SharedSourceType span t.0, t.1)) r n.1 in
          let read = sound ts t.value t.first in
          subst (λ q. Begins (type_spelling q.0) whole q.1 × IsProperType q.0) t.then
          (Begins-append (sign_at span Ampersand ∷ []) (type_spelling t.value.0) whole ts t.value.1 front read.0, read.1)
    ]

tuple_at-sound : (inner : List Token → Read SourceTypeData) → ReadsTypes inner → (span : Span) (whole ts : List Token) (r : SourceTypeData × List Token) → Begins (sign_at span LeftParenthesis ∷ []) whole ts
    → tuple_at inner span ts ≡ Some r → Begins (type_spelling r.0) whole r.1 × IsProperType r.0
unfolding tuple_at
tuple_at-sound inner sound span whole ts r front e =
    let l = last (comma_list_at (after_sign RightParenthesis) inner ts) _ r e in
    let s = comma_list_at-sound RightParenthesis inner type_spelling IsProperType sound ts l.value l.first in
    subst (λ q. Begins (type_spelling q.0) whole q.1 × IsProperType q.0) l.then (
      Begins-append (sign_at span LeftParenthesis ∷ []) (comma_list (type_spellings (source_types_of l.value.0.0)) l.value.0.1 ++ sign RightParenthesis ∷ []) whole ts l.value.1 front
          (subst (λ ls. Begins (comma_list ls l.value.0.1 ++ sign RightParenthesis ∷ []) ts l.value.1) (sym (types_spelled l.value.0.0)) s.0.spelled),
      (proper_types l.value.0.0 s.0.all_proper, λ h. some_types l.value.0.0 (s.1 h)),
    )

type_form-sound : (inner : List Token → Read SourceTypeData) → ReadsTypes inner → ReadsTypes (type_form inner)
unfolding type_form
type_form-sound inner sound ts r e =
    elim (either (sign_span_at Ampersand ts) (λ p. reference_at inner p.0 p.1) _ r e) [
      | inl s ↦ reference_at-sound inner sound s.value.0 ts s.value.1 r (sign_span_at-sound Ampersand ts s.value s.first) s.then
      | inr n ↦ elim (either (sign_span_at LeftParenthesis ts) (λ p. tuple_at inner p.0 p.1) _ r n.1) [
        | inl s ↦ tuple_at-sound inner sound s.value.0 ts s.value.1 r (sign_span_at-sound LeftParenthesis ts s.value s.first) s.then
        | inr m ↦ named_at-sound inner sound ts r m.1
      ]
    ]

pub type_at-sound : (n : ℕ) → ReadsTypes (type_at n)
unfolding type_at
type_at-sound zero ts r e = absurd (cc)
type_at-sound (suc n) ts r e = type_form-sound (type_at n) (type_at-sound n) ts r e

-- ---- each proper type is read

-- after a path, type arguments begin with `<`
pub no_colons : (a : MaybeArgumentsData) (ts rest : List Token) → Begins (maybe_arguments_spelling None a) ts rest → after_sign ColonColon rest ≡ None → after_sign ColonColon ts ≡ None
no_colons NoArguments ts rest b e = ap (after_sign ColonColon) b ∙ e
no_colons (SomeArguments a) ts rest b e = after_sign-other ColonColon (sign Less) (inside_spelling a) ts rest refl (Begins-same _ _ ts rest (arguments_spelled None a) b)

-- no token after a type belongs to it
abbrev pub TypeEnds : List Token → Type 0
TypeEnds rest = (after_sign ColonColon rest ≡ None) × (after_sign Less rest ≡ None)

abbrev pub ReadsBackTypes : ℕ → (List Token → Read SourceTypeData) → Type 0
ReadsBackTypes bound inner = (t : SourceTypeData) (ts rest : List Token) → length ts ≤ bound → Begins (type_spelling t) ts rest → IsProperType t → TypeEnds rest → inner ts ≡ Some (t, rest)

-- a type begins with `&`, a parenthesis or a path
pub type_no_sign : (s : Sign) → is_sign s (Punctuation Ampersand) ≡ false → is_sign s (Punctuation LeftParenthesis) ≡ false → (t : SourceTypeData) (ls : List Lexeme) (ts rest : List Token)
    → Begins (type_spelling t ++ ls) ts rest → IsProperType t → after_sign s ts ≡ None
type_no_sign s a b (SharedSourceType span t) ls ts rest h p = after_sign-other s (sign_at span Ampersand) (type_spelling t ++ ls) ts rest a h
type_no_sign s a b (MutableSourceType span t) ls ts rest h p = after_sign-other s (sign_at span Ampersand) (word (codes "mut") None ∷ type_spelling t ++ ls) ts rest a h
type_no_sign s a b (TupleSourceType span items last) ls ts rest h p =
    after_sign-other s (sign_at span LeftParenthesis) ((comma_list (type_spellings items) last ++ sign RightParenthesis ∷ []) ++ ls) ts rest b h
type_no_sign s a b (NamedSourceType path arguments) ls ts rest h p =
    path_no_sign s path (maybe_arguments_spelling None arguments ++ ls) ts rest (Begins-same _ _ ts rest (append_assoc (path_spelling path) (maybe_arguments_spelling None arguments) ls) h) p.0

mut_is_keyword : is_keyword (codes "mut") ≡ true
unfolding is_keyword
mut_is_keyword = refl

type_no_mut : (t : SourceTypeData) (ts rest : List Token) → Begins (type_spelling t) ts rest → IsProperType t → after_word (codes "mut") ts ≡ None
type_no_mut (SharedSourceType span t) ts rest h p = after_word-other (codes "mut") (sign_at span Ampersand) (type_spelling t) ts rest refl h
type_no_mut (MutableSourceType span t) ts rest h p = after_word-other (codes "mut") (sign_at span Ampersand) (word (codes "mut") None ∷ type_spelling t) ts rest refl h
type_no_mut (TupleSourceType span items last) ts rest h p = after_word-other (codes "mut") (sign_at span LeftParenthesis) (comma_list (type_spellings items) last ++ sign RightParenthesis ∷ []) ts rest refl h
type_no_mut (NamedSourceType path arguments) ts rest h p = path_no_word (codes "mut") path (maybe_arguments_spelling None arguments) ts rest mut_is_keyword h p.0

ends_at : (s : Sign) → is_sign ColonColon (Punctuation s) ≡ false → is_sign Less (Punctuation s) ≡ false → (ts rest : List Token) → Begins (sign s ∷ []) ts rest → TypeEnds ts
ends_at s a b ts rest h = (after_sign-other ColonColon (sign s) [] ts rest a h, after_sign-other Less (sign s) [] ts rest b h)

module _ (bound : ℕ) (inner : List Token → Read SourceTypeData) (complete : ReadsBackTypes bound inner) where
  pub arguments_at-complete : (a : ArgumentsData) (ts rest : List Token) → length ts ≤ bound → Begins (inside_spelling a) ts rest → AreProperArguments a → arguments_at inner ts ≡ Some (a, rest)
  unfolding arguments_at
  arguments_at-complete (Arguments NoSourceTypes last) ts rest h b p = absurd p.1
  arguments_at-complete (Arguments (MoreSourceTypes x xs) last) ts rest h b p =
      map_some (some_items_at (after_sign Greater) inner ts) (λ items. (Arguments (source_types_of items.0.0) items.0.1, items.1)) ((x ∷ list_of_source_types xs, last), rest)
      (some_items_at-complete Greater inner type_spelling IsProperType TypeEnds bound complete
      (λ t ts rest b p. type_no_sign Greater refl refl t [] ts rest (Begins-same _ _ ts rest (sym (append-nil (type_spelling t))) b) p)
      (ends_at Greater refl refl) (ends_at Comma refl refl) refl x (list_of_source_types xs) last ts rest h
      (subst (λ ls. Begins (comma_list (type_spelling x ∷ ls) last ++ sign Greater ∷ []) ts rest) (types_spelled_from xs) b)
      (p.0.0, each_proper_type (list_of_source_types xs) (subst AreProperTypes (sym (listed_types xs)) p.0.1)))
      ∙ ap (λ ys. Some (Arguments (MoreSourceTypes x ys) last, rest)) (listed_types xs)

  -- where a `<` occurs, it opens arguments
  pub maybe_arguments_at-complete : (a : MaybeArgumentsData) (ts rest : List Token) → length ts ≤ suc bound → Begins (maybe_arguments_spelling None a) ts rest → AreProperMaybeArguments a → after_sign Less rest ≡ None → maybe_arguments_at inner ts ≡ Some (a, rest)
  unfolding maybe_arguments_at
  maybe_arguments_at-complete NoArguments ts rest h b p e =
      map_or_none (after_sign Less ts) (λ inside. option_map (λ a. (SomeArguments a.0, a.1)) (arguments_at inner inside)) _ (ap (after_sign Less) b ∙ e) ∙ ap (λ us. Some (NoArguments, us)) b
  maybe_arguments_at-complete (SomeArguments a) ts rest h b p e =
      let s = Begins-first (sign Less) (inside_spelling a) ts rest (Begins-same _ _ ts rest (arguments_spelled None a) b) in
      map_or_some (after_sign Less ts) (λ inside. option_map (λ a. (SomeArguments a.0, a.1)) (arguments_at inner inside)) _ s.mid (after_sign-complete Less ts s.mid s.front)
      ∙ map_some (arguments_at inner s.mid) (λ a. (SomeArguments a.0, a.1)) (a, rest) (arguments_at-complete a s.mid rest (omega (arith, length-Begins (sign Less ∷ []) ts s.mid s.front)) s.back p)

  type_form-complete : (t : SourceTypeData) (ts rest : List Token) → length ts ≤ suc bound → Begins (type_spelling t) ts rest → IsProperType t → TypeEnds rest → type_form inner ts ≡ Some (t, rest)
  unfolding type_form reference_at tuple_at named_at
  type_form-complete (SharedSourceType span t) ts rest h b p d =
      let s = Begins-first (sign_at span Ampersand) (type_spelling t) ts rest b in
      map_or_some (sign_span_at Ampersand ts) (λ p. reference_at inner p.0 p.1) _ (span, s.mid) (sign_span_at-complete Ampersand span ts s.mid s.front)
      ∙ map_or_none (after_word (codes "mut") s.mid) _ _ (type_no_mut t s.mid rest s.back p)
      ∙ map_some (inner s.mid) (λ t. (SharedSourceType span t.0, t.1)) (t, rest) (complete t s.mid rest (omega (arith, length-Begins (sign_at span Ampersand ∷ []) ts s.mid s.front)) s.back p d)
  type_form-complete (MutableSourceType span t) ts rest h b p d =
      let s = Begins-first (sign_at span Ampersand) (word (codes "mut") None ∷ type_spelling t) ts rest b in
      let m = Begins-first (word (codes "mut") None) (type_spelling t) s.mid rest s.back in
      map_or_some (sign_span_at Ampersand ts) (λ p. reference_at inner p.0 p.1) _ (span, s.mid) (sign_span_at-complete Ampersand span ts s.mid s.front)
      ∙ map_or_some (after_word (codes "mut") s.mid) _ _ m.mid (after_word-complete (codes "mut") s.mid m.mid m.front)
      ∙ map_some (inner m.mid) (λ t. (MutableSourceType span t.0, t.1)) (t, rest)
      (complete t m.mid rest (omega (arith, length-Begins (sign_at span Ampersand ∷ []) ts s.mid s.front, length-Begins (word (codes "mut") None ∷ []) s.mid m.mid m.front)) m.back p d)
  type_form-complete (TupleSourceType span items last) ts rest h b p d =
      let s = Begins-first (sign_at span LeftParenthesis) (comma_list (type_spellings items) last ++ sign RightParenthesis ∷ []) ts rest b in
      map_or_none (sign_span_at Ampersand ts) (λ p. reference_at inner p.0 p.1) _ (sign_span_at-other Ampersand (sign_at span LeftParenthesis) (comma_list (type_spellings items) last ++ sign RightParenthesis ∷ []) ts rest refl b)
      ∙ map_or_some (sign_span_at LeftParenthesis ts) (λ p. tuple_at inner p.0 p.1) _ (span, s.mid) (sign_span_at-complete LeftParenthesis span ts s.mid s.front)
      ∙ map_some (comma_list_at (after_sign RightParenthesis) inner s.mid) (λ items. (TupleSourceType span (source_types_of items.0.0) items.0.1, items.1)) ((list_of_source_types items, last), rest)
      (comma_list_at-complete RightParenthesis inner type_spelling IsProperType TypeEnds bound complete
      (λ t ts rest b p. type_no_sign RightParenthesis refl refl t [] ts rest (Begins-same _ _ ts rest (sym (append-nil (type_spelling t))) b) p)
      (ends_at RightParenthesis refl refl) (ends_at Comma refl refl) refl (list_of_source_types items) last s.mid rest (omega (arith, length-Begins (sign_at span LeftParenthesis ∷ []) ts s.mid s.front))
      (subst (λ ls. Begins (comma_list ls last ++ sign RightParenthesis ∷ []) s.mid rest) (types_spelled_from items) s.back)
      (each_proper_type (list_of_source_types items) (subst AreProperTypes (sym (listed_types items)) p.0)) (λ l. filled_types (list_of_source_types items) (subst AreSome (sym (listed_types items)) (p.1 l))))
      ∙ ap (λ ys. Some (TupleSourceType span ys last, rest)) (listed_types items)
  type_form-complete (NamedSourceType path a) ts rest h b p d =
      let s = Begins-split (path_spelling path) (maybe_arguments_spelling None a) ts rest b in
      map_or_none (sign_span_at Ampersand ts) (λ p. reference_at inner p.0 p.1) _ (sign_span_at-none Ampersand ts (path_no_sign Ampersand path (maybe_arguments_spelling None a) ts rest b p.0))
      ∙ map_or_none (sign_span_at LeftParenthesis ts) (λ p. tuple_at inner p.0 p.1) _ (sign_span_at-none LeftParenthesis ts (path_no_sign LeftParenthesis path (maybe_arguments_spelling None a) ts rest b p.0))
      ∙ bind_some (path_at ts) (λ path. cond (is_single (codes "u256") path.0) None (option_map (λ a. (NamedSourceType path.0 a.0, a.1)) (maybe_arguments_at inner path.1))) (path, s.mid) (path_at-complete path ts s.mid s.front p.0 (no_colons a s.mid rest s.back d.0))
      ∙ cond_false (is_single (codes "u256") path) None _ (is_single-complete (codes "u256") path p.1)
      ∙ map_some (maybe_arguments_at inner s.mid) (λ a. (NamedSourceType path a.0, a.1)) (a, rest) (maybe_arguments_at-complete a s.mid rest (omega (arith, length-Begins (path_spelling path) ts s.mid s.front)) s.back p.2 d.1)

-- no type has an empty spelling
nothing_spells : (t : SourceTypeData) (rest : List Token) → Begins (type_spelling t) [] rest → IsProperType t → ⊥
nothing_spells (SharedSourceType span t) rest b p = b
nothing_spells (MutableSourceType span t) rest b p = b
nothing_spells (TupleSourceType span items last) rest b p = b
nothing_spells (NamedSourceType path a) rest b p = let o = path_opens path (maybe_arguments_spelling None a) [] rest b p.0 in o.begins

pub type_at-complete : (n : ℕ) → ReadsBackTypes n (type_at (suc n))
unfolding type_at
type_at-complete zero t ts rest h b p d = type_form-complete zero (type_at zero) (λ t ts rest h b p d. absurd (nothing t ts rest h b p)) t ts rest (omega (arith, h)) b p d
  where
    nothing : (t : SourceTypeData) (ts rest : List Token) → length ts ≤ 0 → Begins (type_spelling t) ts rest → IsProperType t → ⊥
    nothing t [] rest h b p = nothing_spells t rest b p
    nothing t (u ∷ us) rest h b p = absurd (omega (arith, h))
type_at-complete (suc n) t ts rest h b p d = type_form-complete n (type_at (suc n)) (λ t ts rest h b p d. type_at-complete n t ts rest h b p d) t ts rest (omega (arith, h)) b p d
