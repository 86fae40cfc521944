-- Names with their types are read exactly.
use Rattle.std.proofs.Common.{◌≡◌, ℕ, suc, ◌≤◌, Bool, true, false, cond, List, [], ◌∷◌, ◌++◌, Some, None, length, refl, subst, ◌∙◌, arith}
use Rattle.std.specs.Option.{option_map}
use Rattle.std.specs.List.{AllByRecursion}
use Rattle.tokens.specs.declared.token.Token.{Token}
use Rattle.tokens.specs.declared.token.TokenKind.TheVariants.{Punctuation}
use Rattle.tokens.specs.declared.token.Punctuation.{Punctuation as Sign}
use Rattle.tokens.specs.declared.token.Punctuation.TheVariants.{Colon, ColonColon, Less, Comma, RightBrace, RightParenthesis}
use Rattle.syntax_tree.specs.Lexemes.{identifier, sign}
use Rattle.syntax_tree.specs.NameRules.{IsName}
use Rattle.syntax_tree.specs.TypeSpelling.{type_spelling}
use Rattle.syntax_tree.specs.ProperTypes.{IsProperType}
use Rattle.syntax_tree.specs.declared.member.TypedName.{TypedName}
use Rattle.syntax_tree.specs.MemberData.{TypedNamesData}
use Rattle.syntax_tree.specs.MemberSpelling.{typed_name_spelling, typed_names_spelling}
use Rattle.syntax_tree.specs.ProperMembers.{AreAny, IsProperField, IsProperInput}
use Rattle.parser_base.specs.Beginnings.{Begins}
use Rattle.parser_base.specs.TokenReading.{is_sign, after_sign, identifier_at}
use Rattle.parser_base.specs.ListReading.{comma_list_at}
use Rattle.parser_base.proofs.Steps.{step, last, if_read, bind_some, map_some, cond_true}
use Rattle.parser_base.proofs.BeginLemmas.{Begins-append, Begins-first, length-Begins}
use Rattle.parser_base.proofs.TokenLemmas.{begins_small-sound, begins_small-complete, after_sign-sound, after_sign-complete, after_sign-other, identifier_at-sound, identifier_at-complete}
use Rattle.parser_base.proofs.ListLemmas.{comma_list_at-sound, comma_list_at-complete}
use Rattle.parser_base.specs.TypeReading.{type_at}
use Rattle.parser_base.proofs.TypeLemmas.{TypeEnds, type_at-sound, type_at-complete}
use Rattle.parser_base.specs.TypedNameReading.{typed_at, fits, typed_name_at, typed_names_at, fields_at, inputs_at}
use Rattle.parser_base.proofs.BeforeLists.{filled_is_any, any_is_filled}

-- an input of a function, or a field of a struct
abbrev pub IsProperTyped : Bool → TypedName → Type 0
IsProperTyped true n = IsProperInput n
IsProperTyped false n = IsProperField n

proper_typed : (of_function : Bool) (n : TypedName) → IsName n.name.text → fits of_function n.name.text ≡ true → IsProperType n.annotation → IsProperTyped of_function n
proper_typed true n name f t = (name, begins_small-sound n.name.text f, t)
proper_typed false n name f t = (name, t)

typed_is_name : (of_function : Bool) (n : TypedName) → IsProperTyped of_function n → IsName n.name.text
typed_is_name true n p = p.0
typed_is_name false n p = p.0

typed_fits : (of_function : Bool) (n : TypedName) → IsProperTyped of_function n → fits of_function n.name.text ≡ true
typed_fits true n p = begins_small-complete n.name.text p.1
typed_fits false n p = refl

typed_is_typed : (of_function : Bool) (n : TypedName) → IsProperTyped of_function n → IsProperType n.annotation
typed_is_typed true n p = p.2
typed_is_typed false n p = p.1

-- ---- one name

typed_name_at-sound : (n : ℕ) (of_function : Bool) (ts : List Token) (r : TypedName × List Token) → typed_name_at of_function (type_at n) ts ≡ Some r → Begins (typed_name_spelling r.0) ts r.1 × IsProperTyped of_function r.0
unfolding typed_name_at typed_at
typed_name_at-sound n of_function ts r e =
    let i = step (identifier_at ts) _ r e in
    let f = if_read (fits of_function i.value.0.text) (typed_at (type_at n) i.value.0 i.value.1) r i.then in
    let c = step (after_sign Colon i.value.1) _ r f.1 in
    let t = last (type_at n c.value) _ r c.then in
    let name = identifier_at-sound ts i.value i.first in
    let read = type_at-sound n c.value t.value t.first in
    subst (λ q. Begins (typed_name_spelling q.0) ts q.1 × IsProperTyped of_function q.0) t.then (
      Begins-append (identifier i.value.0 ∷ []) (sign Colon ∷ type_spelling t.value.0) ts i.value.1 t.value.1 name.0
          (Begins-append (sign Colon ∷ []) (type_spelling t.value.0) i.value.1 c.value t.value.1 (after_sign-sound Colon i.value.1 c.value c.first) read.0),
      proper_typed of_function (record { name = i.value.0; annotation = t.value.0 }) name.1 f.0 read.1,
    )

typed_name_at-complete : (n : ℕ) (of_function : Bool) (x : TypedName) (ts rest : List Token) → length ts ≤ n → Begins (typed_name_spelling x) ts rest → IsProperTyped of_function x → TypeEnds rest → typed_name_at of_function (type_at (suc n)) ts ≡ Some (x, rest)
unfolding typed_name_at typed_at
typed_name_at-complete n of_function x ts rest h b p d =
    let i = Begins-first (identifier x.name) (sign Colon ∷ type_spelling x.annotation) ts rest b in
    let c = Begins-first (sign Colon) (type_spelling x.annotation) i.mid rest i.back in
    bind_some (identifier_at ts) (λ name. cond (fits of_function name.0.text) (typed_at (type_at (suc n)) name.0 name.1) None) (x.name, i.mid) (identifier_at-complete x.name ts i.mid i.front (typed_is_name of_function x p))
    ∙ cond_true (fits of_function x.name.text) (typed_at (type_at (suc n)) x.name i.mid) None (typed_fits of_function x p)
    ∙ bind_some (after_sign Colon i.mid) (λ rest. option_map (λ t. (record { name = x.name; annotation = t.0 }, t.1)) (type_at (suc n) rest)) c.mid (after_sign-complete Colon i.mid c.mid c.front)
    ∙ map_some (type_at (suc n) c.mid) (λ t. (record { name = x.name; annotation = t.0 }, t.1)) (x.annotation, rest)
    (type_at-complete n x.annotation c.mid rest (omega (arith, h, length-Begins (identifier x.name ∷ []) ts i.mid i.front, length-Begins (sign Colon ∷ []) i.mid c.mid c.front)) c.back (typed_is_typed of_function x p) d)

-- ---- lists of names

typed_names_at-sound : (n : ℕ) (close : Sign) (of_function : Bool) (ts : List Token) (r : TypedNamesData × List Token) → typed_names_at close of_function (type_at n) ts ≡ Some r
    → Begins (typed_names_spelling r.0 ++ sign close ∷ []) ts r.1 × AllByRecursion (IsProperTyped of_function) r.0.items × (r.0.last_comma ≡ true → AreAny r.0.items)
unfolding typed_names_at
typed_names_at-sound n close of_function ts r e =
    let l = last (comma_list_at (after_sign close) (typed_name_at of_function (type_at n)) ts) _ r e in
    let s = comma_list_at-sound close (typed_name_at of_function (type_at n)) typed_name_spelling (IsProperTyped of_function) (typed_name_at-sound n of_function) ts l.value l.first in
    subst (λ q. Begins (typed_names_spelling q.0 ++ sign close ∷ []) ts q.1 × AllByRecursion (IsProperTyped of_function) q.0.items × (q.0.last_comma ≡ true → AreAny q.0.items)) l.then
    (s.0.spelled, s.0.all_proper, λ h. filled_is_any l.value.0.0 (s.1 h))

ends_type : (s : Sign) → is_sign ColonColon (Punctuation s) ≡ false → is_sign Less (Punctuation s) ≡ false → (ts rest : List Token) → Begins (sign s ∷ []) ts rest → TypeEnds ts
ends_type s a b ts rest h = (after_sign-other ColonColon (sign s) [] ts rest a h, after_sign-other Less (sign s) [] ts rest b h)

typed_names_at-complete : (n : ℕ) (close : Sign) (of_function : Bool) → is_sign ColonColon (Punctuation close) ≡ false → is_sign Less (Punctuation close) ≡ false → is_sign close (Punctuation Comma) ≡ false
    → (x : TypedNamesData) (ts rest : List Token) → length ts ≤ n → Begins (typed_names_spelling x ++ sign close ∷ []) ts rest
    → AllByRecursion (IsProperTyped of_function) x.items → (x.last_comma ≡ true → AreAny x.items) → typed_names_at close of_function (type_at (suc n)) ts ≡ Some (x, rest)
unfolding typed_names_at
typed_names_at-complete n close of_function colons less comma x ts rest h b p a =
    map_some (comma_list_at (after_sign close) (typed_name_at of_function (type_at (suc n))) ts) (λ items. (record { items = items.0.0; last_comma = items.0.1 }, items.1)) ((x.items, x.last_comma), rest)
    (comma_list_at-complete close (typed_name_at of_function (type_at (suc n))) typed_name_spelling (IsProperTyped of_function) TypeEnds n (typed_name_at-complete n of_function)
    (λ x ts rest b p. after_sign-other close (identifier x.name) (sign Colon ∷ type_spelling x.annotation) ts rest refl b)
    (ends_type close colons less) (ends_type Comma refl refl) comma x.items x.last_comma ts rest h b p (λ l. any_is_filled x.items (a l)))

-- fields up to the closing brace
pub fields_at-sound : (n : ℕ) (ts : List Token) (r : TypedNamesData × List Token) → fields_at (type_at n) ts ≡ Some r
    → Begins (typed_names_spelling r.0 ++ sign RightBrace ∷ []) ts r.1 × AllByRecursion IsProperField r.0.items × (r.0.last_comma ≡ true → AreAny r.0.items)
unfolding fields_at
fields_at-sound n ts r e = typed_names_at-sound n RightBrace false ts r e

pub fields_at-complete : (n : ℕ) (x : TypedNamesData) (ts rest : List Token) → length ts ≤ n → Begins (typed_names_spelling x ++ sign RightBrace ∷ []) ts rest → AllByRecursion IsProperField x.items
    → (x.last_comma ≡ true → AreAny x.items) → fields_at (type_at (suc n)) ts ≡ Some (x, rest)
unfolding fields_at
fields_at-complete n x ts rest h b p a = typed_names_at-complete n RightBrace false refl refl refl x ts rest h b p a

-- inputs up to the closing parenthesis
pub inputs_at-sound : (n : ℕ) (ts : List Token) (r : TypedNamesData × List Token) → inputs_at (type_at n) ts ≡ Some r
    → Begins (typed_names_spelling r.0 ++ sign RightParenthesis ∷ []) ts r.1 × AllByRecursion IsProperInput r.0.items × (r.0.last_comma ≡ true → AreAny r.0.items)
unfolding inputs_at
inputs_at-sound n ts r e = typed_names_at-sound n RightParenthesis true ts r e

pub inputs_at-complete : (n : ℕ) (x : TypedNamesData) (ts rest : List Token) → length ts ≤ n → Begins (typed_names_spelling x ++ sign RightParenthesis ∷ []) ts rest → AllByRecursion IsProperInput x.items
    → (x.last_comma ≡ true → AreAny x.items) → inputs_at (type_at (suc n)) ts ≡ Some (x, rest)
unfolding inputs_at
inputs_at-complete n x ts rest h b p a = typed_names_at-complete n RightParenthesis true refl refl refl x ts rest h b p a
