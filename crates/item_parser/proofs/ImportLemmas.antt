-- Uses and friends are read exactly.
use Rattle.std.proofs.Common.{◌≡◌, Bool, List, [], ◌∷◌, ◌++◌, Option, Some, None, length, refl, ap, subst, ◌∙◌, inl, inr, arith}
use Rattle.std.specs.Prelude.{codes, map, option_and_then}
use Rattle.std.specs.Option.{option_map}
use Rattle.std.specs.List.{AllByRecursion}
use Rattle.base.specs.declared.span.Span.{Span}
use Rattle.tokens.specs.declared.token.Token.{Token}
use Rattle.tokens.specs.declared.token.Punctuation.TheVariants.{ColonColon, LeftBrace, RightBrace, Semicolon, Comma}
use Rattle.syntax_tree.specs.declared.lexeme.Identifier.{Identifier}
use Rattle.syntax_tree.specs.declared.lexeme.Lexeme.{Lexeme}
use Rattle.syntax_tree.specs.Lexemes.{word, identifier, sign, comma_list}
use Rattle.syntax_tree.specs.PathSpelling.{module_spelling}
use Rattle.syntax_tree.specs.ProperTypes.{IsProperModuleName}
use Rattle.syntax_tree.specs.declared.member.Import.{Import}
use Rattle.syntax_tree.specs.declared.member.Imported.{Imported}
use Rattle.syntax_tree.specs.declared.member.Imported.TheVariants.{Module as whole_module, One, Several}
use Rattle.syntax_tree.specs.declared.member.Use.{Use}
use Rattle.syntax_tree.specs.declared.member.Friend.{Friend}
use Rattle.syntax_tree.specs.MemberData.{ImportsData}
use Rattle.syntax_tree.specs.MemberSpelling.{alias_spelling, import_spelling, imported_spelling, use_member_spelling, friend_spelling}
use Rattle.syntax_tree.specs.ProperMembers.{AreAny, IsProperAlias, IsProperImport, IsProperImported, IsProperUse}
use Rattle.parser_base.specs.Beginnings.{Begins}
use Rattle.parser_base.specs.TokenReading.{after_sign, after_word, identifier_at}
use Rattle.parser_base.specs.ListReading.{some_items_at}
use Rattle.parser_base.proofs.Steps.{step, last, some_one, either, bind_some, map_some, map_or_none, map_or_some}
use Rattle.parser_base.proofs.BeginLemmas.{Begins-append, Begins-split, Begins-first}
use Rattle.parser_base.proofs.TokenLemmas.{after_sign-sound, after_sign-complete, after_sign-other, after_word-sound, after_word-complete, after_word-other, identifier_at-sound, identifier_at-complete}
use Rattle.parser_base.proofs.ListLemmas.{some_items_at-sound, some_items_at-complete}
use Rattle.parser_base.specs.PathReading.{module_name_at}
use Rattle.parser_base.proofs.PathLemmas.{module_name_at-sound, module_name_at-complete}
use Rattle.item_parser.specs.ImportReading.{alias_at, import_at, imports_at, imported_names_at, imported_at, use_at, friend_at}
use Rattle.parser_base.proofs.BeforeLists.{filled_is_any}

-- ---- imported names

alias_at-sound : (ts : List Token) (r : Option Identifier × List Token) → alias_at ts ≡ Some r → Begins (alias_spelling r.0) ts r.1 × IsProperAlias r.0
unfolding alias_at
alias_at-sound ts r e =
    elim (either (after_word (codes "as") ts) (λ rest. option_map (λ n. (Some n.0, n.1)) (identifier_at rest)) _ r e) [
      | inl s ↦
          let n = last (identifier_at s.value) (λ n. (Some n.0, n.1)) r s.then in
          let name = identifier_at-sound s.value n.value n.first in
          subst (λ q. Begins (alias_spelling q.0) ts q.1 × IsProperAlias q.0) n.then
          (Begins-append (word (codes "as") None ∷ []) (identifier n.value.0 ∷ []) ts s.value n.value.1 (after_word-sound (codes "as") ts s.value s.first) name.0, name.1)
      | inr m ↦ subst (λ q. Begins (alias_spelling q.0) ts q.1 × IsProperAlias q.0) (some_one (None, ts) r m.1) (refl, tt)
    ]

alias_at-complete : (a : Option Identifier) (ts rest : List Token) → Begins (alias_spelling a) ts rest → IsProperAlias a → after_word (codes "as") rest ≡ None → alias_at ts ≡ Some (a, rest)
unfolding alias_at
alias_at-complete None ts rest b p e =
    map_or_none (after_word (codes "as") ts) (λ rest. option_map (λ n. (Some n.0, n.1)) (identifier_at rest)) _ (ap (after_word (codes "as")) b ∙ e) ∙ ap (λ us. Some (None, us)) b
alias_at-complete (Some name) ts rest b p e =
    let s = Begins-first (word (codes "as") None) (identifier name ∷ []) ts rest b in
    map_or_some (after_word (codes "as") ts) (λ rest. option_map (λ n. (Some n.0, n.1)) (identifier_at rest)) _ s.mid (after_word-complete (codes "as") ts s.mid s.front)
    ∙ map_some (identifier_at s.mid) (λ n. (Some n.0, n.1)) (name, rest) (identifier_at-complete name s.mid rest s.back p)

import_at-sound : (ts : List Token) (r : Import × List Token) → import_at ts ≡ Some r → Begins (import_spelling r.0) ts r.1 × IsProperImport r.0
unfolding import_at
import_at-sound ts r e =
    let n = step (identifier_at ts) _ r e in
    let a = last (alias_at n.value.1) _ r n.then in
    let name = identifier_at-sound ts n.value n.first in
    let alias = alias_at-sound n.value.1 a.value a.first in
    subst (λ q. Begins (import_spelling q.0) ts q.1 × IsProperImport q.0) a.then
    (Begins-append (identifier n.value.0 ∷ []) (alias_spelling a.value.0) ts n.value.1 a.value.1 name.0 alias.0, (name.1, alias.1))

import_at-complete : (i : Import) (ts rest : List Token) → Begins (import_spelling i) ts rest → IsProperImport i → after_word (codes "as") rest ≡ None → import_at ts ≡ Some (i, rest)
unfolding import_at
import_at-complete i ts rest b p e =
    let s = Begins-first (identifier i.name) (alias_spelling i.alias) ts rest b in
    bind_some (identifier_at ts) (λ name. option_map (λ a. (record { name = name.0; alias = a.0 }, a.1)) (alias_at name.1)) (i.name, s.mid) (identifier_at-complete i.name ts s.mid s.front p.0)
    ∙ map_some (alias_at s.mid) (λ a. (record { name = i.name; alias = a.0 }, a.1)) (i.alias, rest) (alias_at-complete i.alias s.mid rest s.back p.1 e)

imports_at-sound : (ts : List Token) (r : ImportsData × List Token) → imports_at ts ≡ Some r
    → Begins (comma_list (map import_spelling r.0.items) r.0.last_comma ++ sign RightBrace ∷ []) ts r.1 × AllByRecursion IsProperImport r.0.items × AreAny r.0.items
unfolding imports_at
imports_at-sound ts r e =
    let l = last (some_items_at (after_sign RightBrace) import_at ts) _ r e in
    let s = some_items_at-sound RightBrace import_at import_spelling IsProperImport import_at-sound ts l.value l.first in
    subst (λ q. Begins (comma_list (map import_spelling q.0.items) q.0.last_comma ++ sign RightBrace ∷ []) ts q.1 × AllByRecursion IsProperImport q.0.items × AreAny q.0.items) l.then
    (s.0.spelled, s.0.all_proper, filled_is_any l.value.0.0 s.1)

imports_at-complete : (items : List Import) (last : Bool) (ts rest : List Token) → Begins (comma_list (map import_spelling items) last ++ sign RightBrace ∷ []) ts rest → AllByRecursion IsProperImport items → AreAny items
    → imports_at ts ≡ Some (record { items = items; last_comma = last }, rest)
unfolding imports_at
imports_at-complete [] last ts rest b p a = absurd a
imports_at-complete (i ∷ is) last ts rest b p a =
    map_some (some_items_at (after_sign RightBrace) import_at ts) (λ items. (record { items = items.0.0; last_comma = items.0.1 }, items.1)) ((i ∷ is, last), rest)
    (some_items_at-complete RightBrace import_at import_spelling IsProperImport (λ rest. after_word (codes "as") rest ≡ None) (length ts)
    (λ i ts rest h b p e. import_at-complete i ts rest b p e)
    (λ i ts rest b p. after_sign-other RightBrace (identifier i.name) (alias_spelling i.alias) ts rest refl b)
    (λ ts rest b. after_word-other (codes "as") (sign RightBrace) [] ts rest refl b) (λ ts rest b. after_word-other (codes "as") (sign Comma) [] ts rest refl b)
    refl i is last ts rest (omega arith) b p)

-- ---- the imports of a use

imported_names_at-sound : (whole ts : List Token) (r : Imported × List Token) → Begins (sign ColonColon ∷ []) whole ts → imported_names_at ts ≡ Some r → Begins (imported_spelling r.0) whole r.1 × IsProperImported r.0
unfolding imported_names_at
imported_names_at-sound whole ts r front e =
    elim (either (after_sign LeftBrace ts) (λ inside. option_map (λ i. (Several i.0, i.1)) (imports_at inside)) _ r e) [
      | inl s ↦
          let l = last (imports_at s.value) (λ i. (Several i.0, i.1)) r s.then in
          let i = imports_at-sound s.value l.value l.first in
          subst (λ q. Begins (imported_spelling q.0) whole q.1 × IsProperImported q.0) l.then (
            Begins-append (sign ColonColon ∷ []) (sign LeftBrace ∷ comma_list (map import_spelling l.value.0.items) l.value.0.last_comma ++ sign RightBrace ∷ []) whole ts l.value.1 front
                (Begins-append (sign LeftBrace ∷ []) (comma_list (map import_spelling l.value.0.items) l.value.0.last_comma ++ sign RightBrace ∷ []) ts s.value l.value.1 (after_sign-sound LeftBrace ts s.value s.first) i.0),
            (i.1, i.2),
          )
      | inr m ↦
          let l = last (import_at ts) (λ i. (One i.0, i.1)) r m.1 in
          let i = import_at-sound ts l.value l.first in
          subst (λ q. Begins (imported_spelling q.0) whole q.1 × IsProperImported q.0) l.then (Begins-append (sign ColonColon ∷ []) (import_spelling l.value.0) whole ts l.value.1 front i.0, i.1)
    ]

imported_at-sound : (ts : List Token) (r : Imported × List Token) → imported_at ts ≡ Some r → Begins (imported_spelling r.0) ts r.1 × IsProperImported r.0
unfolding imported_at
imported_at-sound ts r e =
    elim (either (after_sign ColonColon ts) (λ rest. imported_names_at rest) _ r e) [
      | inl s ↦ imported_names_at-sound ts s.value r (after_sign-sound ColonColon ts s.value s.first) s.then
      | inr m ↦
          let l = last (alias_at ts) (λ a. (whole_module a.0, a.1)) r m.1 in
          subst (λ q. Begins (imported_spelling q.0) ts q.1 × IsProperImported q.0) l.then (alias_at-sound ts l.value l.first)
    ]

-- an alias begins with its word
alias_no_colons : (a : Option Identifier) (ts rest : List Token) → Begins (alias_spelling a) ts rest → after_sign ColonColon rest ≡ None → after_sign ColonColon ts ≡ None
alias_no_colons None ts rest b e = ap (after_sign ColonColon) b ∙ e
alias_no_colons (Some name) ts rest b e = after_sign-other ColonColon (word (codes "as") None) (identifier name ∷ []) ts rest refl b

imported_at-complete : (i : Imported) (ts rest : List Token) → Begins (imported_spelling i) ts rest → IsProperImported i → after_word (codes "as") rest ≡ None → after_sign ColonColon rest ≡ None → imported_at ts ≡ Some (i, rest)
unfolding imported_at imported_names_at
imported_at-complete (whole_module alias) ts rest b p e d =
    map_or_none (after_sign ColonColon ts) (λ rest. imported_names_at rest) _ (alias_no_colons alias ts rest b d)
    ∙ map_some (alias_at ts) (λ a. (whole_module a.0, a.1)) (alias, rest) (alias_at-complete alias ts rest b p e)
imported_at-complete (One i) ts rest b p e d =
    let s = Begins-first (sign ColonColon) (import_spelling i) ts rest b in
    map_or_some (after_sign ColonColon ts) (λ rest. imported_names_at rest) _ s.mid (after_sign-complete ColonColon ts s.mid s.front)
    ∙ map_or_none (after_sign LeftBrace s.mid) (λ inside. option_map (λ i. (Several i.0, i.1)) (imports_at inside)) _ (after_sign-other LeftBrace (identifier i.name) (alias_spelling i.alias) s.mid rest refl s.back)
    ∙ map_some (import_at s.mid) (λ i. (One i.0, i.1)) (i, rest) (import_at-complete i s.mid rest s.back p e)
imported_at-complete (Several imports) ts rest b p e d =
    let s = Begins-first (sign ColonColon) (sign LeftBrace ∷ comma_list (map import_spelling imports.items) imports.last_comma ++ sign RightBrace ∷ []) ts rest b in
    let i = Begins-first (sign LeftBrace) (comma_list (map import_spelling imports.items) imports.last_comma ++ sign RightBrace ∷ []) s.mid rest s.back in
    map_or_some (after_sign ColonColon ts) (λ rest. imported_names_at rest) _ s.mid (after_sign-complete ColonColon ts s.mid s.front)
    ∙ map_or_some (after_sign LeftBrace s.mid) (λ inside. option_map (λ i. (Several i.0, i.1)) (imports_at inside)) _ i.mid (after_sign-complete LeftBrace s.mid i.mid i.front)
    ∙ map_some (imports_at i.mid) (λ i. (Several i.0, i.1)) (imports, rest) (imports_at-complete imports.items imports.last_comma i.mid rest i.back p.0 p.1)

-- ---- uses and friends, after their words

abbrev pub use_behind : Use → List Lexeme
use_behind u = module_spelling u.owner ++ imported_spelling u.imported ++ sign Semicolon ∷ []

abbrev pub friend_behind : Friend → List Lexeme
friend_behind f = module_spelling f.owner ++ sign Semicolon ∷ []

pub use_at-sound : (span : Span) (whole ts : List Token) (r : Use × List Token) → Begins (word (codes "use") (Some span) ∷ []) whole ts → use_at span ts ≡ Some r → Begins (use_member_spelling r.0) whole r.1 × IsProperUse r.0
unfolding use_at
use_at-sound span whole ts r front e =
    let o = step (module_name_at ts) _ r e in
    let i = step (imported_at o.value.1) _ r o.then in
    let c = last (after_sign Semicolon i.value.1) _ r i.then in
    let owner = module_name_at-sound ts o.value o.first in
    let imported = imported_at-sound o.value.1 i.value i.first in
    subst (λ q. Begins (use_member_spelling q.0) whole q.1 × IsProperUse q.0) c.then (
      Begins-append (word (codes "use") (Some span) ∷ module_spelling o.value.0 ++ imported_spelling i.value.0) (sign Semicolon ∷ []) whole i.value.1 c.value
          (Begins-append (word (codes "use") (Some span) ∷ module_spelling o.value.0) (imported_spelling i.value.0) whole o.value.1 i.value.1
          (Begins-append (word (codes "use") (Some span) ∷ []) (module_spelling o.value.0) whole ts o.value.1 front owner.0) imported.0)
          (after_sign-sound Semicolon i.value.1 c.value c.first),
      (owner.1, imported.1),
    )

pub use_at-complete : (u : Use) (ts rest : List Token) → Begins (use_behind u) ts rest → IsProperUse u → use_at u.span ts ≡ Some (u, rest)
unfolding use_at
use_at-complete u ts rest b p =
    let c = Begins-split (module_spelling u.owner ++ imported_spelling u.imported) (sign Semicolon ∷ []) ts rest b in
    let o = Begins-split (module_spelling u.owner) (imported_spelling u.imported) ts c.mid c.front in
    bind_some (module_name_at ts) (λ owner. option_and_then (λ imported. option_map (λ rest. (record { span = u.span; owner = owner.0; imported = imported.0 }, rest)) (after_sign Semicolon imported.1)) (imported_at owner.1)) (u.owner, o.mid)
    (module_name_at-complete u.owner ts o.mid o.front p.0)
    ∙ bind_some (imported_at o.mid) (λ imported. option_map (λ rest. (record { span = u.span; owner = u.owner; imported = imported.0 }, rest)) (after_sign Semicolon imported.1)) (u.imported, c.mid)
    (imported_at-complete u.imported o.mid c.mid o.back p.1 (after_word-other (codes "as") (sign Semicolon) [] c.mid rest refl c.back) (after_sign-other ColonColon (sign Semicolon) [] c.mid rest refl c.back))
    ∙ map_some (after_sign Semicolon c.mid) (λ rest. (record { span = u.span; owner = u.owner; imported = u.imported }, rest)) rest (after_sign-complete Semicolon c.mid rest c.back)

pub friend_at-sound : (span : Span) (whole ts : List Token) (r : Friend × List Token) → Begins (word (codes "friend") (Some span) ∷ []) whole ts → friend_at span ts ≡ Some r → Begins (friend_spelling r.0) whole r.1 × IsProperModuleName r.0.owner
unfolding friend_at
friend_at-sound span whole ts r front e =
    let o = step (module_name_at ts) _ r e in
    let c = last (after_sign Semicolon o.value.1) _ r o.then in
    let owner = module_name_at-sound ts o.value o.first in
    subst (λ q. Begins (friend_spelling q.0) whole q.1 × IsProperModuleName q.0.owner) c.then (
      Begins-append (word (codes "friend") (Some span) ∷ module_spelling o.value.0) (sign Semicolon ∷ []) whole o.value.1 c.value
          (Begins-append (word (codes "friend") (Some span) ∷ []) (module_spelling o.value.0) whole ts o.value.1 front owner.0) (after_sign-sound Semicolon o.value.1 c.value c.first),
      owner.1,
    )

pub friend_at-complete : (f : Friend) (ts rest : List Token) → Begins (friend_behind f) ts rest → IsProperModuleName f.owner → friend_at f.span ts ≡ Some (f, rest)
unfolding friend_at
friend_at-complete f ts rest b p =
    let c = Begins-split (module_spelling f.owner) (sign Semicolon ∷ []) ts rest b in
    bind_some (module_name_at ts) (λ owner. option_map (λ rest. (record { span = f.span; owner = owner.0 }, rest)) (after_sign Semicolon owner.1)) (f.owner, c.mid) (module_name_at-complete f.owner ts c.mid c.front p)
    ∙ map_some (after_sign Semicolon c.mid) (λ rest. (record { span = f.span; owner = f.owner }, rest)) rest (after_sign-complete Semicolon c.mid rest c.back)
