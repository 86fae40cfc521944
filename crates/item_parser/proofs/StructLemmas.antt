-- Structs are read exactly.
use Rattle.std.proofs.Common.{◌≡◌, ℕ, suc, ◌≤◌, true, cond, List, [], ◌∷◌, ◌++◌, Option, Some, None, length, refl, ap, subst, ◌∙◌, arith}
use Rattle.std.specs.Prelude.{codes}
use Rattle.base.specs.declared.span.Span.{Span}
use Rattle.tokens.specs.declared.token.Token.{Token}
use Rattle.tokens.specs.declared.token.Punctuation.TheVariants.{Less, LeftBrace, RightBrace}
use Rattle.syntax_tree.specs.declared.lexeme.Identifier.{Identifier}
use Rattle.syntax_tree.specs.declared.lexeme.Lexeme.{Lexeme}
use Rattle.syntax_tree.specs.Lexemes.{word, identifier, sign}
use Rattle.syntax_tree.specs.NameRules.{IsName, IsCapital}
use Rattle.syntax_tree.specs.declared.member.Struct.{Struct}
use Rattle.syntax_tree.specs.MemberData.{AbilitiesData}
use Rattle.syntax_tree.specs.MemberSpelling.{abilities_spelling, parameters_spelling, typed_names_spelling, struct_spelling}
use Rattle.syntax_tree.specs.ProperMembers.{IsProperStruct}
use Rattle.parser_base.specs.Beginnings.{Begins}
use Rattle.parser_base.specs.TokenReading.{after_sign, identifier_at, begins_capital}
use Rattle.parser_base.proofs.Steps.{step, last, if_read, bind_some, map_some, cond_true}
use Rattle.parser_base.proofs.BeginLemmas.{Begins-append, Begins-split, Begins-first, length-Begins}
use Rattle.parser_base.proofs.TokenLemmas.{begins_capital-sound, begins_capital-complete, after_sign-sound, after_sign-complete, after_sign-other, identifier_at-sound, identifier_at-complete}
use Rattle.parser_base.specs.TypeReading.{type_at}
use Rattle.parser_base.specs.AbilityReading.{abilities_at}
use Rattle.parser_base.specs.ParameterReading.{parameters_at}
use Rattle.parser_base.specs.TypedNameReading.{fields_at}
use Rattle.item_parser.specs.StructReading.{struct_behind_name, struct_at}
use Rattle.parser_base.proofs.AbilityLemmas.{abilities_at-sound, abilities_at-complete}
use Rattle.parser_base.proofs.ParameterLemmas.{parameters_at-sound, parameters_at-complete}
use Rattle.parser_base.proofs.TypedNameLemmas.{fields_at-sound, fields_at-complete}

-- a struct after its word
abbrev pub struct_behind : Struct → List Lexeme
struct_behind s = identifier s.name ∷ parameters_spelling s.parameters ++ abilities_spelling s.abilities ++ sign LeftBrace ∷ typed_names_spelling s.fields ++ sign RightBrace ∷ []

behind_name-sound : (n : ℕ) (span : Span) (name : Identifier) (whole ts : List Token) (r : Struct × List Token) → Begins (word (codes "struct") (Some span) ∷ identifier name ∷ []) whole ts → IsName name.text → IsCapital name.text
    → struct_behind_name (type_at n) span name ts ≡ Some r → Begins (struct_spelling r.0) whole r.1 × IsProperStruct r.0
unfolding struct_behind_name
behind_name-sound n span name whole ts r front is_name is_capital e =
    let p = step (parameters_at true ts) _ r e in
    let a = step (abilities_at p.value.1) _ r p.then in
    let o = step (after_sign LeftBrace a.value.1) _ r a.then in
    let f = last (fields_at (type_at n) o.value) _ r o.then in
    let parameters = parameters_at-sound true ts p.value p.first in
    let abilities = abilities_at-sound p.value.1 a.value a.first in
    let fields = fields_at-sound n o.value f.value f.first in
    let inside = Begins-split (typed_names_spelling f.value.0) (sign RightBrace ∷ []) o.value f.value.1 fields.0 in
    let head = word (codes "struct") (Some span) ∷ identifier name ∷ parameters_spelling p.value.0 in
    subst (λ q. Begins (struct_spelling q.0) whole q.1 × IsProperStruct q.0) f.then (
      Begins-append (head ++ abilities_spelling a.value.0 ++ sign LeftBrace ∷ typed_names_spelling f.value.0) (sign RightBrace ∷ []) whole inside.mid f.value.1
          (Begins-append (head ++ abilities_spelling a.value.0) (sign LeftBrace ∷ typed_names_spelling f.value.0) whole a.value.1 inside.mid
          (Begins-append head (abilities_spelling a.value.0) whole p.value.1 a.value.1
          (Begins-append (word (codes "struct") (Some span) ∷ identifier name ∷ []) (parameters_spelling p.value.0) whole ts p.value.1 front parameters.0) abilities.0)
          (Begins-append (sign LeftBrace ∷ []) (typed_names_spelling f.value.0) a.value.1 o.value inside.mid (after_sign-sound LeftBrace a.value.1 o.value o.first) inside.front))
          inside.back,
      (is_name, is_capital, parameters.1, abilities.1, fields.1, fields.2),
    )

pub struct_at-sound : (n : ℕ) (span : Span) (whole ts : List Token) (r : Struct × List Token) → Begins (word (codes "struct") (Some span) ∷ []) whole ts → struct_at (type_at n) span ts ≡ Some r
    → Begins (struct_spelling r.0) whole r.1 × IsProperStruct r.0
unfolding struct_at
struct_at-sound n span whole ts r front e =
    let i = step (identifier_at ts) _ r e in
    let c = if_read (begins_capital i.value.0.text) (struct_behind_name (type_at n) span i.value.0 i.value.1) r i.then in
    let name = identifier_at-sound ts i.value i.first in
    behind_name-sound n span i.value.0 whole i.value.1 r (Begins-append (word (codes "struct") (Some span) ∷ []) (identifier i.value.0 ∷ []) whole ts i.value.1 front name.0) name.1 (begins_capital-sound i.value.0.text c.0) c.1

-- abilities and fields begin with no `<`
abilities_no_less : (a : Option AbilitiesData) (ts mid inside : List Token) → Begins (abilities_spelling a) ts mid → after_sign LeftBrace mid ≡ Some inside → after_sign Less ts ≡ None
abilities_no_less None ts mid inside b e = ap (after_sign Less) b ∙ after_sign-other Less (sign LeftBrace) [] mid inside refl (after_sign-sound LeftBrace mid inside e)
abilities_no_less (Some a) ts mid inside b e = let s = Begins-first (word (codes "has") None) _ ts mid b in after_sign-other Less (word (codes "has") None) [] ts s.mid refl s.front

behind_name-complete : (n : ℕ) (s : Struct) (ts rest : List Token) → length ts ≤ n → Begins (parameters_spelling s.parameters ++ abilities_spelling s.abilities ++ sign LeftBrace ∷ typed_names_spelling s.fields ++ sign RightBrace ∷ []) ts rest
    → IsProperStruct s → struct_behind_name (type_at (suc n)) s.span s.name ts ≡ Some (s, rest)
unfolding struct_behind_name
behind_name-complete n s ts rest h b proper =
    let c = Begins-split (parameters_spelling s.parameters ++ abilities_spelling s.abilities ++ sign LeftBrace ∷ typed_names_spelling s.fields) (sign RightBrace ∷ []) ts rest b in
    let l = Begins-split (parameters_spelling s.parameters ++ abilities_spelling s.abilities) (sign LeftBrace ∷ typed_names_spelling s.fields) ts c.mid c.front in
    let p = Begins-split (parameters_spelling s.parameters) (abilities_spelling s.abilities) ts l.mid l.front in
    let o = Begins-first (sign LeftBrace) (typed_names_spelling s.fields) l.mid c.mid l.back in
    let found = after_sign-complete LeftBrace l.mid o.mid o.front in
    let shorter : length o.mid ≤ n = omega (arith, h, length-Begins (parameters_spelling s.parameters) ts p.mid p.front, length-Begins (abilities_spelling s.abilities) p.mid l.mid p.back, length-Begins (sign LeftBrace ∷ []) l.mid o.mid o.front) in
    bind_some (parameters_at true ts) _ (s.parameters, p.mid) (parameters_at-complete true s.parameters ts p.mid p.front proper.2 (abilities_no_less s.abilities p.mid l.mid o.mid p.back found))
    ∙ bind_some (abilities_at p.mid) _ (s.abilities, l.mid) (abilities_at-complete s.abilities p.mid l.mid o.mid p.back proper.3 found)
    ∙ bind_some (after_sign LeftBrace l.mid) _ o.mid found
    ∙ map_some (fields_at (type_at (suc n)) o.mid) (λ fields. (record { span = s.span; name = s.name; parameters = s.parameters; abilities = s.abilities; fields = fields.0 }, fields.1)) (s.fields, rest)
    (fields_at-complete n s.fields o.mid rest shorter (Begins-append (typed_names_spelling s.fields) (sign RightBrace ∷ []) o.mid c.mid rest o.back c.back) proper.4 proper.5)

pub struct_at-complete : (n : ℕ) (s : Struct) (ts rest : List Token) → length ts ≤ n → Begins (struct_behind s) ts rest → IsProperStruct s → struct_at (type_at (suc n)) s.span ts ≡ Some (s, rest)
unfolding struct_at
struct_at-complete n s ts rest h b proper =
    let i = Begins-first (identifier s.name) (parameters_spelling s.parameters ++ abilities_spelling s.abilities ++ sign LeftBrace ∷ typed_names_spelling s.fields ++ sign RightBrace ∷ []) ts rest b in
    bind_some (identifier_at ts) (λ name. cond (begins_capital name.0.text) (struct_behind_name (type_at (suc n)) s.span name.0 name.1) None) (s.name, i.mid) (identifier_at-complete s.name ts i.mid i.front proper.0)
    ∙ cond_true (begins_capital s.name.text) (struct_behind_name (type_at (suc n)) s.span s.name i.mid) None (begins_capital-complete s.name.text proper.1)
    ∙ behind_name-complete n s i.mid rest (omega (arith, h, length-Begins (identifier s.name ∷ []) ts i.mid i.front)) i.back proper
