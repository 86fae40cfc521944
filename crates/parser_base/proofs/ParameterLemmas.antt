-- Type parameters are read exactly.
use Rattle.std.proofs.Common.{◌≡◌, Bool, true, false, cond, List, [], ◌∷◌, ◌++◌, Option, Some, None, length, refl, sym, ap, subst, ◌∙◌, inl, inr, arith}
use Rattle.std.specs.Prelude.{codes, map}
use Rattle.std.specs.Option.{option_map}
use Rattle.std.specs.List.{AllByRecursion}
use Rattle.tokens.specs.declared.token.Token.{Token}
use Rattle.tokens.specs.declared.token.Punctuation.{Punctuation as Sign}
use Rattle.tokens.specs.declared.token.Punctuation.TheVariants.{Colon, Plus, Less, Greater, Comma}
use Rattle.syntax_tree.specs.declared.lexeme.Identifier.{Identifier}
use Rattle.syntax_tree.specs.Lexemes.{word, identifier, sign, comma_list}
use Rattle.syntax_tree.specs.NameRules.{IsName}
use Rattle.syntax_tree.specs.declared.member.Ability.{Ability}
use Rattle.syntax_tree.specs.MemberData.{TypeParameterData, TypeParametersData}
use Rattle.syntax_tree.specs.MemberSpelling.{constraint_spelling, phantom_spelling, parameter_spelling, parameters_spelling}
use Rattle.syntax_tree.specs.ProperMembers.{AreAny, IsProperParameter, AreProperParameters}
use Rattle.parser_base.specs.Beginnings.{Begins}
use Rattle.parser_base.specs.TokenReading.{is_keyword, after_sign, after_word, identifier_at}
use Rattle.parser_base.specs.ListReading.{some_items_at}
use Rattle.parser_base.proofs.Steps.{step, last, some_one, either, if_read, bind_some, map_some, map_or_none, map_or_some}
use Rattle.parser_base.proofs.BeginLemmas.{Begins-append, Begins-first}
use Rattle.parser_base.proofs.TokenLemmas.{name_is_no_keyword, after_sign-sound, after_sign-complete, after_sign-other, after_word-sound, after_word-complete, after_word-other, identifier_at-sound, identifier_at-complete}
use Rattle.parser_base.proofs.ListLemmas.{some_items_at-sound, some_items_at-complete}
use Rattle.parser_base.specs.AbilityReading.{constraint_at}
use Rattle.parser_base.specs.ParameterReading.{named_parameter_at, parameter_at, listed_parameters_at, parameters_at}
use Rattle.parser_base.proofs.BeforeLists.{filled_is_any}
use Rattle.parser_base.proofs.AbilityLemmas.{ConstraintEnds, constraint_at-sound, constraint_at-complete}

differs : true ≡ false → ⊥
differs h = cc

phantom_is_keyword : is_keyword (codes "phantom") ≡ true
unfolding is_keyword
phantom_is_keyword = refl

-- ---- one parameter

named-sound : (phantom : Bool) (whole ts : List Token) (r : TypeParameterData × List Token) → Begins (phantom_spelling phantom) whole ts → named_parameter_at phantom ts ≡ Some r
    → Begins (parameter_spelling r.0) whole r.1 × IsName r.0.name.text × (r.0.is_phantom ≡ phantom)
unfolding named_parameter_at
named-sound phantom whole ts r front e =
    let i = step (identifier_at ts) _ r e in
    let c = last (constraint_at i.value.1) _ r i.then in
    let name = identifier_at-sound ts i.value i.first in
    subst (λ q. Begins (parameter_spelling q.0) whole q.1 × IsName q.0.name.text × (q.0.is_phantom ≡ phantom)) c.then (
      Begins-append (phantom_spelling phantom) (identifier i.value.0 ∷ constraint_spelling c.value.0) whole ts c.value.1 front
          (Begins-append (identifier i.value.0 ∷ []) (constraint_spelling c.value.0) ts i.value.1 c.value.1 name.0 (constraint_at-sound i.value.1 c.value c.first)),
      name.1,
      refl,
    )

parameter_at-sound : (of_struct : Bool) (ts : List Token) (r : TypeParameterData × List Token) → parameter_at of_struct ts ≡ Some r → Begins (parameter_spelling r.0) ts r.1 × IsProperParameter of_struct r.0
unfolding parameter_at
parameter_at-sound of_struct ts r e =
    elim (either (after_word (codes "phantom") ts) (λ rest. cond of_struct (named_parameter_at true rest) None) _ r e) [
      | inl s ↦
          let h = if_read of_struct (named_parameter_at true s.value) r s.then in
          let n = named-sound true ts s.value r (after_word-sound (codes "phantom") ts s.value s.first) h.1 in
          (n.0, (n.1, λ f. absurd (differs (sym h.0 ∙ f))))
      | inr m ↦ let n = named-sound false ts ts r refl m.1 in (n.0, (n.1, λ f. n.2))
    ]

named-complete : (phantom : Bool) (name : Identifier) (xs : List Ability) (ts rest : List Token) → Begins (identifier name ∷ constraint_spelling xs) ts rest → IsName name.text → ConstraintEnds rest
    → named_parameter_at phantom ts ≡ Some (record { is_phantom = phantom; name = name; abilities = xs }, rest)
unfolding named_parameter_at
named-complete phantom name xs ts rest b p d =
    let s = Begins-first (identifier name) (constraint_spelling xs) ts rest b in
    bind_some (identifier_at ts) (λ name. option_map (λ c. (record { is_phantom = phantom; name = name.0; abilities = c.0 }, c.1)) (constraint_at name.1)) (name, s.mid) (identifier_at-complete name ts s.mid s.front p)
    ∙ map_some (constraint_at s.mid) (λ c. (record { is_phantom = phantom; name = name; abilities = c.0 }, c.1)) (xs, rest) (constraint_at-complete xs s.mid rest s.back d)

parts-complete : (of_struct phantom : Bool) (name : Identifier) (xs : List Ability) (ts rest : List Token) → Begins (phantom_spelling phantom ++ identifier name ∷ constraint_spelling xs) ts rest → IsName name.text
    → (of_struct ≡ false → phantom ≡ false) → ConstraintEnds rest → parameter_at of_struct ts ≡ Some (record { is_phantom = phantom; name = name; abilities = xs }, rest)
unfolding parameter_at
parts-complete true true name xs ts rest b p f d =
    let s = Begins-first (word (codes "phantom") None) (identifier name ∷ constraint_spelling xs) ts rest b in
    map_or_some (after_word (codes "phantom") ts) (λ rest. cond true (named_parameter_at true rest) None) _ s.mid (after_word-complete (codes "phantom") ts s.mid s.front) ∙ named-complete true name xs s.mid rest s.back p d
parts-complete false true name xs ts rest b p f d = absurd (differs (f refl))
parts-complete of_struct false name xs ts rest b p f d =
    map_or_none (after_word (codes "phantom") ts) (λ rest. cond of_struct (named_parameter_at true rest) None) _
    (after_word-other (codes "phantom") (identifier name) (constraint_spelling xs) ts rest (name_is_no_keyword name.text (codes "phantom") phantom_is_keyword p) b)
    ∙ named-complete false name xs ts rest b p d

parameter_at-complete : (of_struct : Bool) (p : TypeParameterData) (ts rest : List Token) → Begins (parameter_spelling p) ts rest → IsProperParameter of_struct p → ConstraintEnds rest → parameter_at of_struct ts ≡ Some (p, rest)
parameter_at-complete of_struct p ts rest b proper d = parts-complete of_struct p.is_phantom p.name p.abilities ts rest b proper.0 proper.1 d

no_sign : (s : Sign) (phantom : Bool) (name : Identifier) (xs : List Ability) (ts rest : List Token) → Begins (phantom_spelling phantom ++ identifier name ∷ constraint_spelling xs) ts rest → after_sign s ts ≡ None
no_sign s true name xs ts rest b = after_sign-other s (word (codes "phantom") None) (identifier name ∷ constraint_spelling xs) ts rest refl b
no_sign s false name xs ts rest b = after_sign-other s (identifier name) (constraint_spelling xs) ts rest refl b

-- ---- lists of parameters

listed-sound : (of_struct : Bool) (ts : List Token) (r : TypeParametersData × List Token) → listed_parameters_at of_struct ts ≡ Some r
    → Begins (comma_list (map parameter_spelling r.0.items) r.0.last_comma ++ sign Greater ∷ []) ts r.1 × AllByRecursion (IsProperParameter of_struct) r.0.items × AreAny r.0.items
unfolding listed_parameters_at
listed-sound of_struct ts r e =
    let l = last (some_items_at (after_sign Greater) (parameter_at of_struct) ts) _ r e in
    let s = some_items_at-sound Greater (parameter_at of_struct) parameter_spelling (IsProperParameter of_struct) (parameter_at-sound of_struct) ts l.value l.first in
    subst (λ q. Begins (comma_list (map parameter_spelling q.0.items) q.0.last_comma ++ sign Greater ∷ []) ts q.1 × AllByRecursion (IsProperParameter of_struct) q.0.items × AreAny q.0.items) l.then
    (s.0.spelled, s.0.all_proper, filled_is_any l.value.0.0 s.1)

listed-complete : (of_struct : Bool) (items : List TypeParameterData) (last : Bool) (ts rest : List Token) → Begins (comma_list (map parameter_spelling items) last ++ sign Greater ∷ []) ts rest
    → AllByRecursion (IsProperParameter of_struct) items → AreAny items → listed_parameters_at of_struct ts ≡ Some (record { items = items; last_comma = last }, rest)
unfolding listed_parameters_at
listed-complete of_struct [] last ts rest b p a = absurd a
listed-complete of_struct (x ∷ xs) last ts rest b p a =
    map_some (some_items_at (after_sign Greater) (parameter_at of_struct) ts) (λ items. (record { items = items.0.0; last_comma = items.0.1 }, items.1)) ((x ∷ xs, last), rest)
    (some_items_at-complete Greater (parameter_at of_struct) parameter_spelling (IsProperParameter of_struct) ConstraintEnds (length ts)
    (λ x ts rest h b p d. parameter_at-complete of_struct x ts rest b p d)
    (λ x ts rest b p. no_sign Greater x.is_phantom x.name x.abilities ts rest b)
    (λ ts rest b. (after_sign-other Colon (sign Greater) [] ts rest refl b, after_sign-other Plus (sign Greater) [] ts rest refl b))
    (λ ts rest b. (after_sign-other Colon (sign Comma) [] ts rest refl b, after_sign-other Plus (sign Comma) [] ts rest refl b))
    refl x xs last ts rest (omega arith) b p)

pub parameters_at-sound : (of_struct : Bool) (ts : List Token) (r : Option TypeParametersData × List Token) → parameters_at of_struct ts ≡ Some r → Begins (parameters_spelling r.0) ts r.1 × AreProperParameters of_struct r.0
unfolding parameters_at
parameters_at-sound of_struct ts r e =
    elim (either (after_sign Less ts) (λ inside. option_map (λ p. (Some p.0, p.1)) (listed_parameters_at of_struct inside)) _ r e) [
      | inl s ↦
          let l = last (listed_parameters_at of_struct s.value) (λ p. (Some p.0, p.1)) r s.then in
          let p = listed-sound of_struct s.value l.value l.first in
          subst (λ q. Begins (parameters_spelling q.0) ts q.1 × AreProperParameters of_struct q.0) l.then (
            Begins-append (sign Less ∷ []) (comma_list (map parameter_spelling l.value.0.items) l.value.0.last_comma ++ sign Greater ∷ []) ts s.value l.value.1 (after_sign-sound Less ts s.value s.first) p.0,
            (p.1, p.2),
          )
      | inr m ↦ subst (λ q. Begins (parameters_spelling q.0) ts q.1 × AreProperParameters of_struct q.0) (some_one (None, ts) r m.1) (refl, tt)
    ]

pub parameters_at-complete : (of_struct : Bool) (p : Option TypeParametersData) (ts rest : List Token) → Begins (parameters_spelling p) ts rest → AreProperParameters of_struct p → after_sign Less rest ≡ None → parameters_at of_struct ts ≡ Some (p, rest)
unfolding parameters_at
parameters_at-complete of_struct None ts rest b p e =
    map_or_none (after_sign Less ts) (λ inside. option_map (λ p. (Some p.0, p.1)) (listed_parameters_at of_struct inside)) _ (ap (after_sign Less) b ∙ e) ∙ ap (λ us. Some (None, us)) b
parameters_at-complete of_struct (Some a) ts rest b p e =
    let s = Begins-first (sign Less) (comma_list (map parameter_spelling a.items) a.last_comma ++ sign Greater ∷ []) ts rest b in
    map_or_some (after_sign Less ts) (λ inside. option_map (λ p. (Some p.0, p.1)) (listed_parameters_at of_struct inside)) _ s.mid (after_sign-complete Less ts s.mid s.front)
    ∙ map_some (listed_parameters_at of_struct s.mid) (λ p. (Some p.0, p.1)) (a, rest) (listed-complete of_struct a.items a.last_comma s.mid rest s.back p.0 p.1)
