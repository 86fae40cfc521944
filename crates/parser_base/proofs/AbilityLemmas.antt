-- Abilities are read exactly.
use Rattle.std.proofs.Common.{◌≡◌, ℕ, Bool, List, [], ◌∷◌, ◌++◌, Option, Some, None, length, refl, sym, ap, subst, ◌∙◌, inl, inr, arith}
use Rattle.std.specs.Prelude.{codes, map, option_and_then}
use Rattle.std.specs.Option.{option_map}
use Rattle.std.specs.List.{AllByRecursion, flat_map}
use Rattle.tokens.specs.declared.token.Token.{Token}
use Rattle.tokens.specs.declared.token.TokenKind.{TokenKind}
use Rattle.tokens.specs.declared.token.TokenKind.TheVariants.{Word}
use Rattle.tokens.specs.declared.token.Punctuation.{Punctuation as Sign}
use Rattle.tokens.specs.declared.token.Punctuation.TheVariants.{Colon, Plus, LeftBrace}
use Rattle.syntax_tree.specs.Lexemes.{word, sign, comma_list}
use Rattle.syntax_tree.specs.declared.member.Ability.{Ability}
use Rattle.syntax_tree.specs.declared.member.Ability.TheVariants.{Copy as copy_ability, Drop as drop_ability, Store as store_ability, Key as key_ability}
use Rattle.syntax_tree.specs.MemberData.{AbilitiesData}
use Rattle.syntax_tree.specs.MemberSpelling.{ability_spelling, abilities_spelling, more_ability_spelling, constraint_spelling}
use Rattle.syntax_tree.specs.ProperMembers.{AreAny, AreProperAbilities}
use Rattle.parser_base.specs.Beginnings.{Begins}
use Rattle.parser_base.specs.TokenReading.{is_word, after_sign, before_sign, after_word}
use Rattle.parser_base.specs.ListReading.{some_items_at}
use Rattle.parser_base.proofs.Steps.{step, last, some_one, either, either_read, if_some, bind_some, map_some, map_or_none, map_or_some}
use Rattle.parser_base.proofs.BeginLemmas.{Begins-append, Begins-split, Begins-first, Begins-same}
use Rattle.parser_base.proofs.TokenLemmas.{is_word-sound, after_sign-sound, after_sign-complete, after_sign-other, after_word-sound, after_word-complete, after_word-other}
use Rattle.parser_base.specs.RepeatReading.{put_all, repeat_at}
use Rattle.parser_base.specs.AbilityReading.{ability_of, ability_at, added_abilities_at, constraint_at, listed_abilities_at, abilities_at}
use Rattle.parser_base.proofs.RepeatLemmas.{Opening, repeat_at-sound, repeat_at-complete}
use Rattle.parser_base.proofs.BeforeLists.{items_before-sound, items_before-complete}

-- ---- one ability

ability_word : Ability → List ℕ
ability_word copy_ability = codes "copy"
ability_word drop_ability = codes "drop"
ability_word store_ability = codes "store"
ability_word key_ability = codes "key"

spelled : (a : Ability) → ability_spelling a ≡ word (ability_word a) None ∷ []
unfolding ability_word
spelled copy_ability = refl
spelled drop_ability = refl
spelled store_ability = refl
spelled key_ability = refl

ability_of-sound : (kind : TokenKind) (a : Ability) → ability_of kind ≡ Some a → kind ≡ Word (ability_word a)
unfolding ability_of ability_word
ability_of-sound kind a e =
    elim (either_read (is_word (codes "copy") kind) _ _ a e) [
      | inl h ↦ subst (λ b. kind ≡ Word (ability_word b)) (some_one copy_ability a h.1) (is_word-sound (codes "copy") kind h.0)
      | inr h ↦ elim (either_read (is_word (codes "drop") kind) _ _ a h.1) [
        | inl h ↦ subst (λ b. kind ≡ Word (ability_word b)) (some_one drop_ability a h.1) (is_word-sound (codes "drop") kind h.0)
        | inr h ↦ elim (either_read (is_word (codes "store") kind) _ _ a h.1) [
          | inl h ↦ subst (λ b. kind ≡ Word (ability_word b)) (some_one store_ability a h.1) (is_word-sound (codes "store") kind h.0)
          | inr h ↦ let k = if_some (is_word (codes "key") kind) key_ability a h.1 in subst (λ b. kind ≡ Word (ability_word b)) k.1 (is_word-sound (codes "key") kind k.0)
        ]
      ]
    ]

ability_of-complete : (a : Ability) → ability_of (Word (ability_word a)) ≡ Some a
unfolding ability_of ability_word
ability_of-complete copy_ability = refl
ability_of-complete drop_ability = refl
ability_of-complete store_ability = refl
ability_of-complete key_ability = refl

-- each ability can occur in a list
abbrev pub AnyAbility : Ability → Type 0
AnyAbility a = Unit {0}

any_abilities : (xs : List Ability) → AllByRecursion AnyAbility xs
any_abilities [] = tt
any_abilities (a ∷ xs) = (tt, any_abilities xs)

ability_at-sound : (ts : List Token) (r : Ability × List Token) → ability_at ts ≡ Some r → Begins (ability_spelling r.0) ts r.1 × AnyAbility r.0
unfolding ability_at
ability_at-sound [] r e = absurd (cc)
ability_at-sound (t ∷ ts) r e =
    let l = last (ability_of t.kind) (λ a. (a, ts)) r e in
    subst (λ q. Begins (ability_spelling q.0) (t ∷ ts) q.1 × AnyAbility q.0) l.then
    (Begins-same (word (ability_word l.value) None ∷ []) _ (t ∷ ts) ts (sym (spelled l.value)) (record { kind = ability_of-sound t.kind l.value l.first; placed = tt; glued = tt }, refl), tt)

named_at-complete : (a : Ability) (ts rest : List Token) → Begins (word (ability_word a) None ∷ []) ts rest → ability_at ts ≡ Some (a, rest)
unfolding ability_at
named_at-complete a [] rest b = absurd b
named_at-complete a (t ∷ ts) rest b =
    ap (λ k. option_map (λ a. (a, ts)) (ability_of k)) b.0.kind ∙ ap (option_map (λ a. (a, ts))) (ability_of-complete a) ∙ ap (λ us. Some (a, us)) b.1

ability_at-complete : (a : Ability) (ts rest : List Token) → Begins (ability_spelling a) ts rest → ability_at ts ≡ Some (a, rest)
ability_at-complete a ts rest b = named_at-complete a ts rest (Begins-same _ _ ts rest (spelled a) b)

ability_no_sign : (s : Sign) (a : Ability) (ts rest : List Token) → Begins (ability_spelling a) ts rest → after_sign s ts ≡ None
ability_no_sign s a ts rest b = after_sign-other s (word (ability_word a) None) [] ts rest refl (Begins-same _ _ ts rest (spelled a) b)

-- ---- constraints of type parameters

-- no token after a constraint belongs to it
abbrev pub ConstraintEnds : List Token → Type 0
ConstraintEnds rest = (after_sign Colon rest ≡ None) × (after_sign Plus rest ≡ None)

added-sound : (ts us : List Token) (r : Ability × List Token) → after_sign Plus ts ≡ Some us → ability_at us ≡ Some r → Begins (more_ability_spelling r.0) ts r.1 × AnyAbility r.0
added-sound ts us r o e = (Begins-append (sign Plus ∷ []) (ability_spelling r.0) ts us r.1 (after_sign-sound Plus ts us o) (ability_at-sound us r e).0, tt)

added-complete : (a : Ability) (ts rest : List Token) → Begins (more_ability_spelling a) ts rest → AnyAbility a → Opening (after_sign Plus) ability_at a ts rest
added-complete a ts rest b p =
    let s = Begins-first (sign Plus) (ability_spelling a) ts rest b in
    record { value = s.mid; first = after_sign-complete Plus ts s.mid s.front; then = ability_at-complete a s.mid rest s.back }

pub constraint_at-sound : (ts : List Token) (r : List Ability × List Token) → constraint_at ts ≡ Some r → Begins (constraint_spelling r.0) ts r.1
unfolding constraint_at added_abilities_at
constraint_at-sound ts r e =
    elim (either (after_sign Colon ts) (λ rest. option_and_then (λ a. added_abilities_at a.0 a.1) (ability_at rest)) _ r e) [
      | inl s ↦
          let a = step (ability_at s.value) _ r s.then in
          let l = last (repeat_at (after_sign Plus) ability_at (length a.value.1) a.value.1) _ r a.then in
          let first = ability_at-sound s.value a.value a.first in
          let others = repeat_at-sound (after_sign Plus) ability_at more_ability_spelling AnyAbility added-sound (length a.value.1) a.value.1 l.value l.first in
          subst (λ q. Begins (constraint_spelling q.0) ts q.1) l.then
          (Begins-append (sign Colon ∷ []) (ability_spelling a.value.0 ++ flat_map more_ability_spelling l.value.0) ts s.value l.value.1 (after_sign-sound Colon ts s.value s.first)
          (Begins-append (ability_spelling a.value.0) (flat_map more_ability_spelling l.value.0) s.value a.value.1 l.value.1 first.0 others.0))
      | inr m ↦ subst (λ q. Begins (constraint_spelling q.0) ts q.1) (some_one ([], ts) r m.1) refl
    ]

pub constraint_at-complete : (xs : List Ability) (ts rest : List Token) → Begins (constraint_spelling xs) ts rest → ConstraintEnds rest → constraint_at ts ≡ Some (xs, rest)
unfolding constraint_at added_abilities_at
constraint_at-complete [] ts rest b d =
    map_or_none (after_sign Colon ts) (λ rest. option_and_then (λ a. added_abilities_at a.0 a.1) (ability_at rest)) _ (ap (after_sign Colon) b ∙ d.0) ∙ ap (λ us. Some ([], us)) b
constraint_at-complete (a ∷ xs) ts rest b d =
    let s = Begins-first (sign Colon) (ability_spelling a ++ flat_map more_ability_spelling xs) ts rest b in
    let m = Begins-split (ability_spelling a) (flat_map more_ability_spelling xs) s.mid rest s.back in
    map_or_some (after_sign Colon ts) (λ rest. option_and_then (λ a. added_abilities_at a.0 a.1) (ability_at rest)) _ s.mid (after_sign-complete Colon ts s.mid s.front)
    ∙ bind_some (ability_at s.mid) (λ a. added_abilities_at a.0 a.1) (a, m.mid) (ability_at-complete a s.mid m.mid m.front)
    ∙ ap (put_all (a ∷ [])) (repeat_at-complete (after_sign Plus) ability_at more_ability_spelling AnyAbility (length m.mid) (λ x ts rest h b p. added-complete x ts rest b p) (λ x p. omega arith) (length m.mid) xs m.mid rest (omega arith) (omega arith) m.back (any_abilities xs) d.1)

-- ---- the abilities of a struct, which end before its brace

listed_abilities_at-sound : (ts : List Token) (r : AbilitiesData × List Token) → listed_abilities_at ts ≡ Some r → Begins (comma_list (map ability_spelling r.0.items) r.0.last_comma) ts r.1 × AreAny r.0.items
unfolding listed_abilities_at
listed_abilities_at-sound ts r e =
    let l = last (some_items_at (before_sign LeftBrace) ability_at ts) _ r e in
    let s = items_before-sound LeftBrace ability_at ability_spelling AnyAbility ability_at-sound ts l.value l.first in
    subst (λ q. Begins (comma_list (map ability_spelling q.0.items) q.0.last_comma) ts q.1 × AreAny q.0.items) l.then (s.0, s.2)

listed_abilities_at-complete : (items : List Ability) (last : Bool) (ts rest inside : List Token) → Begins (comma_list (map ability_spelling items) last) ts rest → AreAny items → after_sign LeftBrace rest ≡ Some inside
    → listed_abilities_at ts ≡ Some (record { items = items; last_comma = last }, rest)
unfolding listed_abilities_at
listed_abilities_at-complete [] last ts rest inside b p e = absurd p
listed_abilities_at-complete (a ∷ xs) last ts rest inside b p e =
    map_some (some_items_at (before_sign LeftBrace) ability_at ts) (λ items. (record { items = items.0.0; last_comma = items.0.1 }, items.1)) ((a ∷ xs, last), rest)
    (items_before-complete LeftBrace ability_at ability_spelling AnyAbility (λ rest. Unit {0}) (λ a ts rest b p d. ability_at-complete a ts rest b) (λ a ts rest b p. ability_no_sign LeftBrace a ts rest b)
    (λ ts rest b. tt) (λ ts rest b. tt) refl a xs last ts rest inside b e (any_abilities (a ∷ xs)))

pub abilities_at-sound : (ts : List Token) (r : Option AbilitiesData × List Token) → abilities_at ts ≡ Some r → Begins (abilities_spelling r.0) ts r.1 × AreProperAbilities r.0
unfolding abilities_at
abilities_at-sound ts r e =
    elim (either (after_word (codes "has") ts) (λ rest. option_map (λ a. (Some a.0, a.1)) (listed_abilities_at rest)) _ r e) [
      | inl s ↦
          let l = last (listed_abilities_at s.value) (λ a. (Some a.0, a.1)) r s.then in
          let a = listed_abilities_at-sound s.value l.value l.first in
          subst (λ q. Begins (abilities_spelling q.0) ts q.1 × AreProperAbilities q.0) l.then
          (Begins-append (word (codes "has") None ∷ []) (comma_list (map ability_spelling l.value.0.items) l.value.0.last_comma) ts s.value l.value.1 (after_word-sound (codes "has") ts s.value s.first) a.0, a.1)
      | inr m ↦ subst (λ q. Begins (abilities_spelling q.0) ts q.1 × AreProperAbilities q.0) (some_one (None, ts) r m.1) (refl, tt)
    ]

pub abilities_at-complete : (a : Option AbilitiesData) (ts rest inside : List Token) → Begins (abilities_spelling a) ts rest → AreProperAbilities a → after_sign LeftBrace rest ≡ Some inside → abilities_at ts ≡ Some (a, rest)
unfolding abilities_at
abilities_at-complete None ts rest inside b p e =
    map_or_none (after_word (codes "has") ts) (λ rest. option_map (λ a. (Some a.0, a.1)) (listed_abilities_at rest)) _
    (ap (after_word (codes "has")) b ∙ after_word-other (codes "has") (sign LeftBrace) [] rest inside refl (after_sign-sound LeftBrace rest inside e))
    ∙ ap (λ us. Some (None, us)) b
abilities_at-complete (Some a) ts rest inside b p e =
    let s = Begins-first (word (codes "has") None) (comma_list (map ability_spelling a.items) a.last_comma) ts rest b in
    map_or_some (after_word (codes "has") ts) (λ rest. option_map (λ a. (Some a.0, a.1)) (listed_abilities_at rest)) _ s.mid (after_word-complete (codes "has") ts s.mid s.front)
    ∙ map_some (listed_abilities_at s.mid) (λ a. (Some a.0, a.1)) (a, rest) (listed_abilities_at-complete a.items a.last_comma s.mid rest inside s.back p e)
