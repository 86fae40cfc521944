-- Clauses with several spec expressions are read exactly: `let`, `invariant`, `modifies` and `include`.
use Rattle.std.proofs.Common.{◌≡◌, ℕ, suc, ◌≤◌, Bool, true, false, List, [], ◌∷◌, ◌++◌, Option, Some, None, length, refl, sym, ap, subst, ◌∙◌, inl, inr, arith, append_assoc}
use Rattle.std.specs.Prelude.{codes, option_and_then}
use Rattle.std.specs.Option.{option_map}
use Rattle.std.specs.List.{AllByRecursion}
use Rattle.base.specs.declared.span.Span.{Span}
use Rattle.tokens.specs.declared.token.Token.{Token}
use Rattle.tokens.specs.declared.token.TokenKind.TheVariants.{Punctuation}
use Rattle.tokens.specs.declared.token.Punctuation.{Punctuation as Sign}
use Rattle.tokens.specs.declared.token.Punctuation.TheVariants.{LeftBrace, RightBrace, Semicolon, Comma, Equal, Less, ColonColon}
use Rattle.syntax_tree.specs.declared.lexeme.Identifier.{Identifier}
use Rattle.syntax_tree.specs.declared.lexeme.Lexeme.{Lexeme}
use Rattle.syntax_tree.specs.Lexemes.{word, identifier, sign, comma_list}
use Rattle.syntax_tree.specs.NameRules.{IsName}
use Rattle.syntax_tree.specs.PathSpelling.{path_spelling}
use Rattle.syntax_tree.specs.TypeTreeData.{ArgumentsData, maybe_arguments_of}
use Rattle.syntax_tree.specs.TypeSpelling.{maybe_arguments_spelling}
use Rattle.syntax_tree.specs.ProperTypes.{AreProperMaybeArguments}
use Rattle.syntax_tree.specs.ProperMembers.{AreAny}
use Rattle.syntax_tree.specs.SpecExpressionData.{SpecExpressionData, SpecFieldData, spec_expressions_of, spec_fields_of, list_of_spec_fields}
use Rattle.syntax_tree.specs.SpecExpressionSpelling.{spec_spelling, spec_spellings, spec_field_spelling, spec_field_spellings}
use Rattle.syntax_tree.specs.ProperSpecExpressions.{IsProperSpec, IsProperField, AreSomeFields}
use Rattle.syntax_tree.specs.ClauseData.{TargetsData, BindingsData}
use Rattle.syntax_tree.specs.ClauseSpelling.{modifies_word, invariant_word, include_word, update_spelling, post_spelling, targets_spelling, bindings_spelling, include_spelling, condition_spelling, clause_spelling}
use Rattle.syntax_tree.specs.ProperClauses.{AreProperTargets, AreProperBindings, IsProperInclude, IsProperForm}
use Rattle.syntax_tree.specs.declared.clause.Include.{Include}
use Rattle.syntax_tree.specs.declared.clause.Clause.{Clause}
use Rattle.syntax_tree.specs.declared.clause.Clause.TheVariants.{Modifies as modifies_clause, Invariant as invariant_clause, Let as let_clause, Include as include_clause}
use Rattle.parser_base.specs.Beginnings.{Begins}
use Rattle.parser_base.specs.TokenReading.{is_sign, after_sign, identifier_at}
use Rattle.parser_base.specs.ListReading.{some_items_at, comma_list_at}
use Rattle.parser_base.proofs.Steps.{step, last, some_one, either, bind_some, map_some, map_or_none, map_or_some}
use Rattle.parser_base.proofs.BeginLemmas.{Begins-append, Begins-split, Begins-first, Begins-same, length-Begins}
use Rattle.parser_base.proofs.TokenLemmas.{after_sign-sound, after_sign-complete, after_sign-other, identifier_at-sound, identifier_at-complete}
use Rattle.parser_base.proofs.ListLemmas.{some_items_at-sound, some_items_at-complete, comma_list_at-sound}
use Rattle.parser_base.specs.PathReading.{path_at}
use Rattle.parser_base.specs.TypeReading.{arguments_at, type_at}
use Rattle.parser_base.proofs.PathLemmas.{path_at-sound, path_at-complete}
use Rattle.parser_base.proofs.TypeLemmas.{arguments_spelled, inside_spelling, arguments_at-sound, arguments_at-complete, type_at-sound, type_at-complete, no_colons}
use Rattle.parser_base.proofs.BeforeLists.{filled_is_any}
use Rattle.expression_parser.specs.SpecReading.{spec_field_at, spec_at}
use Rattle.expression_parser.proofs.SpecLists.{specs_spelled, fields_spelled, proper_fields}
use Rattle.expression_parser.proofs.ShapeLemmas.{spec_no_sign, spec_alone}
use Rattle.expression_parser.proofs.TermSound.{spec_field_at-sound}
use Rattle.expression_parser.proofs.SpecTermComplete.{SpecEnds, sign_ends, spec_fields-complete}
use Rattle.item_parser.specs.ClauseReading.{condition_at, update_at, invariant_at, post_at, let_at, modifies_at, given_at, bindings_behind, bindings_at, include_at}
use Rattle.item_parser.proofs.ConditionLemmas.{spec_sound, spec_complete, before_semicolon, condition_at-sound, condition_at-complete}
use Rattle.item_parser.proofs.UpdateLemmas.{opens-other, update_at-sound, update_at-name, update_at-complete, post_at-sound, post_at-complete}

-- ---- `invariant`

pub invariant_at-sound : (n : ℕ) (span : Span) (whole ts : List Token) (r : Clause × List Token) → Begins (invariant_word span ∷ []) whole ts → invariant_at n span ts ≡ Some r → Begins (clause_spelling r.0) whole r.1 × IsProperForm r.0
unfolding invariant_at
invariant_at-sound n span whole ts r front e =
    let l = last (condition_at n (update_at ts).1) (λ e. (invariant_clause span (update_at ts).0 e.0, e.1)) r e in
    let read = condition_at-sound n (update_at ts).1 l.value l.first in
    let s = Begins-split (spec_spelling l.value.0) (sign Semicolon ∷ []) (update_at ts).1 l.value.1 read.0 in
    subst (λ q. Begins (clause_spelling q.0) whole q.1 × IsProperForm q.0) l.then (
      Begins-append (invariant_word span ∷ []) (update_spelling (update_at ts).0 ++ condition_spelling l.value.0) whole ts l.value.1 front
          (Begins-append (update_spelling (update_at ts).0) (condition_spelling l.value.0) ts (update_at ts).1 l.value.1 (update_at-sound ts) read.0),
      (read.1, λ f. update_at-name ts s.mid l.value.0 f s.front),
    )

pub invariant_at-complete : (n : ℕ) (span : Span) (is_update : Bool) (e : SpecExpressionData) (ts rest : List Token) → length ts ≤ n → Begins (update_spelling is_update ++ condition_spelling e) ts rest
    → IsProperForm (invariant_clause span is_update e) → invariant_at (suc n) span ts ≡ Some (invariant_clause span is_update e, rest)
unfolding invariant_at
invariant_at-complete n span is_update e ts rest h b p =
    let u = Begins-split (update_spelling is_update) (condition_spelling e) ts rest b in
    let s = Begins-split (spec_spelling e) (sign Semicolon ∷ []) u.mid rest u.back in
    let same = update_at-complete is_update e ts u.mid s.mid u.front s.front p.0 p.1 (opens-other (sign Semicolon) [] s.mid rest refl s.back) in
    ap (λ (v : Bool × List Token). option_map (λ e. (invariant_clause span v.0 e.0, e.1)) (condition_at (suc n) v.1)) same
    ∙ map_some (condition_at (suc n) u.mid) (λ e. (invariant_clause span is_update e.0, e.1)) (e, rest)
    (condition_at-complete n e u.mid rest (omega (arith, h, length-Begins (update_spelling is_update) ts u.mid u.front)) u.back p.0)

-- ---- `let`

pub let_at-sound : (n : ℕ) (span : Span) (whole ts : List Token) (r : Clause × List Token) → Begins (word (codes "let") (Some span) ∷ []) whole ts → let_at n span ts ≡ Some r → Begins (clause_spelling r.0) whole r.1 × IsProperForm r.0
unfolding let_at
let_at-sound n span whole ts r front e =
    let i = step (identifier_at (post_at ts).1) _ r e in
    let q = step (after_sign Equal i.value.1) _ r i.then in
    let l = last (condition_at n q.value) (λ e. (let_clause span (post_at ts).0 i.value.0 e.0, e.1)) r q.then in
    let name = identifier_at-sound (post_at ts).1 i.value i.first in
    let read = condition_at-sound n q.value l.value l.first in
    let valued = sign Equal ∷ condition_spelling l.value.0 in
    subst (λ q. Begins (clause_spelling q.0) whole q.1 × IsProperForm q.0) l.then (
      Begins-append (word (codes "let") (Some span) ∷ []) (post_spelling (post_at ts).0 ++ identifier i.value.0 ∷ valued) whole ts l.value.1 front
          (Begins-append (post_spelling (post_at ts).0) (identifier i.value.0 ∷ valued) ts (post_at ts).1 l.value.1 (post_at-sound ts)
          (Begins-append (identifier i.value.0 ∷ []) valued (post_at ts).1 i.value.1 l.value.1 name.0
          (Begins-append (sign Equal ∷ []) (condition_spelling l.value.0) i.value.1 q.value l.value.1 (after_sign-sound Equal i.value.1 q.value q.first) read.0))),
      (name.1, read.1),
    )

pub let_at-complete : (n : ℕ) (span : Span) (is_post : Bool) (name : Identifier) (e : SpecExpressionData) (ts rest : List Token) → length ts ≤ n
    → Begins (post_spelling is_post ++ identifier name ∷ sign Equal ∷ condition_spelling e) ts rest → IsName name.text → IsProperSpec e → let_at (suc n) span ts ≡ Some (let_clause span is_post name e, rest)
unfolding let_at
let_at-complete n span is_post name e ts rest h b p q =
    let u = Begins-split (post_spelling is_post) (identifier name ∷ sign Equal ∷ condition_spelling e) ts rest b in
    let i = Begins-first (identifier name) (sign Equal ∷ condition_spelling e) u.mid rest u.back in
    let s = Begins-first (sign Equal) (condition_spelling e) i.mid rest i.back in
    let same = post_at-complete is_post name (condition_spelling e) ts u.mid rest u.front u.back in
    let shorter : length s.mid ≤ n = omega (arith, h, length-Begins (post_spelling is_post) ts u.mid u.front, length-Begins (identifier name ∷ []) u.mid i.mid i.front, length-Begins (sign Equal ∷ []) i.mid s.mid s.front) in
    ap (λ (v : Bool × List Token). option_and_then (λ name. option_and_then (λ rest. option_map (λ e. (let_clause span v.0 name.0 e.0, e.1)) (condition_at (suc n) rest)) (after_sign Equal name.1)) (identifier_at v.1)) same
    ∙ bind_some (identifier_at u.mid) _ (name, i.mid) (identifier_at-complete name u.mid i.mid i.front p)
    ∙ bind_some (after_sign Equal i.mid) _ s.mid (after_sign-complete Equal i.mid s.mid s.front)
    ∙ map_some (condition_at (suc n) s.mid) (λ e. (let_clause span is_post name e.0, e.1)) (e, rest) (condition_at-complete n e s.mid rest shorter s.back q)

-- ---- `modifies`

pub modifies_at-sound : (n : ℕ) (span : Span) (whole ts : List Token) (r : Clause × List Token) → Begins (modifies_word span ∷ []) whole ts → modifies_at n span ts ≡ Some r → Begins (clause_spelling r.0) whole r.1 × IsProperForm r.0
unfolding modifies_at
modifies_at-sound n span whole ts r front e =
    let l = last (some_items_at (after_sign Semicolon) (spec_at n true 0) ts) (λ items. (modifies_clause span (record { items = items.0.0; last_comma = items.0.1 }), items.1)) r e in
    let s = some_items_at-sound Semicolon (spec_at n true 0) spec_spelling IsProperSpec (spec_sound n) ts l.value l.first in
    subst (λ q. Begins (clause_spelling q.0) whole q.1 × IsProperForm q.0) l.then (
      Begins-append (modifies_word span ∷ []) (comma_list (spec_spellings (spec_expressions_of l.value.0.0)) l.value.0.1 ++ sign Semicolon ∷ []) whole ts l.value.1 front
          (subst (λ ls. Begins (comma_list ls l.value.0.1 ++ sign Semicolon ∷ []) ts l.value.1) (sym (specs_spelled l.value.0.0)) s.0.spelled),
      (s.0.all_proper, filled_is_any l.value.0.0 s.1),
    )

pub modifies_at-complete : (n : ℕ) (span : Span) (t : TargetsData) (ts rest : List Token) → length ts ≤ n → Begins (targets_spelling t ++ sign Semicolon ∷ []) ts rest → AreProperTargets t → modifies_at (suc n) span ts ≡ Some (modifies_clause span t, rest)
unfolding modifies_at
modifies_at-complete n span t ts rest h b q =
    map_some (some_items_at (after_sign Semicolon) (spec_at (suc n) true 0) ts) (λ items. (modifies_clause span (record { items = items.0.0; last_comma = items.0.1 }), items.1)) ((t.items, t.last_comma), rest)
    (listed t.items t.last_comma b q.0 q.1)
  where
    listed : (xs : List SpecExpressionData) (last : Bool) → Begins (comma_list (spec_spellings (spec_expressions_of xs)) last ++ sign Semicolon ∷ []) ts rest → AllByRecursion IsProperSpec xs → AreAny xs
        → some_items_at (after_sign Semicolon) (spec_at (suc n) true 0) ts ≡ Some ((xs, last), rest)
    listed [] last b q f = absurd f
    listed (x ∷ xs) last b q f =
        some_items_at-complete Semicolon (spec_at (suc n) true 0) spec_spelling IsProperSpec (SpecEnds true) n (spec_complete n)
        (λ e us rest b p. spec_no_sign Semicolon (refl, refl, refl) e [] us rest (spec_alone e us rest b) p)
        before_semicolon (λ us rest b. sign_ends true Comma (refl, refl, λ h. refl, refl, refl, refl, refl) [] us rest b) refl
        x xs last ts rest h (subst (λ ls. Begins (comma_list ls last ++ sign Semicolon ∷ []) ts rest) (specs_spelled (x ∷ xs)) b) q

-- ---- type arguments

given_at-sound : (n : ℕ) (ts : List Token) (r : Option ArgumentsData × List Token) → given_at (type_at n) ts ≡ Some r → Begins (maybe_arguments_spelling None (maybe_arguments_of r.0)) ts r.1 × AreProperMaybeArguments (maybe_arguments_of r.0)
unfolding given_at
given_at-sound n ts r e =
    elim (either (after_sign Less ts) (λ inside. option_map (λ a. (Some a.0, a.1)) (arguments_at (type_at n) inside)) _ r e) [
      | inl s ↦
          let a = last (arguments_at (type_at n) s.value) (λ a. (Some a.0, a.1)) r s.then in
          let read = arguments_at-sound (type_at n) (type_at-sound n) s.value a.value a.first in
          subst (λ q. Begins (maybe_arguments_spelling None (maybe_arguments_of q.0)) ts q.1 × AreProperMaybeArguments (maybe_arguments_of q.0)) a.then (
            Begins-same _ _ ts a.value.1 (sym (arguments_spelled None a.value.0)) (Begins-append (sign Less ∷ []) (inside_spelling a.value.0) ts s.value a.value.1 (after_sign-sound Less ts s.value s.first) read.0),
            read.1,
          )
      | inr m ↦ subst (λ q. Begins (maybe_arguments_spelling None (maybe_arguments_of q.0)) ts q.1 × AreProperMaybeArguments (maybe_arguments_of q.0)) (some_one (None, ts) r m.1) (refl, tt)
    ]

given_at-complete : (n : ℕ) (a : Option ArgumentsData) (ts rest : List Token) → length ts ≤ n → Begins (maybe_arguments_spelling None (maybe_arguments_of a)) ts rest → AreProperMaybeArguments (maybe_arguments_of a) → after_sign Less rest ≡ None
    → given_at (type_at (suc n)) ts ≡ Some (a, rest)
unfolding given_at
given_at-complete n None ts rest h b p e = map_or_none (after_sign Less ts) _ (Some (None, ts)) (ap (after_sign Less) b ∙ e) ∙ ap (λ us. Some (None, us)) b
given_at-complete n (Some a) ts rest h b p e =
    let s = Begins-first (sign Less) (inside_spelling a) ts rest (Begins-same _ _ ts rest (arguments_spelled None a) b) in
    map_or_some (after_sign Less ts) (λ inside. option_map (λ a. (Some a.0, a.1)) (arguments_at (type_at (suc n)) inside)) (Some (None, ts)) s.mid (after_sign-complete Less ts s.mid s.front)
    ∙ map_some (arguments_at (type_at (suc n)) s.mid) (λ a. (Some a.0, a.1)) (a, rest)
    (arguments_at-complete n (type_at (suc n)) (type_at-complete n) a s.mid rest (omega (arith, h, length-Begins (sign Less ∷ []) ts s.mid s.front)) s.back p)

-- ---- bindings

bindings_behind-sound : (n : ℕ) (ts : List Token) (r : BindingsData × List Token) → bindings_behind n ts ≡ Some r
    → Begins (comma_list (spec_field_spellings (spec_fields_of r.0.items)) r.0.last_comma ++ sign RightBrace ∷ []) ts r.1 × AreProperBindings (Some r.0)
unfolding bindings_behind
bindings_behind-sound n ts r e =
    let l = last (comma_list_at (after_sign RightBrace) (spec_field_at (spec_at n true 0)) ts) (λ items. (record { items = items.0.0; last_comma = items.0.1 }, items.1)) r e in
    let s = comma_list_at-sound RightBrace (spec_field_at (spec_at n true 0)) spec_field_spelling IsProperField (spec_field_at-sound (spec_at n true 0) (spec_sound n)) ts l.value l.first in
    subst (λ q. Begins (comma_list (spec_field_spellings (spec_fields_of q.0.items)) q.0.last_comma ++ sign RightBrace ∷ []) ts q.1 × AreProperBindings (Some q.0)) l.then (
      subst (λ ls. Begins (comma_list ls l.value.0.1 ++ sign RightBrace ∷ []) ts l.value.1) (sym (fields_spelled l.value.0.0)) s.0.spelled,
      (s.0.all_proper, λ h. filled_is_any l.value.0.0 (s.1 h)),
    )

listed_back : (xs : List SpecFieldData) → list_of_spec_fields (spec_fields_of xs) ≡ xs
listed_back [] = refl
listed_back (x ∷ xs) = ap (λ ys. x ∷ ys) (listed_back xs)

are_some : (xs : List SpecFieldData) → AreAny xs → AreSomeFields (spec_fields_of xs)
are_some [] a = a
are_some (x ∷ xs) a = tt

bindings_behind-complete : (n : ℕ) (x : BindingsData) (ts rest : List Token) → length ts ≤ n → Begins (comma_list (spec_field_spellings (spec_fields_of x.items)) x.last_comma ++ sign RightBrace ∷ []) ts rest → AreProperBindings (Some x)
    → bindings_behind (suc n) ts ≡ Some (x, rest)
unfolding bindings_behind
bindings_behind-complete n x ts rest h b p =
    map_some (comma_list_at (after_sign RightBrace) (spec_field_at (spec_at (suc n) true 0)) ts) (λ items. (record { items = items.0.0; last_comma = items.0.1 }, items.1)) ((list_of_spec_fields (spec_fields_of x.items), x.last_comma), rest)
    (spec_fields-complete n (type_at (suc n)) (type_at-complete n) (spec_at (suc n) true 0) (spec_complete n) (spec_fields_of x.items) x.last_comma ts rest h b (proper_fields x.items p.0) (λ l. are_some x.items (p.1 l)))
    ∙ ap (λ xs. Some (record { items = xs; last_comma = x.last_comma }, rest)) (listed_back x.items)

bindings_at-sound : (n : ℕ) (ts : List Token) (r : Option BindingsData × List Token) → bindings_at n ts ≡ Some r → Begins (bindings_spelling r.0) ts r.1 × AreProperBindings r.0
unfolding bindings_at
bindings_at-sound n ts r e =
    elim (either (after_sign LeftBrace ts) (λ inside. option_map (λ b. (Some b.0, b.1)) (bindings_behind n inside)) _ r e) [
      | inl s ↦
          let x = last (bindings_behind n s.value) (λ b. (Some b.0, b.1)) r s.then in
          let read = bindings_behind-sound n s.value x.value x.first in
          subst (λ q. Begins (bindings_spelling q.0) ts q.1 × AreProperBindings q.0) x.then (
            Begins-append (sign LeftBrace ∷ []) (comma_list (spec_field_spellings (spec_fields_of x.value.0.items)) x.value.0.last_comma ++ sign RightBrace ∷ []) ts s.value x.value.1 (after_sign-sound LeftBrace ts s.value s.first) read.0,
            read.1,
          )
      | inr m ↦ subst (λ q. Begins (bindings_spelling q.0) ts q.1 × AreProperBindings q.0) (some_one (None, ts) r m.1) (refl, tt)
    ]

bindings_at-complete : (n : ℕ) (x : Option BindingsData) (ts rest : List Token) → length ts ≤ n → Begins (bindings_spelling x) ts rest → AreProperBindings x → after_sign LeftBrace rest ≡ None → bindings_at (suc n) ts ≡ Some (x, rest)
unfolding bindings_at
bindings_at-complete n None ts rest h b p e = map_or_none (after_sign LeftBrace ts) _ (Some (None, ts)) (ap (after_sign LeftBrace) b ∙ e) ∙ ap (λ us. Some (None, us)) b
bindings_at-complete n (Some x) ts rest h b p e =
    let s = Begins-first (sign LeftBrace) (comma_list (spec_field_spellings (spec_fields_of x.items)) x.last_comma ++ sign RightBrace ∷ []) ts rest b in
    map_or_some (after_sign LeftBrace ts) (λ inside. option_map (λ b. (Some b.0, b.1)) (bindings_behind (suc n) inside)) (Some (None, ts)) s.mid (after_sign-complete LeftBrace ts s.mid s.front)
    ∙ map_some (bindings_behind (suc n) s.mid) (λ b. (Some b.0, b.1)) (x, rest) (bindings_behind-complete n x s.mid rest (omega (arith, h, length-Begins (sign LeftBrace ∷ []) ts s.mid s.front)) s.back p)

-- bindings begin with a brace, if there are any
bindings_no_sign : (s : Sign) (x : Option BindingsData) (ts mid rest : List Token) → is_sign s (Punctuation LeftBrace) ≡ false → is_sign s (Punctuation Semicolon) ≡ false → Begins (bindings_spelling x) ts mid → Begins (sign Semicolon ∷ []) mid rest → after_sign s ts ≡ None
bindings_no_sign s None ts mid rest c d b e = ap (after_sign s) b ∙ after_sign-other s (sign Semicolon) [] mid rest d e
bindings_no_sign s (Some x) ts mid rest c d b e = after_sign-other s (sign LeftBrace) (comma_list (spec_field_spellings (spec_fields_of x.items)) x.last_comma ++ sign RightBrace ∷ []) ts mid c b

-- ---- `include`

-- an `include` after its word
abbrev pub include_behind : Include → List Lexeme
include_behind i = path_spelling i.schema ++ (maybe_arguments_spelling None (maybe_arguments_of i.arguments) ++ (bindings_spelling i.bindings ++ sign Semicolon ∷ []))

include_grouped : (l : Lexeme) (a b c d : List Lexeme) → (((l ∷ a) ++ b) ++ c) ++ d ≡ l ∷ (a ++ (b ++ (c ++ d)))
include_grouped l a b c d = append_assoc ((l ∷ a) ++ b) c d ∙ append_assoc (l ∷ a) b (c ++ d)

pub include_spelled : (i : Include) → include_spelling i ≡ include_word i.span ∷ include_behind i
include_spelled i = include_grouped (include_word i.span) (path_spelling i.schema) (maybe_arguments_spelling None (maybe_arguments_of i.arguments)) (bindings_spelling i.bindings) (sign Semicolon ∷ [])

pub include_at-sound : (n : ℕ) (span : Span) (whole ts : List Token) (r : Clause × List Token) → Begins (include_word span ∷ []) whole ts → include_at n span ts ≡ Some r → Begins (clause_spelling r.0) whole r.1 × IsProperForm r.0
unfolding include_at
include_at-sound n span whole ts r front e =
    let p = step (path_at ts) _ r e in
    let a = step (given_at (type_at n) p.value.1) _ r p.then in
    let x = step (bindings_at n a.value.1) _ r a.then in
    let l = last (after_sign Semicolon x.value.1) (λ rest. (include_clause (record { span = span; schema = p.value.0; arguments = a.value.0; bindings = x.value.0 }), rest)) r x.then in
    let path = path_at-sound ts p.value p.first in
    let given = given_at-sound n p.value.1 a.value a.first in
    let bound = bindings_at-sound n a.value.1 x.value x.first in
    let i : Include = record { span = span; schema = p.value.0; arguments = a.value.0; bindings = x.value.0 } in
    let ended = bindings_spelling x.value.0 ++ sign Semicolon ∷ [] in
    let arguments = maybe_arguments_spelling None (maybe_arguments_of a.value.0) in
    subst (λ q. Begins (clause_spelling q.0) whole q.1 × IsProperForm q.0) l.then (
      Begins-same _ _ whole l.value (sym (include_spelled i))
          (Begins-append (include_word span ∷ []) (include_behind i) whole ts l.value front
          (Begins-append (path_spelling p.value.0) (arguments ++ ended) ts p.value.1 l.value path.0
          (Begins-append arguments ended p.value.1 a.value.1 l.value given.0
          (Begins-append (bindings_spelling x.value.0) (sign Semicolon ∷ []) a.value.1 x.value.1 l.value bound.0 (after_sign-sound Semicolon x.value.1 l.value l.first))))),
      (path.1, given.1, bound.1),
    )

pub include_at-complete : (n : ℕ) (i : Include) (ts rest : List Token) → length ts ≤ n → Begins (include_behind i) ts rest → IsProperInclude i → include_at (suc n) i.span ts ≡ Some (include_clause i, rest)
unfolding include_at
include_at-complete n i ts rest h b p =
    let arguments = maybe_arguments_spelling None (maybe_arguments_of i.arguments) in
    let ended = bindings_spelling i.bindings ++ sign Semicolon ∷ [] in
    let s = Begins-split (path_spelling i.schema) (arguments ++ ended) ts rest b in
    let a = Begins-split arguments ended s.mid rest s.back in
    let x = Begins-split (bindings_spelling i.bindings) (sign Semicolon ∷ []) a.mid rest a.back in
    let in_arguments : length s.mid ≤ n = omega (arith, h, length-Begins (path_spelling i.schema) ts s.mid s.front) in
    let in_bindings : length a.mid ≤ n = omega (arith, in_arguments, length-Begins arguments s.mid a.mid a.front) in
    bind_some (path_at ts) _ (i.schema, s.mid) (path_at-complete i.schema ts s.mid s.front p.0 (no_colons (maybe_arguments_of i.arguments) s.mid a.mid a.front (bindings_no_sign ColonColon i.bindings a.mid x.mid rest refl refl x.front x.back)))
    ∙ bind_some (given_at (type_at (suc n)) s.mid) _ (i.arguments, a.mid) (given_at-complete n i.arguments s.mid a.mid in_arguments a.front p.1 (bindings_no_sign Less i.bindings a.mid x.mid rest refl refl x.front x.back))
    ∙ bind_some (bindings_at (suc n) a.mid) _ (i.bindings, x.mid) (bindings_at-complete n i.bindings a.mid x.mid in_bindings x.front p.2 (after_sign-other LeftBrace (sign Semicolon) [] x.mid rest refl x.back))
    ∙ map_some (after_sign Semicolon x.mid) (λ rest. (include_clause (record { span = i.span; schema = i.schema; arguments = i.arguments; bindings = i.bindings }), rest)) rest (after_sign-complete Semicolon x.mid rest x.back)
