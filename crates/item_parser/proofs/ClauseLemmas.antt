-- Clauses are read exactly.
use Rattle.std.proofs.Common.{◌≡◌, ℕ, suc, ◌<◌, ◌≤◌, Bool, true, false, List, [], ◌∷◌, ◌++◌, Some, None, length, refl, subst, ◌∙◌, inl, inr, arith}
use Rattle.std.specs.Prelude.{codes, map}
use Rattle.base.specs.declared.span.Span.{Span}
use Rattle.tokens.specs.declared.token.Token.{Token}
use Rattle.tokens.specs.declared.token.Punctuation.{Punctuation as Sign}
use Rattle.tokens.specs.declared.token.Punctuation.TheVariants.{Colon, ColonColon, Semicolon, Less, Equal}
use Rattle.syntax_tree.specs.declared.lexeme.Identifier.{Identifier}
use Rattle.syntax_tree.specs.Lexemes.{word, identifier, sign, comma_list, after_commas, last_comma}
use Rattle.syntax_tree.specs.TypeSpelling.{type_spelling, maybe_arguments_spelling}
use Rattle.syntax_tree.specs.TypeTreeData.{maybe_arguments_of}
use Rattle.syntax_tree.specs.declared.member.TypedName.{TypedName}
use Rattle.syntax_tree.specs.MemberSpelling.{typed_name_spelling}
use Rattle.syntax_tree.specs.ProperMembers.{AreAny, IsProperField}
use Rattle.syntax_tree.specs.SpecExpressionData.{SpecExpressionData, spec_expressions_of}
use Rattle.syntax_tree.specs.SpecExpressionSpelling.{spec_spelling, spec_spellings}
use Rattle.syntax_tree.specs.ProperSpecExpressions.{IsProperSpec}
use Rattle.std.specs.List.{AllByRecursion}
use Rattle.syntax_tree.specs.ClauseSpelling.{requires_word as requires_lexeme, ensures_word as ensures_lexeme, aborts_if_word as aborts_if_lexeme, modifies_word as modifies_lexeme, invariant_word as invariant_lexeme, include_word as include_lexeme, pragma_spelling, pragmas_spelling, targets_spelling, update_spelling, post_spelling, bindings_spelling, condition_spelling, clause_spelling}
use Rattle.syntax_tree.specs.ProperClauses.{IsProperForm}
use Rattle.syntax_tree.specs.declared.clause.AbortCode.TheVariants.{Bare, Failure, Code}
use Rattle.syntax_tree.specs.declared.clause.Pragma.{Pragma}
use Rattle.syntax_tree.specs.declared.clause.Clause.{Clause}
use Rattle.syntax_tree.specs.declared.clause.Clause.TheVariants.{Pragma as pragma_clause, Requires as requires_clause, Ensures as ensures_clause, AbortsIf as aborts_if_clause, Modifies as modifies_clause, Invariant as invariant_clause, Let as let_clause, Include as include_clause, Variable as variable_clause}
use Rattle.parser_base.specs.Beginnings.{Begins}
use Rattle.parser_base.specs.TokenReading.{after_sign, identifier_at}
use Rattle.parser_base.proofs.Steps.{step, last, either_read, bind_some, map_some, cond_true, cond_false}
use Rattle.parser_base.proofs.BeginLemmas.{Begins-append, Begins-split, Begins-first, Begins-same, length-Begins}
use Rattle.parser_base.proofs.TokenLemmas.{after_sign-sound, after_sign-complete, after_sign-other, identifier_at-sound, identifier_at-complete}
use Rattle.parser_base.specs.TypeReading.{type_at}
use Rattle.parser_base.proofs.PathLemmas.{path_no_sign}
use Rattle.parser_base.proofs.TypeLemmas.{type_at-sound, type_at-complete}
use Rattle.expression_parser.proofs.ShapeLemmas.{three_behind, spec_no_sign}
use Rattle.item_parser.specs.declared.spec.words.ClauseWord.{ClauseWord}
use Rattle.item_parser.specs.declared.spec.words.ClauseWord.TheVariants.{Pragma as pragma_word, Requires as requires_word, Ensures as ensures_word, AbortsIf as aborts_if_word, Modifies as modifies_word, Invariant as invariant_word, Let as let_word, Include as include_word}
use Rattle.item_parser.specs.ClauseReading.{opens_variable, variable_at, clause_word_at, clause_behind, worded_at, clause_at}
use Rattle.item_parser.proofs.ConditionLemmas.{requires_at-sound, requires_at-complete, ensures_at-sound, ensures_at-complete, aborts_if_at-sound, aborts_if_at-complete, aborts_if-spelled}
use Rattle.item_parser.proofs.PragmaLemmas.{pragmas_at-sound, pragmas_at-complete}
use Rattle.item_parser.proofs.IncludeLemmas.{invariant_at-sound, invariant_at-complete, let_at-sound, let_at-complete, modifies_at-sound, modifies_at-complete, include_at-sound, include_at-complete, include_behind, include_spelled}
use Rattle.item_parser.proofs.WordLemmas.{clause_lexeme, clause_word_at-sound, clause_word_at-complete, no_variable, one_variable}

-- ---- variables of schemas

variable_at-sound : (n : ℕ) (ts : List Token) (r : Clause × List Token) → variable_at n ts ≡ Some r → Begins (clause_spelling r.0) ts r.1 × IsProperForm r.0
unfolding variable_at
variable_at-sound n ts r e =
    let i = step (identifier_at ts) _ r e in
    let c = step (after_sign Colon i.value.1) _ r i.then in
    let t = step (type_at n c.value) _ r c.then in
    let l = last (after_sign Semicolon t.value.1) (λ behind. (variable_clause (record { name = i.value.0; annotation = t.value.0 }), behind)) r t.then in
    let name = identifier_at-sound ts i.value i.first in
    let read = type_at-sound n c.value t.value t.first in
    let ended = type_spelling t.value.0 ++ sign Semicolon ∷ [] in
    subst (λ q. Begins (clause_spelling q.0) ts q.1 × IsProperForm q.0) l.then (
      Begins-append (identifier i.value.0 ∷ []) (sign Colon ∷ ended) ts i.value.1 l.value name.0
          (Begins-append (sign Colon ∷ []) ended i.value.1 c.value l.value (after_sign-sound Colon i.value.1 c.value c.first)
          (Begins-append (type_spelling t.value.0) (sign Semicolon ∷ []) c.value t.value.1 l.value read.0 (after_sign-sound Semicolon t.value.1 l.value l.first))),
      (name.1, read.1),
    )

variable_at-complete : (n : ℕ) (x : TypedName) (ts rest : List Token) → length ts ≤ n → Begins (typed_name_spelling x ++ sign Semicolon ∷ []) ts rest → IsProperField x → variable_at (suc n) ts ≡ Some (variable_clause x, rest)
unfolding variable_at
variable_at-complete n x ts rest h b p =
    let ended = type_spelling x.annotation ++ sign Semicolon ∷ [] in
    let i = Begins-first (identifier x.name) (sign Colon ∷ ended) ts rest b in
    let c = Begins-first (sign Colon) ended i.mid rest i.back in
    let t = Begins-split (type_spelling x.annotation) (sign Semicolon ∷ []) c.mid rest c.back in
    bind_some (identifier_at ts) _ (x.name, i.mid) (identifier_at-complete x.name ts i.mid i.front p.0)
    ∙ bind_some (after_sign Colon i.mid) _ c.mid (after_sign-complete Colon i.mid c.mid c.front)
    ∙ bind_some (type_at (suc n) c.mid) _ (x.annotation, t.mid)
    (type_at-complete n x.annotation c.mid t.mid (omega (arith, h, length-Begins (identifier x.name ∷ []) ts i.mid i.front, length-Begins (sign Colon ∷ []) i.mid c.mid c.front)) t.front p.1
    (after_sign-other ColonColon (sign Semicolon) [] t.mid rest refl t.back, after_sign-other Less (sign Semicolon) [] t.mid rest refl t.back))
    ∙ map_some (after_sign Semicolon t.mid) (λ behind. (variable_clause (record { name = x.name; annotation = x.annotation }), behind)) rest (after_sign-complete Semicolon t.mid rest t.back)

-- ---- the tokens spell what is read

clause_behind-sound : (n : ℕ) (w : ClauseWord) (span : Span) (whole ts : List Token) (r : Clause × List Token) → Begins (clause_lexeme w span ∷ []) whole ts → clause_behind n w span ts ≡ Some r → Begins (clause_spelling r.0) whole r.1 × IsProperForm r.0
clause_behind-sound n pragma_word span whole ts r front e = pragmas_at-sound span whole ts r front e
clause_behind-sound n requires_word span whole ts r front e = requires_at-sound n span whole ts r front e
clause_behind-sound n ensures_word span whole ts r front e = ensures_at-sound n span whole ts r front e
clause_behind-sound n aborts_if_word span whole ts r front e = aborts_if_at-sound n span whole ts r front e
clause_behind-sound n modifies_word span whole ts r front e = modifies_at-sound n span whole ts r front e
clause_behind-sound n invariant_word span whole ts r front e = invariant_at-sound n span whole ts r front e
clause_behind-sound n let_word span whole ts r front e = let_at-sound n span whole ts r front e
clause_behind-sound n include_word span whole ts r front e = include_at-sound n span whole ts r front e

worded_at-sound : (n : ℕ) (ts : List Token) (r : Clause × List Token) → worded_at n ts ≡ Some r → Begins (clause_spelling r.0) ts r.1 × IsProperForm r.0
unfolding worded_at
worded_at-sound n ts r e =
    let w = step (clause_word_at ts) (λ w. clause_behind n w.0.0 w.0.1 w.1) r e in
    clause_behind-sound n w.value.0.0 w.value.0.1 ts w.value.1 r (clause_word_at-sound ts w.value w.first) w.then

-- A clause that is read has a proper form, and the tokens before the remaining ones spell it.
pub clause_at-sound : (n : ℕ) (ts : List Token) (r : Clause × List Token) → clause_at n ts ≡ Some r → Begins (clause_spelling r.0) ts r.1 × IsProperForm r.0
unfolding clause_at
clause_at-sound n ts r e =
    elim (either_read (opens_variable ts) (variable_at n ts) (worded_at n ts) r e) [
      | inl h ↦ variable_at-sound n ts r h.1
      | inr h ↦ worded_at-sound n ts r h.1
    ]

-- ---- what the tokens spell is read

-- a clause after its word, if no colon follows
worded : (n : ℕ) (w : ClauseWord) (span : Span) (c : Clause) (ts us rest : List Token) → Begins (clause_lexeme w span ∷ []) ts us → after_sign Colon us ≡ None → clause_behind (suc n) w span us ≡ Some (c, rest) → clause_at (suc n) ts ≡ Some (c, rest)
unfolding clause_at worded_at
worded n w span c ts us rest front e is =
    cond_false (opens_variable ts) (variable_at (suc n) ts) (worded_at (suc n) ts) (no_variable (clause_lexeme w span) ts us front e)
    ∙ bind_some (clause_word_at ts) (λ w. clause_behind (suc n) w.0.0 w.0.1 w.1) ((w, span), us) (clause_word_at-complete w span ts us front) ∙ is

condition_no_colon : (e : SpecExpressionData) (ts rest : List Token) → Begins (condition_spelling e) ts rest → IsProperSpec e → after_sign Colon ts ≡ None
condition_no_colon e ts rest b p = spec_no_sign Colon (refl, refl, refl) e (sign Semicolon ∷ []) ts rest b p

pragmas_no_colon : (xs : List Pragma) (last : Bool) (ts rest : List Token) → Begins (comma_list (map pragma_spelling xs) last ++ sign Semicolon ∷ []) ts rest → AreAny xs → after_sign Colon ts ≡ None
pragmas_no_colon [] last ts rest b a = absurd a
pragmas_no_colon (x ∷ xs) last ts rest b a = after_sign-other Colon (identifier x.name) _ ts rest refl b

targets_no_colon : (xs : List SpecExpressionData) (last : Bool) (ts rest : List Token) → Begins (comma_list (spec_spellings (spec_expressions_of xs)) last ++ sign Semicolon ∷ []) ts rest → AllByRecursion IsProperSpec xs → AreAny xs → after_sign Colon ts ≡ None
targets_no_colon [] last ts rest b p a = absurd a
targets_no_colon (x ∷ xs) last ts rest b p a =
    let more = after_commas (spec_spellings (spec_expressions_of xs)) in
    spec_no_sign Colon (refl, refl, refl) x (more ++ (last_comma last ++ sign Semicolon ∷ [])) ts rest
    (Begins-same _ _ ts rest (three_behind (spec_spelling x) more (last_comma last) (sign Semicolon ∷ [])) b) p.0

invariant_no_colon : (is_update : Bool) (e : SpecExpressionData) (ts rest : List Token) → Begins (update_spelling is_update ++ condition_spelling e) ts rest → IsProperSpec e → after_sign Colon ts ≡ None
invariant_no_colon true e ts rest b p = after_sign-other Colon (word (codes "update") None) (condition_spelling e) ts rest refl b
invariant_no_colon false e ts rest b p = condition_no_colon e ts rest b p

let_no_colon : (is_post : Bool) (name : Identifier) (e : SpecExpressionData) (ts rest : List Token) → Begins (post_spelling is_post ++ identifier name ∷ sign Equal ∷ condition_spelling e) ts rest → after_sign Colon ts ≡ None
let_no_colon true name e ts rest b = after_sign-other Colon (word (codes "post") None) (identifier name ∷ sign Equal ∷ condition_spelling e) ts rest refl b
let_no_colon false name e ts rest b = after_sign-other Colon (identifier name) (sign Equal ∷ condition_spelling e) ts rest refl b

-- Each clause of a proper form is read from the tokens that spell it, whatever follows.
pub clause_at-complete : (n : ℕ) (c : Clause) (ts rest : List Token) → length ts ≤ n → Begins (clause_spelling c) ts rest → IsProperForm c → clause_at (suc n) ts ≡ Some (c, rest)
unfolding clause_at
clause_at-complete n (pragma_clause span p) ts rest h b q =
    let w = Begins-first (word (codes "pragma") (Some span)) (pragmas_spelling p ++ sign Semicolon ∷ []) ts rest b in
    worded n pragma_word span (pragma_clause span p) ts w.mid rest w.front (pragmas_no_colon p.items p.last_comma w.mid rest w.back q.1) (pragmas_at-complete span p w.mid rest w.back q)
clause_at-complete n (requires_clause span e) ts rest h b q =
    let w = Begins-first (requires_lexeme span) (condition_spelling e) ts rest b in
    worded n requires_word span (requires_clause span e) ts w.mid rest w.front (condition_no_colon e w.mid rest w.back q)
    (requires_at-complete n span e w.mid rest (omega (arith, h, length-Begins (requires_lexeme span ∷ []) ts w.mid w.front)) w.back q)
clause_at-complete n (ensures_clause span e) ts rest h b q =
    let w = Begins-first (ensures_lexeme span) (condition_spelling e) ts rest b in
    worded n ensures_word span (ensures_clause span e) ts w.mid rest w.front (condition_no_colon e w.mid rest w.back q)
    (ensures_at-complete n span e w.mid rest (omega (arith, h, length-Begins (ensures_lexeme span ∷ []) ts w.mid w.front)) w.back q)
clause_at-complete n (aborts_if_clause span e Bare) ts rest h b q =
    let w = Begins-first (aborts_if_lexeme span) (condition_spelling e) ts rest (aborts_if-spelled span e ts rest b) in
    worded n aborts_if_word span (aborts_if_clause span e Bare) ts w.mid rest w.front (condition_no_colon e w.mid rest w.back q.0)
    (aborts_if_at-complete n span e w.mid rest (omega (arith, h, length-Begins (aborts_if_lexeme span ∷ []) ts w.mid w.front)) w.back q.0)
clause_at-complete n (aborts_if_clause span e Failure) ts rest h b q = absurd q.1
clause_at-complete n (aborts_if_clause span e (Code code)) ts rest h b q = absurd q.1
clause_at-complete n (modifies_clause span t) ts rest h b q =
    let w = Begins-first (modifies_lexeme span) (targets_spelling t ++ sign Semicolon ∷ []) ts rest b in
    worded n modifies_word span (modifies_clause span t) ts w.mid rest w.front (targets_no_colon t.items t.last_comma w.mid rest w.back q.0 q.1)
    (modifies_at-complete n span t w.mid rest (omega (arith, h, length-Begins (modifies_lexeme span ∷ []) ts w.mid w.front)) w.back q)
clause_at-complete n (invariant_clause span is_update e) ts rest h b q =
    let w = Begins-first (invariant_lexeme span) (update_spelling is_update ++ condition_spelling e) ts rest b in
    worded n invariant_word span (invariant_clause span is_update e) ts w.mid rest w.front (invariant_no_colon is_update e w.mid rest w.back q.0)
    (invariant_at-complete n span is_update e w.mid rest (omega (arith, h, length-Begins (invariant_lexeme span ∷ []) ts w.mid w.front)) w.back q)
clause_at-complete n (let_clause span is_post name e) ts rest h b q =
    let w = Begins-first (word (codes "let") (Some span)) (post_spelling is_post ++ identifier name ∷ sign Equal ∷ condition_spelling e) ts rest b in
    worded n let_word span (let_clause span is_post name e) ts w.mid rest w.front (let_no_colon is_post name e w.mid rest w.back)
    (let_at-complete n span is_post name e w.mid rest (omega (arith, h, length-Begins (word (codes "let") (Some span) ∷ []) ts w.mid w.front)) w.back q.0 q.1)
clause_at-complete n (include_clause i) ts rest h b q =
    let w = Begins-first (include_lexeme i.span) (include_behind i) ts rest (Begins-same _ _ ts rest (include_spelled i) b) in
    worded n include_word i.span (include_clause i) ts w.mid rest w.front (path_no_sign Colon i.schema (maybe_arguments_spelling None (maybe_arguments_of i.arguments) ++ (bindings_spelling i.bindings ++ sign Semicolon ∷ [])) w.mid rest w.back q.0)
    (include_at-complete n i w.mid rest (omega (arith, h, length-Begins (include_lexeme i.span ∷ []) ts w.mid w.front)) w.back q)
clause_at-complete n (variable_clause x) ts rest h b q =
    cond_true (opens_variable ts) (variable_at (suc n) ts) (worded_at (suc n) ts) (one_variable x.name (type_spelling x.annotation ++ sign Semicolon ∷ []) ts rest q.0 b) ∙ variable_at-complete n x ts rest h b q

-- ---- the first tokens of clauses

-- a clause begins with a word
pub clause_no_sign : (s : Sign) (c : Clause) (ts rest : List Token) → Begins (clause_spelling c) ts rest → after_sign s ts ≡ None
unfolding requires_lexeme ensures_lexeme aborts_if_lexeme modifies_lexeme invariant_lexeme include_lexeme
clause_no_sign s (pragma_clause span p) ts rest b = after_sign-other s (word (codes "pragma") (Some span)) _ ts rest refl b
clause_no_sign s (requires_clause span e) ts rest b = after_sign-other s (requires_lexeme span) _ ts rest refl b
clause_no_sign s (ensures_clause span e) ts rest b = after_sign-other s (ensures_lexeme span) _ ts rest refl b
clause_no_sign s (aborts_if_clause span e code) ts rest b = after_sign-other s (aborts_if_lexeme span) _ ts rest refl b
clause_no_sign s (modifies_clause span t) ts rest b = after_sign-other s (modifies_lexeme span) _ ts rest refl b
clause_no_sign s (invariant_clause span is_update e) ts rest b = after_sign-other s (invariant_lexeme span) _ ts rest refl b
clause_no_sign s (let_clause span is_post name e) ts rest b = after_sign-other s (word (codes "let") (Some span)) _ ts rest refl b
clause_no_sign s (include_clause i) ts rest b = after_sign-other s (include_lexeme i.span) _ ts rest refl b
clause_no_sign s (variable_clause x) ts rest b = after_sign-other s (identifier x.name) (sign Colon ∷ (type_spelling x.annotation ++ sign Semicolon ∷ [])) ts rest refl b

pub clause_some : (c : Clause) → 0 < length (clause_spelling c)
clause_some (pragma_clause span p) = omega arith
clause_some (requires_clause span e) = omega arith
clause_some (ensures_clause span e) = omega arith
clause_some (aborts_if_clause span e code) = omega arith
clause_some (modifies_clause span t) = omega arith
clause_some (invariant_clause span is_update e) = omega arith
clause_some (let_clause span is_post name e) = omega arith
clause_some (include_clause i) = omega arith
clause_some (variable_clause x) = omega arith
