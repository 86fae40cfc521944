-- Spec blocks are read exactly.
use Rattle.std.proofs.Common.{◌≡◌, ℕ, suc, ◌≤◌, true, false, cond, List, [], ◌∷◌, ◌++◌, Some, None, length, refl, sym, subst, ◌∙◌, arith}
use Rattle.std.specs.Prelude.{codes}
use Rattle.std.specs.Option.{option_map}
use Rattle.base.specs.declared.span.Span.{Span}
use Rattle.tokens.specs.declared.token.Token.{Token}
use Rattle.tokens.specs.declared.token.Punctuation.TheVariants.{LeftParenthesis, RightParenthesis, LeftBrace, RightBrace, Colon, ColonColon, Less}
use Rattle.syntax_tree.specs.declared.lexeme.Identifier.{Identifier}
use Rattle.syntax_tree.specs.declared.lexeme.Lexeme.{Lexeme}
use Rattle.syntax_tree.specs.Lexemes.{word, identifier, sign}
use Rattle.syntax_tree.specs.NameRules.{IsName}
use Rattle.syntax_tree.specs.TypeSpelling.{type_spelling}
use Rattle.syntax_tree.specs.MemberSpelling.{typed_names_spelling, parameters_spelling, inputs_spelling}
use Rattle.syntax_tree.specs.SpecExpressionData.{SpecExpressionData}
use Rattle.syntax_tree.specs.SpecExpressionSpelling.{spec_spelling}
use Rattle.syntax_tree.specs.ProperSpecExpressions.{IsProperSpec}
use Rattle.syntax_tree.specs.declared.slot.Slot.{Slot}
use Rattle.syntax_tree.specs.declared.slot.Slot.TheVariants.{Function as of_function, Struct as of_struct, Module as of_module, Schema as of_schema, SpecFunction as of_spec_function, Loop as of_loop}
use Rattle.syntax_tree.specs.ClauseSpelling.{clause_block_spelling, clauses_spelling, spec_function_body_spelling, spec_tree_spelling}
use Rattle.syntax_tree.specs.ProperClauses.{AreProperClauses, IsProperSchema, IsProperSpecFunction, IsProperBlock}
use Rattle.syntax_tree.specs.declared.clause.Clause.{Clause}
use Rattle.syntax_tree.specs.declared.clause.Schema.{Schema}
use Rattle.syntax_tree.specs.declared.clause.SpecFunction.{SpecFunction}
use Rattle.syntax_tree.specs.declared.clause.Spec.{Spec}
use Rattle.syntax_tree.specs.declared.clause.Spec.TheVariants.{Module as module_spec, Named as named_spec, Schema as schema_spec, Function as function_spec, Loop as loop_spec}
use Rattle.parser_base.specs.Beginnings.{Begins}
use Rattle.parser_base.specs.TokenReading.{begins_capital, after_sign, after_word, word_span_at, identifier_at}
use Rattle.parser_base.proofs.Steps.{step, last, if_read, bind_some, map_some, cond_true}
use Rattle.parser_base.proofs.BeginLemmas.{Begins-append, Begins-split, Begins-first, Begins-same, length-Begins}
use Rattle.parser_base.proofs.TokenLemmas.{begins_capital-sound, begins_capital-complete, after_sign-sound, after_sign-complete, after_sign-other, after_word-sound, after_word-complete, word_span_at-sound, word_span_at-complete, identifier_at-sound, identifier_at-complete}
use Rattle.parser_base.specs.TypeReading.{type_at}
use Rattle.parser_base.proofs.TypeLemmas.{type_at-sound, type_at-complete}
use Rattle.parser_base.specs.ParameterReading.{parameters_at}
use Rattle.parser_base.specs.TypedNameReading.{inputs_at}
use Rattle.parser_base.proofs.ParameterLemmas.{parameters_at-sound, parameters_at-complete}
use Rattle.parser_base.proofs.TypedNameLemmas.{inputs_at-sound, inputs_at-complete}
use Rattle.expression_parser.specs.SpecReading.{spec_at}
use Rattle.expression_parser.proofs.ShapeLemmas.{three_behind}
use Rattle.expression_parser.proofs.SpecTermComplete.{sign_ends}
use Rattle.item_parser.specs.BlockReading.{block_at}
use Rattle.item_parser.specs.SpecBlockReading.{named_at, module_at, loop_at, schema_behind_name, schema_at, body_at, spec_function_at, behind_spec, spec_block_at}
use Rattle.item_parser.proofs.ConditionLemmas.{spec_sound, spec_complete}
use Rattle.item_parser.proofs.BlockLemmas.{block_at-sound, block_at-complete}

-- ---- blocks of clauses

abbrev pub spec_word : Span → Lexeme
spec_word span = word (codes "spec") (Some span)

named_at-sound : (slot : Slot) (n : ℕ) (span : Span) (whole ts : List Token) (r : Spec × List Token) → Begins (spec_word span ∷ []) whole ts → named_at slot n span ts ≡ Some r
    → (q : Spec × List Token → Type 0)
    → ((name : Identifier) (clauses : List Clause) (rest : List Token) → Begins (spec_tree_spelling (named_spec span name clauses)) whole rest → IsName name.text → AreProperClauses slot clauses → q (named_spec span name clauses, rest)) → q r
unfolding named_at
named_at-sound slot n span whole ts r front e q make =
    let i = step (identifier_at ts) _ r e in
    let c = last (block_at slot n i.value.1) (λ c. (named_spec span i.value.0 c.0, c.1)) r i.then in
    let name = identifier_at-sound ts i.value i.first in
    let read = block_at-sound slot n i.value.1 c.value c.first in
    subst q c.then (
    make i.value.0 c.value.0 c.value.1
    (Begins-append (spec_word span ∷ []) (identifier i.value.0 ∷ clause_block_spelling c.value.0) whole ts c.value.1 front
    (Begins-append (identifier i.value.0 ∷ []) (clause_block_spelling c.value.0) ts i.value.1 c.value.1 name.0 read.0))
    name.1 read.1
    )

named_at-complete : (slot : Slot) (n : ℕ) (span : Span) (name : Identifier) (clauses : List Clause) (ts rest : List Token) → length ts ≤ n → Begins (identifier name ∷ clause_block_spelling clauses) ts rest
    → IsName name.text → AreProperClauses slot clauses → named_at slot (suc n) span ts ≡ Some (named_spec span name clauses, rest)
unfolding named_at
named_at-complete slot n span name clauses ts rest h b p q =
    let i = Begins-first (identifier name) (clause_block_spelling clauses) ts rest b in
    bind_some (identifier_at ts) _ (name, i.mid) (identifier_at-complete name ts i.mid i.front p)
    ∙ map_some (block_at slot (suc n) i.mid) (λ c. (named_spec span name c.0, c.1)) (clauses, rest)
    (block_at-complete slot n clauses i.mid rest (omega (arith, h, length-Begins (identifier name ∷ []) ts i.mid i.front)) i.back q)

module_at-sound : (n : ℕ) (span : Span) (whole ts : List Token) (r : Spec × List Token) → Begins (spec_word span ∷ word (codes "module") None ∷ []) whole ts → module_at n span ts ≡ Some r
    → Begins (spec_tree_spelling r.0) whole r.1 × IsProperBlock of_module r.0
unfolding module_at
module_at-sound n span whole ts r front e =
    let c = last (block_at of_module n ts) (λ c. (module_spec span c.0, c.1)) r e in
    let read = block_at-sound of_module n ts c.value c.first in
    subst (λ q. Begins (spec_tree_spelling q.0) whole q.1 × IsProperBlock of_module q.0) c.then
    (Begins-append (spec_word span ∷ word (codes "module") None ∷ []) (clause_block_spelling c.value.0) whole ts c.value.1 front read.0, read.1)

loop_at-sound : (n : ℕ) (span : Span) (whole ts : List Token) (r : Spec × List Token) → Begins (spec_word span ∷ []) whole ts → loop_at n span ts ≡ Some r
    → Begins (spec_tree_spelling r.0) whole r.1 × IsProperBlock of_loop r.0
unfolding loop_at
loop_at-sound n span whole ts r front e =
    let c = last (block_at of_loop n ts) (λ c. (loop_spec span c.0, c.1)) r e in
    let read = block_at-sound of_loop n ts c.value c.first in
    subst (λ q. Begins (spec_tree_spelling q.0) whole q.1 × IsProperBlock of_loop q.0) c.then
    (Begins-append (spec_word span ∷ []) (clause_block_spelling c.value.0) whole ts c.value.1 front read.0, read.1)

-- ---- schemas

-- clauses begin with a brace
block_no_less : (clauses : List Clause) (ts rest : List Token) → Begins (clause_block_spelling clauses) ts rest → after_sign Less ts ≡ None
block_no_less clauses ts rest b = after_sign-other Less (sign LeftBrace) (clauses_spelling clauses ++ sign RightBrace ∷ []) ts rest refl b

schema_at-sound : (n : ℕ) (span : Span) (whole ts : List Token) (r : Spec × List Token) → Begins (spec_word span ∷ word (codes "schema") None ∷ []) whole ts → schema_at n span ts ≡ Some r
    → Begins (spec_tree_spelling r.0) whole r.1 × IsProperBlock of_schema r.0
unfolding schema_at schema_behind_name
schema_at-sound n span whole ts r front e =
    let i = step (identifier_at ts) _ r e in
    let c = if_read (begins_capital i.value.0.text) (schema_behind_name n span i.value.0 i.value.1) r i.then in
    let p = step (parameters_at false i.value.1) _ r c.1 in
    let x = last (block_at of_schema n p.value.1) (λ c. (schema_spec (record { span = span; name = i.value.0; parameters = p.value.0; clauses = c.0 }), c.1)) r p.then in
    let name = identifier_at-sound ts i.value i.first in
    let parameters = parameters_at-sound false i.value.1 p.value p.first in
    let read = block_at-sound of_schema n p.value.1 x.value x.first in
    let behind_name = parameters_spelling p.value.0 ++ clause_block_spelling x.value.0 in
    subst (λ q. Begins (spec_tree_spelling q.0) whole q.1 × IsProperBlock of_schema q.0) x.then (
      Begins-append (spec_word span ∷ word (codes "schema") None ∷ []) (identifier i.value.0 ∷ behind_name) whole ts x.value.1 front
          (Begins-append (identifier i.value.0 ∷ []) behind_name ts i.value.1 x.value.1 name.0
          (Begins-append (parameters_spelling p.value.0) (clause_block_spelling x.value.0) i.value.1 p.value.1 x.value.1 parameters.0 read.0)),
      (name.1, begins_capital-sound i.value.0.text c.0, parameters.1, read.1),
    )

schema_at-complete : (n : ℕ) (s : Schema) (ts rest : List Token) → length ts ≤ n → Begins (identifier s.name ∷ (parameters_spelling s.parameters ++ clause_block_spelling s.clauses)) ts rest → IsProperSchema s
    → schema_at (suc n) s.span ts ≡ Some (schema_spec s, rest)
unfolding schema_at schema_behind_name
schema_at-complete n s ts rest h b q =
    let i = Begins-first (identifier s.name) (parameters_spelling s.parameters ++ clause_block_spelling s.clauses) ts rest b in
    let p = Begins-split (parameters_spelling s.parameters) (clause_block_spelling s.clauses) i.mid rest i.back in
    bind_some (identifier_at ts) (λ name. cond (begins_capital name.0.text) (schema_behind_name (suc n) s.span name.0 name.1) None) (s.name, i.mid) (identifier_at-complete s.name ts i.mid i.front q.0)
    ∙ cond_true (begins_capital s.name.text) (schema_behind_name (suc n) s.span s.name i.mid) None (begins_capital-complete s.name.text q.1)
    ∙ bind_some (parameters_at false i.mid) _ (s.parameters, p.mid) (parameters_at-complete false s.parameters i.mid p.mid p.front q.2 (block_no_less s.clauses p.mid rest p.back))
    ∙ map_some (block_at of_schema (suc n) p.mid) (λ c. (schema_spec (record { span = s.span; name = s.name; parameters = s.parameters; clauses = c.0 }), c.1)) (s.clauses, rest)
    (block_at-complete of_schema n s.clauses p.mid rest (omega (arith, h, length-Begins (identifier s.name ∷ []) ts i.mid i.front, length-Begins (parameters_spelling s.parameters) i.mid p.mid p.front)) p.back q.3)

-- ---- spec functions

body_at-sound : (n : ℕ) (ts : List Token) (r : SpecExpressionData × List Token) → body_at n ts ≡ Some r → Begins (spec_function_body_spelling r.0) ts r.1 × IsProperSpec r.0
unfolding body_at
body_at-sound n ts r e =
    let o = step (after_sign LeftBrace ts) _ r e in
    let s = step (spec_at n true 0 o.value) _ r o.then in
    let l = last (after_sign RightBrace s.value.1) (λ rest. (s.value.0, rest)) r s.then in
    let read = spec_sound n o.value s.value s.first in
    subst (λ q. Begins (spec_function_body_spelling q.0) ts q.1 × IsProperSpec q.0) l.then (
      Begins-append (sign LeftBrace ∷ []) (spec_spelling s.value.0 ++ sign RightBrace ∷ []) ts o.value l.value (after_sign-sound LeftBrace ts o.value o.first)
          (Begins-append (spec_spelling s.value.0) (sign RightBrace ∷ []) o.value s.value.1 l.value read.0 (after_sign-sound RightBrace s.value.1 l.value l.first)),
      read.1,
    )

body_at-complete : (n : ℕ) (e : SpecExpressionData) (ts rest : List Token) → length ts ≤ n → Begins (spec_function_body_spelling e) ts rest → IsProperSpec e → body_at (suc n) ts ≡ Some (e, rest)
unfolding body_at
body_at-complete n e ts rest h b p =
    let o = Begins-first (sign LeftBrace) (spec_spelling e ++ sign RightBrace ∷ []) ts rest b in
    let s = Begins-split (spec_spelling e) (sign RightBrace ∷ []) o.mid rest o.back in
    bind_some (after_sign LeftBrace ts) _ o.mid (after_sign-complete LeftBrace ts o.mid o.front)
    ∙ bind_some (spec_at (suc n) true 0 o.mid) _ (e, s.mid)
    (spec_complete n e o.mid s.mid (omega (arith, h, length-Begins (sign LeftBrace ∷ []) ts o.mid o.front)) s.front p (sign_ends true RightBrace (refl, refl, λ h. refl, refl, refl, refl, refl) [] s.mid rest s.back))
    ∙ map_some (after_sign RightBrace s.mid) (λ rest. (e, rest)) rest (after_sign-complete RightBrace s.mid rest s.back)

-- a spec function after its words
abbrev pub function_behind : SpecFunction → List Lexeme
function_behind f = identifier f.name ∷ (parameters_spelling f.parameters ++ (inputs_spelling f.inputs ++ (sign Colon ∷ (type_spelling f.result ++ spec_function_body_spelling f.body))))

function_spelled : (f : SpecFunction) → spec_tree_spelling (function_spec f) ≡ spec_word f.span ∷ word (codes "fun") None ∷ function_behind f
function_spelled f =
    three_behind (spec_word f.span ∷ word (codes "fun") None ∷ identifier f.name ∷ parameters_spelling f.parameters) (inputs_spelling f.inputs) (sign Colon ∷ type_spelling f.result) (spec_function_body_spelling f.body)

spec_function_at-sound : (n : ℕ) (span : Span) (whole ts : List Token) (r : Spec × List Token) → Begins (spec_word span ∷ word (codes "fun") None ∷ []) whole ts → spec_function_at n span ts ≡ Some r
    → Begins (spec_tree_spelling r.0) whole r.1 × IsProperBlock of_spec_function r.0
unfolding spec_function_at
spec_function_at-sound n span whole ts r front e =
    let i = step (identifier_at ts) _ r e in
    let p = step (parameters_at false i.value.1) _ r i.then in
    let o = step (after_sign LeftParenthesis p.value.1) _ r p.then in
    let x = step (inputs_at (type_at n) o.value) _ r o.then in
    let c = step (after_sign Colon x.value.1) _ r x.then in
    let t = step (type_at n c.value) _ r c.then in
    let l = last (body_at n t.value.1) (λ body. (function_spec (record { span = span; name = i.value.0; parameters = p.value.0; inputs = x.value.0; result = t.value.0; body = body.0 }), body.1)) r t.then in
    let name = identifier_at-sound ts i.value i.first in
    let parameters = parameters_at-sound false i.value.1 p.value p.first in
    let inputs = inputs_at-sound n o.value x.value x.first in
    let result = type_at-sound n c.value t.value t.first in
    let body = body_at-sound n t.value.1 l.value l.first in
    let f : SpecFunction = record { span = span; name = i.value.0; parameters = p.value.0; inputs = x.value.0; result = t.value.0; body = l.value.0 } in
    let in_body = spec_function_body_spelling l.value.0 in
    let from_colon = sign Colon ∷ (type_spelling t.value.0 ++ in_body) in
    let from_inputs = inputs_spelling x.value.0 ++ from_colon in
    subst (λ q. Begins (spec_tree_spelling q.0) whole q.1 × IsProperBlock of_spec_function q.0) l.then (
      Begins-same _ _ whole l.value.1 (sym (function_spelled f))
          (Begins-append (spec_word span ∷ word (codes "fun") None ∷ []) (function_behind f) whole ts l.value.1 front
          (Begins-append (identifier i.value.0 ∷ []) (parameters_spelling p.value.0 ++ from_inputs) ts i.value.1 l.value.1 name.0
          (Begins-append (parameters_spelling p.value.0) from_inputs i.value.1 p.value.1 l.value.1 parameters.0
          (Begins-append (inputs_spelling x.value.0) from_colon p.value.1 x.value.1 l.value.1
          (Begins-append (sign LeftParenthesis ∷ []) (typed_names_spelling x.value.0 ++ sign RightParenthesis ∷ []) p.value.1 o.value x.value.1 (after_sign-sound LeftParenthesis p.value.1 o.value o.first) inputs.0)
          (Begins-append (sign Colon ∷ []) (type_spelling t.value.0 ++ in_body) x.value.1 c.value l.value.1 (after_sign-sound Colon x.value.1 c.value c.first)
          (Begins-append (type_spelling t.value.0) in_body c.value t.value.1 l.value.1 result.0 body.0)))))),
      (name.1, parameters.1, inputs.1, inputs.2, result.1, body.1),
    )

spec_function_at-complete : (n : ℕ) (f : SpecFunction) (ts rest : List Token) → length ts ≤ n → Begins (function_behind f) ts rest → IsProperSpecFunction f → spec_function_at (suc n) f.span ts ≡ Some (function_spec f, rest)
unfolding spec_function_at
spec_function_at-complete n f ts rest h b q =
    let in_body = spec_function_body_spelling f.body in
    let from_colon = sign Colon ∷ (type_spelling f.result ++ in_body) in
    let from_inputs = inputs_spelling f.inputs ++ from_colon in
    let i = Begins-first (identifier f.name) (parameters_spelling f.parameters ++ from_inputs) ts rest b in
    let p = Begins-split (parameters_spelling f.parameters) from_inputs i.mid rest i.back in
    let x = Begins-split (inputs_spelling f.inputs) from_colon p.mid rest p.back in
    let o = Begins-first (sign LeftParenthesis) (typed_names_spelling f.inputs ++ sign RightParenthesis ∷ []) p.mid x.mid x.front in
    let c = Begins-first (sign Colon) (type_spelling f.result ++ in_body) x.mid rest x.back in
    let t = Begins-split (type_spelling f.result) in_body c.mid rest c.back in
    let in_inputs : length o.mid ≤ n = omega (arith, h, length-Begins (identifier f.name ∷ []) ts i.mid i.front, length-Begins (parameters_spelling f.parameters) i.mid p.mid p.front, length-Begins (sign LeftParenthesis ∷ []) p.mid o.mid o.front) in
    let in_result : length c.mid ≤ n = omega (arith, in_inputs, length-Begins (typed_names_spelling f.inputs ++ sign RightParenthesis ∷ []) o.mid x.mid o.back, length-Begins (sign Colon ∷ []) x.mid c.mid c.front) in
    let in_braces : length t.mid ≤ n = omega (arith, in_result, length-Begins (type_spelling f.result) c.mid t.mid t.front) in
    bind_some (identifier_at ts) _ (f.name, i.mid) (identifier_at-complete f.name ts i.mid i.front q.0)
    ∙ bind_some (parameters_at false i.mid) _ (f.parameters, p.mid) (parameters_at-complete false f.parameters i.mid p.mid p.front q.1 (after_sign-other Less (sign LeftParenthesis) (typed_names_spelling f.inputs ++ sign RightParenthesis ∷ []) p.mid x.mid refl x.front))
    ∙ bind_some (after_sign LeftParenthesis p.mid) _ o.mid (after_sign-complete LeftParenthesis p.mid o.mid o.front)
    ∙ bind_some (inputs_at (type_at (suc n)) o.mid) _ (f.inputs, x.mid) (inputs_at-complete n f.inputs o.mid x.mid in_inputs o.back q.2 q.3)
    ∙ bind_some (after_sign Colon x.mid) _ c.mid (after_sign-complete Colon x.mid c.mid c.front)
    ∙ bind_some (type_at (suc n) c.mid) _ (f.result, t.mid)
    (type_at-complete n f.result c.mid t.mid in_result t.front q.4 (after_sign-other ColonColon (sign LeftBrace) (spec_spelling f.body ++ sign RightBrace ∷ []) t.mid rest refl t.back, after_sign-other Less (sign LeftBrace) (spec_spelling f.body ++ sign RightBrace ∷ []) t.mid rest refl t.back))
    ∙ map_some (body_at (suc n) t.mid) (λ body. (function_spec (record { span = f.span; name = f.name; parameters = f.parameters; inputs = f.inputs; result = f.result; body = body.0 }), body.1)) (f.body, rest)
    (body_at-complete n f.body t.mid rest in_braces t.back q.5)

-- ---- all blocks

-- `spec` and the word after it
behind_two : (span : Span) (w : List ℕ) (whole ts rest : List Token) → Begins (spec_word span ∷ []) whole ts → after_word w ts ≡ Some rest → Begins (spec_word span ∷ word w None ∷ []) whole rest
behind_two span w whole ts rest front e = Begins-append (spec_word span ∷ []) (word w None ∷ []) whole ts rest front (after_word-sound w ts rest e)

behind_spec-sound : (slot : Slot) (n : ℕ) (span : Span) (whole ts : List Token) (r : Spec × List Token) → Begins (spec_word span ∷ []) whole ts → behind_spec slot n span ts ≡ Some r
    → Begins (spec_tree_spelling r.0) whole r.1 × IsProperBlock slot r.0
unfolding behind_spec
behind_spec-sound of_function n span whole ts r front e =
    named_at-sound of_function n span whole ts r front e (λ q. Begins (spec_tree_spelling q.0) whole q.1 × IsProperBlock of_function q.0) (λ name clauses rest b p q. (b, (p, q)))
behind_spec-sound of_struct n span whole ts r front e =
    named_at-sound of_struct n span whole ts r front e (λ q. Begins (spec_tree_spelling q.0) whole q.1 × IsProperBlock of_struct q.0) (λ name clauses rest b p q. (b, (p, q)))
behind_spec-sound of_module n span whole ts r front e =
    let s = step (after_word (codes "module") ts) (λ rest. module_at n span rest) r e in
    module_at-sound n span whole s.value r (behind_two span (codes "module") whole ts s.value front s.first) s.then
behind_spec-sound of_schema n span whole ts r front e =
    let s = step (after_word (codes "schema") ts) (λ rest. schema_at n span rest) r e in
    schema_at-sound n span whole s.value r (behind_two span (codes "schema") whole ts s.value front s.first) s.then
behind_spec-sound of_spec_function n span whole ts r front e =
    let s = step (after_word (codes "fun") ts) (λ rest. spec_function_at n span rest) r e in
    spec_function_at-sound n span whole s.value r (behind_two span (codes "fun") whole ts s.value front s.first) s.then
behind_spec-sound of_loop n span whole ts r front e = loop_at-sound n span whole ts r front e

-- A block of a slot that is read is proper, and the tokens before the remaining ones spell it.
pub spec_block_at-sound : (slot : Slot) (n : ℕ) (ts : List Token) (r : Spec × List Token) → spec_block_at slot n ts ≡ Some r → Begins (spec_tree_spelling r.0) ts r.1 × IsProperBlock slot r.0
unfolding spec_block_at
spec_block_at-sound slot n ts r e =
    let w = step (word_span_at (codes "spec") ts) (λ p. behind_spec slot n p.0 p.1) r e in
    behind_spec-sound slot n w.value.0 ts w.value.1 r (word_span_at-sound (codes "spec") ts w.value w.first) w.then

-- a block after `spec`
abbrev pub behind : Spec → List Lexeme
behind (module_spec span clauses) = word (codes "module") None ∷ clause_block_spelling clauses
behind (named_spec span name clauses) = identifier name ∷ clause_block_spelling clauses
behind (schema_spec s) = word (codes "schema") None ∷ identifier s.name ∷ (parameters_spelling s.parameters ++ clause_block_spelling s.clauses)
behind (function_spec f) = word (codes "fun") None ∷ function_behind f
behind (loop_spec span clauses) = clause_block_spelling clauses

abbrev pub span_of : Spec → Span
span_of (module_spec span clauses) = span
span_of (named_spec span name clauses) = span
span_of (schema_spec s) = s.span
span_of (function_spec f) = f.span
span_of (loop_spec span clauses) = span

pub spec_spelled : (x : Spec) → spec_tree_spelling x ≡ spec_word (span_of x) ∷ behind x
spec_spelled (module_spec span clauses) = refl
spec_spelled (named_spec span name clauses) = refl
spec_spelled (schema_spec s) = refl
spec_spelled (function_spec f) = function_spelled f
spec_spelled (loop_spec span clauses) = refl

-- the clauses of a block, whatever its slot
block_complete : (slot : Slot) (make : List Clause → Spec) (n : ℕ) (clauses : List Clause) (ts rest : List Token) → length ts ≤ n → Begins (clause_block_spelling clauses) ts rest → AreProperClauses slot clauses
    → option_map {U = Spec × List Token} (λ c. (make c.0, c.1)) (block_at slot (suc n) ts) ≡ Some (make clauses, rest)
block_complete slot make n clauses ts rest h b q = map_some (block_at slot (suc n) ts) (λ c. (make c.0, c.1)) (clauses, rest) (block_at-complete slot n clauses ts rest h b q)

behind_spec-complete : (slot : Slot) (n : ℕ) (x : Spec) (ts rest : List Token) → length ts ≤ n → Begins (behind x) ts rest → IsProperBlock slot x → behind_spec slot (suc n) (span_of x) ts ≡ Some (x, rest)
unfolding behind_spec module_at loop_at
behind_spec-complete of_function n (named_spec span name clauses) ts rest h b q = named_at-complete of_function n span name clauses ts rest h b q.0 q.1
behind_spec-complete of_struct n (named_spec span name clauses) ts rest h b q = named_at-complete of_struct n span name clauses ts rest h b q.0 q.1
behind_spec-complete of_module n (module_spec span clauses) ts rest h b q =
    let w = Begins-first (word (codes "module") None) (clause_block_spelling clauses) ts rest b in
    bind_some (after_word (codes "module") ts) (λ rest. module_at (suc n) span rest) w.mid (after_word-complete (codes "module") ts w.mid w.front)
    ∙ block_complete of_module (module_spec span) n clauses w.mid rest (omega (arith, h, length-Begins (word (codes "module") None ∷ []) ts w.mid w.front)) w.back q
behind_spec-complete of_schema n (schema_spec s) ts rest h b q =
    let w = Begins-first (word (codes "schema") None) (identifier s.name ∷ (parameters_spelling s.parameters ++ clause_block_spelling s.clauses)) ts rest b in
    bind_some (after_word (codes "schema") ts) (λ rest. schema_at (suc n) s.span rest) w.mid (after_word-complete (codes "schema") ts w.mid w.front)
    ∙ schema_at-complete n s w.mid rest (omega (arith, h, length-Begins (word (codes "schema") None ∷ []) ts w.mid w.front)) w.back q
behind_spec-complete of_spec_function n (function_spec f) ts rest h b q =
    let w = Begins-first (word (codes "fun") None) (function_behind f) ts rest b in
    bind_some (after_word (codes "fun") ts) (λ rest. spec_function_at (suc n) f.span rest) w.mid (after_word-complete (codes "fun") ts w.mid w.front)
    ∙ spec_function_at-complete n f w.mid rest (omega (arith, h, length-Begins (word (codes "fun") None ∷ []) ts w.mid w.front)) w.back q
behind_spec-complete of_loop n (loop_spec span clauses) ts rest h b q = block_complete of_loop (loop_spec span) n clauses ts rest h b q
behind_spec-complete of_function n (module_spec span clauses) ts rest h b q = absurd q
behind_spec-complete of_function n (schema_spec s) ts rest h b q = absurd q
behind_spec-complete of_function n (function_spec f) ts rest h b q = absurd q
behind_spec-complete of_function n (loop_spec span clauses) ts rest h b q = absurd q
behind_spec-complete of_struct n (module_spec span clauses) ts rest h b q = absurd q
behind_spec-complete of_struct n (schema_spec s) ts rest h b q = absurd q
behind_spec-complete of_struct n (function_spec f) ts rest h b q = absurd q
behind_spec-complete of_struct n (loop_spec span clauses) ts rest h b q = absurd q
behind_spec-complete of_module n (named_spec span name clauses) ts rest h b q = absurd q
behind_spec-complete of_module n (schema_spec s) ts rest h b q = absurd q
behind_spec-complete of_module n (function_spec f) ts rest h b q = absurd q
behind_spec-complete of_module n (loop_spec span clauses) ts rest h b q = absurd q
behind_spec-complete of_schema n (module_spec span clauses) ts rest h b q = absurd q
behind_spec-complete of_schema n (named_spec span name clauses) ts rest h b q = absurd q
behind_spec-complete of_schema n (function_spec f) ts rest h b q = absurd q
behind_spec-complete of_schema n (loop_spec span clauses) ts rest h b q = absurd q
behind_spec-complete of_spec_function n (module_spec span clauses) ts rest h b q = absurd q
behind_spec-complete of_spec_function n (named_spec span name clauses) ts rest h b q = absurd q
behind_spec-complete of_spec_function n (schema_spec s) ts rest h b q = absurd q
behind_spec-complete of_spec_function n (loop_spec span clauses) ts rest h b q = absurd q
behind_spec-complete of_loop n (module_spec span clauses) ts rest h b q = absurd q
behind_spec-complete of_loop n (named_spec span name clauses) ts rest h b q = absurd q
behind_spec-complete of_loop n (schema_spec s) ts rest h b q = absurd q
behind_spec-complete of_loop n (function_spec f) ts rest h b q = absurd q

-- Each proper block of a slot is read from the tokens that spell it, whatever follows.
pub spec_block_at-complete : (slot : Slot) (n : ℕ) (x : Spec) (ts rest : List Token) → length ts ≤ n → Begins (spec_tree_spelling x) ts rest → IsProperBlock slot x → spec_block_at slot (suc n) ts ≡ Some (x, rest)
unfolding spec_block_at
spec_block_at-complete slot n x ts rest h b q =
    let w = Begins-first (spec_word (span_of x)) (behind x) ts rest (Begins-same _ _ ts rest (spec_spelled x) b) in
    bind_some (word_span_at (codes "spec") ts) (λ p. behind_spec slot (suc n) p.0 p.1) (span_of x, w.mid) (word_span_at-complete (codes "spec") (span_of x) ts w.mid w.front)
    ∙ behind_spec-complete slot n x w.mid rest (omega (arith, h, length-Begins (spec_word (span_of x) ∷ []) ts w.mid w.front)) w.back q
