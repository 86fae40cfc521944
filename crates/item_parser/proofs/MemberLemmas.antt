-- Members are read exactly.
use Rattle.std.proofs.Common.{◌≡◌, ℕ, suc, ◌<◌, ◌≤◌, true, false, cond, List, [], ◌∷◌, ◌++◌, Option, Some, None, length, refl, sym, ap, subst, ◌∙◌, inl, inr, arith, append_assoc}
use Rattle.std.specs.Prelude.{codes, map, option_and_then}
use Rattle.std.specs.List.{AllByRecursion, flat_map}
use Rattle.base.specs.declared.span.Span.{Span}
use Rattle.tokens.specs.declared.token.Token.{Token}
use Rattle.tokens.specs.declared.token.TokenKind.{TokenKind}
use Rattle.tokens.specs.declared.token.TokenKind.TheVariants.{Word, Punctuation}
use Rattle.tokens.specs.declared.token.Punctuation.{Punctuation as Sign}
use Rattle.tokens.specs.declared.token.Punctuation.TheVariants.{LeftParenthesis, RightParenthesis, LeftBrace, RightBrace, Semicolon, Colon, ColonColon, Equal, Less, NumberSign}
use Rattle.syntax_tree.specs.declared.lexeme.Identifier.{Identifier}
use Rattle.syntax_tree.specs.declared.lexeme.Lexeme.{Lexeme}
use Rattle.syntax_tree.specs.Lexemes.{AreTokens, word, sign, sign_at, identifier, comma_list}
use Rattle.syntax_tree.specs.NameRules.{IsName}
use Rattle.syntax_tree.specs.PathSpelling.{path_spelling}
use Rattle.syntax_tree.specs.SpecTokenSpelling.{kept}
use Rattle.syntax_tree.specs.TypeSpelling.{type_spelling}
use Rattle.syntax_tree.specs.ExpressionSpelling.{expression_spelling, block_spelling, annotation_spelling}
use Rattle.syntax_tree.specs.ProperExpressions.{IsProperAnnotation}
use Rattle.syntax_tree.specs.declared.member.Constant.{Constant}
use Rattle.syntax_tree.specs.declared.member.Function.{Function}
use Rattle.syntax_tree.specs.declared.member.Visibility.{Visibility}
use Rattle.syntax_tree.specs.declared.member.Visibility.TheVariants.{Module as in_module, Public, Friends}
use Rattle.syntax_tree.specs.declared.member.MemberForm.{MemberForm}
use Rattle.syntax_tree.specs.declared.member.MemberForm.TheVariants.{Use as use_form, Friend as friend_form, Struct as struct_form, Constant as constant_form, Function as function_form, Spec as spec_form}
use Rattle.syntax_tree.specs.FileData.{MemberData}
use Rattle.syntax_tree.specs.MemberData.{PathsData}
use Rattle.syntax_tree.specs.MemberSpelling.{attribute_spelling, parameters_spelling, typed_names_spelling, constant_spelling, visibility_spelling, entry_spelling, acquires_word, acquires_spelling, inputs_spelling, function_spelling, form_spelling, member_spelling}
use Rattle.syntax_tree.specs.ProperMembers.{AreAny, AreProperParameters, IsProperInput, IsProperConstant, AreProperPaths, IsProperFunction, IsProperForm, IsProperMember}
use Rattle.parser_base.specs.Beginnings.{Begins}
use Rattle.parser_base.specs.TokenReading.{is_sign, is_word, after_sign, sign_span_at, word_span_at, identifier_at, begins_capital}
use Rattle.parser_base.proofs.Steps.{step, last, either, if_read, bind_some, map_some, map_or_none, map_or_some, cond_true}
use Rattle.parser_base.proofs.BeginLemmas.{Begins-append, Begins-split, Begins-first, Begins-same, length-Begins}
use Rattle.parser_base.proofs.TokenLemmas.{after_sign-sound, after_sign-complete, after_sign-begins, after_sign-other, sign_span_at-sound, sign_span_at-complete, word_span_at-sound, word_span_at-complete, word_span_at-other, identifier_at-sound, identifier_at-complete, begins_capital-sound, begins_capital-complete}
use Rattle.parser_base.specs.KeptReading.{member_spec_at}
use Rattle.parser_base.proofs.KeptLemmas.{member_spec_first, member_spec_at-sound, member_spec_at-complete}
use Rattle.parser_base.proofs.FirstLemmas.{First, First-weaker, word_span_at-first, after_sign-first}
use Rattle.parser_base.specs.TypeReading.{type_at}
use Rattle.parser_base.proofs.TypeLemmas.{type_at-sound, type_at-complete}
use Rattle.expression_parser.specs.ExpressionReading.{readers, expression_at, body_block_at}
use Rattle.expression_parser.proofs.Sound.{expression_at-sound}
use Rattle.expression_parser.proofs.Complete.{expression_at-complete}
use Rattle.parser_base.proofs.EndLemmas.{follows_sign}
use Rattle.expression_parser.proofs.BlockLemmas.{body_block-sound, block_span, block_inside, body_block_spelled, body_block-complete}
use Rattle.item_parser.specs.AttributeReading.{attributes_at}
use Rattle.item_parser.specs.ImportReading.{use_at, friend_at}
use Rattle.parser_base.specs.ParameterReading.{parameters_at}
use Rattle.parser_base.specs.TypedNameReading.{inputs_at}
use Rattle.item_parser.specs.HeaderReading.{visibility_at, entry_at, acquires_at}
use Rattle.parser_base.specs.LeafReading.{annotation_at}
use Rattle.item_parser.specs.StructReading.{struct_at}
use Rattle.item_parser.proofs.AttributeLemmas.{attributes_at-sound, attributes_at-complete}
use Rattle.item_parser.proofs.ImportLemmas.{use_at-sound, use_behind, use_at-complete, friend_at-sound, friend_behind, friend_at-complete}
use Rattle.parser_base.proofs.ParameterLemmas.{parameters_at-sound, parameters_at-complete}
use Rattle.parser_base.proofs.TypedNameLemmas.{inputs_at-sound, inputs_at-complete}
use Rattle.item_parser.proofs.HeaderLemmas.{visibility_at-sound, visibility_at-complete, entry_at-sound, entry_at-complete, annotation_at-sound, annotation_at-complete, acquires_at-sound, acquires_at-complete}
use Rattle.item_parser.proofs.StructLemmas.{struct_at-sound, struct_behind, struct_at-complete}
use Rattle.item_parser.specs.declared.function.Signature.{Signature}
use Rattle.item_parser.specs.MemberReading.{constant_behind_name, constant_at, signature_at, function_behind, function_at, form_at, member_at}

-- ---- constants

-- a constant after its name
abbrev constant_tail : Constant → List Lexeme
constant_tail c = ((sign Colon ∷ type_spelling c.annotation) ++ sign Equal ∷ expression_spelling c.value) ++ sign Semicolon ∷ []

constant_behind_name-sound : (n : ℕ) (span : Span) (name : Identifier) (whole ts : List Token) (r : Constant × List Token) → Begins (word (codes "const") (Some span) ∷ identifier name ∷ []) whole ts → IsName name.text → begins_capital name.text ≡ true
    → constant_behind_name n span name ts ≡ Some r → Begins (constant_spelling r.0) whole r.1 × IsProperConstant r.0
unfolding constant_behind_name
constant_behind_name-sound n span name whole ts r front p c e =
    let o = step (after_sign Colon ts) _ r e in
    let t = step (type_at n o.value) _ r o.then in
    let q = step (after_sign Equal t.value.1) _ r t.then in
    let v = step (expression_at n 0 q.value) _ r q.then in
    let l = last (after_sign Semicolon v.value.1) _ r v.then in
    let annotation = type_at-sound n o.value t.value t.first in
    let value = (expression_at-sound n 0 q.value v.value (omega arith) v.first).joined in
    let typed = Begins-append (sign Colon ∷ []) (type_spelling t.value.0) ts o.value t.value.1 (after_sign-sound Colon ts o.value o.first) annotation.0 in
    let valued = Begins-append (sign Equal ∷ []) (expression_spelling v.value.0) t.value.1 q.value v.value.1 (after_sign-sound Equal t.value.1 q.value q.first) value.spelled in
    subst (λ q. Begins (constant_spelling q.0) whole q.1 × IsProperConstant q.0) l.then (
      Begins-append (word (codes "const") (Some span) ∷ identifier name ∷ []) (((sign Colon ∷ type_spelling t.value.0) ++ sign Equal ∷ expression_spelling v.value.0) ++ sign Semicolon ∷ []) whole ts l.value front
          (Begins-append ((sign Colon ∷ type_spelling t.value.0) ++ sign Equal ∷ expression_spelling v.value.0) (sign Semicolon ∷ []) ts v.value.1 l.value
          (Begins-append (sign Colon ∷ type_spelling t.value.0) (sign Equal ∷ expression_spelling v.value.0) ts t.value.1 v.value.1 typed valued) (after_sign-sound Semicolon v.value.1 l.value l.first)),
      (p, begins_capital-sound name.text c, annotation.1, value.is_proper),
    )

constant_at-sound : (n : ℕ) (span : Span) (whole ts : List Token) (r : Constant × List Token) → Begins (word (codes "const") (Some span) ∷ []) whole ts → constant_at n span ts ≡ Some r → Begins (constant_spelling r.0) whole r.1 × IsProperConstant r.0
unfolding constant_at
constant_at-sound n span whole ts r front e =
    let i = step (identifier_at ts) _ r e in
    let c = if_read (begins_capital i.value.0.text) (constant_behind_name n span i.value.0 i.value.1) r i.then in
    let name = identifier_at-sound ts i.value i.first in
    constant_behind_name-sound n span i.value.0 whole i.value.1 r (Begins-append (word (codes "const") (Some span) ∷ []) (identifier i.value.0 ∷ []) whole ts i.value.1 front name.0) name.1 c.0 c.1

constant_at-complete : (n : ℕ) (c : Constant) (ts rest : List Token) → length ts ≤ n → Begins (identifier c.name ∷ constant_tail c) ts rest → IsProperConstant c → constant_at (suc n) c.span ts ≡ Some (c, rest)
unfolding constant_at constant_behind_name
constant_at-complete n c ts rest h b p =
    let i = Begins-first (identifier c.name) (constant_tail c) ts rest b in
    let d = Begins-split ((sign Colon ∷ type_spelling c.annotation) ++ sign Equal ∷ expression_spelling c.value) (sign Semicolon ∷ []) i.mid rest i.back in
    let v = Begins-split (sign Colon ∷ type_spelling c.annotation) (sign Equal ∷ expression_spelling c.value) i.mid d.mid d.front in
    let o = Begins-first (sign Colon) (type_spelling c.annotation) i.mid v.mid v.front in
    let q = Begins-first (sign Equal) (expression_spelling c.value) v.mid d.mid v.back in
    let k : length o.mid ≤ n = omega (arith, h, length-Begins (identifier c.name ∷ []) ts i.mid i.front, length-Begins (sign Colon ∷ []) i.mid o.mid o.front) in
    bind_some (identifier_at ts) (λ name. cond (begins_capital name.0.text) (constant_behind_name (suc n) c.span name.0 name.1) None) (c.name, i.mid) (identifier_at-complete c.name ts i.mid i.front p.0)
    ∙ cond_true (begins_capital c.name.text) (constant_behind_name (suc n) c.span c.name i.mid) None (begins_capital-complete c.name.text p.1)
    ∙ bind_some (after_sign Colon i.mid) _ o.mid (after_sign-complete Colon i.mid o.mid o.front)
    ∙ bind_some (type_at (suc n) o.mid) _ (c.annotation, v.mid) (type_at-complete n c.annotation o.mid v.mid k o.back p.2 (after_sign-other ColonColon (sign Equal) [] v.mid q.mid refl q.front, after_sign-other Less (sign Equal) [] v.mid q.mid refl q.front))
    ∙ bind_some (after_sign Equal v.mid) _ q.mid (after_sign-complete Equal v.mid q.mid q.front)
    ∙ bind_some (expression_at (suc n) 0 q.mid) _ (c.value, d.mid)
    (expression_at-complete n 0 c.value q.mid d.mid (omega (arith, k, length-Begins (type_spelling c.annotation) o.mid v.mid o.back, length-Begins (sign Equal ∷ []) v.mid q.mid q.front)) q.back p.3 (omega arith) (follows_sign Semicolon c.value [] d.mid rest refl d.back))
    ∙ map_some (after_sign Semicolon d.mid) (λ rest. (c, rest)) rest (after_sign-complete Semicolon d.mid rest d.back)

-- ---- functions

record SignatureRead (s : Signature) (ts rest : List Token) : Type 0 where
  named : List Token
  behind_inputs : List Token
  behind_result : List Token
  head : Begins (identifier s.name ∷ parameters_spelling s.parameters) ts named
  inputs : Begins (inputs_spelling s.inputs) named behind_inputs
  result : Begins (annotation_spelling s.result) behind_inputs behind_result
  acquires : Begins (acquires_spelling s.acquires) behind_result rest
  is_name : IsName s.name.text
  parameters_proper : AreProperParameters false s.parameters
  inputs_proper : AllByRecursion IsProperInput s.inputs.items
  inputs_filled : s.inputs.last_comma ≡ true → AreAny s.inputs.items
  result_proper : IsProperAnnotation s.result
  acquires_proper : AreProperPaths s.acquires

signature_at-sound : (n : ℕ) (ts : List Token) (r : Signature × List Token) → signature_at n ts ≡ Some r → SignatureRead r.0 ts r.1
unfolding signature_at
signature_at-sound n ts r e =
    let i = step (identifier_at ts) _ r e in
    let p = step (parameters_at false i.value.1) _ r i.then in
    let o = step (after_sign LeftParenthesis p.value.1) _ r p.then in
    let x = step (inputs_at (type_at n) o.value) _ r o.then in
    let t = step (annotation_at (type_at n) x.value.1) _ r x.then in
    let l = last (acquires_at t.value.1) _ r t.then in
    let name = identifier_at-sound ts i.value i.first in
    let parameters = parameters_at-sound false i.value.1 p.value p.first in
    let inputs = inputs_at-sound n o.value x.value x.first in
    let result = annotation_at-sound n x.value.1 t.value t.first in
    let acquires = acquires_at-sound t.value.1 l.value l.first in
    subst (λ q. SignatureRead q.0 ts q.1) l.then (record {
      named = p.value.1;
      behind_inputs = x.value.1;
      behind_result = t.value.1;
      head = Begins-append (identifier i.value.0 ∷ []) (parameters_spelling p.value.0) ts i.value.1 p.value.1 name.0 parameters.0;
      inputs = Begins-append (sign LeftParenthesis ∷ []) (typed_names_spelling x.value.0 ++ sign RightParenthesis ∷ []) p.value.1 o.value x.value.1 (after_sign-sound LeftParenthesis p.value.1 o.value o.first) inputs.0;
      result = result.0;
      acquires = acquires.0;
      is_name = name.1;
      parameters_proper = parameters.1;
      inputs_proper = inputs.1;
      inputs_filled = inputs.2;
      result_proper = result.1;
      acquires_proper = acquires.1;
    })

function_behind-sound : (n : ℕ) (v : Visibility) (entry : Option Span) (span : Span) (whole mid ts : List Token) (r : Function × List Token) → Begins (visibility_spelling v ++ entry_spelling entry) whole mid → Begins (word (codes "fun") (Some span) ∷ []) mid ts
    → function_behind n v entry span ts ≡ Some r → Begins (function_spelling r.0) whole r.1 × IsProperFunction r.0
unfolding function_behind
function_behind-sound n v entry span whole mid ts r front word_front e =
    let s = step (signature_at n ts) _ r e in
    let o = step (sign_span_at LeftBrace s.value.1) _ r s.then in
    let l = last (body_block_at (readers n) o.value.0 o.value.1) _ r o.then in
    let g = signature_at-sound n ts s.value s.first in
    let body = body_block-sound n o.value.0 s.value.1 o.value.1 l.value (sign_span_at-sound LeftBrace s.value.1 o.value o.first) l.first in
    let d = s.value.0 in
    let named = Begins-append (visibility_spelling v ++ entry_spelling entry) (word (codes "fun") (Some span) ∷ identifier d.name ∷ parameters_spelling d.parameters) whole mid g.named front
    (Begins-append (word (codes "fun") (Some span) ∷ []) (identifier d.name ∷ parameters_spelling d.parameters) mid ts g.named word_front g.head) in
    let name = (visibility_spelling v ++ entry_spelling entry) ++ word (codes "fun") (Some span) ∷ identifier d.name ∷ parameters_spelling d.parameters in
    let with_inputs = Begins-append name (inputs_spelling d.inputs) whole g.named g.behind_inputs named g.inputs in
    let with_result = Begins-append (name ++ inputs_spelling d.inputs) (annotation_spelling d.result) whole g.behind_inputs g.behind_result with_inputs g.result in
    let with_acquires = Begins-append ((name ++ inputs_spelling d.inputs) ++ annotation_spelling d.result) (acquires_spelling d.acquires) whole g.behind_result s.value.1 with_result g.acquires in
    subst (λ q. Begins (function_spelling q.0) whole q.1 × IsProperFunction q.0) l.then (
      Begins-append (((name ++ inputs_spelling d.inputs) ++ annotation_spelling d.result) ++ acquires_spelling d.acquires) (block_spelling l.value.0) whole s.value.1 l.value.1 with_acquires body.0,
      (g.is_name, g.parameters_proper, g.inputs_proper, g.inputs_filled, g.result_proper, g.acquires_proper, body.1),
    )

function_at-sound : (n : ℕ) (ts : List Token) (r : Function × List Token) → function_at n ts ≡ Some r → Begins (function_spelling r.0) ts r.1 × IsProperFunction r.0
unfolding function_at
function_at-sound n ts r e =
    let v = step (visibility_at ts) _ r e in
    let f = step (word_span_at (codes "fun") (entry_at v.value.1).1) _ r v.then in
    function_behind-sound n v.value.0 (entry_at v.value.1).0 f.value.0 ts (entry_at v.value.1).1 f.value.1 r
    (Begins-append (visibility_spelling v.value.0) (entry_spelling (entry_at v.value.1).0) ts v.value.1 (entry_at v.value.1).1 (visibility_at-sound ts v.value v.first) (entry_at-sound v.value.1))
    (word_span_at-sound (codes "fun") (entry_at v.value.1).1 f.value f.first) f.then

-- the tokens between the inputs of a function and its brace begin with no other sign
acquires_end : (s : Sign) (a : Option PathsData) (ts mid inside : List Token) → is_sign s (Punctuation LeftBrace) ≡ false → Begins (acquires_spelling a) ts mid → after_sign LeftBrace mid ≡ Some inside → after_sign s ts ≡ None
unfolding acquires_word
acquires_end s None ts mid inside e b f = ap (after_sign s) b ∙ after_sign-other s (sign LeftBrace) [] mid inside e (after_sign-sound LeftBrace mid inside f)
acquires_end s (Some p) ts mid inside e b f = after_sign-other s (word (codes "acquires") None) (comma_list (map path_spelling p.items) p.last_comma) ts mid refl b

-- a function after its word
abbrev function_tail : Function → List Lexeme
function_tail f = ((((identifier f.name ∷ parameters_spelling f.parameters) ++ inputs_spelling f.inputs) ++ annotation_spelling f.result) ++ acquires_spelling f.acquires) ++ block_spelling f.body

function_behind-complete : (n : ℕ) (f : Function) (ts rest : List Token) → length ts ≤ n → Begins (function_tail f) ts rest → IsProperFunction f → function_behind (suc n) f.visibility f.entry f.span ts ≡ Some (f, rest)
unfolding function_behind signature_at
function_behind-complete n f ts rest h b p =
    let name = identifier f.name ∷ parameters_spelling f.parameters in
    let w = Begins-split (((name ++ inputs_spelling f.inputs) ++ annotation_spelling f.result) ++ acquires_spelling f.acquires) (block_spelling f.body) ts rest b in
    let a = Begins-split ((name ++ inputs_spelling f.inputs) ++ annotation_spelling f.result) (acquires_spelling f.acquires) ts w.mid w.front in
    let t = Begins-split (name ++ inputs_spelling f.inputs) (annotation_spelling f.result) ts a.mid a.front in
    let x = Begins-split name (inputs_spelling f.inputs) ts t.mid t.front in
    let i = Begins-first (identifier f.name) (parameters_spelling f.parameters) ts x.mid x.front in
    let o = Begins-first (sign LeftParenthesis) (typed_names_spelling f.inputs ++ sign RightParenthesis ∷ []) x.mid t.mid x.back in
    let body = Begins-first (sign_at (block_span f.body) LeftBrace) (block_inside f.body) w.mid rest (Begins-same _ _ w.mid rest (body_block_spelled f.body p.6) w.back) in
    let brace = after_sign-begins LeftBrace (sign_at (block_span f.body) LeftBrace) w.mid body.mid refl body.front in
    let k : length o.mid ≤ n = omega (arith, h, length-Begins name ts x.mid x.front, length-Begins (sign LeftParenthesis ∷ []) x.mid o.mid o.front) in
    let l : length t.mid ≤ n = omega (arith, k, length-Begins (typed_names_spelling f.inputs ++ sign RightParenthesis ∷ []) o.mid t.mid o.back) in
    let m : length body.mid ≤ n =
    omega (arith, l, length-Begins (annotation_spelling f.result) t.mid a.mid t.back, length-Begins (acquires_spelling f.acquires) a.mid w.mid a.back, length-Begins (sign_at (block_span f.body) LeftBrace ∷ []) w.mid body.mid body.front) in
    bind_some (signature_at (suc n) ts) _ (record { name = f.name; parameters = f.parameters; inputs = f.inputs; result = f.result; acquires = f.acquires }, w.mid)
    (bind_some (identifier_at ts) _ (f.name, i.mid) (identifier_at-complete f.name ts i.mid i.front p.0)
    ∙ bind_some (parameters_at false i.mid) _ (f.parameters, x.mid) (parameters_at-complete false f.parameters i.mid x.mid i.back p.1 (after_sign-other Less (sign LeftParenthesis) [] x.mid o.mid refl o.front))
    ∙ bind_some (after_sign LeftParenthesis x.mid) _ o.mid (after_sign-complete LeftParenthesis x.mid o.mid o.front)
    ∙ bind_some (inputs_at (type_at (suc n)) o.mid) _ (f.inputs, t.mid) (inputs_at-complete n f.inputs o.mid t.mid k o.back p.2 p.3)
    ∙ bind_some (annotation_at (type_at (suc n)) t.mid) _ (f.result, a.mid)
    (annotation_at-complete n f.result t.mid a.mid l t.back p.4 (acquires_end Colon f.acquires a.mid w.mid body.mid refl a.back brace) (acquires_end ColonColon f.acquires a.mid w.mid body.mid refl a.back brace, acquires_end Less f.acquires a.mid w.mid body.mid refl a.back brace))
    ∙ map_some (acquires_at a.mid) _ (f.acquires, w.mid) (acquires_at-complete f.acquires a.mid w.mid body.mid a.back p.5 brace))
    ∙ bind_some (sign_span_at LeftBrace w.mid) _ (block_span f.body, body.mid) (sign_span_at-complete LeftBrace (block_span f.body) w.mid body.mid body.front)
    ∙ map_some (body_block_at (readers (suc n)) (block_span f.body) body.mid) _ (f.body, rest) (body_block-complete n f.body body.mid rest m body.back p.6)

-- the spelling of a function, with its word separated
function_spelled : (f : Function) → function_spelling f ≡ (visibility_spelling f.visibility ++ entry_spelling f.entry) ++ word (codes "fun") (Some f.span) ∷ function_tail f
function_spelled f = regroup (visibility_spelling f.visibility ++ entry_spelling f.entry) (word (codes "fun") (Some f.span)) (identifier f.name ∷ parameters_spelling f.parameters) (inputs_spelling f.inputs) (annotation_spelling f.result) (acquires_spelling f.acquires) (block_spelling f.body)
  where
    regroup : (v : List Lexeme) (w : Lexeme) (n i t a b : List Lexeme) → ((((v ++ w ∷ n) ++ i) ++ t) ++ a) ++ b ≡ v ++ w ∷ ((((n ++ i) ++ t) ++ a) ++ b)
    regroup v w n i t a b =
        ap (λ l. ((l ++ t) ++ a) ++ b) (append_assoc v (w ∷ n) i) ∙ ap (λ l. (l ++ a) ++ b) (append_assoc v (w ∷ (n ++ i)) t)
        ∙ ap (λ l. l ++ b) (append_assoc v (w ∷ ((n ++ i) ++ t)) a) ∙ append_assoc v (w ∷ (((n ++ i) ++ t) ++ a)) b

function_at-complete : (n : ℕ) (f : Function) (ts rest : List Token) → length ts ≤ suc n → Begins (function_spelling f) ts rest → IsProperFunction f → function_at (suc n) ts ≡ Some (f, rest)
unfolding function_at
function_at-complete n f ts rest h b p =
    let w = Begins-split (visibility_spelling f.visibility ++ entry_spelling f.entry) (word (codes "fun") (Some f.span) ∷ function_tail f) ts rest (Begins-same _ _ ts rest (function_spelled f) b) in
    let v = Begins-split (visibility_spelling f.visibility) (entry_spelling f.entry) ts w.mid w.front in
    let k = Begins-first (word (codes "fun") (Some f.span)) (function_tail f) w.mid rest w.back in
    bind_some (visibility_at ts) _ (f.visibility, v.mid) (visibility_at-complete f.visibility ts v.mid v.front (behind_visibility f.entry f.span v.mid w.mid k.mid v.back k.front))
    ∙ ap (λ e. option_and_then (λ span. function_behind (suc n) f.visibility e.0 span.0 span.1) (word_span_at (codes "fun") e.1)) (entry_at-complete f.entry v.mid w.mid v.back (word_span_at-other (codes "entry") (word (codes "fun") (Some f.span)) [] w.mid k.mid refl k.front))
    ∙ bind_some (word_span_at (codes "fun") w.mid) _ (f.span, k.mid) (word_span_at-complete (codes "fun") f.span w.mid k.mid k.front)
    ∙ function_behind-complete n f k.mid rest (omega (arith, h, length-Begins (visibility_spelling f.visibility ++ entry_spelling f.entry) ts w.mid w.front, length-Begins (word (codes "fun") (Some f.span) ∷ []) w.mid k.mid k.front)) k.back p
  where
    behind_visibility : (entry : Option Span) (span : Span) (ts mid rest : List Token) → Begins (entry_spelling entry) ts mid → Begins (word (codes "fun") (Some span) ∷ []) mid rest → (word_span_at (codes "public") ts ≡ None) × (after_sign LeftParenthesis ts ≡ None)
    behind_visibility None span ts mid rest b c =
        (ap (word_span_at (codes "public")) b ∙ word_span_at-other (codes "public") (word (codes "fun") (Some span)) [] mid rest refl c, ap (after_sign LeftParenthesis) b ∙ after_sign-other LeftParenthesis (word (codes "fun") (Some span)) [] mid rest refl c)
    behind_visibility (Some p) span ts mid rest b c = (word_span_at-other (codes "public") (word (codes "entry") (Some p)) [] ts mid refl b, after_sign-other LeftParenthesis (word (codes "entry") (Some p)) [] ts mid refl b)

-- ---- members

form_at-sound : (n : ℕ) (ts : List Token) (r : MemberForm × List Token) → form_at n ts ≡ Some r → Begins (form_spelling r.0) ts r.1 × IsProperForm r.0
unfolding form_at
form_at-sound n ts r e =
    elim (either (word_span_at (codes "use") ts) _ _ r e) [
      | inl s ↦
          let l = last (use_at s.value.0 s.value.1) (λ x. (use_form x.0, x.1)) r s.then in
          subst (λ q. Begins (form_spelling q.0) ts q.1 × IsProperForm q.0) l.then (use_at-sound s.value.0 ts s.value.1 l.value (word_span_at-sound (codes "use") ts s.value s.first) l.first)
      | inr m ↦ elim (either (word_span_at (codes "friend") ts) _ _ r m.1) [
        | inl s ↦
            let l = last (friend_at s.value.0 s.value.1) (λ x. (friend_form x.0, x.1)) r s.then in
            subst (λ q. Begins (form_spelling q.0) ts q.1 × IsProperForm q.0) l.then (friend_at-sound s.value.0 ts s.value.1 l.value (word_span_at-sound (codes "friend") ts s.value s.first) l.first)
        | inr m ↦ elim (either (word_span_at (codes "struct") ts) _ _ r m.1) [
          | inl s ↦
              let l = last (struct_at (type_at n) s.value.0 s.value.1) (λ x. (struct_form x.0, x.1)) r s.then in
              subst (λ q. Begins (form_spelling q.0) ts q.1 × IsProperForm q.0) l.then (struct_at-sound n s.value.0 ts s.value.1 l.value (word_span_at-sound (codes "struct") ts s.value s.first) l.first)
          | inr m ↦ elim (either (word_span_at (codes "const") ts) _ _ r m.1) [
            | inl s ↦
                let l = last (constant_at n s.value.0 s.value.1) (λ x. (constant_form x.0, x.1)) r s.then in
                subst (λ q. Begins (form_spelling q.0) ts q.1 × IsProperForm q.0) l.then (constant_at-sound n s.value.0 ts s.value.1 l.value (word_span_at-sound (codes "const") ts s.value s.first) l.first)
            | inr m ↦ elim (either (word_span_at (codes "spec") ts) _ _ r m.1) [
              | inl s ↦
                  let l = last (member_spec_at ts) (λ x. (spec_form x.0, x.1)) r s.then in
                  subst (λ q. Begins (form_spelling q.0) ts q.1 × IsProperForm q.0) l.then (member_spec_at-sound ts l.value l.first)
              | inr m ↦
                  let l = last (function_at n ts) (λ x. (function_form x.0, x.1)) r m.1 in
                  subst (λ q. Begins (form_spelling q.0) ts q.1 × IsProperForm q.0) l.then (function_at-sound n ts l.value l.first)
            ]
          ]
        ]
      ]
    ]

-- the first tokens of a function
function_first : (P : TokenKind → Type 0) (f : Function) → P (Word (codes "public")) → P (Word (codes "entry")) → P (Word (codes "fun")) → First P (function_spelling f)
function_first P f a b c = subst (First P) (sym (function_spelled f)) (go f.visibility f.entry (function_tail f))
  where
    go : (v : Visibility) (e : Option Span) (ls : List Lexeme) → First P ((visibility_spelling v ++ entry_spelling e) ++ word (codes "fun") (Some f.span) ∷ ls)
    go in_module None ls = c
    go in_module (Some p) ls = b
    go (Public span) e ls = a
    go (Friends span) e ls = a

function_no_word : (w : List ℕ) (f : Function) (ts rest : List Token) → is_word w (Word (codes "public")) ≡ false → is_word w (Word (codes "entry")) ≡ false → is_word w (Word (codes "fun")) ≡ false → Begins (function_spelling f) ts rest → word_span_at w ts ≡ None
function_no_word w f ts rest a b c s = word_span_at-first w (function_spelling f) ts rest (function_first (λ k. is_word w k ≡ false) f a b c) s

-- a member after its first word
headed : (w : List ℕ) (span : Span) (ls : List Lexeme) (ts rest : List Token) → Begins (word w (Some span) ∷ ls) ts rest → (other : List ℕ) → is_word other (Word w) ≡ false → word_span_at other ts ≡ None
headed w span ls ts rest b other e = word_span_at-other other (word w (Some span)) ls ts rest e b

form_at-complete : (n : ℕ) (f : MemberForm) (ts rest : List Token) → length ts ≤ suc n → Begins (form_spelling f) ts rest → IsProperForm f → form_at (suc n) ts ≡ Some (f, rest)
unfolding form_at
form_at-complete n (use_form u) ts rest h b p =
    let s = Begins-first (word (codes "use") (Some u.span)) (use_behind u) ts rest b in
    map_or_some (word_span_at (codes "use") ts) _ _ (u.span, s.mid) (word_span_at-complete (codes "use") u.span ts s.mid s.front) ∙ map_some (use_at u.span s.mid) (λ x. (use_form x.0, x.1)) (u, rest) (use_at-complete u s.mid rest s.back p)
form_at-complete n (friend_form f) ts rest h b p =
    let s = Begins-first (word (codes "friend") (Some f.span)) (friend_behind f) ts rest b in
    let no = headed (codes "friend") f.span (friend_behind f) ts rest b in
    map_or_none (word_span_at (codes "use") ts) _ _ (no (codes "use") refl)
    ∙ map_or_some (word_span_at (codes "friend") ts) _ _ (f.span, s.mid) (word_span_at-complete (codes "friend") f.span ts s.mid s.front) ∙ map_some (friend_at f.span s.mid) (λ x. (friend_form x.0, x.1)) (f, rest) (friend_at-complete f s.mid rest s.back p)
form_at-complete n (struct_form d) ts rest h b p =
    let s = Begins-first (word (codes "struct") (Some d.span)) (struct_behind d) ts rest b in
    let no = headed (codes "struct") d.span (struct_behind d) ts rest b in
    map_or_none (word_span_at (codes "use") ts) _ _ (no (codes "use") refl) ∙ map_or_none (word_span_at (codes "friend") ts) _ _ (no (codes "friend") refl)
    ∙ map_or_some (word_span_at (codes "struct") ts) _ _ (d.span, s.mid) (word_span_at-complete (codes "struct") d.span ts s.mid s.front)
    ∙ map_some (struct_at (type_at (suc n)) d.span s.mid) (λ x. (struct_form x.0, x.1)) (d, rest) (struct_at-complete n d s.mid rest (omega (arith, h, length-Begins (word (codes "struct") (Some d.span) ∷ []) ts s.mid s.front)) s.back p)
form_at-complete n (constant_form c) ts rest h b p =
    let tail = identifier c.name ∷ constant_tail c in
    let s = Begins-first (word (codes "const") (Some c.span)) tail ts rest b in
    let no = headed (codes "const") c.span tail ts rest b in
    map_or_none (word_span_at (codes "use") ts) _ _ (no (codes "use") refl) ∙ map_or_none (word_span_at (codes "friend") ts) _ _ (no (codes "friend") refl) ∙ map_or_none (word_span_at (codes "struct") ts) _ _ (no (codes "struct") refl)
    ∙ map_or_some (word_span_at (codes "const") ts) _ _ (c.span, s.mid) (word_span_at-complete (codes "const") c.span ts s.mid s.front)
    ∙ map_some (constant_at (suc n) c.span s.mid) (λ x. (constant_form x.0, x.1)) (c, rest) (constant_at-complete n c s.mid rest (omega (arith, h, length-Begins (word (codes "const") (Some c.span) ∷ []) ts s.mid s.front)) s.back p)
form_at-complete n (spec_form d) ts rest h b p =
    let w = member_spec_first d ts rest b p in
    let no = headed (codes "spec") w.span w.more ts rest w.whole in
    map_or_none (word_span_at (codes "use") ts) _ _ (no (codes "use") refl) ∙ map_or_none (word_span_at (codes "friend") ts) _ _ (no (codes "friend") refl) ∙ map_or_none (word_span_at (codes "struct") ts) _ _ (no (codes "struct") refl)
    ∙ map_or_none (word_span_at (codes "const") ts) _ _ (no (codes "const") refl)
    ∙ map_or_some (word_span_at (codes "spec") ts) _ _ (w.span, w.behind) (word_span_at-complete (codes "spec") w.span ts w.behind w.first) ∙ map_some (member_spec_at ts) (λ x. (spec_form x.0, x.1)) (d, rest) (member_spec_at-complete d ts rest b p)
form_at-complete n (function_form f) ts rest h b p =
    map_or_none (word_span_at (codes "use") ts) _ _ (function_no_word (codes "use") f ts rest refl refl refl b) ∙ map_or_none (word_span_at (codes "friend") ts) _ _ (function_no_word (codes "friend") f ts rest refl refl refl b)
    ∙ map_or_none (word_span_at (codes "struct") ts) _ _ (function_no_word (codes "struct") f ts rest refl refl refl b) ∙ map_or_none (word_span_at (codes "const") ts) _ _ (function_no_word (codes "const") f ts rest refl refl refl b)
    ∙ map_or_none (word_span_at (codes "spec") ts) _ _ (function_no_word (codes "spec") f ts rest refl refl refl b) ∙ map_some (function_at (suc n) ts) (λ x. (function_form x.0, x.1)) (f, rest) (function_at-complete n f ts rest h b p)

pub member_at-sound : (n : ℕ) (ts : List Token) (r : MemberData × List Token) → member_at n ts ≡ Some r → Begins (member_spelling r.0) ts r.1 × IsProperMember r.0
unfolding member_at
member_at-sound n ts r e =
    let a = step (attributes_at ts) _ r e in
    let l = last (form_at n a.value.1) _ r a.then in
    let attributes = attributes_at-sound ts a.value a.first in
    let form = form_at-sound n a.value.1 l.value l.first in
    subst (λ q. Begins (member_spelling q.0) ts q.1 × IsProperMember q.0) l.then (Begins-append (flat_map attribute_spelling a.value.0) (form_spelling l.value.0) ts a.value.1 l.value.1 attributes.0 form.0, (attributes.1, form.1))

-- a form begins with a word
abbrev IsSomeWord : TokenKind → Type 0
IsSomeWord (Word w) = Unit {0}
IsSomeWord _ = ⊥

kept_first : (tokens : List Token) (ls : List Lexeme) → AreTokens tokens (word (codes "spec") None ∷ ls) → First IsSomeWord (map kept tokens)
kept_first [] ls a = absurd a
kept_first (t ∷ ts) ls a = subst IsSomeWord (sym a.0.kind) tt

form_first : (f : MemberForm) → IsProperForm f → First IsSomeWord (form_spelling f)
form_first (use_form u) p = tt
form_first (friend_form f) p = tt
form_first (struct_form d) p = tt
form_first (constant_form c) p = tt
form_first (spec_form d) p = kept_first d.tokens ((map kept p.head ++ sign LeftBrace ∷ []) ++ (map kept p.body ++ sign RightBrace ∷ [])) p.tokens
form_first (function_form f) p = function_first IsSomeWord f tt tt tt

word_no_sign : (s : Sign) (k : TokenKind) → IsSomeWord k → is_sign s k ≡ false
word_no_sign s (Word w) h = refl
word_no_sign s _ h = absurd h

first_some : (P : TokenKind → Type 0) (ls : List Lexeme) → First P ls → 0 < length ls
first_some P [] f = absurd f
first_some P (l ∷ ls) f = omega arith

pub form_some : (f : MemberForm) → IsProperForm f → 0 < length (form_spelling f)
form_some f p = first_some IsSomeWord (form_spelling f) (form_first f p)

pub form_no_sign : (s : Sign) (f : MemberForm) (ts rest : List Token) → IsProperForm f → Begins (form_spelling f) ts rest → after_sign s ts ≡ None
form_no_sign s f ts rest p b = after_sign-first s (form_spelling f) ts rest (First-weaker IsSomeWord (λ k. is_sign s k ≡ false) (word_no_sign s) (form_spelling f) (form_first f p)) b

pub member_at-complete : (n : ℕ) (m : MemberData) (ts rest : List Token) → length ts ≤ suc n → Begins (member_spelling m) ts rest → IsProperMember m → member_at (suc n) ts ≡ Some (m, rest)
unfolding member_at
member_at-complete n m ts rest h b p =
    let a = Begins-split (flat_map attribute_spelling m.attributes) (form_spelling m.form) ts rest b in
    bind_some (attributes_at ts) _ (m.attributes, a.mid) (attributes_at-complete m.attributes ts a.mid a.front p.0 (form_no_sign NumberSign m.form a.mid rest p.1 a.back))
    ∙ map_some (form_at (suc n) a.mid) _ (m.form, rest) (form_at-complete n m.form a.mid rest (omega (arith, h, length-Begins (flat_map attribute_spelling m.attributes) ts a.mid a.front)) a.back p.1)
