-- An expression that is read is proper, and the tokens spell it.
use Rattle.std.proofs.Common.{◌≡◌, ℕ, zero, suc, ◌≤◌, Bool, true, false, cond, ◌&&◌, ◌==◌, List, [], ◌∷◌, ◌++◌, Option, Some, None, length, refl, sym, ap, subst, ◌∙◌, inl, inr, arith, append_assoc, append-nil}
use Rattle.std.specs.Prelude.{codes, map, is_some}
use Rattle.std.specs.List.{AllByRecursion}
use Rattle.std.proofs.lemmas.Bool.{eqb-true, eqb-false}
use Rattle.base.specs.declared.span.Span.{Span}
use Rattle.tokens.specs.declared.token.Token.{Token}
use Rattle.tokens.specs.declared.token.TokenKind.TheVariants.{Punctuation}
use Rattle.tokens.specs.declared.token.Punctuation.{Punctuation as Sign}
use Rattle.tokens.specs.declared.token.Punctuation.TheVariants.{LeftParenthesis, RightParenthesis, LeftBrace, RightBrace, LeftBracket, RightBracket, Less, Comma as comma_sign, Semicolon, Colon, Period, Equal, Exclaim, AtSign}
use Rattle.syntax_tree.specs.declared.lexeme.Lexeme.{Lexeme}
use Rattle.syntax_tree.specs.declared.literal.Literal.TheVariants.{Address as address_literal}
use Rattle.syntax_tree.specs.declared.path.Path.{Path}
use Rattle.syntax_tree.specs.declared.operator.BinaryOperator.{BinaryOperator}
use Rattle.syntax_tree.specs.declared.spec_tokens.KeptSpec.{KeptSpec}
use Rattle.syntax_tree.specs.Lexemes.{lexeme, word, sign, sign_at, identifier, after_commas, last_comma, comma_list}
use Rattle.syntax_tree.specs.NameRules.{IsCapital}
use Rattle.syntax_tree.specs.PathSpelling.{address_spelling, path_spelling}
use Rattle.syntax_tree.specs.SpecTokenSpelling.{kept_spelling}
use Rattle.syntax_tree.specs.KeptSpecs.{IsLoopSpec}
use Rattle.syntax_tree.specs.TypeTreeData.{SourceTypeData, MaybeArgumentsData, NoArguments, SomeArguments}
use Rattle.syntax_tree.specs.TypeSpelling.{type_spelling, maybe_arguments_spelling}
use Rattle.syntax_tree.specs.PatternSpelling.{pattern_spelling}
use Rattle.syntax_tree.specs.OperatorSpelling.{unary_spelling, use_spelling}
use Rattle.syntax_tree.specs.ProperTypes.{IsProperPath, IsOther, IsProperType, AreProperMaybeArguments, last_name}
use Rattle.syntax_tree.specs.ExpressionData.{ExpressionData, AssignExpression, IfExpression, LoopExpression, ReturnExpression, AbortExpression, BreakExpression, ContinueExpression, UnaryExpression, UseExpression, FieldExpression, LiteralExpression, PathExpression, TupleExpression, BlockExpression, NoExpression, SomeExpression, BlockOf, ItemData, ExpressionItem, FieldValueData, ShortFieldValue, LongFieldValue, NoExpressions, MoreExpressions, expressions_of, field_values_of, items_of, maybe_expression_of}
use Rattle.syntax_tree.specs.ExpressionSpelling.{expression_spelling, expression_spellings, field_value_spelling, field_value_spellings, annotation_spelling, maybe_expression_spelling, items_spelling, item_spelling, initial_spelling}
use Rattle.syntax_tree.specs.ProperExpressions.{takes_else, left_level, right_level, MayHoldSpec, Role, elsewhere, condition_of_while, body_of_loop, level, unary_level, term_level, IsProperAs, IsProperExpression, IsProperMaybe, IsProperItem, AreProperItems, IsProperFieldValue, AreProperExpressions, AreProperFieldValues, AreSomeExpressions, AreSomeValues, IsProperAnnotation, MayHaveArguments}
use Rattle.parser_base.specs.Beginnings.{Begins}
use Rattle.parser_base.specs.TokenReading.{Read, after_sign, sign_span_at, after_word, word_span_at, identifier_at, begins_capital}
use Rattle.parser_base.specs.ListReading.{Items, comma_list_at}
use Rattle.parser_base.specs.ChainReading.{whole_chain_at}
use Rattle.parser_base.proofs.Steps.{step, last, some_one, either, either_read, if_not, if_read, true_or_false}
use Rattle.parser_base.proofs.BeginLemmas.{Begins-append, Begins-split, Begins-same}
use Rattle.parser_base.proofs.TokenLemmas.{after_sign-sound, sign_span_at-sound, after_word-sound, word_span_at-sound, identifier_at-sound, begins_capital-sound}
use Rattle.parser_base.proofs.ListLemmas.{Filled, comma_list_at-sound}
use Rattle.parser_base.proofs.ChainLemmas.{Joined, chain_at-sound}
use Rattle.parser_base.specs.PathReading.{path_at, address_at, is_single}
use Rattle.parser_base.specs.TypeReading.{arguments_at, maybe_arguments_at}
use Rattle.parser_base.proofs.PathLemmas.{path_at-sound, address_at-sound, is_single-sound}
use Rattle.parser_base.proofs.TypeLemmas.{ReadsTypes, inside_spelling, arguments_spelled, arguments_at-sound, maybe_arguments_at-sound, type_at-sound}
use Rattle.parser_base.proofs.PatternLemmas.{ReadsPatterns, pattern_at-sound}
use Rattle.parser_base.specs.declared.leaf.Control.{Control}
use Rattle.parser_base.specs.declared.leaf.Control.TheVariants.{If, While, Loop, Return, Abort, Break, Continue}
use Rattle.parser_base.specs.declared.leaf.PathForm.{PathForm}
use Rattle.parser_base.specs.declared.leaf.PathForm.TheVariants.{Call, Pack, Alone}
use Rattle.parser_base.specs.declared.leaf.BehindFirst.{BehindFirst}
use Rattle.parser_base.specs.declared.leaf.BehindFirst.TheVariants.{Close, As, Comma}
use Rattle.expression_parser.specs.declared.block.BlockStep.{BlockStep}
use Rattle.expression_parser.specs.declared.block.BlockStep.TheVariants.{End, One}
use Rattle.parser_base.specs.LeafReading.{plain_literal_at, vector_span_at, assert_span_at, prefix_at, use_at, control_at, may_begin, spec_opening_at, path_form_at, glued_arguments_at, has_arguments, behind_first_at, spec_statement_at, annotation_at, cast_target_at, after_glued}
use Rattle.parser_base.specs.OperatorReading.{joints}
use Rattle.parser_base.specs.ParenthesesReading.{several}
use Rattle.expression_parser.specs.ExpressionReading.{Readers, any, readers, field_value_at, path_form, path_term_at, vector_at, assert_at, behind_first, parenthesized_at, initial_at, let_at, step_behind, step_at, Contents, contents_behind, contents_at, whole_contents_at, block_at, spec_body_at, body_at, else_at, if_at, while_at, return_at, control_form, term_at, fields_at, operand_at, behind_operand, any_form, expression_form, expression_at}
use Rattle.parser_base.proofs.LeafLemmas.{plain_literal_at-sound, vector_span_at-sound, assert_span_at-sound, after_glued-sound, prefix_at-sound, use_at-sound, control_word, control_at-sound, spec_opening_at-sound, spec_statement_at-sound}
use Rattle.parser_base.proofs.OpenLemmas.{high_no_else}
use Rattle.parser_base.proofs.OperatorLemmas.{level_small}
use Rattle.parser_base.proofs.Operators.{expression_rules}

-- the expression read is proper, has at least this level, and the tokens spell it
pub record Good (role : Role) (low : ℕ) (ts : List Token) (r : ExpressionData × List Token) : Type 0 where
  pub spelled : Begins (expression_spelling r.0) ts r.1
  pub is_proper : IsProperAs role r.0
  pub high : low ≤ level r.0

-- an expression that could take an `else` ends where there is none
pub record ReadAs (m : ℕ) (ts : List Token) (r : ExpressionData × List Token) : Type 0 where
  pub joined : Joined joints expression_rules m ts r
  pub free : takes_else r.0 ≡ true → after_word (codes "else") r.1 ≡ None

pub record ReadFree (ts : List Token) (r : ExpressionData × List Token) : Type 0 where
  pub good : Good elsewhere 0 ts r
  pub free : takes_else r.0 ≡ true → after_word (codes "else") r.1 ≡ None

abbrev pub ReadsExpressions : (ℕ → List Token → Read ExpressionData) → Type 0
ReadsExpressions reader = (m : ℕ) (ts : List Token) (r : ExpressionData × List Token) → m ≤ unary_level → reader m ts ≡ Some r → ReadAs m ts r

-- ---- lists of tokens, regrouped

regroup : (p m c r : List Lexeme) (b : Lexeme) → ((p ++ m) ++ b ∷ c) ++ r ≡ p ++ (m ++ b ∷ (c ++ r))
regroup p m c r b = append_assoc (p ++ m) (b ∷ c) r ∙ append_assoc p m (b ∷ (c ++ r))

pub assert_spelled : (w : Lexeme) (c d : List Lexeme) → ((w ∷ sign Exclaim ∷ sign LeftParenthesis ∷ c) ++ sign comma_sign ∷ d) ++ sign RightParenthesis ∷ [] ≡ w ∷ sign Exclaim ∷ sign LeftParenthesis ∷ (c ++ sign comma_sign ∷ (d ++ sign RightParenthesis ∷ []))
assert_spelled w c d = append_assoc (w ∷ sign Exclaim ∷ sign LeftParenthesis ∷ c) (sign comma_sign ∷ d) (sign RightParenthesis ∷ [])

pub cast_spelled : (l : Lexeme) (v t : List Lexeme) → ((l ∷ v) ++ word (codes "as") None ∷ t) ++ sign RightParenthesis ∷ [] ≡ l ∷ (v ++ word (codes "as") None ∷ (t ++ sign RightParenthesis ∷ []))
cast_spelled l v t = append_assoc (l ∷ v) (word (codes "as") None ∷ t) (sign RightParenthesis ∷ [])

pub several_spelled : (f x : List Lexeme) (ls : List (List Lexeme)) (last : Bool) → comma_list (f ∷ x ∷ ls) last ++ sign RightParenthesis ∷ [] ≡ f ++ sign comma_sign ∷ (comma_list (x ∷ ls) last ++ sign RightParenthesis ∷ [])
several_spelled f x ls last =
    append_assoc (f ++ after_commas (x ∷ ls)) (last_comma last) (sign RightParenthesis ∷ []) ∙ append_assoc f (after_commas (x ∷ ls)) (last_comma last ++ sign RightParenthesis ∷ [])
    ∙ ap (λ l. f ++ sign comma_sign ∷ l) (sym (append_assoc (x ++ after_commas ls) (last_comma last) (sign RightParenthesis ∷ [])))

pub let_spelled : (w : Lexeme) (p a v s : List Lexeme) → (((w ∷ p) ++ a) ++ v) ++ s ≡ w ∷ (p ++ (a ++ (v ++ s)))
let_spelled w p a v s = append_assoc ((w ∷ p) ++ a) v s ∙ append_assoc (w ∷ p) a (v ++ s)

pub block_spelled : (b : Lexeme) (i v r : List Lexeme) → (((b ∷ []) ++ i) ++ v) ++ r ≡ b ∷ (i ++ (v ++ r))
block_spelled b i v r = append_assoc (b ∷ i) v r

pub spec_block_spelled : (b : Lexeme) (s i v r : List Lexeme) → (((b ∷ s) ++ i) ++ v) ++ r ≡ b ∷ (s ++ (i ++ (v ++ r)))
spec_block_spelled b s i v r = append_assoc ((b ∷ s) ++ i) v r ∙ append_assoc (b ∷ s) i (v ++ r)

-- ---- lists

expressions_spelled : (xs : List ExpressionData) → expression_spellings (expressions_of xs) ≡ map expression_spelling xs
expressions_spelled [] = refl
expressions_spelled (x ∷ xs) = ap (λ ls. expression_spelling x ∷ ls) (expressions_spelled xs)

proper_expressions : (xs : List ExpressionData) → AllByRecursion IsProperExpression xs → AreProperExpressions (expressions_of xs)
proper_expressions [] p = tt
proper_expressions (x ∷ xs) p = (p.0, proper_expressions xs p.1)

some_expressions : (xs : List ExpressionData) → Filled xs → AreSomeExpressions (expressions_of xs)
some_expressions [] f = f
some_expressions (x ∷ xs) f = tt

values_spelled : (xs : List FieldValueData) → field_value_spellings (field_values_of xs) ≡ map field_value_spelling xs
values_spelled [] = refl
values_spelled (x ∷ xs) = ap (λ ls. field_value_spelling x ∷ ls) (values_spelled xs)

proper_values : (xs : List FieldValueData) → AllByRecursion IsProperFieldValue xs → AreProperFieldValues (field_values_of xs)
proper_values [] p = tt
proper_values (x ∷ xs) p = (p.0, proper_values xs p.1)

some_values : (xs : List FieldValueData) → Filled xs → AreSomeValues (field_values_of xs)
some_values [] f = f
some_values (x ∷ xs) f = tt

-- the role of an expression in a loop: a condition must have a value
abbrev pub role_of : Bool → Role
role_of true = condition_of_while
role_of false = body_of_loop

-- what is proper elsewhere is proper in each role
pub as_role : (role : Role) (e : ExpressionData) → IsProperExpression e → IsProperAs role e
as_role role (BlockExpression (BlockOf span None items value)) p = p
as_role role (BlockExpression (BlockOf span (Some spec) items value)) p = absurd p.0
as_role role _ p = p

module _ (inner : Readers) (types_sound : ReadsTypes inner.types) (patterns_sound : ReadsPatterns inner.patterns) (sound : ReadsExpressions inner.expressions) where
  any-sound : (ts : List Token) (r : ExpressionData × List Token) → any inner ts ≡ Some r → Begins (expression_spelling r.0) ts r.1 × IsProperExpression r.0
  any-sound ts r e = let j = (sound 0 ts r (omega arith) e).joined in (j.spelled, j.is_proper)

  -- a list up to its closing sign
  list-sound : (close : Sign) (ts : List Token) (r : Items ExpressionData × List Token) → comma_list_at (after_sign close) (any inner) ts ≡ Some r
      → Begins (comma_list (expression_spellings (expressions_of r.0.0)) r.0.1 ++ sign close ∷ []) ts r.1 × AreProperExpressions (expressions_of r.0.0) × (r.0.1 ≡ true → AreSomeExpressions (expressions_of r.0.0))
  list-sound close ts r e =
      let s = comma_list_at-sound close (any inner) expression_spelling IsProperExpression any-sound ts r e in (
        subst (λ ls. Begins (comma_list ls r.0.1 ++ sign close ∷ []) ts r.1) (sym (expressions_spelled r.0.0)) s.0.spelled,
        proper_expressions r.0.0 s.0.all_proper,
        λ h. some_expressions r.0.0 (s.1 h),
      )

  field_value_at-sound : (ts : List Token) (r : FieldValueData × List Token) → field_value_at (any inner) ts ≡ Some r → Begins (field_value_spelling r.0) ts r.1 × IsProperFieldValue r.0
  unfolding field_value_at
  field_value_at-sound ts r e =
      let n = step (identifier_at ts) _ r e in
      let name = identifier_at-sound ts n.value n.first in
      elim (either (after_sign Colon n.value.1) _ _ r n.then) [
        | inl s ↦
            let v = last (any inner s.value) (λ value. (LongFieldValue n.value.0 value.0, value.1)) r s.then in
            let value = any-sound s.value v.value v.first in
            subst (λ q. Begins (field_value_spelling q.0) ts q.1 × IsProperFieldValue q.0) v.then (
              Begins-append (identifier n.value.0 ∷ []) (sign Colon ∷ expression_spelling v.value.0) ts n.value.1 v.value.1 name.0
                  (Begins-append (sign Colon ∷ []) (expression_spelling v.value.0) n.value.1 s.value v.value.1 (after_sign-sound Colon n.value.1 s.value s.first) value.0),
              (name.1, value.1),
            )
        | inr m ↦ subst (λ q. Begins (field_value_spelling q.0) ts q.1 × IsProperFieldValue q.0) (some_one (ShortFieldValue n.value.0, n.value.1) r m.1) (name.0, name.1)
      ]

  -- ---- calls, packs and paths

  glued_arguments-sound : (ts : List Token) (r : MaybeArgumentsData × List Token) → glued_arguments_at inner.types ts ≡ Some r → Begins (maybe_arguments_spelling (Some true) r.0) ts r.1 × AreProperMaybeArguments r.0
  unfolding glued_arguments_at
  glued_arguments-sound ts r e =
      elim (either (after_glued Less ts) _ _ r e) [
        | inl s ↦
            let a = last (arguments_at inner.types s.value) (λ a. (SomeArguments a.0, a.1)) r s.then in
            let read = arguments_at-sound inner.types types_sound s.value a.value a.first in
            subst (λ q. Begins (maybe_arguments_spelling (Some true) q.0) ts q.1 × AreProperMaybeArguments q.0) a.then (
              Begins-same _ _ ts a.value.1 (sym (arguments_spelled (Some true) a.value.0))
                  (Begins-append (lexeme (Punctuation Less) None (Some true) ∷ []) (inside_spelling a.value.0) ts s.value a.value.1 (after_glued-sound Less ts s.value s.first) read.0),
              read.1,
            )
        | inr n ↦ subst (λ q. Begins (maybe_arguments_spelling (Some true) q.0) ts q.1 × AreProperMaybeArguments q.0) (some_one (NoArguments, ts) r n.1) (refl, tt)
      ]

  -- what the bracket after a path determines
  abbrev pub Opened : Bool → Path → PathForm → List Token → List Token → Type 0
  Opened has path Call ts rest = Begins (sign LeftParenthesis ∷ []) ts rest × (has ≡ true → IsOther (codes "vector") path)
  Opened has path Pack ts rest = Begins (sign LeftBrace ∷ []) ts rest × IsCapital (last_name path)
  Opened has path Alone ts rest = (ts ≡ rest) × (has ≡ false)

  path_form-sound : (has : Bool) (path : Path) (ts : List Token) (r : PathForm × List Token) → path_form_at has path ts ≡ Some r → Opened has path r.0 ts r.1
  unfolding path_form_at
  path_form-sound has path ts r e =
      elim (either (after_sign LeftParenthesis ts) _ _ r e) [
        | inl s ↦ call has (is_single (codes "vector") path) refl s.value (after_sign-sound LeftParenthesis ts s.value s.first) s.then
        | inr n ↦ elim (either (cond (begins_capital (last_name path)) (after_sign LeftBrace ts) None) _ _ r n.1) [
          | inl s ↦
              let c = if_read (begins_capital (last_name path)) (after_sign LeftBrace ts) s.value s.first in
              subst (λ q. Opened has path q.0 ts q.1) (some_one (Pack, s.value) r s.then) (after_sign-sound LeftBrace ts s.value c.1, begins_capital-sound (last_name path) c.0)
          | inr m ↦ alone has m.1
        ]
      ]
    where
      call : (h single : Bool) → is_single (codes "vector") path ≡ single → (rest : List Token) → Begins (sign LeftParenthesis ∷ []) ts rest → cond (h && single) None (Some (Call, rest)) ≡ Some r → Opened h path r.0 ts r.1
      call true true is rest b e = absurd (cc)
      call true false is rest b e = subst (λ q. Opened true path q.0 ts q.1) (some_one (Call, rest) r e) (b, λ h. is_single-sound (codes "vector") path is)
      call false single is rest b e = subst (λ q. Opened false path q.0 ts q.1) (some_one (Call, rest) r e) (b, λ h. absurd (cc))

      alone : (h : Bool) → cond h None (Some (Alone, ts)) ≡ Some r → Opened h path r.0 ts r.1
      alone true e = absurd (cc)
      alone false e = subst (λ q. Opened false path q.0 ts q.1) (some_one (Alone, ts) r e) (refl, refl)

  may_have : (path : Path) (a : MaybeArgumentsData) → (has_arguments a ≡ true → IsOther (codes "vector") path) → MayHaveArguments path a
  may_have path NoArguments h = tt
  may_have path (SomeArguments a) h = h refl

  no_arguments : (a : MaybeArgumentsData) → has_arguments a ≡ false → (glued : Option Bool) (ts mid : List Token) → Begins (maybe_arguments_spelling glued a) ts mid → ts ≡ mid
  no_arguments NoArguments h glued ts mid b = b
  no_arguments (SomeArguments a) h glued ts mid b = absurd (cc)

  path_term-sound : (ts : List Token) (r : ExpressionData × List Token) → path_term_at inner ts ≡ Some r → Good elsewhere term_level ts r
  unfolding path_term_at
  path_term-sound ts r e =
      let p = step (path_at ts) _ r e in
      let a = step (glued_arguments_at inner.types p.value.1) _ r p.then in
      let f = step (path_form_at (has_arguments a.value.0) p.value.0 a.value.1) _ r a.then in
      let path = path_at-sound ts p.value p.first in
      let arguments = glued_arguments-sound p.value.1 a.value a.first in
      by_form p.value.0 a.value.0 f.value.0 p.value.1 a.value.1 f.value.1 path.0 path.1 arguments.0 arguments.1 (path_form-sound (has_arguments a.value.0) p.value.0 a.value.1 f.value f.first) f.then
    where
      by_form : (path : Path) (a : MaybeArgumentsData) (form : PathForm) (us vs ws : List Token) → Begins (path_spelling path) ts us → IsProperPath path → Begins (maybe_arguments_spelling (Some true) a) us vs → AreProperMaybeArguments a
          → Opened (has_arguments a) path form vs ws → path_form inner path a form ws ≡ Some r → Good elsewhere term_level ts r
      by_form path a Call us vs ws b p c q o e =
          let l = last (comma_list_at (after_sign RightParenthesis) (any inner) ws) _ r e in
          let s = list-sound RightParenthesis ws l.value l.first in
          let inside = comma_list (expression_spellings (expressions_of l.value.0.0)) l.value.0.1 in
          subst (Good elsewhere term_level ts) l.then (record {
            spelled = Begins-same _ _ ts l.value.1 (sym (regroup (path_spelling path) (maybe_arguments_spelling (Some true) a) inside (sign RightParenthesis ∷ []) (sign LeftParenthesis)))
                (Begins-append (path_spelling path) _ ts us l.value.1 b (Begins-append (maybe_arguments_spelling (Some true) a) _ us vs l.value.1 c (Begins-append (sign LeftParenthesis ∷ []) (inside ++ sign RightParenthesis ∷ []) vs ws l.value.1 o.0 s.0)));
            is_proper = (p, may_have path a o.1, q, s.1, s.2);
            high = omega arith;
          })
      by_form path a Pack us vs ws b p c q o e =
          let l = last (comma_list_at (after_sign RightBrace) (field_value_at (any inner)) ws) _ r e in
          let s = comma_list_at-sound RightBrace (field_value_at (any inner)) field_value_spelling IsProperFieldValue field_value_at-sound ws l.value l.first in
          let inside = comma_list (field_value_spellings (field_values_of l.value.0.0)) l.value.0.1 in
          subst (Good elsewhere term_level ts) l.then (record {
            spelled = Begins-same _ _ ts l.value.1 (sym (regroup (path_spelling path) (maybe_arguments_spelling (Some true) a) inside (sign RightBrace ∷ []) (sign LeftBrace)))
                (Begins-append (path_spelling path) _ ts us l.value.1 b (Begins-append (maybe_arguments_spelling (Some true) a) _ us vs l.value.1 c (Begins-append (sign LeftBrace ∷ []) (inside ++ sign RightBrace ∷ []) vs ws l.value.1 o.0
                (subst (λ ls. Begins (comma_list ls l.value.0.1 ++ sign RightBrace ∷ []) ws l.value.1) (sym (values_spelled l.value.0.0)) s.0.spelled))));
            is_proper = (p, o.1, q, proper_values l.value.0.0 s.0.all_proper, λ h. some_values l.value.0.0 (s.1 h));
            high = omega arith;
          })
      by_form path a Alone us vs ws b p c q o e =
          subst (Good elsewhere term_level ts) (some_one (PathExpression path, ws) r e)
          (record { spelled = subst (λ rest. Begins (path_spelling path) ts rest) (no_arguments a o.1 (Some true) us vs c ∙ o.0) b; is_proper = p; high = omega arith })

  vector-sound : (span : Span) (whole ts : List Token) (r : ExpressionData × List Token) → Begins (word (codes "vector") (Some span) ∷ []) whole ts → vector_at inner span ts ≡ Some r → Good elsewhere term_level whole r
  unfolding vector_at
  vector-sound span whole ts r front e =
      let a = step (maybe_arguments_at inner.types ts) _ r e in
      let o = step (after_sign LeftBracket a.value.1) _ r a.then in
      let l = last (comma_list_at (after_sign RightBracket) (any inner) o.value) _ r o.then in
      let arguments = maybe_arguments_at-sound inner.types types_sound ts a.value a.first in
      let s = list-sound RightBracket o.value l.value l.first in
      let inside = comma_list (expression_spellings (expressions_of l.value.0.0)) l.value.0.1 in
      subst (Good elsewhere term_level whole) l.then (record {
        spelled = Begins-same _ _ whole l.value.1 (sym (regroup (word (codes "vector") (Some span) ∷ []) (maybe_arguments_spelling None a.value.0) inside (sign RightBracket ∷ []) (sign LeftBracket)))
            (Begins-append (word (codes "vector") (Some span) ∷ []) _ whole ts l.value.1 front (Begins-append (maybe_arguments_spelling None a.value.0) _ ts a.value.1 l.value.1 arguments.0
            (Begins-append (sign LeftBracket ∷ []) (inside ++ sign RightBracket ∷ []) a.value.1 o.value l.value.1 (after_sign-sound LeftBracket a.value.1 o.value o.first) s.0)));
        is_proper = (arguments.1, s.1, s.2);
        high = omega arith;
      })

  assert-sound : (span : Span) (whole ts : List Token) (r : ExpressionData × List Token) → Begins (word (codes "assert") (Some span) ∷ sign Exclaim ∷ []) whole ts → assert_at inner span ts ≡ Some r → Good elsewhere term_level whole r
  unfolding assert_at
  assert-sound span whole ts r front e =
      let o = step (after_sign LeftParenthesis ts) _ r e in
      let c = step (any inner o.value) _ r o.then in
      let m = step (after_sign comma_sign c.value.1) _ r c.then in
      let d = step (any inner m.value) _ r m.then in
      let l = last (after_sign RightParenthesis d.value.1) _ r d.then in
      let condition = any-sound o.value c.value c.first in
      let code = any-sound m.value d.value d.first in
      let behind_code = expression_spelling d.value.0 ++ sign RightParenthesis ∷ [] in
      let behind_condition = sign comma_sign ∷ behind_code in
      subst (Good elsewhere term_level whole) l.then (record {
        spelled = Begins-same _ _ whole l.value (sym (assert_spelled (word (codes "assert") (Some span)) (expression_spelling c.value.0) (expression_spelling d.value.0)))
            (Begins-append (word (codes "assert") (Some span) ∷ sign Exclaim ∷ []) (sign LeftParenthesis ∷ (expression_spelling c.value.0 ++ behind_condition)) whole ts l.value front
            (Begins-append (sign LeftParenthesis ∷ []) (expression_spelling c.value.0 ++ behind_condition) ts o.value l.value (after_sign-sound LeftParenthesis ts o.value o.first)
            (Begins-append (expression_spelling c.value.0) behind_condition o.value c.value.1 l.value condition.0
            (Begins-append (sign comma_sign ∷ []) behind_code c.value.1 m.value l.value (after_sign-sound comma_sign c.value.1 m.value m.first)
            (Begins-append (expression_spelling d.value.0) (sign RightParenthesis ∷ []) m.value d.value.1 l.value code.0 (after_sign-sound RightParenthesis d.value.1 l.value l.first))))));
        is_proper = (condition.1, code.1);
        high = omega arith;
      })

  -- ---- parentheses

  cast_target-sound : (ts : List Token) (r : SourceTypeData × List Token) → cast_target_at inner.types ts ≡ Some r → Begins (type_spelling r.0 ++ sign RightParenthesis ∷ []) ts r.1 × IsProperType r.0
  unfolding cast_target_at
  cast_target-sound ts r e =
      let t = step (inner.types ts) _ r e in
      let l = last (after_sign RightParenthesis t.value.1) _ r t.then in
      let read = types_sound ts t.value t.first in
      subst (λ q. Begins (type_spelling q.0 ++ sign RightParenthesis ∷ []) ts q.1 × IsProperType q.0) l.then
      (Begins-append (type_spelling t.value.0) (sign RightParenthesis ∷ []) ts t.value.1 l.value read.0 (after_sign-sound RightParenthesis t.value.1 l.value l.first), read.1)

  abbrev pub Behind : BehindFirst → List Token → List Token → Type 0
  Behind Close ts rest = Begins (sign RightParenthesis ∷ []) ts rest
  Behind As ts rest = Begins (word (codes "as") None ∷ []) ts rest
  Behind Comma ts rest = Begins (sign comma_sign ∷ []) ts rest

  behind_first_at-sound : (ts : List Token) (r : BehindFirst × List Token) → behind_first_at ts ≡ Some r → Behind r.0 ts r.1
  unfolding behind_first_at
  behind_first_at-sound ts r e =
      elim (either (after_sign RightParenthesis ts) _ _ r e) [
        | inl s ↦ subst (λ q. Behind q.0 ts q.1) (some_one (Close, s.value) r s.then) (after_sign-sound RightParenthesis ts s.value s.first)
        | inr n ↦ elim (either (after_word (codes "as") ts) _ _ r n.1) [
          | inl s ↦ subst (λ q. Behind q.0 ts q.1) (some_one (As, s.value) r s.then) (after_word-sound (codes "as") ts s.value s.first)
          | inr m ↦
              let l = last (after_sign comma_sign ts) (λ rest. (Comma, rest)) r m.1 in
              subst (λ q. Behind q.0 ts q.1) l.then (after_sign-sound comma_sign ts l.value l.first)
        ]
      ]

  several-sound : (span : Span) (whole ts : List Token) (r : ExpressionData × List Token) → Begins (sign_at span LeftParenthesis ∷ []) whole ts → (first : ExpressionData) (xs : List ExpressionData) (last : Bool) (us vs rest : List Token) → Begins (expression_spelling first) ts us → IsProperExpression first → Begins (sign comma_sign ∷ []) us vs
      → Begins (comma_list (expression_spellings (expressions_of xs)) last ++ sign RightParenthesis ∷ []) vs rest → AreProperExpressions (expressions_of xs) → several span first (xs, last) rest ≡ Some r → Good elsewhere term_level whole r
  several-sound span whole ts r front first [] last us vs rest b p c d q e = absurd (cc)
  several-sound span whole ts r front first (x ∷ xs) last us vs rest b p c d q e =
      subst (Good elsewhere term_level whole) (some_one (TupleExpression span (MoreExpressions first (expressions_of (x ∷ xs))) last, rest) r e) (record {
        spelled = Begins-append (sign_at span LeftParenthesis ∷ []) (comma_list (expression_spellings (expressions_of (first ∷ x ∷ xs))) last ++ sign RightParenthesis ∷ []) whole ts rest front
            (Begins-same _ _ ts rest (sym (several_spelled (expression_spelling first) (expression_spelling x) (expression_spellings (expressions_of xs)) last))
            (Begins-append (expression_spelling first) _ ts us rest b (Begins-append (sign comma_sign ∷ []) _ us vs rest c d)));
        is_proper = ((p, q), λ h. tt);
        high = omega arith;
      })

  parenthesized-sound : (span : Span) (whole ts : List Token) (r : ExpressionData × List Token) → Begins (sign_at span LeftParenthesis ∷ []) whole ts → parenthesized_at inner span ts ≡ Some r → Good elsewhere term_level whole r
  unfolding parenthesized_at
  parenthesized-sound span whole ts r front e =
      elim (either (after_sign RightParenthesis ts) _ _ r e) [
        | inl s ↦
            subst (Good elsewhere term_level whole) (some_one (TupleExpression span NoExpressions false, s.value) r s.then) (record {
              spelled = Begins-append (sign_at span LeftParenthesis ∷ []) (sign RightParenthesis ∷ []) whole ts s.value front (after_sign-sound RightParenthesis ts s.value s.first);
              is_proper = (tt, λ h. absurd (cc));
              high = omega arith;
            })
        | inr n ↦
            let f = step (any inner ts) _ r n.1 in
            let g = step (behind_first_at f.value.1) _ r f.then in
            let first = any-sound ts f.value f.first in
            by_form f.value.0 g.value.0 f.value.1 g.value.1 first.0 first.1 (behind_first_at-sound f.value.1 g.value g.first) g.then
      ]
    where
      by_form : (first : ExpressionData) (form : BehindFirst) (us vs : List Token) → Begins (expression_spelling first) ts us → IsProperExpression first → Behind form us vs → behind_first inner span first form vs ≡ Some r → Good elsewhere term_level whole r
      by_form first Close us vs b p c e =
          subst (Good elsewhere term_level whole) (some_one (TupleExpression span (MoreExpressions first NoExpressions) false, vs) r e) (record {
            spelled = Begins-append (sign_at span LeftParenthesis ∷ []) ((((expression_spelling first ++ []) ++ []) ++ sign RightParenthesis ∷ [])) whole ts vs front
                (Begins-same (expression_spelling first ++ sign RightParenthesis ∷ []) _ ts vs (ap (λ l. l ++ sign RightParenthesis ∷ []) (sym (append-nil (expression_spelling first ++ []) ∙ append-nil (expression_spelling first))))
                (Begins-append (expression_spelling first) (sign RightParenthesis ∷ []) ts us vs b c));
            is_proper = ((p, tt), λ h. absurd (cc));
            high = omega arith;
          })
      by_form first As us vs b p c e =
          let t = last (cast_target_at inner.types vs) _ r e in
          let read = cast_target-sound vs t.value t.first in
          subst (Good elsewhere term_level whole) t.then (record {
            spelled = Begins-same _ _ whole t.value.1 (sym (cast_spelled (sign_at span LeftParenthesis) (expression_spelling first) (type_spelling t.value.0)))
                (Begins-append (sign_at span LeftParenthesis ∷ []) _ whole ts t.value.1 front (Begins-append (expression_spelling first) _ ts us t.value.1 b (Begins-append (word (codes "as") None ∷ []) _ us vs t.value.1 c read.0)));
            is_proper = (p, read.1);
            high = omega arith;
          })
      by_form first Comma us vs b p c e =
          let l = step (comma_list_at (after_sign RightParenthesis) (any inner) vs) _ r e in
          let s = list-sound RightParenthesis vs l.value l.first in
          several-sound span whole ts r front first l.value.0.0 l.value.0.1 us vs l.value.1 b p c s.0 s.1 l.then

  -- ---- blocks

  annotation-sound : (ts : List Token) (r : Option SourceTypeData × List Token) → annotation_at inner.types ts ≡ Some r → Begins (annotation_spelling r.0) ts r.1 × IsProperAnnotation r.0
  unfolding annotation_at
  annotation-sound ts r e =
      elim (either (after_sign Colon ts) _ _ r e) [
        | inl s ↦
            let t = last (inner.types s.value) (λ t. (Some t.0, t.1)) r s.then in
            let read = types_sound s.value t.value t.first in
            subst (λ q. Begins (annotation_spelling q.0) ts q.1 × IsProperAnnotation q.0) t.then (Begins-append (sign Colon ∷ []) (type_spelling t.value.0) ts s.value t.value.1 (after_sign-sound Colon ts s.value s.first) read.0, read.1)
        | inr n ↦ subst (λ q. Begins (annotation_spelling q.0) ts q.1 × IsProperAnnotation q.0) (some_one (None, ts) r n.1) (refl, tt)
      ]

  initial-sound : (ts : List Token) (r : Option ExpressionData × List Token) → initial_at inner ts ≡ Some r → Begins (initial_spelling (maybe_expression_of r.0)) ts r.1 × IsProperMaybe (maybe_expression_of r.0)
  unfolding initial_at
  initial-sound ts r e =
      elim (either (after_sign Equal ts) _ _ r e) [
        | inl s ↦
            let v = last (any inner s.value) (λ e. (Some e.0, e.1)) r s.then in
            let read = any-sound s.value v.value v.first in
            subst (λ q. Begins (initial_spelling (maybe_expression_of q.0)) ts q.1 × IsProperMaybe (maybe_expression_of q.0)) v.then
            (Begins-append (sign Equal ∷ []) (expression_spelling v.value.0) ts s.value v.value.1 (after_sign-sound Equal ts s.value s.first) read.0, read.1)
        | inr n ↦ subst (λ q. Begins (initial_spelling (maybe_expression_of q.0)) ts q.1 × IsProperMaybe (maybe_expression_of q.0)) (some_one (None, ts) r n.1) (refl, tt)
      ]

  let-sound : (span : Span) (whole ts : List Token) (r : ItemData × List Token) → Begins (word (codes "let") (Some span) ∷ []) whole ts → let_at inner span ts ≡ Some r → Begins (item_spelling r.0) whole r.1 × IsProperItem r.0
  unfolding let_at
  let-sound span whole ts r front e =
      let p = step (inner.patterns ts) _ r e in
      let a = step (annotation_at inner.types p.value.1) _ r p.then in
      let v = step (initial_at inner a.value.1) _ r a.then in
      let l = last (after_sign Semicolon v.value.1) _ r v.then in
      let pattern = patterns_sound ts p.value p.first in
      let annotation = annotation-sound p.value.1 a.value a.first in
      let value = initial-sound a.value.1 v.value v.first in
      subst (λ q. Begins (item_spelling q.0) whole q.1 × IsProperItem q.0) l.then (
        Begins-same _ _ whole l.value (sym (let_spelled (word (codes "let") (Some span)) (pattern_spelling p.value.0) (annotation_spelling a.value.0) (initial_spelling (maybe_expression_of v.value.0)) (sign Semicolon ∷ [])))
            (Begins-append (word (codes "let") (Some span) ∷ []) _ whole ts l.value front
            (Begins-append (pattern_spelling p.value.0) _ ts p.value.1 l.value pattern.0
            (Begins-append (annotation_spelling a.value.0) _ p.value.1 a.value.1 l.value annotation.0
            (Begins-append (initial_spelling (maybe_expression_of v.value.0)) (sign Semicolon ∷ []) a.value.1 v.value.1 l.value value.0 (after_sign-sound Semicolon v.value.1 l.value l.first))))),
        (pattern.1, annotation.1, value.1),
      )

  -- one item, or the value and the brace
  abbrev pub Stepped : BlockStep → List Token → List Token → Type 0
  Stepped (End value) ts rest = Begins (maybe_expression_spelling (maybe_expression_of value) ++ sign RightBrace ∷ []) ts rest × IsProperMaybe (maybe_expression_of value)
  Stepped (One item) ts rest = Begins (item_spelling item) ts rest × IsProperItem item

  step_behind-sound : (x : ExpressionData) (whole ts : List Token) (r : BlockStep × List Token) → Begins (expression_spelling x) whole ts → IsProperExpression x → step_behind x ts ≡ Some r → Stepped r.0 whole r.1
  unfolding step_behind
  step_behind-sound x whole ts r b p e =
      elim (either (after_sign Semicolon ts) _ _ r e) [
        | inl s ↦ subst (λ q. Stepped q.0 whole q.1) (some_one (One (ExpressionItem x), s.value) r s.then) (Begins-append (expression_spelling x) (sign Semicolon ∷ []) whole ts s.value b (after_sign-sound Semicolon ts s.value s.first), p)
        | inr n ↦
            let l = last (after_sign RightBrace ts) (λ rest. (End (Some x), rest)) r n.1 in
            subst (λ q. Stepped q.0 whole q.1) l.then (Begins-append (expression_spelling x) (sign RightBrace ∷ []) whole ts l.value b (after_sign-sound RightBrace ts l.value l.first), p)
      ]

  step-sound : (ts : List Token) (r : BlockStep × List Token) → step_at inner ts ≡ Some r → Stepped r.0 ts r.1
  unfolding step_at
  step-sound ts r e =
      elim (either (after_sign RightBrace ts) _ _ r e) [
        | inl s ↦ subst (λ q. Stepped q.0 ts q.1) (some_one (End None, s.value) r s.then) (after_sign-sound RightBrace ts s.value s.first, tt)
        | inr n ↦ elim (either (word_span_at (codes "let") ts) _ _ r n.1) [
          | inl s ↦
              let i = last (let_at inner s.value.0 s.value.1) (λ item. (One item.0, item.1)) r s.then in
              subst (λ q. Stepped q.0 ts q.1) i.then (let-sound s.value.0 ts s.value.1 i.value (word_span_at-sound (codes "let") ts s.value s.first) i.first)
          | inr m ↦
              let x = step (any inner ts) _ r m.1 in
              let read = any-sound ts x.value x.first in
              step_behind-sound x.value.0 ts x.value.1 r read.0 read.1 x.then
        ]
      ]

  -- the items, the value and the brace
  pub record Filling (c : Contents) (ts rest : List Token) : Type 0 where
    pub spelled : Begins (items_spelling (items_of c.0) ++ (maybe_expression_spelling (maybe_expression_of c.1) ++ sign RightBrace ∷ [])) ts rest
    pub items_proper : AreProperItems (items_of c.0)
    pub value_proper : IsProperMaybe (maybe_expression_of c.1)

  pub contents-sound : (n : ℕ) (ts : List Token) (r : Contents × List Token) → contents_at inner n ts ≡ Some r → Filling r.0 ts r.1
  unfolding contents_at
  contents-sound zero ts r e = absurd (cc)
  contents-sound (suc n) ts r e =
      let s = step (step_at inner ts) _ r e in
      by_step s.value.0 s.value.1 (contents_at inner n s.value.1) (contents-sound n s.value.1) (step-sound ts s.value s.first) s.then
    where
      by_step : (s : BlockStep) (us : List Token) (more : Read Contents) → ((q : Contents × List Token) → more ≡ Some q → Filling q.0 us q.1) → Stepped s ts us → contents_behind s us more ≡ Some r → Filling r.0 ts r.1
      by_step (End value) us more before t e = subst (λ q. Filling q.0 ts q.1) (some_one (([], value), us) r e) (record { spelled = t.0; items_proper = tt; value_proper = t.1 })
      by_step (One item) us more before t e =
          let l = last more _ r e in
          let others = before l.value l.first in
          subst (λ q. Filling q.0 ts q.1) l.then (record {
            spelled = Begins-same _ _ ts l.value.1 (sym (append_assoc (item_spelling item) (items_spelling (items_of l.value.0.0)) (maybe_expression_spelling (maybe_expression_of l.value.0.1) ++ sign RightBrace ∷ [])))
                (Begins-append (item_spelling item) _ ts us l.value.1 t.0 others.spelled);
            items_proper = (t.1, others.items_proper);
            value_proper = others.value_proper;
          })

  block-sound : (span : Span) (whole ts : List Token) (r : ExpressionData × List Token) → Begins (sign_at span LeftBrace ∷ []) whole ts → block_at inner span ts ≡ Some r → Good elsewhere term_level whole r
  unfolding block_at
  block-sound span whole ts r front e =
      let l = last (whole_contents_at inner ts) _ r e in
      let c = contents-sound (length ts) ts l.value l.first in
      subst (Good elsewhere term_level whole) l.then (record {
        spelled = Begins-same _ _ whole l.value.1 (sym (block_spelled (sign_at span LeftBrace) (items_spelling (items_of l.value.0.0)) (maybe_expression_spelling (maybe_expression_of l.value.0.1)) (sign RightBrace ∷ [])))
            (Begins-append (sign_at span LeftBrace ∷ []) _ whole ts l.value.1 front c.spelled);
        is_proper = (tt, c.items_proper, c.value_proper);
        high = omega arith;
      })

  may_hold : (valued : Bool) (spec : KeptSpec) (value : Option ExpressionData) → IsLoopSpec spec → (valued && cond (is_some value) false true) ≡ false → MayHoldSpec (role_of valued) (Some spec) (maybe_expression_of value)
  may_hold true spec None b h = absurd (cc)
  may_hold true spec (Some value) b h = (b, tt)
  may_hold false spec value b h = b

  record BodyRead (valued : Bool) (ts : List Token) (r : ExpressionData × List Token) : Type 0 where
    pub read : Begins (expression_spelling r.0) ts r.1 × IsProperAs (role_of valued) r.0
    pub free : takes_else r.0 ≡ true → after_word (codes "else") r.1 ≡ None

  body-sound : (valued : Bool) (ts : List Token) (r : ExpressionData × List Token) → body_at inner valued ts ≡ Some r → BodyRead valued ts r
  unfolding body_at spec_body_at
  body-sound valued ts r e =
      elim (either (spec_opening_at ts) _ _ r e) [
        | inl o ↦
            let s = step (spec_statement_at o.value.1) _ r o.then in
            let c = step (whole_contents_at inner s.value.1) _ r s.then in
            let n = if_not (valued && cond (is_some c.value.0.1) false true) (BlockExpression (BlockOf o.value.0 (Some s.value.0) (items_of c.value.0.0) (maybe_expression_of c.value.0.1)), c.value.1) r c.then in
            let opening = spec_opening_at-sound ts o.value o.first in
            let spec = spec_statement_at-sound o.value.1 s.value s.first in
            let contents = contents-sound (length s.value.1) s.value.1 c.value c.first in
            let inside = items_spelling (items_of c.value.0.0) ++ (maybe_expression_spelling (maybe_expression_of c.value.0.1) ++ sign RightBrace ∷ []) in
            subst (BodyRead valued ts) n.1 (record {
              read = (
                Begins-same _ _ ts c.value.1 (sym (spec_block_spelled (sign_at o.value.0 LeftBrace) (kept_spelling s.value.0 ++ sign Semicolon ∷ []) (items_spelling (items_of c.value.0.0)) (maybe_expression_spelling (maybe_expression_of c.value.0.1)) (sign RightBrace ∷ [])))
                    (Begins-append (sign_at o.value.0 LeftBrace ∷ []) ((kept_spelling s.value.0 ++ sign Semicolon ∷ []) ++ inside) ts o.value.1 c.value.1 opening.spelled
                    (Begins-append (kept_spelling s.value.0 ++ sign Semicolon ∷ []) inside o.value.1 s.value.1 c.value.1 spec.0 contents.spelled)),
                (may_hold valued s.value.0 c.value.0.1 spec.1 n.0, contents.items_proper, contents.value_proper),
              );
              free = λ h. absurd (cc);
            })
        | inr n ↦ let read = sound 0 ts r (omega arith) n.1 in record { read = (read.joined.spelled, as_role (role_of valued) r.0 read.joined.is_proper); free = read.free }
      ]

  -- ---- control forms

  none_is_none : (rest : List Token) → ◌≡◌ {A = Option (List Token)} None (Some rest) → ⊥
  none_is_none rest g = cc

  if_front : (span : Span) (whole a b c d f : List Token) (x y : ExpressionData) → Begins (word (codes "if") (Some span) ∷ []) whole a → Begins (sign LeftParenthesis ∷ []) a b → Begins (expression_spelling x) b c → Begins (sign RightParenthesis ∷ []) c d → Begins (expression_spelling y) d f
      → Begins (word (codes "if") (Some span) ∷ sign LeftParenthesis ∷ (expression_spelling x ++ sign RightParenthesis ∷ expression_spelling y)) whole f
  if_front span whole a b c d f x y p q r s t =
      let behind = sign RightParenthesis ∷ expression_spelling y in
      Begins-append (word (codes "if") (Some span) ∷ []) (sign LeftParenthesis ∷ (expression_spelling x ++ behind)) whole a f p (Begins-append (sign LeftParenthesis ∷ []) (expression_spelling x ++ behind) a b f q
      (Begins-append (expression_spelling x) behind b c f r (Begins-append (sign RightParenthesis ∷ []) (expression_spelling y) c d f s t)))

  else-sound : (span : Span) (x y : ExpressionData) (whole ts : List Token) (r : ExpressionData × List Token) → Begins (word (codes "if") (Some span) ∷ sign LeftParenthesis ∷ (expression_spelling x ++ sign RightParenthesis ∷ expression_spelling y)) whole ts
      → IsProperExpression x → IsProperExpression y → (takes_else y ≡ true → after_word (codes "else") ts ≡ None) → else_at inner span x y ts ≡ Some r → ReadFree whole r
  unfolding else_at
  else-sound span x y whole ts r front p q free e =
      elim (either (after_word (codes "else") ts) _ _ r e) [
        | inl s ↦
            let z = last (any inner s.value) _ r s.then in
            let read = sound 0 s.value z.value (omega arith) z.first in
            subst (ReadFree whole) z.then (record {
              good = record {
                spelled = Begins-append (word (codes "if") (Some span) ∷ sign LeftParenthesis ∷ (expression_spelling x ++ sign RightParenthesis ∷ expression_spelling y)) (word (codes "else") None ∷ expression_spelling z.value.0) whole ts z.value.1 front
                    (Begins-append (word (codes "else") None ∷ []) (expression_spelling z.value.0) ts s.value z.value.1 (after_word-sound (codes "else") ts s.value s.first) read.joined.spelled);
                is_proper = (p, q, read.joined.is_proper, leaves (takes_else y) refl s.value s.first);
                high = omega arith;
              };
              free = read.free;
            })
        | inr n ↦
            subst (ReadFree whole) (some_one (IfExpression span x y NoExpression, ts) r n.1) (record {
              good = record { spelled = Begins-same _ _ whole ts (sym (append-nil (word (codes "if") (Some span) ∷ sign LeftParenthesis ∷ (expression_spelling x ++ sign RightParenthesis ∷ expression_spelling y)))) front; is_proper = (p, q, tt, tt); high = omega arith };
              free = λ h. n.0;
            })
      ]
    where
      leaves : (b : Bool) → takes_else y ≡ b → (rest : List Token) → after_word (codes "else") ts ≡ Some rest → takes_else y ≡ false
      leaves false is rest h = is
      leaves true is rest h = absurd (none_is_none rest (sym (free is) ∙ h))

  if-sound : (span : Span) (whole ts : List Token) (r : ExpressionData × List Token) → Begins (word (codes "if") (Some span) ∷ []) whole ts → if_at inner span ts ≡ Some r → ReadFree whole r
  unfolding if_at
  if-sound span whole ts r front e =
      let o = step (after_sign LeftParenthesis ts) _ r e in
      let x = step (any inner o.value) _ r o.then in
      let c = step (after_sign RightParenthesis x.value.1) _ r x.then in
      let y = step (any inner c.value) _ r c.then in
      let condition = sound 0 o.value x.value (omega arith) x.first in
      let branch = sound 0 c.value y.value (omega arith) y.first in
      else-sound span x.value.0 y.value.0 whole y.value.1 r
      (if_front span whole ts o.value x.value.1 c.value y.value.1 x.value.0 y.value.0 front (after_sign-sound LeftParenthesis ts o.value o.first) condition.joined.spelled (after_sign-sound RightParenthesis x.value.1 c.value c.first) branch.joined.spelled)
      condition.joined.is_proper branch.joined.is_proper branch.free y.then

  while-sound : (span : Span) (whole ts : List Token) (r : ExpressionData × List Token) → Begins (word (codes "while") (Some span) ∷ []) whole ts → while_at inner span ts ≡ Some r → ReadFree whole r
  unfolding while_at
  while-sound span whole ts r front e =
      let o = step (after_sign LeftParenthesis ts) _ r e in
      let x = step (body_at inner true o.value) _ r o.then in
      let c = step (after_sign RightParenthesis x.value.1) _ r x.then in
      let y = last (any inner c.value) _ r c.then in
      let condition = body-sound true o.value x.value x.first in
      let body = sound 0 c.value y.value (omega arith) y.first in
      subst (ReadFree whole) y.then (record {
        good = record {
          spelled = Begins-append (word (codes "while") (Some span) ∷ []) (sign LeftParenthesis ∷ (expression_spelling x.value.0 ++ sign RightParenthesis ∷ expression_spelling y.value.0)) whole ts y.value.1 front
              (Begins-append (sign LeftParenthesis ∷ []) (expression_spelling x.value.0 ++ sign RightParenthesis ∷ expression_spelling y.value.0) ts o.value y.value.1 (after_sign-sound LeftParenthesis ts o.value o.first)
              (Begins-append (expression_spelling x.value.0) (sign RightParenthesis ∷ expression_spelling y.value.0) o.value x.value.1 y.value.1 condition.read.0
              (Begins-append (sign RightParenthesis ∷ []) (expression_spelling y.value.0) x.value.1 c.value y.value.1 (after_sign-sound RightParenthesis x.value.1 c.value c.first) body.joined.spelled)));
          is_proper = (condition.read.1, body.joined.is_proper);
          high = omega arith;
        };
        free = body.free;
      })

  return-sound : (span : Span) (whole ts : List Token) (r : ExpressionData × List Token) → Begins (word (codes "return") (Some span) ∷ []) whole ts → return_at inner span ts ≡ Some r → ReadFree whole r
  unfolding return_at
  return-sound span whole ts r front e =
      elim (either_read (may_begin ts) _ _ r e) [
        | inl s ↦
            let v = last (any inner ts) (λ value. (ReturnExpression span (SomeExpression value.0), value.1)) r s.1 in
            let read = sound 0 ts v.value (omega arith) v.first in
            subst (ReadFree whole) v.then (record {
              good = record { spelled = Begins-append (word (codes "return") (Some span) ∷ []) (expression_spelling v.value.0) whole ts v.value.1 front read.joined.spelled; is_proper = read.joined.is_proper; high = omega arith };
              free = read.free;
            })
        | inr n ↦ subst (ReadFree whole) (some_one (ReturnExpression span NoExpression, ts) r n.1) (record { good = record { spelled = front; is_proper = tt; high = omega arith }; free = λ h. absurd (cc) })
      ]

  control-sound : (c : Control) (span : Span) (whole ts : List Token) (r : ExpressionData × List Token) → Begins (word (control_word c) (Some span) ∷ []) whole ts → control_form inner c span ts ≡ Some r → ReadFree whole r
  control-sound If span whole ts r front e = if-sound span whole ts r front e
  control-sound While span whole ts r front e = while-sound span whole ts r front e
  control-sound Loop span whole ts r front e =
      let b = last (body_at inner false ts) (λ body. (LoopExpression span body.0, body.1)) r e in
      let body = body-sound false ts b.value b.first in
      subst (ReadFree whole) b.then (record {
        good = record { spelled = Begins-append (word (codes "loop") (Some span) ∷ []) (expression_spelling b.value.0) whole ts b.value.1 front body.read.0; is_proper = body.read.1; high = omega arith };
        free = body.free;
      })
  control-sound Return span whole ts r front e = return-sound span whole ts r front e
  control-sound Abort span whole ts r front e =
      let v = last (any inner ts) (λ code. (AbortExpression span code.0, code.1)) r e in
      let read = sound 0 ts v.value (omega arith) v.first in
      subst (ReadFree whole) v.then (record {
        good = record { spelled = Begins-append (word (codes "abort") (Some span) ∷ []) (expression_spelling v.value.0) whole ts v.value.1 front read.joined.spelled; is_proper = read.joined.is_proper; high = omega arith };
        free = read.free;
      })
  control-sound Break span whole ts r front e = subst (ReadFree whole) (some_one (BreakExpression span, ts) r e) (record { good = record { spelled = front; is_proper = tt; high = omega arith }; free = λ h. absurd (cc) })
  control-sound Continue span whole ts r front e = subst (ReadFree whole) (some_one (ContinueExpression span, ts) r e) (record { good = record { spelled = front; is_proper = tt; high = omega arith }; free = λ h. absurd (cc) })

  -- ---- operands

  term-sound : (ts : List Token) (r : ExpressionData × List Token) → term_at inner ts ≡ Some r → Good elsewhere term_level ts r
  unfolding term_at
  term-sound ts r e =
      elim (either (sign_span_at LeftParenthesis ts) _ _ r e) [
        | inl s ↦ parenthesized-sound s.value.0 ts s.value.1 r (sign_span_at-sound LeftParenthesis ts s.value s.first) s.then
        | inr n ↦ elim (either (sign_span_at LeftBrace ts) _ _ r n.1) [
          | inl s ↦ block-sound s.value.0 ts s.value.1 r (sign_span_at-sound LeftBrace ts s.value s.first) s.then
          | inr n ↦ elim (either (sign_span_at AtSign ts) _ _ r n.1) [
            | inl s ↦
                let a = last (address_at s.value.1) (λ a. (LiteralExpression (address_literal s.value.0 a.0), a.1)) r s.then in
                let address = address_at-sound s.value.1 a.value a.first in
                subst (Good elsewhere term_level ts) a.then
                (record { spelled = Begins-append (sign_at s.value.0 AtSign ∷ []) (address_spelling a.value.0) ts s.value.1 a.value.1 (sign_span_at-sound AtSign ts s.value s.first) address.0; is_proper = address.1; high = omega arith })
            | inr n ↦ elim (either (plain_literal_at ts) _ _ r n.1) [
              | inl s ↦
                  let l = plain_literal_at-sound ts s.value s.first in
                  subst (Good elsewhere term_level ts) (some_one (LiteralExpression s.value.0, s.value.1) r s.then) (record { spelled = l.0; is_proper = l.1; high = omega arith })
              | inr n ↦ elim (either (vector_span_at ts) _ _ r n.1) [
                | inl s ↦ vector-sound s.value.0 ts s.value.1 r (vector_span_at-sound ts s.value s.first) s.then
                | inr n ↦ elim (either (assert_span_at ts) _ _ r n.1) [
                  | inl s ↦ assert-sound s.value.0 ts s.value.1 r (assert_span_at-sound ts s.value s.first) s.then
                  | inr n ↦ path_term-sound ts r n.1
                ]
              ]
            ]
          ]
        ]
      ]

  fields-sound : (n : ℕ) (base : ExpressionData) (whole ts : List Token) (r : ExpressionData × List Token) → Begins (expression_spelling base) whole ts → IsProperExpression base → term_level ≤ level base → fields_at n base ts ≡ Some r → Good elsewhere term_level whole r
  unfolding fields_at
  fields-sound zero base whole ts r b p h e = absurd (cc)
  fields-sound (suc n) base whole ts r b p h e =
      elim (either (after_sign Period ts) _ _ r e) [
        | inl s ↦
            let f = step (identifier_at s.value) _ r s.then in
            let field = identifier_at-sound s.value f.value f.first in
            fields-sound n (FieldExpression base f.value.0) whole f.value.1 r
            (Begins-append (expression_spelling base) (sign Period ∷ identifier f.value.0 ∷ []) whole ts f.value.1 b (Begins-append (sign Period ∷ []) (identifier f.value.0 ∷ []) ts s.value f.value.1 (after_sign-sound Period ts s.value s.first) field.0))
            (p, h, field.1) (omega arith) f.then
        | inr m ↦ subst (Good elsewhere term_level whole) (some_one (base, ts) r m.1) (record { spelled = b; is_proper = p; high = h })
      ]

  operand-sound : (ts : List Token) (r : ExpressionData × List Token) → operand_at inner ts ≡ Some r → Good elsewhere unary_level ts r
  unfolding operand_at
  operand-sound ts r e =
      elim (either (prefix_at ts) _ _ r e) [
        | inl s ↦
            let x = last (inner.expressions unary_level s.value.1) (λ e. (UnaryExpression s.value.0.0 s.value.0.1 e.0, e.1)) r s.then in
            let read = (sound unary_level s.value.1 x.value (omega arith) x.first).joined in
            subst (Good elsewhere unary_level ts) x.then (record {
              spelled = Begins-append (unary_spelling s.value.0.0 s.value.0.1) (expression_spelling x.value.0) ts s.value.1 x.value.1 (prefix_at-sound ts s.value s.first) read.spelled;
              is_proper = (read.is_proper, read.level);
              high = omega arith;
            })
        | inr n ↦ elim (either (use_at ts) _ _ r n.1) [
          | inl s ↦
              let x = last (identifier_at s.value.1) (λ local. (UseExpression s.value.0.0 s.value.0.1 local.0, local.1)) r s.then in
              let local = identifier_at-sound s.value.1 x.value x.first in
              subst (Good elsewhere unary_level ts) x.then (record {
                spelled = Begins-append (use_spelling s.value.0.0 s.value.0.1) (identifier x.value.0 ∷ []) ts s.value.1 x.value.1 (use_at-sound ts s.value s.first) local.0;
                is_proper = local.1;
                high = omega arith;
              })
          | inr m ↦
              let t = step (term_at inner ts) _ r m.1 in
              let term = term-sound ts t.value t.first in
              let f = fields-sound (suc (length t.value.1)) t.value.0 ts t.value.1 r term.spelled term.is_proper term.high t.then in
              record { spelled = f.spelled; is_proper = f.is_proper; high = omega (arith, f.high) }
        ]
      ]

  -- ---- expressions

  right_small : (o : BinaryOperator) → right_level o ≤ unary_level
  right_small o = omega (arith, level_small o)

  -- any operator can follow an operand
  may_go_on : (e : ExpressionData) (ts : List Token) → unary_level ≤ level e → (q : (BinaryOperator × Span) × List Token) → joints.operator_at e ts ≡ Some q → left_level q.0.0 ≤ level e
  may_go_on e ts h q is = omega (arith, h, level_small q.0.0)

  chain-sound : (m : ℕ) → m ≤ unary_level → (x : ExpressionData) (whole ts : List Token) (r : ExpressionData × List Token) → Good elsewhere unary_level whole (x, ts) → whole_chain_at joints inner.expressions m x ts ≡ Some r → Joined joints expression_rules m whole r
  chain-sound m k x whole ts r g e =
      chain_at-sound joints expression_rules inner.expressions (λ o ts r e. (sound (joints.right o) ts r (right_small o.0) e).joined) (suc (length ts)) m x whole ts r g.spelled g.is_proper (omega (arith, k, g.high)) (may_go_on x ts g.high) e

  behind_operand-sound : (x : ExpressionData) (whole ts : List Token) (r : ExpressionData × List Token) → Good elsewhere unary_level whole (x, ts) → behind_operand inner x ts ≡ Some r → ReadFree whole r
  unfolding behind_operand
  behind_operand-sound x whole ts r g e =
      elim (either (sign_span_at Equal ts) _ _ r e) [
        | inl s ↦
            let v = last (any inner s.value.1) (λ value. (AssignExpression x s.value.0 value.0, value.1)) r s.then in
            let read = sound 0 s.value.1 v.value (omega arith) v.first in
            subst (ReadFree whole) v.then (record {
              good = record {
                spelled = Begins-append (expression_spelling x) (sign_at s.value.0 Equal ∷ expression_spelling v.value.0) whole ts v.value.1 g.spelled
                    (Begins-append (sign_at s.value.0 Equal ∷ []) (expression_spelling v.value.0) ts s.value.1 v.value.1 (sign_span_at-sound Equal ts s.value s.first) read.joined.spelled);
                is_proper = (g.is_proper, g.high, read.joined.is_proper);
                high = omega arith;
              };
              free = read.free;
            })
        | inr n ↦
            let j = chain-sound 1 (omega arith) x whole ts r g n.1 in
            record { good = record { spelled = j.spelled; is_proper = j.is_proper; high = omega arith }; free = λ h. absurd (true_or_false (takes_else r.0) h (high_no_else r.0 j.level)) }
      ]

  any_form-sound : (ts : List Token) (r : ExpressionData × List Token) → any_form inner ts ≡ Some r → ReadFree ts r
  unfolding any_form
  any_form-sound ts r e =
      elim (either (control_at ts) _ _ r e) [
        | inl c ↦ control-sound c.value.0.0 c.value.0.1 ts c.value.1 r (control_at-sound ts c.value c.first) c.then
        | inr n ↦
            let x = step (operand_at inner ts) _ r n.1 in
            let o = operand-sound ts x.value x.first in
            behind_operand-sound x.value.0 ts x.value.1 r (record { spelled = o.spelled; is_proper = o.is_proper; high = o.high }) x.then
      ]

  -- an expression of a level of operators; no level is above that of unary operators
  expression_form-sound : (m : ℕ) (ts : List Token) (r : ExpressionData × List Token) → m ≤ unary_level → expression_form inner m ts ≡ Some r → ReadAs m ts r
  unfolding expression_form
  expression_form-sound m ts r k e =
      elim (either_read (m == 0) _ _ r e) [
        | inl s ↦
            let f = any_form-sound ts r s.1 in
            let zero_level = eqb-true m 0 s.0 in
            record {
              joined = record { spelled = f.good.spelled; is_proper = f.good.is_proper; level = omega (arith, zero_level); stops = λ h. absurd (omega (arith, zero_level, h)) };
              free = f.free;
            }
        | inr n ↦
            let x = step (operand_at inner ts) _ r n.1 in
            let o = operand-sound ts x.value x.first in
            let j = chain-sound m k x.value.0 ts x.value.1 r (record { spelled = o.spelled; is_proper = o.is_proper; high = o.high }) x.then in
            let some_level = eqb-false m 0 n.0 in
            record { joined = j; free = λ h. absurd (true_or_false (takes_else r.0) h (high_no_else r.0 (some_high m (level r.0) some_level j.level))) }
      ]
    where
      some_high : (m n : ℕ) → (m ≡ 0 → ⊥) → m ≤ n → 1 ≤ n
      some_high zero n h k = absurd (h refl)
      some_high (suc m) n h k = omega (arith, k)

pub expression_at-sound : (n : ℕ) → ReadsExpressions (expression_at n)
unfolding expression_at
expression_at-sound zero m ts r k e = absurd (cc)
expression_at-sound (suc n) m ts r k e = expression_form-sound (readers n) (type_at-sound n) (pattern_at-sound n) (expression_at-sound n) m ts r k e
