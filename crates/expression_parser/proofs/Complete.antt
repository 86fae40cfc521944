-- Each proper expression is read.
use Rattle.std.proofs.Common.{◌≡◌, ℕ, zero, suc, ◌<◌, ◌≤◌, Bool, true, false, cond, ◌&&◌, ◌==◌, List, [], ◌∷◌, ◌++◌, Option, Some, None, length, refl, sym, ap, subst, ◌∙◌, inl, inr, arith, append_assoc}
use Rattle.std.specs.Prelude.{codes, map, option_and_then, is_some}
use Rattle.std.proofs.Math.Dec.{eqb-suc-zero}
use Rattle.base.specs.declared.span.Span.{Span}
use Rattle.tokens.specs.declared.token.Token.{Token}
use Rattle.tokens.specs.declared.token.Punctuation.TheVariants.{LeftParenthesis, RightParenthesis, LeftBrace, RightBrace, Less, Semicolon, Colon, ColonColon, Period, Equal, Exclaim, Star, Ampersand}
use Rattle.syntax_tree.specs.declared.lexeme.Identifier.{Identifier}
use Rattle.syntax_tree.specs.declared.lexeme.Lexeme.{Lexeme}
use Rattle.syntax_tree.specs.declared.operator.BinaryOperator.{BinaryOperator}
use Rattle.syntax_tree.specs.declared.spec_tokens.KeptSpec.{KeptSpec}
use Rattle.syntax_tree.specs.Lexemes.{word, sign, sign_at, identifier}
use Rattle.syntax_tree.specs.SpecTokenSpelling.{kept_spelling}
use Rattle.syntax_tree.specs.NameRules.{IsName}
use Rattle.syntax_tree.specs.ProperPatterns.{IsProperPattern}
use Rattle.syntax_tree.specs.TypeTreeData.{SourceTypeData}
use Rattle.syntax_tree.specs.TypeSpelling.{type_spelling}
use Rattle.syntax_tree.specs.PatternData.{PatternData}
use Rattle.syntax_tree.specs.PatternSpelling.{pattern_spelling}
use Rattle.syntax_tree.specs.OperatorSpelling.{unary_spelling, use_spelling}
use Rattle.syntax_tree.specs.ExpressionData.{ExpressionData, BinaryExpression, AssignExpression, IfExpression, WhileExpression, LoopExpression, ReturnExpression, AbortExpression, BreakExpression, ContinueExpression, UnaryExpression, UseExpression, FieldExpression, LiteralExpression, PathExpression, CallExpression, PackExpression, VectorExpression, AssertExpression, TupleExpression, CastExpression, BlockExpression, MaybeExpressionData, NoExpression, SomeExpression, BlockOf, ItemData, ExpressionItem, LetItem, ItemsData, NoItems, MoreItems, items_of, list_of_items, maybe_expression_of}
use Rattle.syntax_tree.specs.ExpressionSpelling.{expression_spelling, annotation_spelling, maybe_expression_spelling, else_spelling, items_spelling, item_spelling, initial_spelling}
use Rattle.syntax_tree.specs.ProperExpressions.{LeavesElse, elsewhere, right_level, level, unary_level, term_level, takes_else, IsProperAs, IsProperExpression, IsProperMaybe, IsProperItem, AreProperItems, IsProperAnnotation}
use Rattle.parser_base.specs.Beginnings.{Begins}
use Rattle.parser_base.specs.TokenReading.{is_word, after_sign, sign_span_at, after_word, word_span_at, identifier_at}
use Rattle.parser_base.specs.ChainReading.{next_operator, whole_chain_at}
use Rattle.parser_base.proofs.Steps.{bind_some, map_some, map_or_none, map_or_some, cond_true, cond_false, true_or_false}
use Rattle.parser_base.proofs.BeginLemmas.{Begins-split, Begins-first, Begins-same, length-Begins}
use Rattle.parser_base.proofs.TokenLemmas.{after_sign-complete, after_sign-other, sign_span_at-complete, sign_span_at-none, sign_span_at-other, after_word-complete, word_span_at-complete, identifier_at-complete}
use Rattle.parser_base.proofs.FirstLemmas.{First-weaker, First-some, word_span_at-first, after_word-first}
use Rattle.parser_base.proofs.ChainLemmas.{Spine, operand, joined, first_of, Fits, walk, chain-complete}
use Rattle.parser_base.proofs.TypeLemmas.{ReadsBackTypes, type_at-complete}
use Rattle.parser_base.proofs.PatternLemmas.{ReadsBackPatterns, pattern_at-complete}
use Rattle.parser_base.specs.declared.leaf.Control.{Control}
use Rattle.parser_base.specs.declared.leaf.Control.TheVariants.{If, While, Loop, Return, Abort, Break, Continue}
use Rattle.expression_parser.specs.declared.block.BlockStep.TheVariants.{End, One}
use Rattle.parser_base.specs.LeafReading.{prefix_at, use_at, control_at, may_begin, spec_opening_at, spec_statement_at, annotation_at}
use Rattle.parser_base.specs.OperatorReading.{joints}
use Rattle.expression_parser.specs.ExpressionReading.{Readers, any, readers, initial_at, let_at, step_behind, step_at, put_items, contents_behind, contents_at, whole_contents_at, block_at, spec_body_at, body_at, else_at, if_at, while_at, return_at, control_form, term_at, fields_at, whole_fields_at, operand_at, behind_operand, any_form, expression_form, expression_at}
use Rattle.parser_base.proofs.LeafLemmas.{prefix_at-complete, use_at-complete, control_word, control_at-complete, spec_opening_at-complete, spec_statement_at-complete, statement_word}
use Rattle.parser_base.proofs.OpenLemmas.{BeginsExpression, BeginsTerm, expression_first, term_first, term_no_word, expression_no_sign, high_no_else}
use Rattle.parser_base.proofs.OperatorLemmas.{none_as_tight, level_small, level_some}
use Rattle.parser_base.proofs.Operators.{expression_rules}
use Rattle.parser_base.proofs.EndLemmas.{TermEnds, OperandEnds, Follows, closed_stops, follows_closed, closes_word, follows_sign, else_begins_none, operator_follows}
use Rattle.expression_parser.proofs.Sound.{let_spelled, block_spelled, spec_block_spelled, role_of}
use Rattle.expression_parser.proofs.TermComplete.{ReadsBackExpressions, literal-complete, path-complete, call-complete, pack-complete, vector-complete, assert-complete, cast-complete, tuple-complete}
use Rattle.expression_parser.proofs.KindLemmas.{let_begins_none, mut_begins_none, move_begins_none, copy_begins_none, no_word_first, expression_begins, inside_first, no_spec_opening, option_of, maybe_option, listed_items, item_some, behind_annotation, behind_pattern, IsControl, IsPlainTerm, ends_at_period, term_no_span, unary_some, use_no_prefix, prefix_none, use_none, ends_at_equal, control_at-first, operand_first, kind_of_body, held_spec, Decomposed, decompose, first_ends, first_no_equal, part_follows}

module _ (bound : ℕ) (inner : Readers) (types_complete : ReadsBackTypes bound inner.types) (patterns_complete : ReadsBackPatterns bound inner.patterns) (complete : ReadsBackExpressions bound inner.expressions) where
  inside : (e : ExpressionData) (ts rest : List Token) → length ts ≤ bound → Begins (expression_spelling e) ts rest → IsProperExpression e → Follows 0 e rest → any inner ts ≡ Some (e, rest)
  inside e ts rest h b p f = complete 0 e ts rest h b p (omega arith) f

  -- ---- blocks

  annotation-complete : (a : Option SourceTypeData) (ts rest : List Token) → length ts ≤ suc bound → Begins (annotation_spelling a) ts rest → IsProperAnnotation a → after_sign Colon rest ≡ None → (after_sign ColonColon rest ≡ None) × (after_sign Less rest ≡ None) → annotation_at inner.types ts ≡ Some (a, rest)
  unfolding annotation_at
  annotation-complete None ts rest h b p e d = map_or_none (after_sign Colon ts) _ (Some (None, ts)) (ap (after_sign Colon) b ∙ e) ∙ ap (λ us. Some (None, us)) b
  annotation-complete (Some t) ts rest h b p e d =
      let c = Begins-first (sign Colon) (type_spelling t) ts rest b in
      map_or_some (after_sign Colon ts) _ (Some (None, ts)) c.mid (after_sign-complete Colon ts c.mid c.front)
      ∙ map_some (inner.types c.mid) (λ t. (Some t.0, t.1)) (t, rest) (types_complete t c.mid rest (omega (arith, h, length-Begins (sign Colon ∷ []) ts c.mid c.front)) c.back p d)

  initial-complete : (v : MaybeExpressionData) (ts rest : List Token) → length ts ≤ bound → Begins (initial_spelling v) ts rest → IsProperMaybe v → ((e : ExpressionData) → Follows 0 e rest) → after_sign Equal rest ≡ None → initial_at inner ts ≡ Some (option_of v, rest)
  unfolding initial_at
  initial-complete NoExpression ts rest h b p f e = map_or_none (after_sign Equal ts) _ (Some (None, ts)) (ap (after_sign Equal) b ∙ e) ∙ ap (λ us. Some (None, us)) b
  initial-complete (SomeExpression x) ts rest h b p f e =
      let c = Begins-first (sign Equal) (expression_spelling x) ts rest b in
      map_or_some (after_sign Equal ts) _ (Some (None, ts)) c.mid (after_sign-complete Equal ts c.mid c.front)
      ∙ map_some (any inner c.mid) (λ e. (Some e.0, e.1)) (x, rest) (inside x c.mid rest (omega (arith, h, length-Begins (sign Equal ∷ []) ts c.mid c.front)) c.back p (f x))

  let-complete : (span : Span) (pattern : PatternData) (a : Option SourceTypeData) (v : MaybeExpressionData) (ts rest : List Token) → length ts ≤ bound → Begins (pattern_spelling pattern ++ (annotation_spelling a ++ (initial_spelling v ++ sign Semicolon ∷ []))) ts rest
      → IsProperPattern pattern → IsProperAnnotation a → IsProperMaybe v → let_at inner span ts ≡ Some (LetItem span pattern a v, rest)
  unfolding let_at
  let-complete span pattern a v ts rest h b p q r =
      let s = Begins-split (pattern_spelling pattern) (annotation_spelling a ++ (initial_spelling v ++ sign Semicolon ∷ [])) ts rest b in
      let t = Begins-split (annotation_spelling a) (initial_spelling v ++ sign Semicolon ∷ []) s.mid rest s.back in
      let u = Begins-split (initial_spelling v) (sign Semicolon ∷ []) t.mid rest t.back in
      let x : length s.mid ≤ bound = omega (arith, h, length-Begins (pattern_spelling pattern) ts s.mid s.front) in
      let y : length t.mid ≤ bound = omega (arith, x, length-Begins (annotation_spelling a) s.mid t.mid t.front) in
      bind_some (inner.patterns ts) _ (pattern, s.mid) (patterns_complete pattern ts s.mid h s.front p (behind_pattern ColonColon a v s.mid rest refl refl refl s.back, behind_pattern Less a v s.mid rest refl refl refl s.back, behind_pattern LeftBrace a v s.mid rest refl refl refl s.back))
      ∙ bind_some (annotation_at inner.types s.mid) _ (a, t.mid)
      (annotation-complete a s.mid t.mid (omega (arith, x)) t.front q (behind_annotation Colon v t.mid rest refl refl t.back) (behind_annotation ColonColon v t.mid rest refl refl t.back, behind_annotation Less v t.mid rest refl refl t.back))
      ∙ bind_some (initial_at inner t.mid) _ (option_of v, u.mid) (initial-complete v t.mid u.mid y u.front r (λ e. follows_sign Semicolon e [] u.mid rest refl u.back) (after_sign-other Equal (sign Semicolon) [] u.mid rest refl u.back))
      ∙ map_some (after_sign Semicolon u.mid) _ rest (after_sign-complete Semicolon u.mid rest u.back) ∙ ap (λ w. Some (LetItem span pattern a w, rest)) (maybe_option v)

  item-complete : (i : ItemData) (ts rest : List Token) → length ts ≤ bound → Begins (item_spelling i) ts rest → IsProperItem i → step_at inner ts ≡ Some (One i, rest)
  unfolding step_at step_behind
  item-complete (ExpressionItem e) ts rest h b p =
      let s = Begins-split (expression_spelling e) (sign Semicolon ∷ []) ts rest b in
      map_or_none (after_sign RightBrace ts) _ _ (expression_no_sign RightBrace refl elsewhere e ts s.mid s.front p)
      ∙ map_or_none (word_span_at (codes "let") ts) _ _ (word_span_at-first (codes "let") (expression_spelling e) ts s.mid (no_word_first (codes "let") let_begins_none elsewhere e p) s.front)
      ∙ bind_some (any inner ts) (λ e. step_behind e.0 e.1) (e, s.mid) (inside e ts s.mid h s.front p (follows_sign Semicolon e [] s.mid rest refl s.back))
      ∙ map_or_some (after_sign Semicolon s.mid) _ _ rest (after_sign-complete Semicolon s.mid rest s.back)
  item-complete (LetItem span pattern a v) ts rest h b p =
      let w = word (codes "let") (Some span) in
      let tail = pattern_spelling pattern ++ (annotation_spelling a ++ (initial_spelling v ++ sign Semicolon ∷ [])) in
      let whole = Begins-same _ (w ∷ tail) ts rest (let_spelled w (pattern_spelling pattern) (annotation_spelling a) (initial_spelling v) (sign Semicolon ∷ [])) b in
      let s = Begins-first w tail ts rest whole in
      map_or_none (after_sign RightBrace ts) _ _ (after_sign-other RightBrace w tail ts rest refl whole)
      ∙ map_or_some (word_span_at (codes "let") ts) _ _ (span, s.mid) (word_span_at-complete (codes "let") span ts s.mid s.front)
      ∙ map_some (let_at inner span s.mid) (λ item. (One item.0, item.1)) (LetItem span pattern a v, rest) (let-complete span pattern a v s.mid rest (omega (arith, h, length-Begins (w ∷ []) ts s.mid s.front)) s.back p.0 p.1 p.2)

  end-complete : (v : MaybeExpressionData) (ts rest : List Token) → length ts ≤ bound → Begins (maybe_expression_spelling v ++ sign RightBrace ∷ []) ts rest → IsProperMaybe v → step_at inner ts ≡ Some (End (option_of v), rest)
  unfolding step_at step_behind
  end-complete NoExpression ts rest h b p = map_or_some (after_sign RightBrace ts) _ _ rest (after_sign-complete RightBrace ts rest b)
  end-complete (SomeExpression e) ts rest h b p =
      let s = Begins-split (expression_spelling e) (sign RightBrace ∷ []) ts rest b in
      map_or_none (after_sign RightBrace ts) _ _ (expression_no_sign RightBrace refl elsewhere e ts s.mid s.front p)
      ∙ map_or_none (word_span_at (codes "let") ts) _ _ (word_span_at-first (codes "let") (expression_spelling e) ts s.mid (no_word_first (codes "let") let_begins_none elsewhere e p) s.front)
      ∙ bind_some (any inner ts) (λ e. step_behind e.0 e.1) (e, s.mid) (inside e ts s.mid h s.front p (follows_sign RightBrace e [] s.mid rest refl s.back))
      ∙ map_or_none (after_sign Semicolon s.mid) _ _ (after_sign-other Semicolon (sign RightBrace) [] s.mid rest refl s.back)
      ∙ map_some (after_sign RightBrace s.mid) (λ rest. (End (Some e), rest)) rest (after_sign-complete RightBrace s.mid rest s.back)

  pub contents-complete : (n : ℕ) (items : ItemsData) (v : MaybeExpressionData) (ts rest : List Token) → length ts ≤ n → length ts ≤ bound → Begins (items_spelling items ++ (maybe_expression_spelling v ++ sign RightBrace ∷ [])) ts rest
      → AreProperItems items → IsProperMaybe v → contents_at inner n ts ≡ Some ((list_of_items items, option_of v), rest)
  unfolding contents_at
  contents-complete zero items v [] rest k h b p q = absurd (First-some (λ k. is_word (codes "spec") k ≡ false) (items_spelling items ++ (maybe_expression_spelling v ++ sign RightBrace ∷ [])) rest (inside_first items v p q) b)
  contents-complete zero items v (t ∷ ts) rest k h b p q = absurd (omega (arith, k))
  contents-complete (suc n) NoItems v ts rest k h b p q = bind_some (step_at inner ts) (λ s. contents_behind s.0 s.1 (contents_at inner n s.1)) (End (option_of v), rest) (end-complete v ts rest h b q)
  contents-complete (suc n) (MoreItems i more) v ts rest k h b p q =
      let s = Begins-split (item_spelling i) (items_spelling more ++ (maybe_expression_spelling v ++ sign RightBrace ∷ [])) ts rest
      (Begins-same _ _ ts rest (append_assoc (item_spelling i) (items_spelling more) (maybe_expression_spelling v ++ sign RightBrace ∷ [])) b) in
      let shorter : length s.mid < length ts = omega (arith, length-Begins (item_spelling i) ts s.mid s.front, item_some i) in
      bind_some (step_at inner ts) (λ s. contents_behind s.0 s.1 (contents_at inner n s.1)) (One i, s.mid) (item-complete i ts s.mid h s.front p.0)
      ∙ ap (put_items (i ∷ [])) (contents-complete n more v s.mid rest (omega (arith, shorter, k)) (omega (arith, shorter, h)) s.back p.1 q)

  block-complete : (span : Span) (items : ItemsData) (v : MaybeExpressionData) (ts rest : List Token) → length ts ≤ suc bound → Begins (expression_spelling (BlockExpression (BlockOf span None items v))) ts rest → AreProperItems items → IsProperMaybe v
      → term_at inner ts ≡ Some (BlockExpression (BlockOf span None items v), rest)
  unfolding term_at block_at
  block-complete span items v ts rest h b p q =
      let tail = items_spelling items ++ (maybe_expression_spelling v ++ sign RightBrace ∷ []) in
      let s = Begins-first (sign_at span LeftBrace) tail ts rest (Begins-same _ _ ts rest (block_spelled (sign_at span LeftBrace) (items_spelling items) (maybe_expression_spelling v) (sign RightBrace ∷ [])) b) in
      map_or_none (sign_span_at LeftParenthesis ts) _ _ (sign_span_at-other LeftParenthesis (sign_at span LeftBrace) [] ts s.mid refl s.front)
      ∙ map_or_some (sign_span_at LeftBrace ts) _ _ (span, s.mid) (sign_span_at-complete LeftBrace span ts s.mid s.front)
      ∙ map_some (whole_contents_at inner s.mid) (λ c. (BlockExpression (BlockOf span None (items_of c.0.0) (maybe_expression_of c.0.1)), c.1)) ((list_of_items items, option_of v), rest)
      (contents-complete (length s.mid) items v s.mid rest (omega arith) (omega (arith, h, length-Begins (sign_at span LeftBrace ∷ []) ts s.mid s.front)) s.back p q)
      ∙ ap (λ xs. Some (BlockExpression (BlockOf span None xs (maybe_expression_of (option_of v))), rest)) (listed_items items) ∙ ap (λ w. Some (BlockExpression (BlockOf span None items w), rest)) (maybe_option v)

  -- ---- the bodies and conditions of loops

  spec_body-complete : (valued : Bool) (span : Span) (spec : KeptSpec) (items : ItemsData) (v : MaybeExpressionData) (ts rest : List Token) → length ts ≤ bound → Begins (expression_spelling (BlockExpression (BlockOf span (Some spec) items v))) ts rest
      → IsProperAs (role_of valued) (BlockExpression (BlockOf span (Some spec) items v)) → body_at inner valued ts ≡ Some (BlockExpression (BlockOf span (Some spec) items v), rest)
  unfolding body_at spec_body_at
  spec_body-complete valued span spec items v ts rest h b p =
      let tail = items_spelling items ++ (maybe_expression_spelling v ++ sign RightBrace ∷ []) in
      let head = kept_spelling spec ++ sign Semicolon ∷ [] in
      let s = Begins-first (sign_at span LeftBrace) (head ++ tail) ts rest (Begins-same _ _ ts rest (spec_block_spelled (sign_at span LeftBrace) head (items_spelling items) (maybe_expression_spelling v) (sign RightBrace ∷ [])) b) in
      let k = Begins-split head tail s.mid rest s.back in
      let held = held_spec valued spec v p.0 in
      map_or_some (spec_opening_at ts) _ _ (span, s.mid) (spec_opening_at-complete span ts s.mid s.front (statement_word spec s.mid k.mid k.front held.0))
      ∙ bind_some (spec_statement_at s.mid) _ (spec, k.mid) (spec_statement_at-complete spec s.mid k.mid k.front held.0)
      ∙ bind_some (whole_contents_at inner k.mid) (λ c. cond (valued && cond (is_some c.0.1) false true) None (Some (BlockExpression (BlockOf span (Some spec) (items_of c.0.0) (maybe_expression_of c.0.1)), c.1))) ((list_of_items items, option_of v), rest)
      (contents-complete (length k.mid) items v k.mid rest (omega arith)
      (omega (arith, h, length-Begins (sign_at span LeftBrace ∷ []) ts s.mid s.front, length-Begins head s.mid k.mid k.front)) k.back p.1 p.2)
      ∙ cond_false (valued && cond (is_some (option_of v)) false true) None _ held.1
      ∙ ap (λ xs. Some (BlockExpression (BlockOf span (Some spec) xs (maybe_expression_of (option_of v))), rest)) (listed_items items) ∙ ap (λ w. Some (BlockExpression (BlockOf span (Some spec) items w), rest)) (maybe_option v)

  body-complete : (valued : Bool) (e : ExpressionData) (ts rest : List Token) → length ts ≤ bound → Begins (expression_spelling e) ts rest → IsProperAs (role_of valued) e → Follows 0 e rest → body_at inner valued ts ≡ Some (e, rest)
  unfolding body_at
  body-complete valued e ts rest h b p f =
      elim (kind_of_body (role_of valued) e p) [
        | inl q ↦ map_or_none (spec_opening_at ts) _ _ (no_spec_opening e ts rest b q) ∙ inside e ts rest h b q f
        | inr s ↦ subst (λ x. body_at inner valued ts ≡ Some (x, rest)) (sym s.is)
            (spec_body-complete valued s.span s.spec s.items s.value ts rest h (subst (λ x. Begins (expression_spelling x) ts rest) s.is b) (subst (IsProperAs (role_of valued)) s.is p))
      ]

  -- ---- control forms

  branch-complete : (span : Span) (x y : ExpressionData) (z : MaybeExpressionData) (ts us rest : List Token) → length ts ≤ bound → Begins (expression_spelling y) ts us → Begins (else_spelling z) us rest → IsProperExpression y → IsProperMaybe z → LeavesElse y z → Follows 0 (IfExpression span x y z) rest
      → option_and_then (λ then_branch. else_at inner span x then_branch.0 then_branch.1) (any inner ts) ≡ Some (IfExpression span x y z, rest)
  unfolding else_at
  branch-complete span x y NoExpression ts us rest h b c p q l f =
      bind_some (any inner ts) (λ then_branch. else_at inner span x then_branch.0 then_branch.1) (y, us) (inside y ts us h b p (subst (Follows 0 y) (sym c) (follows_closed 0 y rest (f.closes refl) (λ g. f.free refl))))
      ∙ map_or_none (after_word (codes "else") us) _ (Some (IfExpression span x y NoExpression, us)) (ap (after_word (codes "else")) c ∙ f.free refl) ∙ ap (λ vs. Some (IfExpression span x y NoExpression, vs)) c
  branch-complete span x y (SomeExpression z) ts us rest h b c p q l f =
      let w = Begins-first (word (codes "else") None) (expression_spelling z) us rest c in
      bind_some (any inner ts) (λ then_branch. else_at inner span x then_branch.0 then_branch.1) (y, us)
      (inside y ts us h b p (follows_closed 0 y us (closes_word (codes "else") (expression_spelling z) us rest else_begins_none c) (λ g. absurd (true_or_false (takes_else y) g l))))
      ∙ map_or_some (after_word (codes "else") us) _ (Some (IfExpression span x y NoExpression, us)) w.mid (after_word-complete (codes "else") us w.mid w.front)
      ∙ map_some (any inner w.mid) (λ e. (IfExpression span x y (SomeExpression e.0), e.1)) (z, rest)
      (inside z w.mid rest (omega (arith, h, length-Begins (expression_spelling y) ts us b, length-Begins (word (codes "else") None ∷ []) us w.mid w.front)) w.back q (follows_closed 0 z rest (f.closes refl) f.free))

  if-complete : (span : Span) (x y : ExpressionData) (z : MaybeExpressionData) (ts rest : List Token) → length ts ≤ bound
      → Begins (sign LeftParenthesis ∷ (expression_spelling x ++ sign RightParenthesis ∷ (expression_spelling y ++ else_spelling z))) ts rest → IsProperExpression (IfExpression span x y z) → Follows 0 (IfExpression span x y z) rest
      → if_at inner span ts ≡ Some (IfExpression span x y z, rest)
  unfolding if_at else_at
  if-complete span x y z ts rest h b p f =
      let o = Begins-first (sign LeftParenthesis) (expression_spelling x ++ sign RightParenthesis ∷ (expression_spelling y ++ else_spelling z)) ts rest b in
      let c = Begins-split (expression_spelling x) (sign RightParenthesis ∷ (expression_spelling y ++ else_spelling z)) o.mid rest o.back in
      let r = Begins-first (sign RightParenthesis) (expression_spelling y ++ else_spelling z) c.mid rest c.back in
      let t = Begins-split (expression_spelling y) (else_spelling z) r.mid rest r.back in
      let k : length o.mid ≤ bound = omega (arith, h, length-Begins (sign LeftParenthesis ∷ []) ts o.mid o.front) in
      let l : length r.mid ≤ bound = omega (arith, k, length-Begins (expression_spelling x) o.mid c.mid c.front, length-Begins (sign RightParenthesis ∷ []) c.mid r.mid r.front) in
      bind_some (after_sign LeftParenthesis ts) _ o.mid (after_sign-complete LeftParenthesis ts o.mid o.front)
      ∙ bind_some (any inner o.mid) _ (x, c.mid) (inside x o.mid c.mid k c.front p.0 (follows_sign RightParenthesis x [] c.mid r.mid refl r.front))
      ∙ bind_some (after_sign RightParenthesis c.mid) _ r.mid (after_sign-complete RightParenthesis c.mid r.mid r.front)
      ∙ branch-complete span x y z r.mid t.mid rest l t.front t.back p.1 p.2 p.3 f

  while-complete : (span : Span) (x y : ExpressionData) (ts rest : List Token) → length ts ≤ bound → Begins (sign LeftParenthesis ∷ (expression_spelling x ++ sign RightParenthesis ∷ expression_spelling y)) ts rest
      → IsProperExpression (WhileExpression span x y) → Follows 0 (WhileExpression span x y) rest → while_at inner span ts ≡ Some (WhileExpression span x y, rest)
  unfolding while_at
  while-complete span x y ts rest h b p f =
      let o = Begins-first (sign LeftParenthesis) (expression_spelling x ++ sign RightParenthesis ∷ expression_spelling y) ts rest b in
      let c = Begins-split (expression_spelling x) (sign RightParenthesis ∷ expression_spelling y) o.mid rest o.back in
      let r = Begins-first (sign RightParenthesis) (expression_spelling y) c.mid rest c.back in
      let k : length o.mid ≤ bound = omega (arith, h, length-Begins (sign LeftParenthesis ∷ []) ts o.mid o.front) in
      bind_some (after_sign LeftParenthesis ts) _ o.mid (after_sign-complete LeftParenthesis ts o.mid o.front)
      ∙ bind_some (body_at inner true o.mid) _ (x, c.mid) (body-complete true x o.mid c.mid k c.front p.0 (follows_sign RightParenthesis x [] c.mid r.mid refl r.front))
      ∙ bind_some (after_sign RightParenthesis c.mid) _ r.mid (after_sign-complete RightParenthesis c.mid r.mid r.front)
      ∙ map_some (any inner r.mid) (λ body. (WhileExpression span x body.0, body.1)) (y, rest)
      (inside y r.mid rest (omega (arith, k, length-Begins (expression_spelling x) o.mid c.mid c.front, length-Begins (sign RightParenthesis ∷ []) c.mid r.mid r.front)) r.back p.1 (follows_closed 0 y rest (f.closes refl) f.free))

  return-complete : (span : Span) (v : MaybeExpressionData) (ts rest : List Token) → length ts ≤ bound → Begins (maybe_expression_spelling v) ts rest → IsProperMaybe v → Follows 0 (ReturnExpression span v) rest → return_at inner span ts ≡ Some (ReturnExpression span v, rest)
  unfolding return_at
  return-complete span NoExpression ts rest h b p f = cond_false (may_begin ts) _ _ (ap may_begin b ∙ (f.closes refl).begin) ∙ ap (λ us. Some (ReturnExpression span NoExpression, us)) b
  return-complete span (SomeExpression v) ts rest h b p f =
      cond_true (may_begin ts) _ _ (expression_begins v ts rest b p) ∙ map_some (any inner ts) (λ value. (ReturnExpression span (SomeExpression value.0), value.1)) (v, rest) (inside v ts rest h b p (follows_closed 0 v rest (f.closes refl) f.free))

  -- a control form after its word
  controlled : (c : Control) (span : Span) (ls : List Lexeme) (ts rest : List Token) (r : ExpressionData × List Token) → length ts ≤ suc bound → Begins (word (control_word c) (Some span) ∷ ls) ts rest
      → ((us : List Token) → length us ≤ bound → Begins ls us rest → control_form inner c span us ≡ Some r) → any_form inner ts ≡ Some r
  unfolding any_form
  controlled c span ls ts rest r h b f =
      let s = Begins-first (word (control_word c) (Some span)) ls ts rest b in
      map_or_some (control_at ts) _ _ ((c, span), s.mid) (control_at-complete c span ts s.mid s.front) ∙ f s.mid (omega (arith, h, length-Begins (word (control_word c) (Some span) ∷ []) ts s.mid s.front)) s.back

  control-complete : (e : ExpressionData) (ts rest : List Token) → length ts ≤ suc bound → Begins (expression_spelling e) ts rest → IsProperExpression e → Follows 0 e rest → IsControl e → any_form inner ts ≡ Some (e, rest)
  control-complete (IfExpression span x y z) ts rest h b p f c =
      controlled If span (sign LeftParenthesis ∷ (expression_spelling x ++ sign RightParenthesis ∷ (expression_spelling y ++ else_spelling z))) ts rest _ h
      (Begins-same _ _ ts rest (append_assoc (word (codes "if") (Some span) ∷ sign LeftParenthesis ∷ expression_spelling x) (sign RightParenthesis ∷ expression_spelling y) (else_spelling z)) b)
      (λ us k b. if-complete span x y z us rest k b p f)
  control-complete (WhileExpression span x y) ts rest h b p f c =
      controlled While span (sign LeftParenthesis ∷ (expression_spelling x ++ sign RightParenthesis ∷ expression_spelling y)) ts rest _ h b (λ us k b. while-complete span x y us rest k b p f)
  control-complete (LoopExpression span x) ts rest h b p f c =
      controlled Loop span (expression_spelling x) ts rest _ h b
      (λ us k b. map_some (body_at inner false us) (λ body. (LoopExpression span body.0, body.1)) (x, rest) (body-complete false x us rest k b p (follows_closed 0 x rest (f.closes refl) f.free)))
  control-complete (ReturnExpression span v) ts rest h b p f c = controlled Return span (maybe_expression_spelling v) ts rest _ h b (λ us k b. return-complete span v us rest k b p f)
  control-complete (AbortExpression span x) ts rest h b p f c =
      controlled Abort span (expression_spelling x) ts rest _ h b (λ us k b. map_some (any inner us) (λ code. (AbortExpression span code.0, code.1)) (x, rest) (inside x us rest k b p (follows_closed 0 x rest (f.closes refl) f.free)))
  control-complete (BreakExpression span) ts rest h b p f c = controlled Break span [] ts rest _ h b (λ us k b. ap (λ vs. Some (BreakExpression span, vs)) b)
  control-complete (ContinueExpression span) ts rest h b p f c = controlled Continue span [] ts rest _ h b (λ us k b. ap (λ vs. Some (ContinueExpression span, vs)) b)
  control-complete _ ts rest h b p f c = absurd c

  -- ---- terms and operands

  term-complete : (e : ExpressionData) (ts rest : List Token) → length ts ≤ suc bound → Begins (expression_spelling e) ts rest → IsProperExpression e → IsPlainTerm e → TermEnds e rest → term_at inner ts ≡ Some (e, rest)
  term-complete (LiteralExpression l) ts rest h b p t d = literal-complete bound inner types_complete complete l ts rest b p d.quiet.colons
  term-complete (PathExpression path) ts rest h b p t d = path-complete bound inner types_complete complete path ts rest h b p d
  term-complete (CallExpression path a values last) ts rest h b p t d = call-complete bound inner types_complete complete path a values last ts rest h b p
  term-complete (PackExpression path a fields last) ts rest h b p t d = pack-complete bound inner types_complete complete path a fields last ts rest h b p
  term-complete (VectorExpression span a items last) ts rest h b p t d = vector-complete bound inner types_complete complete span a items last ts rest h b p
  term-complete (AssertExpression span x y) ts rest h b p t d = assert-complete bound inner types_complete complete span x y ts rest h b p
  term-complete (TupleExpression span items last) ts rest h b p t d = tuple-complete bound inner types_complete complete span items last ts rest h b p
  term-complete (CastExpression span x y) ts rest h b p t d = cast-complete bound inner types_complete complete span x y ts rest h b p
  term-complete (BlockExpression (BlockOf span None items v)) ts rest h b p t d = block-complete span items v ts rest h b p.1 p.2
  term-complete (BlockExpression (BlockOf span (Some spec) items v)) ts rest h b p t d = absurd p.0
  term-complete _ ts rest h b p t d = absurd t

  -- the loop over fields is after the term, with steps left
  record FieldsRead (n : ℕ) (first : ExpressionData) (us : List Token) (e : ExpressionData) (rest : List Token) : Type 0 where
    left : ℕ
    enough : length rest < left
    same : fields_at n first us ≡ fields_at left e rest

  record Fielded (e : ExpressionData) (ts rest : List Token) : Type 0 where
    first : ExpressionData
    us : List Token
    read : term_at inner ts ≡ Some (first, us)
    goes : (n : ℕ) → length us < n → FieldsRead n first us e rest

  field_turn : (n k : ℕ) (first base : ExpressionData) (field : Identifier) (us ts vs rest : List Token) → fields_at n first us ≡ fields_at k base ts → length ts < k → length rest < length ts → Begins (sign Period ∷ []) ts vs → Begins (identifier field ∷ []) vs rest → IsName field.text
      → FieldsRead n first us (FieldExpression base field) rest
  unfolding fields_at
  field_turn n zero first base field us ts vs rest e k s a b p = absurd (omega (arith, k))
  field_turn n (suc k) first base field us ts vs rest e l s a b p = record {
    left = k;
    enough = omega (arith, l, s);
    same = e ∙ map_or_some (after_sign Period ts) _ (Some (base, ts)) vs (after_sign-complete Period ts vs a)
        ∙ bind_some (identifier_at vs) (λ field. fields_at k (FieldExpression base field.0) field.1) (field, rest) (identifier_at-complete field vs rest b p);
  }

  fielded : (e : ExpressionData) (ts rest : List Token) → length ts ≤ suc bound → Begins (expression_spelling e) ts rest → IsProperExpression e → term_level ≤ level e → TermEnds e rest → Fielded e ts rest
  fielded (FieldExpression base field) ts rest h b p k d =
      let s = Begins-split (expression_spelling base) (sign Period ∷ identifier field ∷ []) ts rest b in
      let q = Begins-first (sign Period) (identifier field ∷ []) s.mid rest s.back in
      let before = fielded base ts s.mid h s.front p.0 p.1 (ends_at_period base s.mid q.mid q.front) in
      record {
        first = before.first;
        us = before.us;
        read = before.read;
        goes = λ n l. let r = before.goes n l in
            field_turn n r.left before.first base field before.us s.mid q.mid rest r.same r.enough
            (omega (arith, length-Begins (sign Period ∷ []) s.mid q.mid q.front, length-Begins (identifier field ∷ []) q.mid rest q.back)) q.front q.back p.2;
      }
  fielded (BinaryExpression l o span r) ts rest h b p k d = absurd (omega (arith, k, level_small o))
  fielded (AssignExpression target span value) ts rest h b p k d = absurd (omega (arith, k))
  fielded (IfExpression span x y z) ts rest h b p k d = absurd (omega (arith, k))
  fielded (WhileExpression span x y) ts rest h b p k d = absurd (omega (arith, k))
  fielded (LoopExpression span x) ts rest h b p k d = absurd (omega (arith, k))
  fielded (ReturnExpression span x) ts rest h b p k d = absurd (omega (arith, k))
  fielded (AbortExpression span x) ts rest h b p k d = absurd (omega (arith, k))
  fielded (BreakExpression span) ts rest h b p k d = absurd (omega (arith, k))
  fielded (ContinueExpression span) ts rest h b p k d = absurd (omega (arith, k))
  fielded (UnaryExpression o span x) ts rest h b p k d = absurd (omega (arith, k))
  fielded (UseExpression u span local) ts rest h b p k d = absurd (omega (arith, k))
  fielded (LiteralExpression l) ts rest h b p k d = record { first = LiteralExpression l; us = rest; read = term-complete (LiteralExpression l) ts rest h b p tt d; goes = λ n l. record { left = n; enough = l; same = refl } }
  fielded (PathExpression path) ts rest h b p k d = record { first = PathExpression path; us = rest; read = term-complete (PathExpression path) ts rest h b p tt d; goes = λ n l. record { left = n; enough = l; same = refl } }
  fielded (CallExpression path given values last) ts rest h b p k d = record { first = CallExpression path given values last; us = rest; read = term-complete (CallExpression path given values last) ts rest h b p tt d; goes = λ n l. record { left = n; enough = l; same = refl } }
  fielded (PackExpression path given fields last) ts rest h b p k d = record { first = PackExpression path given fields last; us = rest; read = term-complete (PackExpression path given fields last) ts rest h b p tt d; goes = λ n l. record { left = n; enough = l; same = refl } }
  fielded (VectorExpression span given items last) ts rest h b p k d = record { first = VectorExpression span given items last; us = rest; read = term-complete (VectorExpression span given items last) ts rest h b p tt d; goes = λ n l. record { left = n; enough = l; same = refl } }
  fielded (AssertExpression span x y) ts rest h b p k d = record { first = AssertExpression span x y; us = rest; read = term-complete (AssertExpression span x y) ts rest h b p tt d; goes = λ n l. record { left = n; enough = l; same = refl } }
  fielded (TupleExpression span items last) ts rest h b p k d = record { first = TupleExpression span items last; us = rest; read = term-complete (TupleExpression span items last) ts rest h b p tt d; goes = λ n l. record { left = n; enough = l; same = refl } }
  fielded (CastExpression span x t) ts rest h b p k d = record { first = CastExpression span x t; us = rest; read = term-complete (CastExpression span x t) ts rest h b p tt d; goes = λ n l. record { left = n; enough = l; same = refl } }
  fielded (BlockExpression x) ts rest h b p k d = record { first = BlockExpression x; us = rest; read = term-complete (BlockExpression x) ts rest h b p tt d; goes = λ n l. record { left = n; enough = l; same = refl } }

  fields-complete : (e : ExpressionData) (ts rest : List Token) (f : Fielded e ts rest) → after_sign Period rest ≡ None → whole_fields_at f.first f.us ≡ Some (e, rest)
  unfolding fields_at
  fields-complete e ts rest f d = let r = f.goes (suc (length f.us)) (omega arith) in r.same ∙ last r.left r.enough
    where
      last : (k : ℕ) → length rest < k → fields_at k e rest ≡ Some (e, rest)
      last zero j = absurd (omega (arith, j))
      last (suc k) j = map_or_none (after_sign Period rest) _ (Some (e, rest)) d

  -- a term with its fields
  termed : (e : ExpressionData) (ts rest : List Token) → Begins (expression_spelling e) ts rest → IsProperExpression e → term_level ≤ level e → (f : Fielded e ts rest) → after_sign Period rest ≡ None → operand_at inner ts ≡ Some (e, rest)
  unfolding operand_at
  termed e ts rest b p k f d =
      let first = term_first e k p in
      map_or_none (prefix_at ts) _ _ (prefix_none ts (term_no_span Exclaim refl e ts rest b p k) (term_no_span Star refl e ts rest b p k) (term_no_span Ampersand refl e ts rest b p k))
      ∙ map_or_none (use_at ts) _ _ (use_none ts
      (word_span_at-first (codes "move") (expression_spelling e) ts rest (First-weaker BeginsTerm (λ k. is_word (codes "move") k ≡ false) (term_no_word (codes "move") move_begins_none) (expression_spelling e) first) b)
      (word_span_at-first (codes "copy") (expression_spelling e) ts rest (First-weaker BeginsTerm (λ k. is_word (codes "copy") k ≡ false) (term_no_word (codes "copy") copy_begins_none) (expression_spelling e) first) b))
      ∙ bind_some (term_at inner ts) (λ term. whole_fields_at term.0 term.1) (f.first, f.us) f.read ∙ fields-complete e ts rest f d

  operand-complete : (e : ExpressionData) (ts rest : List Token) → length ts ≤ suc bound → Begins (expression_spelling e) ts rest → IsProperExpression e → unary_level ≤ level e → OperandEnds e rest → operand_at inner ts ≡ Some (e, rest)
  unfolding operand_at
  operand-complete (UnaryExpression o span x) ts rest h b p k d =
      let s = Begins-split (unary_spelling o span) (expression_spelling x) ts rest b in
      map_or_some (prefix_at ts) _ _ ((o, span), s.mid) (prefix_at-complete o span ts s.mid s.front (after_word-first (codes "mut") (expression_spelling x) s.mid rest (no_word_first (codes "mut") mut_begins_none elsewhere x p.0) s.back))
      ∙ map_some (inner.expressions unary_level s.mid) (λ e. (UnaryExpression o span e.0, e.1)) (x, rest)
      (complete unary_level x s.mid rest (omega (arith, h, length-Begins (unary_spelling o span) ts s.mid s.front, unary_some o span)) s.back p.0 p.1 (record {
        operand = record { term = record { quiet = d.term.quiet; glue = d.term.glue; vector = d.term.vector }; period = d.period };
        stops = λ z. none_as_tight x rest;
        closes = λ z. absurd (omega (arith, z));
        free = λ g. absurd (true_or_false (takes_else x) g (high_no_else x (omega (arith, p.1))));
      }))
  operand-complete (UseExpression u span local) ts rest h b p k d =
      let s = Begins-split (use_spelling u span) (identifier local ∷ []) ts rest b in
      map_or_none (prefix_at ts) _ _ (use_no_prefix u span ts s.mid s.front)
      ∙ map_or_some (use_at ts) _ _ ((u, span), s.mid) (use_at-complete u span ts s.mid s.front)
      ∙ map_some (identifier_at s.mid) (λ local. (UseExpression u span local.0, local.1)) (local, rest) (identifier_at-complete local s.mid rest s.back p)
  operand-complete (BinaryExpression l o span r) ts rest h b p k d = absurd (omega (arith, k, level_small o))
  operand-complete (AssignExpression target span value) ts rest h b p k d = absurd (omega (arith, k))
  operand-complete (IfExpression span x y z) ts rest h b p k d = absurd (omega (arith, k))
  operand-complete (WhileExpression span x y) ts rest h b p k d = absurd (omega (arith, k))
  operand-complete (LoopExpression span x) ts rest h b p k d = absurd (omega (arith, k))
  operand-complete (ReturnExpression span x) ts rest h b p k d = absurd (omega (arith, k))
  operand-complete (AbortExpression span x) ts rest h b p k d = absurd (omega (arith, k))
  operand-complete (BreakExpression span) ts rest h b p k d = absurd (omega (arith, k))
  operand-complete (ContinueExpression span) ts rest h b p k d = absurd (omega (arith, k))
  operand-complete (FieldExpression base field) ts rest h b p k d = termed (FieldExpression base field) ts rest b p (omega arith) (fielded (FieldExpression base field) ts rest h b p (omega arith) d.term) d.period
  operand-complete (LiteralExpression l) ts rest h b p k d = termed (LiteralExpression l) ts rest b p (omega arith) (fielded (LiteralExpression l) ts rest h b p (omega arith) d.term) d.period
  operand-complete (PathExpression path) ts rest h b p k d = termed (PathExpression path) ts rest b p (omega arith) (fielded (PathExpression path) ts rest h b p (omega arith) d.term) d.period
  operand-complete (CallExpression path given values last) ts rest h b p k d = termed (CallExpression path given values last) ts rest b p (omega arith) (fielded (CallExpression path given values last) ts rest h b p (omega arith) d.term) d.period
  operand-complete (PackExpression path given fields last) ts rest h b p k d = termed (PackExpression path given fields last) ts rest b p (omega arith) (fielded (PackExpression path given fields last) ts rest h b p (omega arith) d.term) d.period
  operand-complete (VectorExpression span given items last) ts rest h b p k d = termed (VectorExpression span given items last) ts rest b p (omega arith) (fielded (VectorExpression span given items last) ts rest h b p (omega arith) d.term) d.period
  operand-complete (AssertExpression span x y) ts rest h b p k d = termed (AssertExpression span x y) ts rest b p (omega arith) (fielded (AssertExpression span x y) ts rest h b p (omega arith) d.term) d.period
  operand-complete (TupleExpression span items last) ts rest h b p k d = termed (TupleExpression span items last) ts rest b p (omega arith) (fielded (TupleExpression span items last) ts rest h b p (omega arith) d.term) d.period
  operand-complete (CastExpression span x t) ts rest h b p k d = termed (CastExpression span x t) ts rest b p (omega arith) (fielded (CastExpression span x t) ts rest h b p (omega arith) d.term) d.period
  operand-complete (BlockExpression x) ts rest h b p k d = termed (BlockExpression x) ts rest b p (omega arith) (fielded (BlockExpression x) ts rest h b p (omega arith) d.term) d.period

  -- ---- expressions

  -- the right operand of an operator is read
  right_complete : (o : BinaryOperator × Span) (e : ExpressionData) (ts rest : List Token) → length ts ≤ bound → Begins (expression_spelling e) ts rest → IsProperExpression e → right_level o.0 ≤ level e → Follows (right_level o.0) e rest → inner.expressions (right_level o.0) ts ≡ Some (e, rest)
  right_complete o e ts rest h b p k f = complete (right_level o.0) e ts rest h b p k f

  -- what follows the whole lets its last operand end
  fits_of : (m : ℕ) (e : ExpressionData) (s : Spine joints expression_rules e) (rest : List Token) → IsProperExpression e → m ≤ level e → Follows m e rest → Fits joints expression_rules inner.expressions bound Follows right_complete operator_follows e s rest
  fits_of m e (operand f) rest p h d = tt
  fits_of m e (joined l s o r) rest p h d = part_follows m l o r rest h p.3 d

  -- operands and operators of at least this level
  record SpineRead (m : ℕ) (e : ExpressionData) (ts rest : List Token) : Type 0 where
    first : ExpressionData
    us : List Token
    front : Begins (expression_spelling first) ts us
    first_proper : IsProperExpression first
    high : unary_level ≤ level first
    read : operand_at inner ts ≡ Some (first, us)
    no_equal : after_sign Equal rest ≡ None → after_sign Equal us ≡ None
    chained : whole_chain_at joints inner.expressions m first us ≡ Some (e, rest)

  spine-complete : (m : ℕ) (e : ExpressionData) (ts rest : List Token) → length ts ≤ suc bound → Begins (expression_spelling e) ts rest → IsProperExpression e → 1 ≤ level e → m ≤ level e → OperandEnds e rest
      → (d : Decomposed e) → Fits joints expression_rules inner.expressions bound Follows right_complete operator_follows e d.spine rest → next_operator joints m e rest ≡ None → SpineRead m e ts rest
  spine-complete m e ts rest h b p k l ends d fits stops =
      let w = walk joints expression_rules inner.expressions bound Follows right_complete operator_follows m e d.spine ts rest h b p l fits in
      record {
        first = first_of joints expression_rules d.spine;
        us = w.us;
        front = w.front;
        first_proper = w.first_proper;
        high = d.high;
        read = operand-complete (first_of joints expression_rules d.spine) ts w.us h w.front w.first_proper d.high (first_ends e d.spine w.us rest w.behind ends);
        no_equal = first_no_equal e d.spine w.us rest w.behind;
        chained = chain-complete joints expression_rules inner.expressions bound Follows right_complete operator_follows m e d.spine ts rest w stops;
      }

  -- an operand is not a control form
  operand_no_control : (e : ExpressionData) (ts rest : List Token) → Begins (expression_spelling e) ts rest → IsProperExpression e → unary_level ≤ level e → control_at ts ≡ None
  operand_no_control e ts rest b p k = control_at-first (expression_spelling e) ts rest (operand_first e k p) b

  level-complete : (m : ℕ) (e : ExpressionData) (ts rest : List Token) → length ts ≤ suc bound → Begins (expression_spelling e) ts rest → IsProperExpression e → 1 ≤ level e → m ≤ level e → Follows m e rest → (m ≡ 0 → ⊥)
      → option_and_then (λ operand. whole_chain_at joints inner.expressions m operand.0 operand.1) (operand_at inner ts) ≡ Some (e, rest)
  level-complete m e ts rest h b p k l f z =
      let s = spine-complete m e ts rest h b p k l f.operand (decompose e p k) (fits_of m e (decompose e p k).spine rest p l f) (f.stops (above m z)) in
      bind_some (operand_at inner ts) (λ operand. whole_chain_at joints inner.expressions m operand.0 operand.1) (s.first, s.us) s.read ∙ s.chained
    where
      above : (m : ℕ) → (m ≡ 0 → ⊥) → 0 < m
      above zero z = absurd (z refl)
      above (suc m) z = omega arith

  -- an expression with operators is also read as any expression
  loose-complete : (e : ExpressionData) (ts rest : List Token) → length ts ≤ suc bound → Begins (expression_spelling e) ts rest → IsProperExpression e → 1 ≤ level e → Follows 0 e rest → any_form inner ts ≡ Some (e, rest)
  unfolding any_form behind_operand
  loose-complete e ts rest h b p k f =
      let c = f.closes refl in
      let s = spine-complete 1 e ts rest h b p k k f.operand (decompose e p k) (fits_of 0 e (decompose e p k).spine rest p (omega arith) f) (closed_stops 1 e rest c) in
      map_or_none (control_at ts) _ _ (operand_no_control s.first ts s.us s.front s.first_proper s.high)
      ∙ bind_some (operand_at inner ts) (λ operand. behind_operand inner operand.0 operand.1) (s.first, s.us) s.read
      ∙ map_or_none (sign_span_at Equal s.us) _ _ (sign_span_at-none Equal s.us (s.no_equal c.equal)) ∙ s.chained

  assign-complete : (target : ExpressionData) (span : Span) (value : ExpressionData) (ts rest : List Token) → length ts ≤ suc bound → Begins (expression_spelling target ++ sign_at span Equal ∷ expression_spelling value) ts rest
      → IsProperExpression (AssignExpression target span value) → Follows 0 (AssignExpression target span value) rest → any_form inner ts ≡ Some (AssignExpression target span value, rest)
  unfolding any_form behind_operand
  assign-complete target span value ts rest h b p f =
      let s = Begins-split (expression_spelling target) (sign_at span Equal ∷ expression_spelling value) ts rest b in
      let q = Begins-first (sign_at span Equal) (expression_spelling value) s.mid rest s.back in
      map_or_none (control_at ts) _ _ (operand_no_control target ts s.mid s.front p.0 p.1)
      ∙ bind_some (operand_at inner ts) (λ operand. behind_operand inner operand.0 operand.1) (target, s.mid) (operand-complete target ts s.mid h s.front p.0 p.1 (ends_at_equal target span s.mid q.mid q.front))
      ∙ map_or_some (sign_span_at Equal s.mid) _ _ (span, q.mid) (sign_span_at-complete Equal span s.mid q.mid q.front)
      ∙ map_some (any inner q.mid) (λ value. (AssignExpression target span value.0, value.1)) (value, rest)
      (inside value q.mid rest (omega (arith, h, length-Begins (expression_spelling target) ts s.mid s.front, length-Begins (sign_at span Equal ∷ []) s.mid q.mid q.front)) q.back p.2 (follows_closed 0 value rest (f.closes refl) f.free))

  any-form-complete : (e : ExpressionData) (ts rest : List Token) → length ts ≤ suc bound → Begins (expression_spelling e) ts rest → IsProperExpression e → Follows 0 e rest → any_form inner ts ≡ Some (e, rest)
  any-form-complete (AssignExpression target span value) ts rest h b p f = assign-complete target span value ts rest h b p f
  any-form-complete (IfExpression span x y z) ts rest h b p f = control-complete (IfExpression span x y z) ts rest h b p f tt
  any-form-complete (WhileExpression span x y) ts rest h b p f = control-complete (WhileExpression span x y) ts rest h b p f tt
  any-form-complete (LoopExpression span x) ts rest h b p f = control-complete (LoopExpression span x) ts rest h b p f tt
  any-form-complete (ReturnExpression span x) ts rest h b p f = control-complete (ReturnExpression span x) ts rest h b p f tt
  any-form-complete (AbortExpression span x) ts rest h b p f = control-complete (AbortExpression span x) ts rest h b p f tt
  any-form-complete (BreakExpression span) ts rest h b p f = control-complete (BreakExpression span) ts rest h b p f tt
  any-form-complete (ContinueExpression span) ts rest h b p f = control-complete (ContinueExpression span) ts rest h b p f tt
  any-form-complete (BinaryExpression l o span r) ts rest h b p f = loose-complete (BinaryExpression l o span r) ts rest h b p (omega (arith, level_some o)) f
  any-form-complete (UnaryExpression o span x) ts rest h b p f = loose-complete (UnaryExpression o span x) ts rest h b p (omega arith) f
  any-form-complete (UseExpression u span local) ts rest h b p f = loose-complete (UseExpression u span local) ts rest h b p (omega arith) f
  any-form-complete (FieldExpression base field) ts rest h b p f = loose-complete (FieldExpression base field) ts rest h b p (omega arith) f
  any-form-complete (LiteralExpression l) ts rest h b p f = loose-complete (LiteralExpression l) ts rest h b p (omega arith) f
  any-form-complete (PathExpression path) ts rest h b p f = loose-complete (PathExpression path) ts rest h b p (omega arith) f
  any-form-complete (CallExpression path given values last) ts rest h b p f = loose-complete (CallExpression path given values last) ts rest h b p (omega arith) f
  any-form-complete (PackExpression path given fields last) ts rest h b p f = loose-complete (PackExpression path given fields last) ts rest h b p (omega arith) f
  any-form-complete (VectorExpression span given items last) ts rest h b p f = loose-complete (VectorExpression span given items last) ts rest h b p (omega arith) f
  any-form-complete (AssertExpression span x y) ts rest h b p f = loose-complete (AssertExpression span x y) ts rest h b p (omega arith) f
  any-form-complete (TupleExpression span items last) ts rest h b p f = loose-complete (TupleExpression span items last) ts rest h b p (omega arith) f
  any-form-complete (CastExpression span x t) ts rest h b p f = loose-complete (CastExpression span x t) ts rest h b p (omega arith) f
  any-form-complete (BlockExpression x) ts rest h b p f = loose-complete (BlockExpression x) ts rest h b p (omega arith) f

  expression_form-complete : (m : ℕ) (e : ExpressionData) (ts rest : List Token) → length ts ≤ suc bound → Begins (expression_spelling e) ts rest → IsProperExpression e → m ≤ level e → Follows m e rest → expression_form inner m ts ≡ Some (e, rest)
  unfolding expression_form
  expression_form-complete zero e ts rest h b p k f = any-form-complete e ts rest h b p f
  expression_form-complete (suc m) e ts rest h b p k f =
      cond_false (suc m == 0) _ _ (eqb-suc-zero m) ∙ level-complete (suc m) e ts rest h b p (omega (arith, k)) k f (λ z. absurd (cc))

-- no expression has an empty spelling
nothing_spells : (e : ExpressionData) (rest : List Token) → Begins (expression_spelling e) [] rest → IsProperExpression e → ⊥
nothing_spells e rest b p = First-some BeginsExpression (expression_spelling e) rest (expression_first elsewhere e p) b

pub expression_at-complete : (n : ℕ) → ReadsBackExpressions n (expression_at (suc n))
unfolding expression_at
expression_at-complete zero m e [] rest h b p k f = absurd (nothing_spells e rest b p)
expression_at-complete zero m e (t ∷ ts) rest h b p k f = absurd (omega (arith, h))
expression_at-complete (suc n) m e ts rest h b p k f = expression_form-complete n (readers (suc n)) (type_at-complete n) (pattern_at-complete n) (expression_at-complete n) m e ts rest h b p k f
