-- Kinds of expressions: their first tokens, the tokens after their parts, and the operands of those with operators.
use Rattle.std.proofs.Common.{◌≡◌, ℕ, zero, suc, ◌<◌, ◌≤◌, Bool, true, false, cond, ◌&&◌, List, [], ◌∷◌, ◌++◌, Option, Some, None, length, refl, sym, ap, subst, ◌∙◌, ◌⊎◌, inl, inr, arith, length-append}
use Rattle.std.specs.Prelude.{codes, option_and_then, is_some}
use Rattle.std.specs.Option.{option_map}
use Rattle.base.specs.declared.span.Span.{Span}
use Rattle.tokens.specs.declared.token.Token.{Token}
use Rattle.tokens.specs.declared.token.TokenKind.{TokenKind}
use Rattle.tokens.specs.declared.token.TokenKind.TheVariants.{Word, Punctuation}
use Rattle.tokens.specs.declared.token.Punctuation.{Punctuation as Sign}
use Rattle.tokens.specs.declared.token.Punctuation.TheVariants.{LeftParenthesis, RightParenthesis, LeftBrace, RightBrace, LeftBracket, Less, Semicolon, Colon, ColonColon, Period, Equal, Exclaim, Star, Ampersand}
use Rattle.syntax_tree.specs.declared.lexeme.Lexeme.{Lexeme}
use Rattle.syntax_tree.specs.declared.operator.BinaryOperator.{BinaryOperator}
use Rattle.syntax_tree.specs.declared.literal.Literal.TheVariants.{Number as number_literal, Truth as truth_literal, Address as address_literal}
use Rattle.syntax_tree.specs.declared.path.Path.{Path}
use Rattle.syntax_tree.specs.declared.operator.UnaryOperator.{UnaryOperator}
use Rattle.syntax_tree.specs.declared.operator.UnaryOperator.TheVariants.{Not, Dereference, Borrow, BorrowMutable}
use Rattle.syntax_tree.specs.declared.operator.UseKind.{UseKind}
use Rattle.syntax_tree.specs.declared.operator.UseKind.TheVariants.{Move, Copy}
use Rattle.syntax_tree.specs.declared.spec_tokens.KeptSpec.{KeptSpec}
use Rattle.syntax_tree.specs.Lexemes.{word, sign, sign_at, identifier, comma_list}
use Rattle.syntax_tree.specs.KeptSpecs.{IsLoopSpec}
use Rattle.syntax_tree.specs.PathSpelling.{path_spelling}
use Rattle.syntax_tree.specs.ProperTypes.{IsProperPath}
use Rattle.syntax_tree.specs.TypeTreeData.{SourceTypeData}
use Rattle.syntax_tree.specs.TypeSpelling.{type_spelling, maybe_arguments_spelling}
use Rattle.syntax_tree.specs.PatternSpelling.{pattern_spelling}
use Rattle.syntax_tree.specs.OperatorSpelling.{operator_spelling, unary_spelling, use_spelling}
use Rattle.syntax_tree.specs.ExpressionData.{ExpressionData, BinaryExpression, AssignExpression, IfExpression, WhileExpression, LoopExpression, ReturnExpression, AbortExpression, BreakExpression, ContinueExpression, UnaryExpression, UseExpression, FieldExpression, LiteralExpression, PathExpression, CallExpression, PackExpression, VectorExpression, AssertExpression, TupleExpression, CastExpression, BlockExpression, MaybeExpressionData, NoExpression, SomeExpression, BlockOf, ItemData, ExpressionItem, LetItem, ItemsData, NoItems, MoreItems, items_of, list_of_items, maybe_expression_of}
use Rattle.syntax_tree.specs.ExpressionSpelling.{expression_spellings, field_value_spellings, expression_spelling, ends_in_path, annotation_spelling, maybe_expression_spelling, items_spelling, item_spelling, initial_spelling}
use Rattle.syntax_tree.specs.ProperExpressions.{Role, elsewhere, operator_level, right_level, level, unary_level, term_level, takes_else, MayHoldSpec, IsProperAs, IsProperExpression, IsProperMaybe, IsProperItem, AreProperItems}
use Rattle.parser_base.specs.Beginnings.{Begins}
use Rattle.parser_base.specs.TokenReading.{is_sign, is_word, is_keyword, after_sign, after_word, sign_span_at, word_span_at}
use Rattle.parser_base.specs.ChainReading.{next_operator}
use Rattle.parser_base.proofs.Steps.{map_or_none, true_or_false}
use Rattle.parser_base.proofs.TokenLemmas.{after_sign-other}
use Rattle.parser_base.proofs.FirstLemmas.{First, First-append, First-weaker, sign_span_at-first, after_word-first, word_span_at-first}
use Rattle.parser_base.proofs.ChainLemmas.{Spine, operand, joined, first_of, Behind, next_above, next_same}
use Rattle.parser_base.specs.declared.leaf.Control.{Control}
use Rattle.parser_base.specs.declared.leaf.Control.TheVariants.{If, While, Loop, Return, Abort, Break, Continue}
use Rattle.parser_base.specs.LeafReading.{begins_expression, borrow_behind, prefix_at, use_at, control_of, control_at, may_begin, spec_opening_at}
use Rattle.parser_base.specs.OperatorReading.{joints}
use Rattle.parser_base.proofs.LeafLemmas.{after_glued-other, control_of-sound, prefix_at-other, control_word, control_at-other, spec_opening_at-other}
use Rattle.parser_base.proofs.OpenLemmas.{differs, path_first, BeginsExpression, BeginsTerm, begins_term, expression_first, term_first, term_no_sign, begin_no_word, high_no_else}
use Rattle.parser_base.proofs.OperatorLemmas.{level_small, level_some}
use Rattle.parser_base.proofs.Operators.{expression_rules}
use Rattle.parser_base.proofs.EndLemmas.{TermEnds, OperandEnds, Follows, closed_stops, no_such_sign, operator_ends}
use Rattle.expression_parser.proofs.Sound.{block_spelled, role_of}

-- ---- words that begin no expression

pub let_begins_none : begins_expression (Word (codes "let")) ≡ false
unfolding is_keyword
let_begins_none = refl

pub spec_begins_none : begins_expression (Word (codes "spec")) ≡ false
unfolding is_keyword
spec_begins_none = refl

pub mut_begins_none : begins_expression (Word (codes "mut")) ≡ false
unfolding is_keyword
mut_begins_none = refl

pub move_begins_none : begins_term (Word (codes "move")) ≡ false
unfolding is_keyword
move_begins_none = refl

pub copy_begins_none : begins_term (Word (codes "copy")) ≡ false
unfolding is_keyword
copy_begins_none = refl

pub no_word_first : (w : List ℕ) → begins_expression (Word w) ≡ false → (role : Role) (e : ExpressionData) → IsProperAs role e → First (λ k. is_word w k ≡ false) (expression_spelling e)
no_word_first w h role e p = First-weaker BeginsExpression (λ k. is_word w k ≡ false) (begin_no_word w h) (expression_spelling e) (expression_first role e p)

pub expression_begins : (e : ExpressionData) (ts rest : List Token) → Begins (expression_spelling e) ts rest → IsProperExpression e → may_begin ts ≡ true
unfolding may_begin
expression_begins e ts rest b p = go (expression_spelling e) ts (expression_first elsewhere e p) b
  where
    go : (ls : List Lexeme) (ts : List Token) → First BeginsExpression ls → Begins ls ts rest → may_begin ts ≡ true
    go [] ts f b = absurd f
    go (l ∷ ls) [] f b = absurd b
    go (l ∷ ls) (t ∷ ts) f b = ap begins_expression b.0.kind ∙ f

-- ---- no expression outside a loop begins with the spec block of a loop

-- does not begin with `{` and `spec`
abbrev pub Apart : List Lexeme → Type 0
Apart [] = ⊥
Apart (l ∷ ls) = (is_sign LeftBrace l.kind ≡ false) ⊎ First (λ k. is_word (codes "spec") k ≡ false) ls

pub Apart-append : (ls ms : List Lexeme) → Apart ls → Apart (ls ++ ms)
Apart-append [] ms a = absurd a
Apart-append (l ∷ ls) ms (inl a) = inl a
Apart-append (l ∷ ls) ms (inr f) = inr (First-append (λ k. is_word (codes "spec") k ≡ false) ls ms f)

pub apart_first : (ls : List Lexeme) → First (λ k. is_sign LeftBrace k ≡ false) ls → Apart ls
apart_first [] f = absurd f
apart_first (l ∷ ls) f = inl f

pub apart_no_spec : (ls : List Lexeme) (ts rest : List Token) → Apart ls → Begins ls ts rest → spec_opening_at ts ≡ None
unfolding spec_opening_at sign_span_at
apart_no_spec [] ts rest a b = absurd a
apart_no_spec (l ∷ ls) [] rest a b = absurd b
apart_no_spec (l ∷ ls) (t ∷ ts) rest (inl a) b = spec_opening_at-other l ls (t ∷ ts) rest a b
apart_no_spec (l ∷ ls) (t ∷ ts) rest (inr f) b = go (is_sign LeftBrace t.kind)
  where
    go : (c : Bool) → option_and_then {T = Span × List Token} {U = Span × List Token} (λ p. cond (is_some (after_word (codes "spec") p.1)) (Some p) None) (cond c (Some (t.span, ts)) None) ≡ None
    go true = ap (λ o. cond (is_some {T = List Token} o) (Some (t.span, ts)) None) (after_word-first (codes "spec") ls ts rest f b.1)
    go false = refl

pub item_first : (i : ItemData) → IsProperItem i → First (λ k. is_word (codes "spec") k ≡ false) (item_spelling i)
item_first (ExpressionItem e) p = First-append (λ k. is_word (codes "spec") k ≡ false) (expression_spelling e) (sign Semicolon ∷ []) (no_word_first (codes "spec") spec_begins_none elsewhere e p)
item_first (LetItem span pattern annotation value) p = refl

pub inside_first : (items : ItemsData) (value : MaybeExpressionData) → AreProperItems items → IsProperMaybe value → First (λ k. is_word (codes "spec") k ≡ false) (items_spelling items ++ (maybe_expression_spelling value ++ sign RightBrace ∷ []))
inside_first NoItems NoExpression p q = refl
inside_first NoItems (SomeExpression e) p q = First-append (λ k. is_word (codes "spec") k ≡ false) (expression_spelling e) (sign RightBrace ∷ []) (no_word_first (codes "spec") spec_begins_none elsewhere e q)
inside_first (MoreItems i more) value p q =
    First-append (λ k. is_word (codes "spec") k ≡ false) (item_spelling i ++ items_spelling more) (maybe_expression_spelling value ++ sign RightBrace ∷ [])
    (First-append (λ k. is_word (codes "spec") k ≡ false) (item_spelling i) (items_spelling more) (item_first i p.0))

-- begins with a token other than `{`
pub other_first : (e : ExpressionData) → First (λ k. is_sign LeftBrace k ≡ false) (expression_spelling e) → Apart (expression_spelling e)
other_first e f = apart_first (expression_spelling e) f

pub path_apart : (path : Path) → IsProperPath path → First (λ k. is_sign LeftBrace k ≡ false) (path_spelling path)
path_apart path p = path_first (λ k. is_sign LeftBrace k ≡ false) path (λ literal. refl) (λ w n. refl) p

pub expression_apart : (e : ExpressionData) → IsProperExpression e → Apart (expression_spelling e)
expression_apart (BinaryExpression l o span r) p = Apart-append (expression_spelling l ++ operator_spelling o span (ends_in_path l)) (expression_spelling r) (Apart-append (expression_spelling l) (operator_spelling o span (ends_in_path l)) (expression_apart l p.0))
expression_apart (AssignExpression target span value) p = Apart-append (expression_spelling target) (sign_at span Equal ∷ expression_spelling value) (expression_apart target p.0)
expression_apart (FieldExpression base field) p = Apart-append (expression_spelling base) (sign Period ∷ identifier field ∷ []) (expression_apart base p.0)
expression_apart (BlockExpression (BlockOf span None items value)) p =
    subst Apart (sym (block_spelled (sign_at span LeftBrace) (items_spelling items) (maybe_expression_spelling value) (sign RightBrace ∷ []))) (inr (inside_first items value p.1 p.2))
expression_apart (BlockExpression (BlockOf span (Some spec) items value)) p = absurd p.0
expression_apart (UnaryExpression Not span e) p = inl refl
expression_apart (UnaryExpression Dereference span e) p = inl refl
expression_apart (UnaryExpression Borrow span e) p = inl refl
expression_apart (UnaryExpression BorrowMutable span e) p = inl refl
expression_apart (UseExpression Move span local) p = inl refl
expression_apart (UseExpression Copy span local) p = inl refl
expression_apart (LiteralExpression (number_literal n)) p = inl refl
expression_apart (LiteralExpression (truth_literal span true)) p = inl refl
expression_apart (LiteralExpression (truth_literal span false)) p = inl refl
expression_apart (LiteralExpression (address_literal span a)) p = inl refl
expression_apart (PathExpression path) p = apart_first (path_spelling path) (path_apart path p)
expression_apart (CallExpression path given values last) p =
    Apart-append ((path_spelling path ++ maybe_arguments_spelling (Some true) given) ++ sign LeftParenthesis ∷ comma_list (expression_spellings values) last) (sign RightParenthesis ∷ [])
    (Apart-append (path_spelling path ++ maybe_arguments_spelling (Some true) given) (sign LeftParenthesis ∷ comma_list (expression_spellings values) last)
    (Apart-append (path_spelling path) (maybe_arguments_spelling (Some true) given) (apart_first (path_spelling path) (path_apart path p.0))))
expression_apart (PackExpression path given fields last) p =
    Apart-append ((path_spelling path ++ maybe_arguments_spelling (Some true) given) ++ sign LeftBrace ∷ comma_list (field_value_spellings fields) last) (sign RightBrace ∷ [])
    (Apart-append (path_spelling path ++ maybe_arguments_spelling (Some true) given) (sign LeftBrace ∷ comma_list (field_value_spellings fields) last)
    (Apart-append (path_spelling path) (maybe_arguments_spelling (Some true) given) (apart_first (path_spelling path) (path_apart path p.0))))
expression_apart _ p = inl refl

pub no_spec_opening : (e : ExpressionData) (ts rest : List Token) → Begins (expression_spelling e) ts rest → IsProperExpression e → spec_opening_at ts ≡ None
no_spec_opening e ts rest b p = apart_no_spec (expression_spelling e) ts rest (expression_apart e p) b

-- ---- values that may be absent

abbrev pub option_of : MaybeExpressionData → Option ExpressionData
option_of NoExpression = None
option_of (SomeExpression e) = Some e

pub maybe_option : (v : MaybeExpressionData) → maybe_expression_of (option_of v) ≡ v
maybe_option NoExpression = refl
maybe_option (SomeExpression e) = refl

pub listed_items : (xs : ItemsData) → items_of (list_of_items xs) ≡ xs
listed_items NoItems = refl
listed_items (MoreItems x xs) = ap (MoreItems x) (listed_items xs)

pub item_some : (i : ItemData) → 0 < length (item_spelling i)
item_some (ExpressionItem e) = omega (arith, length-append (expression_spelling e) (sign Semicolon ∷ []))
item_some (LetItem span pattern a v) = omega (arith, length-append ((word (codes "let") (Some span) ∷ pattern_spelling pattern ++ annotation_spelling a) ++ initial_spelling v) (sign Semicolon ∷ []))

-- what follows the pattern of a `let`, and its type
pub behind_annotation : (s : Sign) (v : MaybeExpressionData) (ts rest : List Token) → is_sign s (Punctuation Equal) ≡ false → is_sign s (Punctuation Semicolon) ≡ false → Begins (initial_spelling v ++ sign Semicolon ∷ []) ts rest → after_sign s ts ≡ None
behind_annotation s NoExpression ts rest e g b = after_sign-other s (sign Semicolon) [] ts rest g b
behind_annotation s (SomeExpression x) ts rest e g b = after_sign-other s (sign Equal) (expression_spelling x ++ sign Semicolon ∷ []) ts rest e b

pub behind_pattern : (s : Sign) (a : Option SourceTypeData) (v : MaybeExpressionData) (ts rest : List Token) → is_sign s (Punctuation Colon) ≡ false → is_sign s (Punctuation Equal) ≡ false → is_sign s (Punctuation Semicolon) ≡ false
    → Begins (annotation_spelling a ++ (initial_spelling v ++ sign Semicolon ∷ [])) ts rest → after_sign s ts ≡ None
behind_pattern s None v ts rest c e g b = behind_annotation s v ts rest e g b
behind_pattern s (Some t) v ts rest c e g b = after_sign-other s (sign Colon) (type_spelling t ++ (initial_spelling v ++ sign Semicolon ∷ [])) ts rest c b

-- ---- kinds of expressions

abbrev pub IsControl : ExpressionData → Type 0
IsControl (IfExpression span x y z) = Unit {0}
IsControl (WhileExpression span x y) = Unit {0}
IsControl (LoopExpression span x) = Unit {0}
IsControl (ReturnExpression span x) = Unit {0}
IsControl (AbortExpression span x) = Unit {0}
IsControl (BreakExpression span) = Unit {0}
IsControl (ContinueExpression span) = Unit {0}
IsControl _ = ⊥

abbrev pub IsPlainTerm : ExpressionData → Type 0
IsPlainTerm (LiteralExpression l) = Unit {0}
IsPlainTerm (PathExpression path) = Unit {0}
IsPlainTerm (CallExpression path given values last) = Unit {0}
IsPlainTerm (PackExpression path given fields last) = Unit {0}
IsPlainTerm (VectorExpression span given items last) = Unit {0}
IsPlainTerm (AssertExpression span x y) = Unit {0}
IsPlainTerm (TupleExpression span items last) = Unit {0}
IsPlainTerm (CastExpression span x t) = Unit {0}
IsPlainTerm (BlockExpression b) = Unit {0}
IsPlainTerm _ = ⊥

-- a term ends before a period
pub ends_at_period : (e : ExpressionData) (ts rest : List Token) → Begins (sign Period ∷ []) ts rest → TermEnds e ts
ends_at_period e ts rest b = record {
  quiet = record {
    colons = after_sign-other ColonColon (sign Period) [] ts rest refl b;
    parenthesis = after_sign-other LeftParenthesis (sign Period) [] ts rest refl b;
    brace = after_sign-other LeftBrace (sign Period) [] ts rest refl b;
    bracket = after_sign-other LeftBracket (sign Period) [] ts rest refl b;
    exclaim = after_sign-other Exclaim (sign Period) [] ts rest refl b;
  };
  glue = λ h. after_glued-other Less (sign Period) [] ts rest refl b;
  vector = λ h. after_sign-other Less (sign Period) [] ts rest refl b;
}

pub term_no_span : (s : Sign) → begins_term (Punctuation s) ≡ false → (e : ExpressionData) (ts rest : List Token) → Begins (expression_spelling e) ts rest → IsProperExpression e → term_level ≤ level e → sign_span_at s ts ≡ None
term_no_span s h e ts rest b p k = sign_span_at-first s (expression_spelling e) ts rest (First-weaker BeginsTerm (λ k. is_sign s k ≡ false) (term_no_sign s h) (expression_spelling e) (term_first e k p)) b

pub unary_some : (o : UnaryOperator) (span : Span) → 0 < length (unary_spelling o span)
unary_some Not span = omega arith
unary_some Dereference span = omega arith
unary_some Borrow span = omega arith
unary_some BorrowMutable span = omega arith

pub use_no_prefix : (u : UseKind) (span : Span) (ts rest : List Token) → Begins (use_spelling u span) ts rest → prefix_at ts ≡ None
use_no_prefix Move span ts rest b = prefix_at-other (word (codes "move") (Some span)) [] ts rest refl refl refl b
use_no_prefix Copy span ts rest b = prefix_at-other (word (codes "copy") (Some span)) [] ts rest refl refl refl b

pub prefix_none : (ts : List Token) → sign_span_at Exclaim ts ≡ None → sign_span_at Star ts ≡ None → sign_span_at Ampersand ts ≡ None → prefix_at ts ≡ None
unfolding prefix_at
prefix_none ts a b c = map_or_none (sign_span_at Exclaim ts) _ _ a ∙ map_or_none (sign_span_at Star ts) _ _ b ∙ ap (option_and_then (λ p. borrow_behind p.0 p.1)) c

pub use_none : (ts : List Token) → word_span_at (codes "move") ts ≡ None → word_span_at (codes "copy") ts ≡ None → use_at ts ≡ None
unfolding use_at
use_none ts a b = map_or_none (word_span_at (codes "move") ts) _ _ a ∙ ap (option_map (λ p. ((Copy, p.0), p.1))) b

pub ends_at_equal : (e : ExpressionData) (span : Span) (ts rest : List Token) → Begins (sign_at span Equal ∷ []) ts rest → OperandEnds e ts
ends_at_equal e span ts rest b = record {
  term = record {
    quiet = record {
      colons = after_sign-other ColonColon (sign_at span Equal) [] ts rest refl b;
      parenthesis = after_sign-other LeftParenthesis (sign_at span Equal) [] ts rest refl b;
      brace = after_sign-other LeftBrace (sign_at span Equal) [] ts rest refl b;
      bracket = after_sign-other LeftBracket (sign_at span Equal) [] ts rest refl b;
      exclaim = after_sign-other Exclaim (sign_at span Equal) [] ts rest refl b;
    };
    glue = λ h. after_glued-other Less (sign_at span Equal) [] ts rest refl b;
    vector = λ h. after_sign-other Less (sign_at span Equal) [] ts rest refl b;
  };
  period = after_sign-other Period (sign_at span Equal) [] ts rest refl b;
}

-- ---- operands are not control forms

pub no_control_term : (c : Control) → begins_term (Word (control_word c)) ≡ false
unfolding is_keyword
no_control_term If = refl
no_control_term While = refl
no_control_term Loop = refl
no_control_term Return = refl
no_control_term Abort = refl
no_control_term Break = refl
no_control_term Continue = refl

pub term_no_control : (k : TokenKind) → BeginsTerm k → control_of k ≡ None
term_no_control k b = go (control_of k) refl
  where
    go : (o : Option Control) → control_of k ≡ o → control_of k ≡ None
    go None is = is
    go (Some c) is = differs (sym b ∙ ap begins_term (control_of-sound k c is) ∙ no_control_term c)

abbrev pub NoControl : TokenKind → Type 0
NoControl k = control_of k ≡ None

pub control_at-first : (ls : List Lexeme) (ts rest : List Token) → First NoControl ls → Begins ls ts rest → control_at ts ≡ None
control_at-first [] ts rest f b = absurd f
control_at-first (l ∷ ls) ts rest f b = control_at-other l ls ts rest f b

pub operand_first : (e : ExpressionData) → unary_level ≤ level e → IsProperExpression e → First NoControl (expression_spelling e)
operand_first (UnaryExpression Not span x) h p = refl
operand_first (UnaryExpression Dereference span x) h p = refl
operand_first (UnaryExpression Borrow span x) h p = refl
operand_first (UnaryExpression BorrowMutable span x) h p = refl
operand_first (UseExpression Move span local) h p = refl
operand_first (UseExpression Copy span local) h p = refl
operand_first (BinaryExpression l o span r) h p = absurd (omega (arith, h, level_small o))
operand_first (AssignExpression target span value) h p = absurd (omega (arith, h))
operand_first (IfExpression span x y z) h p = absurd (omega (arith, h))
operand_first (WhileExpression span x y) h p = absurd (omega (arith, h))
operand_first (LoopExpression span x) h p = absurd (omega (arith, h))
operand_first (ReturnExpression span x) h p = absurd (omega (arith, h))
operand_first (AbortExpression span x) h p = absurd (omega (arith, h))
operand_first (BreakExpression span) h p = absurd (omega (arith, h))
operand_first (ContinueExpression span) h p = absurd (omega (arith, h))
operand_first (FieldExpression base field) h p = First-weaker BeginsTerm NoControl term_no_control (expression_spelling (FieldExpression base field)) (term_first (FieldExpression base field) (omega arith) p)
operand_first (LiteralExpression l) h p = First-weaker BeginsTerm NoControl term_no_control (expression_spelling (LiteralExpression l)) (term_first (LiteralExpression l) (omega arith) p)
operand_first (PathExpression path) h p = First-weaker BeginsTerm NoControl term_no_control (expression_spelling (PathExpression path)) (term_first (PathExpression path) (omega arith) p)
operand_first (CallExpression path given values last) h p = First-weaker BeginsTerm NoControl term_no_control (expression_spelling (CallExpression path given values last)) (term_first (CallExpression path given values last) (omega arith) p)
operand_first (PackExpression path given fields last) h p = First-weaker BeginsTerm NoControl term_no_control (expression_spelling (PackExpression path given fields last)) (term_first (PackExpression path given fields last) (omega arith) p)
operand_first (VectorExpression span given items last) h p = First-weaker BeginsTerm NoControl term_no_control (expression_spelling (VectorExpression span given items last)) (term_first (VectorExpression span given items last) (omega arith) p)
operand_first (AssertExpression span x y) h p = First-weaker BeginsTerm NoControl term_no_control (expression_spelling (AssertExpression span x y)) (term_first (AssertExpression span x y) (omega arith) p)
operand_first (TupleExpression span items last) h p = First-weaker BeginsTerm NoControl term_no_control (expression_spelling (TupleExpression span items last)) (term_first (TupleExpression span items last) (omega arith) p)
operand_first (CastExpression span x t) h p = First-weaker BeginsTerm NoControl term_no_control (expression_spelling (CastExpression span x t)) (term_first (CastExpression span x t) (omega arith) p)
operand_first (BlockExpression x) h p = First-weaker BeginsTerm NoControl term_no_control (expression_spelling (BlockExpression x)) (term_first (BlockExpression x) (omega arith) p)

-- ---- the two kinds of bodies of a loop

pub record SpecBlock (e : ExpressionData) : Type 0 where
  pub span : Span
  pub spec : KeptSpec
  pub items : ItemsData
  pub value : MaybeExpressionData
  pub is : e ≡ BlockExpression (BlockOf span (Some spec) items value)

pub kind_of_body : (role : Role) (e : ExpressionData) → IsProperAs role e → IsProperExpression e ⊎ SpecBlock e
kind_of_body role (BlockExpression (BlockOf span None items value)) p = inl p
kind_of_body role (BlockExpression (BlockOf span (Some spec) items value)) p = inr (record { span = span; spec = spec; items = items; value = value; is = refl })
kind_of_body role _ p = inl p

pub held_spec : (valued : Bool) (spec : KeptSpec) (v : MaybeExpressionData) → MayHoldSpec (role_of valued) (Some spec) v → IsLoopSpec spec × ((valued && cond (is_some (option_of v)) false true) ≡ false)
held_spec true spec NoExpression m = absurd m.1
held_spec true spec (SomeExpression e) m = (m.0, refl)
held_spec false spec v m = (m, refl)

-- ---- operands joined by operators

pub record Decomposed (e : ExpressionData) : Type 0 where
  pub spine : Spine joints expression_rules e
  pub high : unary_level ≤ level (first_of joints expression_rules spine)

pub decompose : (e : ExpressionData) → IsProperExpression e → 1 ≤ level e → Decomposed e
decompose (BinaryExpression l o span r) p h =
    let d = decompose l p.0 (omega (arith, p.2, level_some o)) in record { spine = joined l d.spine (o, span) r; high = d.high }
decompose (AssignExpression target span value) p h = absurd (omega (arith, h))
decompose (IfExpression span x y z) p h = absurd (omega (arith, h))
decompose (WhileExpression span x y) p h = absurd (omega (arith, h))
decompose (LoopExpression span x) p h = absurd (omega (arith, h))
decompose (ReturnExpression span x) p h = absurd (omega (arith, h))
decompose (AbortExpression span x) p h = absurd (omega (arith, h))
decompose (BreakExpression span) p h = absurd (omega (arith, h))
decompose (ContinueExpression span) p h = absurd (omega (arith, h))
decompose (UnaryExpression o span x) p h = record { spine = operand (UnaryExpression o span x); high = omega arith }
decompose (UseExpression k span local) p h = record { spine = operand (UseExpression k span local); high = omega arith }
decompose (FieldExpression base field) p h = record { spine = operand (FieldExpression base field); high = omega arith }
decompose (LiteralExpression l) p h = record { spine = operand (LiteralExpression l); high = omega arith }
decompose (PathExpression path) p h = record { spine = operand (PathExpression path); high = omega arith }
decompose (CallExpression path given values last) p h = record { spine = operand (CallExpression path given values last); high = omega arith }
decompose (PackExpression path given fields last) p h = record { spine = operand (PackExpression path given fields last); high = omega arith }
decompose (VectorExpression span given items last) p h = record { spine = operand (VectorExpression span given items last); high = omega arith }
decompose (AssertExpression span x y) p h = record { spine = operand (AssertExpression span x y); high = omega arith }
decompose (TupleExpression span items last) p h = record { spine = operand (TupleExpression span items last); high = omega arith }
decompose (CastExpression span x t) p h = record { spine = operand (CastExpression span x t); high = omega arith }
decompose (BlockExpression b) p h = record { spine = operand (BlockExpression b); high = omega arith }

-- an operand ends where the whole ends, or before an operator
pub first_ends : (e : ExpressionData) (s : Spine joints expression_rules e) (us rest : List Token) → Behind joints expression_rules s us rest → OperandEnds e rest → OperandEnds (first_of joints expression_rules s) us
first_ends e (operand f) us rest b d = subst (OperandEnds f) (sym b) d
first_ends e (joined l s o r) us rest b d = operator_ends (first_of joints expression_rules s) b.operator.0 b.operator.1 us b.rest b.begins b.suited

-- no `=` follows an operand
pub first_no_equal : (e : ExpressionData) (s : Spine joints expression_rules e) (us rest : List Token) → Behind joints expression_rules s us rest → after_sign Equal rest ≡ None → after_sign Equal us ≡ None
first_no_equal e (operand f) us rest b d = ap (after_sign Equal) b ∙ d
first_no_equal e (joined l s o r) us rest b d = no_such_sign (first_of joints expression_rules s) b.operator.0 b.operator.1 us b.rest b.begins Equal refl

-- the right operand of the last operator ends where the whole ends
pub part_follows : (m : ℕ) (l : ExpressionData) (o : BinaryOperator × Span) (r : ExpressionData) (rest : List Token) → m ≤ operator_level o.0 → right_level o.0 ≤ level r → Follows m (BinaryExpression l o.0 o.1 r) rest → Follows (right_level o.0) r rest
part_follows m l o r rest h k f = record {
  operand = record { term = record { quiet = f.operand.term.quiet; glue = f.operand.term.glue; vector = f.operand.term.vector }; period = f.operand.period };
  stops = λ z. stops m h f;
  closes = λ z. absurd (omega (arith, z));
  free = λ g. absurd (true_or_false (takes_else r) g (high_no_else r (omega (arith, k))));
}
  where
    stops : (m : ℕ) → m ≤ operator_level o.0 → Follows m (BinaryExpression l o.0 o.1 r) rest → next_operator joints (right_level o.0) r rest ≡ None
    stops zero h f = closed_stops (right_level o.0) r rest (f.closes refl)
    stops (suc m) h f = next_above joints expression_rules (suc m) (right_level o.0) r rest (omega (arith, h)) (sym (next_same joints expression_rules (suc m) l o r rest) ∙ f.stops (omega arith))
