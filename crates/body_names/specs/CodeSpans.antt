-- The spans of the nodes of code, in the order of the nodes: that of the node's own sign, keyword or first token; for
-- an item of a block that of its first token.
use Rattle.std.specs.Prelude.{List, [], ◌∷◌, ◌++◌}
use Rattle.base.specs.declared.span.Span.{Span}
use Rattle.syntax_tree.specs.ExpressionData.{ExpressionData, BinaryExpression, AssignExpression, IfExpression, WhileExpression, LoopExpression, ReturnExpression, AbortExpression, BreakExpression, ContinueExpression, UnaryExpression, UseExpression, FieldExpression, LiteralExpression, PathExpression, CallExpression, PackExpression, VectorExpression, AssertExpression, TupleExpression, CastExpression, BlockExpression, MaybeExpressionData, NoExpression, SomeExpression, BlockData, BlockOf, ItemData, ExpressionItem, LetItem, ItemsData, NoItems, MoreItems, FieldValueData, ShortFieldValue, LongFieldValue, FieldValuesData, NoFieldValues, MoreFieldValues, ExpressionsData, NoExpressions, MoreExpressions}
use Rattle.body_names.specs.FirstSpans.{path_span, literal_span}
use Rattle.body_names.specs.PatternTrees.{pattern_spans}

abbrev pub block_span : BlockData → Span
block_span (BlockOf span spec items value) = span

-- the span of the first token
abbrev pub first_span : ExpressionData → Span
first_span (BinaryExpression left operator span right) = first_span left
first_span (AssignExpression target span value) = first_span target
first_span (IfExpression span condition then_branch else_branch) = span
first_span (WhileExpression span condition body) = span
first_span (LoopExpression span body) = span
first_span (ReturnExpression span value) = span
first_span (AbortExpression span code) = span
first_span (BreakExpression span) = span
first_span (ContinueExpression span) = span
first_span (UnaryExpression operator span operand) = span
first_span (UseExpression kind span local) = span
first_span (FieldExpression base field) = first_span base
first_span (LiteralExpression literal) = literal_span literal
first_span (PathExpression path) = path_span path
first_span (CallExpression function types values last) = path_span function
first_span (PackExpression path types fields last) = path_span path
first_span (VectorExpression span types items last) = span
first_span (AssertExpression span condition code) = span
first_span (TupleExpression span items last) = span
first_span (CastExpression span value target) = span
first_span (BlockExpression block) = block_span block

-- expressions in parentheses have a span of their own, unless there is just one
abbrev pub own_spans : Span → ExpressionsData → List Span
own_spans span NoExpressions = span ∷ []
own_spans span (MoreExpressions one NoExpressions) = []
own_spans span (MoreExpressions one (MoreExpressions two more)) = span ∷ []

abbrev mutual
  pub spans_of : ExpressionData → List Span
  spans_of (BinaryExpression left operator span right) = (spans_of left ++ spans_of right) ++ span ∷ []
  spans_of (AssignExpression target span value) = (spans_of target ++ spans_of value) ++ span ∷ []
  spans_of (IfExpression span condition then_branch else_branch) = ((spans_of condition ++ spans_of then_branch) ++ spans_of_maybe else_branch) ++ span ∷ []
  spans_of (WhileExpression span condition body) = (spans_of condition ++ spans_of body) ++ span ∷ []
  spans_of (LoopExpression span body) = spans_of body ++ span ∷ []
  spans_of (ReturnExpression span value) = spans_of_maybe value ++ span ∷ []
  spans_of (AbortExpression span code) = spans_of code ++ span ∷ []
  spans_of (BreakExpression span) = span ∷ []
  spans_of (ContinueExpression span) = span ∷ []
  spans_of (UnaryExpression operator span operand) = spans_of operand ++ span ∷ []
  spans_of (UseExpression kind span local) = span ∷ []
  spans_of (FieldExpression base field) = spans_of base ++ field.span ∷ []
  spans_of (LiteralExpression literal) = literal_span literal ∷ []
  spans_of (PathExpression path) = path_span path ∷ []
  spans_of (CallExpression function types values last) = spans_of_expressions values ++ path_span function ∷ []
  spans_of (PackExpression path types fields last) = spans_of_fields fields ++ path_span path ∷ []
  spans_of (VectorExpression span types items last) = spans_of_expressions items ++ span ∷ []
  spans_of (AssertExpression span condition code) = (spans_of condition ++ spans_of code) ++ span ∷ []
  spans_of (TupleExpression span items last) = spans_of_expressions items ++ own_spans span items
  spans_of (CastExpression span value target) = spans_of value ++ span ∷ []
  spans_of (BlockExpression block) = spans_of_block block

  pub spans_of_maybe : MaybeExpressionData → List Span
  spans_of_maybe NoExpression = []
  spans_of_maybe (SomeExpression value) = spans_of value

  pub spans_of_block : BlockData → List Span
  spans_of_block (BlockOf span spec items value) = (spans_of_items items ++ spans_of_maybe value) ++ span ∷ []

  pub spans_of_items : ItemsData → List Span
  spans_of_items NoItems = []
  spans_of_items (MoreItems one more) = spans_of_item one ++ spans_of_items more

  pub spans_of_item : ItemData → List Span
  spans_of_item (ExpressionItem expression) = spans_of expression ++ first_span expression ∷ []
  spans_of_item (LetItem span pattern annotation value) = (pattern_spans pattern ++ spans_of_maybe value) ++ span ∷ []

  pub spans_of_field : FieldValueData → List Span
  spans_of_field (ShortFieldValue name) = name.span ∷ []
  spans_of_field (LongFieldValue name value) = spans_of value

  pub spans_of_fields : FieldValuesData → List Span
  spans_of_fields NoFieldValues = []
  spans_of_fields (MoreFieldValues one more) = spans_of_field one ++ spans_of_fields more

  pub spans_of_expressions : ExpressionsData → List Span
  spans_of_expressions NoExpressions = []
  spans_of_expressions (MoreExpressions one more) = spans_of one ++ spans_of_expressions more
