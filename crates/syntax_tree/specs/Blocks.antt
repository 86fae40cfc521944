-- The blocks in an expression, each before those in it. Source: The Move Book, "Expressions and Scope".
use Rattle.std.specs.Prelude.{List, [], ◌∷◌, ◌++◌}
use Rattle.syntax_tree.specs.ExpressionData.{ExpressionData, BinaryExpression, AssignExpression, IfExpression, WhileExpression, LoopExpression, ReturnExpression, AbortExpression, BreakExpression, ContinueExpression, UnaryExpression, UseExpression, FieldExpression, LiteralExpression, PathExpression, CallExpression, PackExpression, VectorExpression, AssertExpression, TupleExpression, CastExpression, BlockExpression, MaybeExpressionData, NoExpression, SomeExpression, BlockData, BlockOf, ItemData, ExpressionItem, LetItem, ItemsData, NoItems, MoreItems, FieldValueData, ShortFieldValue, LongFieldValue, FieldValuesData, NoFieldValues, MoreFieldValues, ExpressionsData, NoExpressions, MoreExpressions}

abbrev mutual
  pub blocks_of : ExpressionData → List BlockData
  blocks_of (BinaryExpression left operator span right) = blocks_of left ++ blocks_of right
  blocks_of (AssignExpression target span value) = blocks_of target ++ blocks_of value
  blocks_of (IfExpression span condition then_branch else_branch) = blocks_of condition ++ blocks_of then_branch ++ blocks_of_maybe else_branch
  blocks_of (WhileExpression span condition body) = blocks_of condition ++ blocks_of body
  blocks_of (LoopExpression span body) = blocks_of body
  blocks_of (ReturnExpression span value) = blocks_of_maybe value
  blocks_of (AbortExpression span code) = blocks_of code
  blocks_of (BreakExpression span) = []
  blocks_of (ContinueExpression span) = []
  blocks_of (UnaryExpression operator span operand) = blocks_of operand
  blocks_of (UseExpression kind span local) = []
  blocks_of (FieldExpression base field) = blocks_of base
  blocks_of (LiteralExpression literal) = []
  blocks_of (PathExpression path) = []
  blocks_of (CallExpression function types values last) = blocks_of_expressions values
  blocks_of (PackExpression path types fields last) = blocks_of_fields fields
  blocks_of (VectorExpression span types items last) = blocks_of_expressions items
  blocks_of (AssertExpression span condition code) = blocks_of condition ++ blocks_of code
  blocks_of (TupleExpression span items last) = blocks_of_expressions items
  blocks_of (CastExpression span value target) = blocks_of value
  blocks_of (BlockExpression block) = blocks_of_block block

  pub blocks_of_maybe : MaybeExpressionData → List BlockData
  blocks_of_maybe NoExpression = []
  blocks_of_maybe (SomeExpression value) = blocks_of value

  -- the block itself, and those in it
  pub blocks_of_block : BlockData → List BlockData
  blocks_of_block (BlockOf span spec items value) = BlockOf span spec items value ∷ blocks_of_items items ++ blocks_of_maybe value

  pub blocks_of_items : ItemsData → List BlockData
  blocks_of_items NoItems = []
  blocks_of_items (MoreItems one more) = blocks_of_item one ++ blocks_of_items more

  pub blocks_of_item : ItemData → List BlockData
  blocks_of_item (ExpressionItem expression) = blocks_of expression
  blocks_of_item (LetItem span pattern annotation value) = blocks_of_maybe value

  pub blocks_of_field : FieldValueData → List BlockData
  blocks_of_field (ShortFieldValue name) = []
  blocks_of_field (LongFieldValue name value) = blocks_of value

  pub blocks_of_expressions : ExpressionsData → List BlockData
  blocks_of_expressions NoExpressions = []
  blocks_of_expressions (MoreExpressions one more) = blocks_of one ++ blocks_of_expressions more

  pub blocks_of_fields : FieldValuesData → List BlockData
  blocks_of_fields NoFieldValues = []
  blocks_of_fields (MoreFieldValues one more) = blocks_of_field one ++ blocks_of_fields more
