-- The names that the `let`s in code bind, in source order, and those in scope after them. Source: The Move Book, "Local
-- Variables and Scope".
use Rattle.std.specs.Prelude.{ℕ, ◌+◌, List, [], ◌∷◌, ◌++◌, length}
use Rattle.syntax_tree.specs.ExpressionData.{ExpressionData, BinaryExpression, AssignExpression, IfExpression, WhileExpression, LoopExpression, ReturnExpression, AbortExpression, BreakExpression, ContinueExpression, UnaryExpression, UseExpression, FieldExpression, LiteralExpression, PathExpression, CallExpression, PackExpression, VectorExpression, AssertExpression, TupleExpression, CastExpression, BlockExpression, MaybeExpressionData, NoExpression, SomeExpression, BlockData, BlockOf, ItemData, ExpressionItem, LetItem, ItemsData, NoItems, MoreItems, FieldValueData, ShortFieldValue, LongFieldValue, FieldValuesData, NoFieldValues, MoreFieldValues, ExpressionsData, NoExpressions, MoreExpressions}
use Rattle.scopes.specs.declared.scope.InScope.{InScope}
use Rattle.body_names.specs.PatternTrees.{pattern_names}

abbrev mutual
  pub names_of : ExpressionData → List (List ℕ)
  names_of (BinaryExpression left operator span right) = names_of left ++ names_of right
  names_of (AssignExpression target span value) = names_of target ++ names_of value
  names_of (IfExpression span condition then_branch else_branch) = (names_of condition ++ names_of then_branch) ++ names_of_maybe else_branch
  names_of (WhileExpression span condition body) = names_of condition ++ names_of body
  names_of (LoopExpression span body) = names_of body
  names_of (ReturnExpression span value) = names_of_maybe value
  names_of (AbortExpression span code) = names_of code
  names_of (BreakExpression span) = []
  names_of (ContinueExpression span) = []
  names_of (UnaryExpression operator span operand) = names_of operand
  names_of (UseExpression kind span local) = []
  names_of (FieldExpression base field) = names_of base
  names_of (LiteralExpression literal) = []
  names_of (PathExpression path) = []
  names_of (CallExpression function types values last) = names_of_expressions values
  names_of (PackExpression path types fields last) = names_of_fields fields
  names_of (VectorExpression span types items last) = names_of_expressions items
  names_of (AssertExpression span condition code) = names_of condition ++ names_of code
  names_of (TupleExpression span items last) = names_of_expressions items
  names_of (CastExpression span value target) = names_of value
  names_of (BlockExpression block) = names_of_block block

  pub names_of_maybe : MaybeExpressionData → List (List ℕ)
  names_of_maybe NoExpression = []
  names_of_maybe (SomeExpression value) = names_of value

  pub names_of_block : BlockData → List (List ℕ)
  names_of_block (BlockOf span spec items value) = names_of_items items ++ names_of_maybe value

  -- a pattern comes before its value
  pub names_of_item : ItemData → List (List ℕ)
  names_of_item (ExpressionItem expression) = names_of expression
  names_of_item (LetItem span pattern annotation value) = pattern_names pattern ++ names_of_maybe value

  pub names_of_items : ItemsData → List (List ℕ)
  names_of_items NoItems = []
  names_of_items (MoreItems one more) = names_of_item one ++ names_of_items more

  pub names_of_field : FieldValueData → List (List ℕ)
  names_of_field (ShortFieldValue name) = []
  names_of_field (LongFieldValue name value) = names_of value

  pub names_of_fields : FieldValuesData → List (List ℕ)
  names_of_fields NoFieldValues = []
  names_of_fields (MoreFieldValues one more) = names_of_field one ++ names_of_fields more

  pub names_of_expressions : ExpressionsData → List (List ℕ)
  names_of_expressions NoExpressions = []
  names_of_expressions (MoreExpressions one more) = names_of one ++ names_of_expressions more

-- names with consecutive numbers, the first with number n
abbrev pub numbered : ℕ → List (List ℕ) → List InScope
numbered n [] = []
numbered n (name ∷ names) = record { name = name; number = n } ∷ numbered (n + 1) names

-- the names that an item brings into scope after it, if n names are bound before it
abbrev pub entered_by : ℕ → ItemData → List InScope
entered_by n (ExpressionItem expression) = []
entered_by n (LetItem span pattern annotation value) = numbered n (pattern_names pattern)

abbrev pub entered_by_all : ℕ → ItemsData → List InScope
entered_by_all n NoItems = []
entered_by_all n (MoreItems one more) = entered_by n one ++ entered_by_all (n + length (names_of_item one)) more
