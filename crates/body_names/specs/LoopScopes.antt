-- The loops of code that have a spec block, in the order of the blocks that begin with one: the index of each loop's
-- node, and the names in scope before it. The spec block of a `while` is in its condition, that of a `loop` in its
-- body. Source: the Move Specification Language reference, "Invariants", on loops; The Move Book, "Local Variables and
-- Scope".
use Rattle.std.specs.Prelude.{ℕ, ◌+◌, Bool, true, false, List, [], ◌∷◌, ◌++◌, length, is_some, if◌then◌else◌}
use Rattle.syntax_tree.specs.ExpressionData.{ExpressionData, BinaryExpression, AssignExpression, IfExpression, WhileExpression, LoopExpression, ReturnExpression, AbortExpression, BreakExpression, ContinueExpression, UnaryExpression, UseExpression, FieldExpression, LiteralExpression, PathExpression, CallExpression, PackExpression, VectorExpression, AssertExpression, TupleExpression, CastExpression, BlockExpression, MaybeExpressionData, NoExpression, SomeExpression, BlockData, BlockOf, ItemData, ExpressionItem, LetItem, ItemsData, NoItems, MoreItems, FieldValueData, ShortFieldValue, LongFieldValue, FieldValuesData, NoFieldValues, MoreFieldValues, ExpressionsData, NoExpressions, MoreExpressions}
use Rattle.scopes.specs.declared.scope.InScope.{InScope}
use Rattle.body_names.specs.CodeNames.{names_of, names_of_item, names_of_items, names_of_field, entered_by, entered_by_all, numbered}
use Rattle.body_names.specs.CodeSpans.{spans_of, spans_of_item, spans_of_items, spans_of_field}
use Rattle.body_names.specs.PatternTrees.{pattern_names, pattern_spans}
use Rattle.body_names.specs.declared.code.loops.LoopScope.{LoopScope}

-- a loop whose index is not known yet
abbrev pub begun : List InScope → LoopScope
begun scope = record { at = 0; names = scope }

-- the loop with its index
abbrev pub with_index : ℕ → LoopScope → LoopScope
with_index at loop = record { at = at; names = loop.names }

-- the block begins with a spec block
abbrev pub has_spec : BlockData → Bool
has_spec (BlockOf span spec items value) = is_some spec

-- the expression is a block that begins with a spec block
abbrev pub begins_with_spec : ExpressionData → Bool
begins_with_spec (BlockExpression block) = has_spec block
begins_with_spec _ = false

-- a loop whose node has this index, if it has a spec block
abbrev pub own_scope : Bool → ℕ → List InScope → List LoopScope
own_scope has at scope = if has then record { at = at; names = scope } ∷ [] else []

-- The loops in code, if these names are in scope, the innermost last, n names are bound before it, and k nodes are
-- before it. Each node has one span, so there are as many nodes as spans.
abbrev mutual
  pub loops_of : List InScope → ℕ → ℕ → ExpressionData → List LoopScope
  loops_of scope n k (BinaryExpression left operator span right) =
      loops_of scope n k left ++ loops_of scope (n + length (names_of left)) (k + length (spans_of left)) right
  loops_of scope n k (AssignExpression target span value) =
      loops_of scope n k target ++ loops_of scope (n + length (names_of target)) (k + length (spans_of target)) value
  loops_of scope n k (IfExpression span condition then_branch else_branch) =
      (loops_of scope n k condition ++ loops_of scope (n + length (names_of condition)) (k + length (spans_of condition)) then_branch)
      ++ loops_of_maybe scope ((n + length (names_of condition)) + length (names_of then_branch)) ((k + length (spans_of condition)) + length (spans_of then_branch)) else_branch
  loops_of scope n k (WhileExpression span condition body) =
      own_scope (begins_with_spec condition) ((k + length (spans_of condition)) + length (spans_of body)) scope
      ++ (loops_of scope n k condition ++ loops_of scope (n + length (names_of condition)) (k + length (spans_of condition)) body)
  loops_of scope n k (LoopExpression span body) =
      own_scope (begins_with_spec body) (k + length (spans_of body)) scope ++ loops_of scope n k body
  loops_of scope n k (ReturnExpression span value) = loops_of_maybe scope n k value
  loops_of scope n k (AbortExpression span code) = loops_of scope n k code
  loops_of scope n k (BreakExpression span) = []
  loops_of scope n k (ContinueExpression span) = []
  loops_of scope n k (UnaryExpression operator span operand) = loops_of scope n k operand
  loops_of scope n k (UseExpression kind span local) = []
  loops_of scope n k (FieldExpression base field) = loops_of scope n k base
  loops_of scope n k (LiteralExpression literal) = []
  loops_of scope n k (PathExpression path) = []
  loops_of scope n k (CallExpression function types values last) = loops_of_expressions scope n k values
  loops_of scope n k (PackExpression path types fields last) = loops_of_fields scope n k fields
  loops_of scope n k (VectorExpression span types items last) = loops_of_expressions scope n k items
  loops_of scope n k (AssertExpression span condition code) =
      loops_of scope n k condition ++ loops_of scope (n + length (names_of condition)) (k + length (spans_of condition)) code
  loops_of scope n k (TupleExpression span items last) = loops_of_expressions scope n k items
  loops_of scope n k (CastExpression span value target) = loops_of scope n k value
  loops_of scope n k (BlockExpression block) = loops_of_block scope n k block

  pub loops_of_maybe : List InScope → ℕ → ℕ → MaybeExpressionData → List LoopScope
  loops_of_maybe scope n k NoExpression = []
  loops_of_maybe scope n k (SomeExpression value) = loops_of scope n k value

  -- the names that the items of a block bind are in scope up to its end
  pub loops_of_block : List InScope → ℕ → ℕ → BlockData → List LoopScope
  loops_of_block scope n k (BlockOf span spec items value) =
      loops_of_items scope n k items
      ++ loops_of_maybe (scope ++ entered_by_all n items) (n + length (names_of_items items)) (k + length (spans_of_items items)) value

  pub loops_of_items : List InScope → ℕ → ℕ → ItemsData → List LoopScope
  loops_of_items scope n k NoItems = []
  loops_of_items scope n k (MoreItems one more) =
      loops_of_item scope n k one
      ++ loops_of_items (scope ++ entered_by n one) (n + length (names_of_item one)) (k + length (spans_of_item one)) more

  -- the names of a `let` are in scope after it
  pub loops_of_item : List InScope → ℕ → ℕ → ItemData → List LoopScope
  loops_of_item scope n k (ExpressionItem expression) = loops_of scope n k expression
  loops_of_item scope n k (LetItem span pattern annotation value) =
      loops_of_maybe scope (n + length (pattern_names pattern)) (k + length (pattern_spans pattern)) value

  pub loops_of_field : List InScope → ℕ → ℕ → FieldValueData → List LoopScope
  loops_of_field scope n k (ShortFieldValue name) = []
  loops_of_field scope n k (LongFieldValue name value) = loops_of scope n k value

  pub loops_of_fields : List InScope → ℕ → ℕ → FieldValuesData → List LoopScope
  loops_of_fields scope n k NoFieldValues = []
  loops_of_fields scope n k (MoreFieldValues one more) =
      loops_of_field scope n k one ++ loops_of_fields scope (n + length (names_of_field one)) (k + length (spans_of_field one)) more

  pub loops_of_expressions : List InScope → ℕ → ℕ → ExpressionsData → List LoopScope
  loops_of_expressions scope n k NoExpressions = []
  loops_of_expressions scope n k (MoreExpressions one more) =
      loops_of scope n k one ++ loops_of_expressions scope (n + length (names_of one)) (k + length (spans_of one)) more

-- the loops of the body of a function with parameters of these names
abbrev pub loops_of_body : List (List ℕ) → BlockData → List LoopScope
loops_of_body parameters body = loops_of_block (numbered 0 parameters) (length parameters) 0 body
