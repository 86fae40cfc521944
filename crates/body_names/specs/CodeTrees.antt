-- Code with its names resolved: the tree of an expression, if these names are in scope, the innermost last, and n names
-- are bound before it in source order. The number of a local is the number of names bound before it. A use without a
-- meaning has a bad tree, so a tree is sound exactly if each use in it has a meaning. Source: The Move Book, "Local
-- Variables and Scope", "Expressions" and "Functions".
use Rattle.std.specs.Prelude.{ℕ, ◌+◌, Bool, true, false, List, [], ◌∷◌, ◌++◌, length, Option}
use Rattle.std.specs.Option.{option_map}
use Rattle.syntax_tree.specs.ExpressionData.{ExpressionData, BinaryExpression, AssignExpression, IfExpression, WhileExpression, LoopExpression, ReturnExpression, AbortExpression, BreakExpression, ContinueExpression, UnaryExpression, UseExpression, FieldExpression, LiteralExpression, PathExpression, CallExpression, PackExpression, VectorExpression, AssertExpression, TupleExpression, CastExpression, BlockExpression, MaybeExpressionData, NoExpression, SomeExpression, BlockData, BlockOf, ItemData, ExpressionItem, LetItem, ItemsData, NoItems, MoreItems, FieldValueData, ShortFieldValue, LongFieldValue, FieldValuesData, NoFieldValues, MoreFieldValues, ExpressionsData, NoExpressions, MoreExpressions}
use Rattle.syntax_tree.specs.declared.path.Path.TheVariants.{Name as name_path}
use Rattle.syntax_tree.specs.TypeTreeData.{SourceTypeData}
use Rattle.program.specs.Trees.{LeafTree, UnaryTree, BinaryTree, IfTree, ManyTree, NoTrees, MoreTrees}
use Rattle.program.specs.declared.code.CodeLeaf.TheVariants.{Break, Continue, Return as return_leaf}
use Rattle.program.specs.declared.code.CodeUnary.TheVariants.{Field, Return, Abort, Loop, Discard}
use Rattle.program.specs.declared.code.CodeBinary.TheVariants.{Operator, Assign, If, While, Assert}
use Rattle.program.specs.declared.code.CodeMany.TheVariants.{Pack, Tuple, Block}
use Rattle.scopes.specs.declared.scope.InScope.{InScope}
use Rattle.scopes.specs.TypeMeanings.{TypeScope}
use Rattle.body_names.specs.CodeForms.{CodeTree, CodeTrees, leaf_tree, unary_tree, binary_tree, many_tree, unary_of, use_of, literal_meaning, local_meaning, value_meaning, cast_meaning, declare_meaning, let_meaning, call_meaning, vector_meaning}
use Rattle.body_names.specs.SharedWords.{fields_meaning, operator_of}
use Rattle.body_names.specs.PatternTrees.{pattern_names, pattern_tree, parenthesized}
use Rattle.body_names.specs.CodeNames.{names_of, names_of_item, names_of_items, names_of_field, entered_by, entered_by_all}
use Rattle.body_names.specs.Joined.{joined}

abbrev pub is_there : MaybeExpressionData → Bool
is_there NoExpression = false
is_there (SomeExpression value) = true

abbrev pub field_of_value : FieldValueData → List ℕ
field_of_value (ShortFieldValue name) = name.text
field_of_value (LongFieldValue name value) = name.text

-- the fields in a pack
abbrev pub fields_of_values : FieldValuesData → List (List ℕ)
fields_of_values NoFieldValues = []
fields_of_values (MoreFieldValues one more) = field_of_value one ∷ fields_of_values more

abbrev mutual
  pub code_tree : TypeScope → List InScope → ℕ → ExpressionData → CodeTree
  code_tree w scope n (BinaryExpression left operator span right) =
      BinaryTree (Operator (operator_of operator)) (code_tree w scope n left) (code_tree w scope (n + length (names_of left)) right)
  code_tree w scope n (AssignExpression target span value) =
      BinaryTree Assign (code_tree w scope n target) (code_tree w scope (n + length (names_of target)) value)
  code_tree w scope n (IfExpression span condition then_branch else_branch) =
      if_tree w scope ((n + length (names_of condition)) + length (names_of then_branch)) (code_tree w scope n condition)
      (code_tree w scope (n + length (names_of condition)) then_branch) else_branch
  code_tree w scope n (WhileExpression span condition body) =
      BinaryTree While (code_tree w scope n condition) (code_tree w scope (n + length (names_of condition)) body)
  code_tree w scope n (LoopExpression span body) = UnaryTree Loop (code_tree w scope n body)
  code_tree w scope n (ReturnExpression span value) = return_tree w scope n value
  code_tree w scope n (AbortExpression span code) = UnaryTree Abort (code_tree w scope n code)
  code_tree w scope n (BreakExpression span) = LeafTree Break
  code_tree w scope n (ContinueExpression span) = LeafTree Continue
  code_tree w scope n (UnaryExpression operator span operand) = UnaryTree (unary_of operator) (code_tree w scope n operand)
  code_tree w scope n (UseExpression kind span local) = leaf_tree (local_meaning (use_of kind) scope local.text)
  code_tree w scope n (FieldExpression base field) = UnaryTree (Field field.text) (code_tree w scope n base)
  code_tree w scope n (LiteralExpression literal) = leaf_tree (literal_meaning w literal)
  code_tree w scope n (PathExpression path) = leaf_tree (value_meaning w scope path)
  code_tree w scope n (CallExpression function types values last) =
      many_tree (call_meaning w function types) (code_trees w scope n values)
  code_tree w scope n (PackExpression path types fields last) =
      many_tree (option_map Pack (fields_meaning w path types (fields_of_values fields))) (field_trees w scope n fields)
  code_tree w scope n (VectorExpression span types items last) = many_tree (vector_meaning w types) (code_trees w scope n items)
  code_tree w scope n (AssertExpression span condition code) =
      BinaryTree Assert (code_tree w scope n condition) (code_tree w scope (n + length (names_of condition)) code)
  code_tree w scope n (TupleExpression span items last) = parenthesized Tuple (code_trees w scope n items)
  code_tree w scope n (CastExpression span value target) = unary_tree (cast_meaning w target) (code_tree w scope n value)
  code_tree w scope n (BlockExpression block) = block_tree w scope n block

  -- a condition and a branch, and possibly another branch, before which n names are bound
  pub if_tree : TypeScope → List InScope → ℕ → CodeTree → CodeTree → MaybeExpressionData → CodeTree
  if_tree w scope n condition then_branch NoExpression = BinaryTree If condition then_branch
  if_tree w scope n condition then_branch (SomeExpression value) = IfTree condition then_branch (code_tree w scope n value)

  pub return_tree : TypeScope → List InScope → ℕ → MaybeExpressionData → CodeTree
  return_tree w scope n NoExpression = LeafTree return_leaf
  return_tree w scope n (SomeExpression value) = UnaryTree Return (code_tree w scope n value)

  -- the names that the items of a block bind are in scope up to its end
  pub block_tree : TypeScope → List InScope → ℕ → BlockData → CodeTree
  block_tree w scope n (BlockOf span spec items value) =
      ManyTree (Block (is_there value))
      (joined (item_trees w scope n items) (last_trees w (scope ++ entered_by_all n items) (n + length (names_of_items items)) value))

  pub last_trees : TypeScope → List InScope → ℕ → MaybeExpressionData → CodeTrees
  last_trees w scope n NoExpression = NoTrees
  last_trees w scope n (SomeExpression value) = MoreTrees (code_tree w scope n value) NoTrees

  pub item_trees : TypeScope → List InScope → ℕ → ItemsData → CodeTrees
  item_trees w scope n NoItems = NoTrees
  item_trees w scope n (MoreItems one more) =
      MoreTrees (item_tree w scope n one) (item_trees w (scope ++ entered_by n one) (n + length (names_of_item one)) more)

  -- the names of a `let` are in scope after it: its value uses those in scope before it
  pub item_tree : TypeScope → List InScope → ℕ → ItemData → CodeTree
  item_tree w scope n (ExpressionItem expression) = UnaryTree Discard (code_tree w scope n expression)
  item_tree w scope n (LetItem span pattern annotation value) =
      let_tree w scope (n + length (pattern_names pattern)) annotation (pattern_tree w n pattern) value

  pub let_tree : TypeScope → List InScope → ℕ → Option SourceTypeData → CodeTree → MaybeExpressionData → CodeTree
  let_tree w scope n annotation pattern NoExpression = unary_tree (declare_meaning w annotation) pattern
  let_tree w scope n annotation pattern (SomeExpression value) =
      binary_tree (let_meaning w annotation) pattern (code_tree w scope n value)

  -- a field without a value is set to the value of its name
  pub field_tree : TypeScope → List InScope → ℕ → FieldValueData → CodeTree
  field_tree w scope n (ShortFieldValue name) = leaf_tree (value_meaning w scope (name_path name))
  field_tree w scope n (LongFieldValue name value) = code_tree w scope n value

  pub field_trees : TypeScope → List InScope → ℕ → FieldValuesData → CodeTrees
  field_trees w scope n NoFieldValues = NoTrees
  field_trees w scope n (MoreFieldValues one more) =
      MoreTrees (field_tree w scope n one) (field_trees w scope (n + length (names_of_field one)) more)

  pub code_trees : TypeScope → List InScope → ℕ → ExpressionsData → CodeTrees
  code_trees w scope n NoExpressions = NoTrees
  code_trees w scope n (MoreExpressions one more) =
      MoreTrees (code_tree w scope n one) (code_trees w scope (n + length (names_of one)) more)
