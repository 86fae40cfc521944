-- Expressions, blocks and their items as pure data that contracts see. Source: The Move Book, the chapters on
-- expressions, "Variables", "Conditionals", "Loops", "Structs" and "References".
use Rattle.std.specs.Prelude.{◌≡◌, ℕ, ◌+◌, Bool, List, [], ◌∷◌, refl, Option, Some, None}
use Rattle.std.proofs.Common.{ap, sym, ◌∙◌}
use Rattle.syntax_tree.specs.declared.spec_tokens.KeptSpec.{KeptSpec}
use Rattle.syntax_tree.specs.TypeTreeData.{SourceTypeData}
use Rattle.syntax_tree.specs.declared.operator.BinaryOperator.{BinaryOperator}
use Rattle.syntax_tree.specs.declared.lexeme.Identifier.{Identifier}
use Rattle.syntax_tree.specs.declared.literal.Literal.{Literal}
use Rattle.syntax_tree.specs.TypeTreeData.{MaybeArgumentsData}
use Rattle.syntax_tree.specs.declared.path.Path.{Path}
use Rattle.syntax_tree.specs.PatternData.{PatternData}
use Rattle.base.specs.declared.span.Span.{Span}
use Rattle.syntax_tree.specs.declared.operator.UnaryOperator.{UnaryOperator}
use Rattle.syntax_tree.specs.declared.operator.UseKind.{UseKind}

mutual
  pub data ExpressionData : Type 0 where
    BinaryExpression : ExpressionData → BinaryOperator → Span → ExpressionData → ExpressionData
    AssignExpression : ExpressionData → Span → ExpressionData → ExpressionData
    IfExpression : Span → ExpressionData → ExpressionData → MaybeExpressionData → ExpressionData
    WhileExpression : Span → ExpressionData → ExpressionData → ExpressionData
    LoopExpression : Span → ExpressionData → ExpressionData
    ReturnExpression : Span → MaybeExpressionData → ExpressionData
    AbortExpression : Span → ExpressionData → ExpressionData
    BreakExpression : Span → ExpressionData
    ContinueExpression : Span → ExpressionData
    UnaryExpression : UnaryOperator → Span → ExpressionData → ExpressionData
    UseExpression : UseKind → Span → Identifier → ExpressionData
    FieldExpression : ExpressionData → Identifier → ExpressionData
    LiteralExpression : Literal → ExpressionData
    PathExpression : Path → ExpressionData
    CallExpression : Path → MaybeArgumentsData → ExpressionsData → Bool → ExpressionData
    PackExpression : Path → MaybeArgumentsData → FieldValuesData → Bool → ExpressionData
    VectorExpression : Span → MaybeArgumentsData → ExpressionsData → Bool → ExpressionData
    AssertExpression : Span → ExpressionData → ExpressionData → ExpressionData
    TupleExpression : Span → ExpressionsData → Bool → ExpressionData
    CastExpression : Span → ExpressionData → SourceTypeData → ExpressionData
    BlockExpression : BlockData → ExpressionData

  pub data MaybeExpressionData : Type 0 where
    NoExpression : MaybeExpressionData
    SomeExpression : ExpressionData → MaybeExpressionData

  -- the items between the braces and the value after them; in a loop, its spec block comes before the items
  pub data BlockData : Type 0 where
    BlockOf : Span → (Option KeptSpec) → ItemsData → MaybeExpressionData → BlockData

  pub data ItemData : Type 0 where
    ExpressionItem : ExpressionData → ItemData
    LetItem : Span → PatternData → (Option SourceTypeData) → MaybeExpressionData → ItemData

  -- a field whose value is a local of its name, or one with a value of its own
  pub data FieldValueData : Type 0 where
    ShortFieldValue : Identifier → FieldValueData
    LongFieldValue : Identifier → ExpressionData → FieldValueData

  pub data ExpressionsData : Type 0 where
    NoExpressions : ExpressionsData
    MoreExpressions : ExpressionData → ExpressionsData → ExpressionsData

  pub data ItemsData : Type 0 where
    NoItems : ItemsData
    MoreItems : ItemData → ItemsData → ItemsData

  pub data FieldValuesData : Type 0 where
    NoFieldValues : FieldValuesData
    MoreFieldValues : FieldValueData → FieldValuesData → FieldValuesData

abbrev pub maybe_expression_of : Option ExpressionData → MaybeExpressionData
maybe_expression_of None = NoExpression
maybe_expression_of (Some x) = SomeExpression x

-- the list as one of this family, and back
abbrev pub expressions_of : List ExpressionData → ExpressionsData
expressions_of [] = NoExpressions
expressions_of (x ∷ xs) = MoreExpressions x (expressions_of xs)

abbrev pub list_of_expressions : ExpressionsData → List ExpressionData
list_of_expressions NoExpressions = []
list_of_expressions (MoreExpressions x xs) = x ∷ list_of_expressions xs

pub list_of_expressions-expressions_of : (xs : List ExpressionData) → list_of_expressions (expressions_of xs) ≡ xs
list_of_expressions-expressions_of [] = refl
list_of_expressions-expressions_of (x ∷ xs) = ap (λ ys. x ∷ ys) (list_of_expressions-expressions_of xs)

pub expressions_of_injective : (xs ys : List ExpressionData) → expressions_of xs ≡ expressions_of ys → xs ≡ ys
expressions_of_injective xs ys e = sym (list_of_expressions-expressions_of xs) ∙ ap list_of_expressions e ∙ list_of_expressions-expressions_of ys

-- the list as one of this family, and back
abbrev pub items_of : List ItemData → ItemsData
items_of [] = NoItems
items_of (x ∷ xs) = MoreItems x (items_of xs)

abbrev pub list_of_items : ItemsData → List ItemData
list_of_items NoItems = []
list_of_items (MoreItems x xs) = x ∷ list_of_items xs

pub list_of_items-items_of : (xs : List ItemData) → list_of_items (items_of xs) ≡ xs
list_of_items-items_of [] = refl
list_of_items-items_of (x ∷ xs) = ap (λ ys. x ∷ ys) (list_of_items-items_of xs)

pub items_of_injective : (xs ys : List ItemData) → items_of xs ≡ items_of ys → xs ≡ ys
items_of_injective xs ys e = sym (list_of_items-items_of xs) ∙ ap list_of_items e ∙ list_of_items-items_of ys

-- the list as one of this family, and back
abbrev pub field_values_of : List FieldValueData → FieldValuesData
field_values_of [] = NoFieldValues
field_values_of (x ∷ xs) = MoreFieldValues x (field_values_of xs)

abbrev pub list_of_field_values : FieldValuesData → List FieldValueData
list_of_field_values NoFieldValues = []
list_of_field_values (MoreFieldValues x xs) = x ∷ list_of_field_values xs

pub list_of_field_values-field_values_of : (xs : List FieldValueData) → list_of_field_values (field_values_of xs) ≡ xs
list_of_field_values-field_values_of [] = refl
list_of_field_values-field_values_of (x ∷ xs) = ap (λ ys. x ∷ ys) (list_of_field_values-field_values_of xs)

pub field_values_of_injective : (xs ys : List FieldValueData) → field_values_of xs ≡ field_values_of ys → xs ≡ ys
field_values_of_injective xs ys e = sym (list_of_field_values-field_values_of xs) ∙ ap list_of_field_values e ∙ list_of_field_values-field_values_of ys

-- the number of nodes, each cell of a list as one more
abbrev mutual
  pub expression_size : ExpressionData → ℕ
  expression_size (BinaryExpression a b c d) = 1 + (expression_size a + expression_size d)
  expression_size (AssignExpression a b c) = 1 + (expression_size a + expression_size c)
  expression_size (IfExpression a b c d) = 1 + (expression_size b + expression_size c + maybe_expression_size d)
  expression_size (WhileExpression a b c) = 1 + (expression_size b + expression_size c)
  expression_size (LoopExpression a b) = 1 + expression_size b
  expression_size (ReturnExpression a b) = 1 + maybe_expression_size b
  expression_size (AbortExpression a b) = 1 + expression_size b
  expression_size (BreakExpression a) = 1
  expression_size (ContinueExpression a) = 1
  expression_size (UnaryExpression a b c) = 1 + expression_size c
  expression_size (UseExpression a b c) = 1
  expression_size (FieldExpression a b) = 1 + expression_size a
  expression_size (LiteralExpression a) = 1
  expression_size (PathExpression a) = 1
  expression_size (CallExpression a b c d) = 1 + expressions_size c
  expression_size (PackExpression a b c d) = 1 + field_values_size c
  expression_size (VectorExpression a b c d) = 1 + expressions_size c
  expression_size (AssertExpression a b c) = 1 + (expression_size b + expression_size c)
  expression_size (TupleExpression a b c) = 1 + expressions_size b
  expression_size (CastExpression a b c) = 1 + expression_size b
  expression_size (BlockExpression a) = 1 + block_size a

  pub maybe_expression_size : MaybeExpressionData → ℕ
  maybe_expression_size NoExpression = 1
  maybe_expression_size (SomeExpression a) = 1 + expression_size a

  pub block_size : BlockData → ℕ
  block_size (BlockOf a b c d) = 1 + (items_size c + maybe_expression_size d)

  pub item_size : ItemData → ℕ
  item_size (ExpressionItem a) = 1 + expression_size a
  item_size (LetItem a b c d) = 1 + maybe_expression_size d

  pub field_value_size : FieldValueData → ℕ
  field_value_size (ShortFieldValue a) = 1
  field_value_size (LongFieldValue a b) = 1 + expression_size b

  pub expressions_size : ExpressionsData → ℕ
  expressions_size NoExpressions = 1
  expressions_size (MoreExpressions a b) = 1 + (expression_size a + expressions_size b)

  pub items_size : ItemsData → ℕ
  items_size NoItems = 1
  items_size (MoreItems a b) = 1 + (item_size a + items_size b)

  pub field_values_size : FieldValuesData → ℕ
  field_values_size NoFieldValues = 1
  field_values_size (MoreFieldValues a b) = 1 + (field_value_size a + field_values_size b)
