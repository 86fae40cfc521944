-- Proper expressions, blocks and items: those of the grammar. Beside the spelling, the grammar has the levels of the
-- operators, and rules on `else`, on names, on last commas and on the blocks of loops. Source: The Move Book,
-- "Integers" and "Bool" for the operators; the levels are those of Move's compiler.
use Rattle.std.specs.Prelude.{◌≡◌, ◌≤◌, ℕ, suc, Bool, true, false, Option, Some, None, codes}
use Rattle.syntax_tree.specs.declared.path.Path.{Path}
use Rattle.syntax_tree.specs.declared.literal.Literal.{Literal}
use Rattle.syntax_tree.specs.declared.literal.Literal.TheVariants.{Number, Truth, Address}
use Rattle.syntax_tree.specs.declared.spec_tokens.KeptSpec.{KeptSpec}
use Rattle.syntax_tree.specs.declared.operator.BinaryOperator.{BinaryOperator}
use Rattle.syntax_tree.specs.declared.operator.BinaryOperator.TheVariants.{Or, And, Equal, NotEqual, Less, LessEqual, Greater, GreaterEqual, BitOr, BitXor, BitAnd, ShiftLeft, ShiftRight, Add, Subtract, Multiply, Divide, Remainder}
use Rattle.syntax_tree.specs.NameRules.{IsName, IsCapital}
use Rattle.syntax_tree.specs.KeptSpecs.{IsLoopSpec}
use Rattle.syntax_tree.specs.ProperTypes.{IsProperNumeral, IsProperAddress, IsProperPath, last_name, IsOther, IsProperType, AreProperMaybeArguments}
use Rattle.syntax_tree.specs.ProperPatterns.{IsProperPattern}
use Rattle.syntax_tree.specs.TypeTreeData.{SourceTypeData, MaybeArgumentsData, NoArguments, SomeArguments}
use Rattle.syntax_tree.specs.ExpressionData.{ExpressionData, BinaryExpression, AssignExpression, IfExpression, WhileExpression, LoopExpression, ReturnExpression, AbortExpression, BreakExpression, ContinueExpression, UnaryExpression, UseExpression, FieldExpression, LiteralExpression, PathExpression, CallExpression, PackExpression, VectorExpression, AssertExpression, TupleExpression, CastExpression, BlockExpression, MaybeExpressionData, NoExpression, SomeExpression, BlockOf, ItemData, ExpressionItem, LetItem, FieldValueData, ShortFieldValue, LongFieldValue, ExpressionsData, NoExpressions, MoreExpressions, ItemsData, NoItems, MoreItems, FieldValuesData, NoFieldValues, MoreFieldValues}

-- ---- levels, from the loosest to the tightest; 1, 2 and 6 are those of specifications alone

abbrev pub operator_level : BinaryOperator → ℕ
operator_level Or = 3
operator_level And = 4
operator_level Equal = 5
operator_level NotEqual = 5
operator_level Less = 5
operator_level Greater = 5
operator_level LessEqual = 5
operator_level GreaterEqual = 5
operator_level BitOr = 7
operator_level BitXor = 8
operator_level BitAnd = 9
operator_level ShiftLeft = 10
operator_level ShiftRight = 10
operator_level Add = 11
operator_level Subtract = 11
operator_level Multiply = 12
operator_level Divide = 12
operator_level Remainder = 12

-- unary operators are tighter than binary ones, and a term is tightest
abbrev pub unary_level : ℕ
unary_level = 13

abbrev pub term_level : ℕ
term_level = 14

-- an assignment and a control form have the level 0: as operands they need parentheses
abbrev pub level : ExpressionData → ℕ
level (BinaryExpression left operator span right) = operator_level operator
level (UnaryExpression operator span operand) = unary_level
level (UseExpression kind span local) = unary_level
level (AssignExpression target span value) = 0
level (IfExpression span condition then_branch else_branch) = 0
level (WhileExpression span condition body) = 0
level (LoopExpression span body) = 0
level (ReturnExpression span value) = 0
level (AbortExpression span code) = 0
level (BreakExpression span) = 0
level (ContinueExpression span) = 0
level _ = term_level

-- all operators of Move associate to the left: the left operand has the operator's level or a tighter one, the right
-- operand a tighter one
abbrev pub left_level : BinaryOperator → ℕ
left_level operator = operator_level operator

abbrev pub right_level : BinaryOperator → ℕ
right_level operator = suc (operator_level operator)

-- ---- `else` belongs to the nearest `if` that has none

-- decides whether an `else` after the expression would belong to an `if` in it
abbrev pub takes_else : ExpressionData → Bool
takes_else (IfExpression span condition then_branch NoExpression) = true
takes_else (IfExpression span condition then_branch (SomeExpression else_branch)) = takes_else else_branch
takes_else (WhileExpression span condition body) = takes_else body
takes_else (LoopExpression span body) = takes_else body
takes_else (ReturnExpression span (SomeExpression value)) = takes_else value
takes_else (AbortExpression span code) = takes_else code
takes_else (AssignExpression target span value) = takes_else value
takes_else _ = false

abbrev pub LeavesElse : ExpressionData → MaybeExpressionData → Type 0
LeavesElse then_branch NoExpression = Unit {0}
LeavesElse then_branch (SomeExpression else_branch) = takes_else then_branch ≡ false

-- ---- `vector` before a `<` begins a vector

-- the expression does not end in the path `vector`
abbrev pub EndsInOther : ExpressionData → Type 0
EndsInOther (PathExpression path) = IsOther (codes "vector") path
EndsInOther (BinaryExpression left operator span right) = EndsInOther right
EndsInOther (UnaryExpression operator span operand) = EndsInOther operand
EndsInOther _ = Unit {0}

abbrev pub MayPrecede : BinaryOperator → ExpressionData → Type 0
MayPrecede Less left = EndsInOther left
MayPrecede _ left = Unit {0}

-- the path of a call with type arguments is not the word `vector`
abbrev pub MayHaveArguments : Path → MaybeArgumentsData → Type 0
MayHaveArguments path NoArguments = Unit {0}
MayHaveArguments path (SomeArguments arguments) = IsOther (codes "vector") path

-- ---- last commas

abbrev pub AreSomeExpressions : ExpressionsData → Type 0
AreSomeExpressions NoExpressions = ⊥
AreSomeExpressions (MoreExpressions one more) = Unit {0}

-- a single expression between parentheses has no comma after it
abbrev pub AreSeveral : ExpressionsData → Type 0
AreSeveral NoExpressions = ⊥
AreSeveral (MoreExpressions one more) = AreSomeExpressions more

abbrev pub AreSomeValues : FieldValuesData → Type 0
AreSomeValues NoFieldValues = ⊥
AreSomeValues (MoreFieldValues one more) = Unit {0}

-- ---- parts without expressions

abbrev pub IsProperLiteral : Literal → Type 0
IsProperLiteral (Number n) = IsProperNumeral n
IsProperLiteral (Truth span value) = Unit {0}
IsProperLiteral (Address span address) = IsProperAddress address

abbrev pub IsProperAnnotation : Option SourceTypeData → Type 0
IsProperAnnotation None = Unit {0}
IsProperAnnotation (Some t) = IsProperType t

-- ---- the spec block of a loop

-- the role of an expression: the condition of a `while`, the body of a `loop`, or any other
pub data Role : Type 0 where
  elsewhere : Role
  condition_of_while : Role
  body_of_loop : Role

abbrev pub HasValue : MaybeExpressionData → Type 0
HasValue NoExpression = ⊥
HasValue (SomeExpression value) = Unit {0}

-- a block may begin with a spec block where it is the condition of a `while`, which has a value, or the body of a
-- `loop`
abbrev pub MayHoldSpec : Role → Option KeptSpec → MaybeExpressionData → Type 0
MayHoldSpec role None value = Unit {0}
MayHoldSpec elsewhere (Some spec) value = ⊥
MayHoldSpec condition_of_while (Some spec) value = IsLoopSpec spec × HasValue value
MayHoldSpec body_of_loop (Some spec) value = IsLoopSpec spec

-- ---- the trees

abbrev mutual
  pub IsProperAs : Role → ExpressionData → Type 0
  IsProperAs role (BinaryExpression left operator span right) =
      IsProperAs elsewhere left × IsProperAs elsewhere right
      × (left_level operator ≤ level left) × (right_level operator ≤ level right) × MayPrecede operator left
  IsProperAs role (AssignExpression target span value) =
      IsProperAs elsewhere target × (unary_level ≤ level target) × IsProperAs elsewhere value
  IsProperAs role (IfExpression span condition then_branch else_branch) =
      IsProperAs elsewhere condition × IsProperAs elsewhere then_branch × IsProperMaybe else_branch × LeavesElse then_branch else_branch
  IsProperAs role (WhileExpression span condition body) = IsProperAs condition_of_while condition × IsProperAs elsewhere body
  IsProperAs role (LoopExpression span body) = IsProperAs body_of_loop body
  IsProperAs role (ReturnExpression span value) = IsProperMaybe value
  IsProperAs role (AbortExpression span code) = IsProperAs elsewhere code
  IsProperAs role (BreakExpression span) = Unit {0}
  IsProperAs role (ContinueExpression span) = Unit {0}
  IsProperAs role (UnaryExpression operator span operand) = IsProperAs elsewhere operand × (unary_level ≤ level operand)
  IsProperAs role (UseExpression kind span local) = IsName local.text
  IsProperAs role (FieldExpression base field) = IsProperAs elsewhere base × (term_level ≤ level base) × IsName field.text
  IsProperAs role (LiteralExpression literal) = IsProperLiteral literal
  IsProperAs role (PathExpression path) = IsProperPath path
  IsProperAs role (CallExpression function arguments values last) =
      IsProperPath function × MayHaveArguments function arguments × AreProperMaybeArguments arguments
      × AreProperExpressions values × (last ≡ true → AreSomeExpressions values)
  IsProperAs role (PackExpression path arguments fields last) =
      IsProperPath path × IsCapital (last_name path) × AreProperMaybeArguments arguments
      × AreProperFieldValues fields × (last ≡ true → AreSomeValues fields)
  IsProperAs role (VectorExpression span arguments items last) =
      AreProperMaybeArguments arguments × AreProperExpressions items × (last ≡ true → AreSomeExpressions items)
  IsProperAs role (AssertExpression span condition code) = IsProperAs elsewhere condition × IsProperAs elsewhere code
  IsProperAs role (TupleExpression span items last) = AreProperExpressions items × (last ≡ true → AreSeveral items)
  IsProperAs role (CastExpression span value target) = IsProperAs elsewhere value × IsProperType target
  IsProperAs role (BlockExpression (BlockOf span spec items value)) = MayHoldSpec role spec value × AreProperItems items × IsProperMaybe value

  pub IsProperMaybe : MaybeExpressionData → Type 0
  IsProperMaybe NoExpression = Unit {0}
  IsProperMaybe (SomeExpression value) = IsProperAs elsewhere value

  pub AreProperItems : ItemsData → Type 0
  AreProperItems NoItems = Unit {0}
  AreProperItems (MoreItems one more) = IsProperItem one × AreProperItems more

  pub IsProperItem : ItemData → Type 0
  IsProperItem (ExpressionItem expression) = IsProperAs elsewhere expression
  IsProperItem (LetItem span pattern annotation value) = IsProperPattern pattern × IsProperAnnotation annotation × IsProperMaybe value

  pub IsProperFieldValue : FieldValueData → Type 0
  IsProperFieldValue (ShortFieldValue name) = IsName name.text
  IsProperFieldValue (LongFieldValue name value) = IsName name.text × IsProperAs elsewhere value

  pub AreProperExpressions : ExpressionsData → Type 0
  AreProperExpressions NoExpressions = Unit {0}
  AreProperExpressions (MoreExpressions one more) = IsProperAs elsewhere one × AreProperExpressions more

  pub AreProperFieldValues : FieldValuesData → Type 0
  AreProperFieldValues NoFieldValues = Unit {0}
  AreProperFieldValues (MoreFieldValues one more) = IsProperFieldValue one × AreProperFieldValues more

abbrev pub IsProperExpression : ExpressionData → Type 0
IsProperExpression expression = IsProperAs elsewhere expression
