-- How expressions, blocks and items are spelled. Source: The Move Book, the chapters on expressions, "Variables",
-- "Conditionals", "Loops", "Functions", "Structs", "Vector", "Abort and Assert" and "References".
--     Block = "{" { Item ";" } [ Exp ] "}"
--     Item  = Exp | "let" Pat [ ":" Type ] [ "=" Exp ]
--     Exp   = Binary | Unary "=" Exp | "if" "(" Exp ")" Exp [ "else" Exp ]
--           | "while" "(" Cond ")" Exp | "loop" Body
--           | "return" [ Exp ] | "abort" Exp | "break" | "continue"
--     Cond  = Exp | "{" LoopSpec ";" { Item ";" } Exp "}"
--     Body  = Exp | "{" LoopSpec ";" { Item ";" } [ Exp ] "}"
--     Unary = "!" Unary | "*" Unary | "&" [ "mut" ] Unary | "move" Word | "copy" Word | Term { "." Word }
--     Term  = Number | "true" | "false" | "@" Addr | Path
--           | Path [ TArgs ] "(" [ Exp, .. ] ")"
--           | Path [ TArgs ] "{" [ Word [ ":" Exp ], .. ] "}"
--           | "vector" [ TArgs ] "[" [ Exp, .. ] "]"
--           | "assert" "!" "(" Exp "," Exp ")"
--           | "(" ")" | "(" Exp ")" | "(" Exp "," Exp, .. ")" | "(" Exp "as" Type ")" | Block
-- A block with the spec block of a loop is spelled as any other; ProperExpressions.antt says where it is allowed.
use Rattle.std.specs.Prelude.{Bool, true, false, List, [], ◌∷◌, ◌++◌, Option, None, Some, codes}
use Rattle.tokens.specs.declared.token.Punctuation.TheVariants.{LeftParenthesis, RightParenthesis, LeftBrace, RightBrace, LeftBracket, RightBracket, Colon, Comma, Semicolon, Period, Exclaim, Equal}
use Rattle.syntax_tree.specs.declared.lexeme.Lexeme.{Lexeme}
use Rattle.syntax_tree.specs.declared.spec_tokens.KeptSpec.{KeptSpec}
use Rattle.syntax_tree.specs.Lexemes.{word, identifier, sign, sign_at, comma_list}
use Rattle.syntax_tree.specs.PathSpelling.{path_spelling}
use Rattle.syntax_tree.specs.TypeTreeData.{SourceTypeData}
use Rattle.syntax_tree.specs.TypeSpelling.{type_spelling, maybe_arguments_spelling}
use Rattle.syntax_tree.specs.PatternSpelling.{pattern_spelling}
use Rattle.syntax_tree.specs.LiteralSpelling.{literal_spelling}
use Rattle.syntax_tree.specs.OperatorSpelling.{operator_spelling, unary_spelling, use_spelling}
use Rattle.syntax_tree.specs.SpecTokenSpelling.{kept_spelling}
use Rattle.syntax_tree.specs.ExpressionData.{ExpressionData, BinaryExpression, AssignExpression, IfExpression, WhileExpression, LoopExpression, ReturnExpression, AbortExpression, BreakExpression, ContinueExpression, UnaryExpression, UseExpression, FieldExpression, LiteralExpression, PathExpression, CallExpression, PackExpression, VectorExpression, AssertExpression, TupleExpression, CastExpression, BlockExpression, MaybeExpressionData, NoExpression, SomeExpression, BlockData, BlockOf, ItemData, ExpressionItem, LetItem, FieldValueData, ShortFieldValue, LongFieldValue, ExpressionsData, NoExpressions, MoreExpressions, ItemsData, NoItems, MoreItems, FieldValuesData, NoFieldValues, MoreFieldValues}

-- decides whether the last token belongs to a path, so that a glued `<` after it would open type arguments
abbrev pub ends_in_path : ExpressionData → Bool
ends_in_path (PathExpression path) = true
ends_in_path (BinaryExpression left operator span right) = ends_in_path right
ends_in_path (UnaryExpression operator span operand) = ends_in_path operand
ends_in_path _ = false

-- the type after a colon, if there is one
abbrev pub annotation_spelling : Option SourceTypeData → List Lexeme
annotation_spelling None = []
annotation_spelling (Some t) = sign Colon ∷ type_spelling t

-- the spec block of a loop and its semicolon, if there is one
abbrev pub maybe_loop_spec_spelling : Option KeptSpec → List Lexeme
maybe_loop_spec_spelling None = []
maybe_loop_spec_spelling (Some spec) = kept_spelling spec ++ sign Semicolon ∷ []

abbrev mutual
  pub expression_spelling : ExpressionData → List Lexeme
  expression_spelling (BinaryExpression left operator span right) =
      expression_spelling left ++ operator_spelling operator span (ends_in_path left) ++ expression_spelling right
  expression_spelling (AssignExpression target span value) =
      expression_spelling target ++ sign_at span Equal ∷ expression_spelling value
  expression_spelling (IfExpression span condition then_branch else_branch) =
      word (codes "if") (Some span) ∷ sign LeftParenthesis ∷ expression_spelling condition
      ++ sign RightParenthesis ∷ expression_spelling then_branch ++ else_spelling else_branch
  expression_spelling (WhileExpression span condition body) =
      word (codes "while") (Some span) ∷ sign LeftParenthesis ∷ expression_spelling condition
      ++ sign RightParenthesis ∷ expression_spelling body
  expression_spelling (LoopExpression span body) = word (codes "loop") (Some span) ∷ expression_spelling body
  expression_spelling (ReturnExpression span value) = word (codes "return") (Some span) ∷ maybe_expression_spelling value
  expression_spelling (AbortExpression span code) = word (codes "abort") (Some span) ∷ expression_spelling code
  expression_spelling (BreakExpression span) = word (codes "break") (Some span) ∷ []
  expression_spelling (ContinueExpression span) = word (codes "continue") (Some span) ∷ []
  expression_spelling (UnaryExpression operator span operand) = unary_spelling operator span ++ expression_spelling operand
  expression_spelling (UseExpression kind span local) = use_spelling kind span ++ identifier local ∷ []
  expression_spelling (FieldExpression base field) = expression_spelling base ++ sign Period ∷ identifier field ∷ []
  expression_spelling (LiteralExpression literal) = literal_spelling literal
  expression_spelling (PathExpression path) = path_spelling path
  expression_spelling (CallExpression function arguments values last) =
      path_spelling function ++ maybe_arguments_spelling (Some true) arguments
      ++ sign LeftParenthesis ∷ comma_list (expression_spellings values) last ++ sign RightParenthesis ∷ []
  expression_spelling (PackExpression path arguments fields last) =
      path_spelling path ++ maybe_arguments_spelling (Some true) arguments
      ++ sign LeftBrace ∷ comma_list (field_value_spellings fields) last ++ sign RightBrace ∷ []
  expression_spelling (VectorExpression span arguments items last) =
      word (codes "vector") (Some span) ∷ maybe_arguments_spelling None arguments
      ++ sign LeftBracket ∷ comma_list (expression_spellings items) last ++ sign RightBracket ∷ []
  expression_spelling (AssertExpression span condition code) =
      word (codes "assert") (Some span) ∷ sign Exclaim ∷ sign LeftParenthesis ∷ expression_spelling condition
      ++ sign Comma ∷ expression_spelling code ++ sign RightParenthesis ∷ []
  expression_spelling (TupleExpression span items last) =
      sign_at span LeftParenthesis ∷ comma_list (expression_spellings items) last ++ sign RightParenthesis ∷ []
  expression_spelling (CastExpression span value target) =
      sign_at span LeftParenthesis ∷ expression_spelling value ++ word (codes "as") None ∷ type_spelling target ++ sign RightParenthesis ∷ []
  expression_spelling (BlockExpression block) = block_spelling block

  pub maybe_expression_spelling : MaybeExpressionData → List Lexeme
  maybe_expression_spelling NoExpression = []
  maybe_expression_spelling (SomeExpression value) = expression_spelling value

  pub else_spelling : MaybeExpressionData → List Lexeme
  else_spelling NoExpression = []
  else_spelling (SomeExpression branch) = word (codes "else") None ∷ expression_spelling branch

  pub block_spelling : BlockData → List Lexeme
  block_spelling (BlockOf span spec items value) =
      sign_at span LeftBrace ∷ maybe_loop_spec_spelling spec ++ items_spelling items
      ++ maybe_expression_spelling value ++ sign RightBrace ∷ []

  -- each item, with the semicolon after it
  pub items_spelling : ItemsData → List Lexeme
  items_spelling NoItems = []
  items_spelling (MoreItems one more) = item_spelling one ++ items_spelling more

  pub item_spelling : ItemData → List Lexeme
  item_spelling (ExpressionItem expression) = expression_spelling expression ++ sign Semicolon ∷ []
  item_spelling (LetItem span pattern annotation value) =
      word (codes "let") (Some span) ∷ pattern_spelling pattern ++ annotation_spelling annotation
      ++ initial_spelling value ++ sign Semicolon ∷ []

  pub initial_spelling : MaybeExpressionData → List Lexeme
  initial_spelling NoExpression = []
  initial_spelling (SomeExpression value) = sign Equal ∷ expression_spelling value

  pub field_value_spelling : FieldValueData → List Lexeme
  field_value_spelling (ShortFieldValue name) = identifier name ∷ []
  field_value_spelling (LongFieldValue name value) = identifier name ∷ sign Colon ∷ expression_spelling value

  pub expression_spellings : ExpressionsData → List (List Lexeme)
  expression_spellings NoExpressions = []
  expression_spellings (MoreExpressions one more) = expression_spelling one ∷ expression_spellings more

  pub field_value_spellings : FieldValuesData → List (List Lexeme)
  field_value_spellings NoFieldValues = []
  field_value_spellings (MoreFieldValues one more) = field_value_spelling one ∷ field_value_spellings more

-- an expression, and a field, with a comma before it
abbrev pub expression_after_comma : ExpressionData → List Lexeme
expression_after_comma one = sign Comma ∷ expression_spelling one

abbrev pub field_value_after_comma : FieldValueData → List Lexeme
field_value_after_comma one = sign Comma ∷ field_value_spelling one
