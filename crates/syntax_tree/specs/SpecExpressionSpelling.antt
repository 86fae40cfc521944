-- How spec expressions are spelled. Source: the Move Specification Language reference, "Expressions".
--     SExp   = SBinary | ( "forall" | "exists" ) Bind, .. { "{" SExp, .. "}" } ":" SExp
--            | "if" "(" SExp ")" SExp "else" SExp
--     Bind   = Word ":" Type | Word "in" SExp          (no comma after the last)
--     SUnary = "!" SUnary | STerm { "." Word | "[" SExp "]" }
--     STerm  = Number | "true" | "false" | "@" Addr | Path
--            | Path [ TArgs ] "(" [ SExp, .. ] ")"
--            | Path [ TArgs ] "{" [ Word [ ":" SExp ], .. ] "}" | "(" SExp ")"
use Rattle.std.specs.Prelude.{Bool, true, false, List, [], ◌∷◌, ◌++◌, None, Some, codes}
use Rattle.tokens.specs.declared.token.Punctuation.TheVariants.{LeftParenthesis, RightParenthesis, LeftBrace, RightBrace, LeftBracket, RightBracket, Colon, Comma, Period, Exclaim}
use Rattle.syntax_tree.specs.declared.lexeme.Lexeme.{Lexeme}
use Rattle.syntax_tree.specs.Lexemes.{word, identifier, sign, sign_at, comma_list}
use Rattle.syntax_tree.specs.PathSpelling.{path_spelling}
use Rattle.syntax_tree.specs.TypeSpelling.{type_spelling, maybe_arguments_spelling}
use Rattle.syntax_tree.specs.LiteralSpelling.{literal_spelling}
use Rattle.syntax_tree.specs.SpecOperatorSpelling.{spec_operator_spelling, quantifier_spelling}
use Rattle.syntax_tree.specs.SpecExpressionData.{SpecExpressionData, SpecBinary, SpecQuantified, SpecIf, SpecNot, SpecField, SpecIndex, SpecLiteral, SpecPath, SpecCall, SpecPack, SpecParenthesized, BindData, TypedBind, RangeBind, TriggerData, TriggerOf, SpecFieldData, ShortSpecField, LongSpecField, SpecExpressionsData, NoSpecExpressions, MoreSpecExpressions, BindsData, NoBinds, MoreBinds, TriggersData, NoTriggers, MoreTriggers, SpecFieldsData, NoSpecFields, MoreSpecFields}

-- decides whether the last token belongs to a path, so that a glued `<` after it would open type arguments
abbrev pub ends_in_path : SpecExpressionData → Bool
ends_in_path (SpecPath path) = true
ends_in_path (SpecBinary left operator span right) = ends_in_path right
ends_in_path (SpecNot span operand) = ends_in_path operand
ends_in_path _ = false

abbrev mutual
  pub spec_spelling : SpecExpressionData → List Lexeme
  spec_spelling (SpecBinary left operator span right) =
      spec_spelling left ++ spec_operator_spelling operator span (ends_in_path left) ++ spec_spelling right
  spec_spelling (SpecQuantified quantifier span binds triggers body) =
      quantifier_spelling quantifier span ++ comma_list (bind_spellings binds) false ++ triggers_spelling triggers
      ++ sign Colon ∷ spec_spelling body
  spec_spelling (SpecIf span condition then_branch else_branch) =
      word (codes "if") (Some span) ∷ sign LeftParenthesis ∷ spec_spelling condition ++ sign RightParenthesis
      ∷ spec_spelling then_branch ++ word (codes "else") None ∷ spec_spelling else_branch
  spec_spelling (SpecNot span operand) = sign_at span Exclaim ∷ spec_spelling operand
  spec_spelling (SpecField base field) = spec_spelling base ++ sign Period ∷ identifier field ∷ []
  spec_spelling (SpecIndex base index) = spec_spelling base ++ sign LeftBracket ∷ spec_spelling index ++ sign RightBracket ∷ []
  spec_spelling (SpecLiteral literal) = literal_spelling literal
  spec_spelling (SpecPath path) = path_spelling path
  spec_spelling (SpecCall function arguments values last) =
      path_spelling function ++ maybe_arguments_spelling (Some true) arguments
      ++ sign LeftParenthesis ∷ comma_list (spec_spellings values) last ++ sign RightParenthesis ∷ []
  spec_spelling (SpecPack path arguments fields last) =
      path_spelling path ++ maybe_arguments_spelling (Some true) arguments
      ++ sign LeftBrace ∷ comma_list (spec_field_spellings fields) last ++ sign RightBrace ∷ []
  spec_spelling (SpecParenthesized span inner) = sign_at span LeftParenthesis ∷ spec_spelling inner ++ sign RightParenthesis ∷ []

  pub bind_spelling : BindData → List Lexeme
  bind_spelling (TypedBind name t) = identifier name ∷ sign Colon ∷ type_spelling t
  bind_spelling (RangeBind name range) = identifier name ∷ word (codes "in") None ∷ spec_spelling range

  pub trigger_spelling : TriggerData → List Lexeme
  trigger_spelling (TriggerOf items last) = sign LeftBrace ∷ comma_list (spec_spellings items) last ++ sign RightBrace ∷ []

  pub spec_field_spelling : SpecFieldData → List Lexeme
  spec_field_spelling (ShortSpecField name) = identifier name ∷ []
  spec_field_spelling (LongSpecField name value) = identifier name ∷ sign Colon ∷ spec_spelling value

  pub spec_spellings : SpecExpressionsData → List (List Lexeme)
  spec_spellings NoSpecExpressions = []
  spec_spellings (MoreSpecExpressions one more) = spec_spelling one ∷ spec_spellings more

  pub bind_spellings : BindsData → List (List Lexeme)
  bind_spellings NoBinds = []
  bind_spellings (MoreBinds one more) = bind_spelling one ∷ bind_spellings more

  pub triggers_spelling : TriggersData → List Lexeme
  triggers_spelling NoTriggers = []
  triggers_spelling (MoreTriggers one more) = trigger_spelling one ++ triggers_spelling more

  pub spec_field_spellings : SpecFieldsData → List (List Lexeme)
  spec_field_spellings NoSpecFields = []
  spec_field_spellings (MoreSpecFields one more) = spec_field_spelling one ∷ spec_field_spellings more

-- parts after a comma
abbrev pub spec_after_comma : SpecExpressionData → List Lexeme
spec_after_comma one = sign Comma ∷ spec_spelling one

abbrev pub bind_after_comma : BindData → List Lexeme
bind_after_comma one = sign Comma ∷ bind_spelling one

abbrev pub spec_field_after_comma : SpecFieldData → List Lexeme
spec_field_after_comma one = sign Comma ∷ spec_field_spelling one
