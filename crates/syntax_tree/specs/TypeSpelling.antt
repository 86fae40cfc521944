-- How types are spelled. Source: The Move Book, "References", "Tuples and Unit" and "Generics".
--     Type  = "&" [ "mut" ] Type | Path [ TArgs ] | "(" [ Type, .. ] ")"
--     TArgs = "<" Type, .. ">"
use Rattle.std.specs.Prelude.{Bool, List, [], ◌∷◌, ◌++◌, Option, None, codes}
use Rattle.tokens.specs.declared.token.TokenKind.TheVariants.{Punctuation}
use Rattle.tokens.specs.declared.token.Punctuation.TheVariants.{Ampersand, LeftParenthesis, RightParenthesis, Less, Greater, Comma}
use Rattle.syntax_tree.specs.declared.lexeme.Lexeme.{Lexeme}
use Rattle.syntax_tree.specs.Lexemes.{lexeme, word, sign, sign_at, comma_list}
use Rattle.syntax_tree.specs.PathSpelling.{path_spelling}
use Rattle.syntax_tree.specs.TypeTreeData.{SourceTypeData, SharedSourceType, MutableSourceType, NamedSourceType, TupleSourceType, ArgumentsData, Arguments, MaybeArgumentsData, NoArguments, SomeArguments, SourceTypesData, NoSourceTypes, MoreSourceTypes}

abbrev mutual
  pub type_spelling : SourceTypeData → List Lexeme
  type_spelling (SharedSourceType span target) = sign_at span Ampersand ∷ type_spelling target
  type_spelling (MutableSourceType span target) = sign_at span Ampersand ∷ word (codes "mut") None ∷ type_spelling target
  type_spelling (NamedSourceType path arguments) = path_spelling path ++ maybe_arguments_spelling None arguments
  type_spelling (TupleSourceType span items last) =
      sign_at span LeftParenthesis ∷ comma_list (type_spellings items) last ++ sign RightParenthesis ∷ []

  -- a `<` after a path is glued to it where it could be a comparison; elsewhere it may be glued or not
  pub arguments_spelling : Option Bool → ArgumentsData → List Lexeme
  arguments_spelling glued (Arguments items last) =
      lexeme (Punctuation Less) None glued ∷ comma_list (type_spellings items) last ++ sign Greater ∷ []

  pub maybe_arguments_spelling : Option Bool → MaybeArgumentsData → List Lexeme
  maybe_arguments_spelling glued NoArguments = []
  maybe_arguments_spelling glued (SomeArguments arguments) = arguments_spelling glued arguments

  pub type_spellings : SourceTypesData → List (List Lexeme)
  type_spellings NoSourceTypes = []
  type_spellings (MoreSourceTypes one more) = type_spelling one ∷ type_spellings more

-- a type after a comma
abbrev pub type_after_comma : SourceTypeData → List Lexeme
type_after_comma one = sign Comma ∷ type_spelling one
