-- How patterns are spelled. Source: The Move Book, "Variables" and "Structs".
--     Pat = Word | "_" | Path [ TArgs ] "{" [ Word [ ":" Pat ], .. ] "}" | "(" Pat, .. ")"
use Rattle.std.specs.Prelude.{List, [], ◌∷◌, ◌++◌, None, Some, codes}
use Rattle.tokens.specs.declared.token.Punctuation.TheVariants.{LeftParenthesis, RightParenthesis, LeftBrace, RightBrace, Colon, Comma}
use Rattle.syntax_tree.specs.declared.lexeme.Lexeme.{Lexeme}
use Rattle.syntax_tree.specs.Lexemes.{word, identifier, sign, sign_at, comma_list}
use Rattle.syntax_tree.specs.PathSpelling.{path_spelling}
use Rattle.syntax_tree.specs.TypeSpelling.{maybe_arguments_spelling}
use Rattle.syntax_tree.specs.PatternData.{PatternData, BindPattern, IgnorePattern, UnpackPattern, TuplePattern, FieldPatternData, ShortFieldPattern, LongFieldPattern, PatternsData, NoPatterns, MorePatterns, FieldPatternsData, NoFieldPatterns, MoreFieldPatterns}

abbrev mutual
  pub pattern_spelling : PatternData → List Lexeme
  pattern_spelling (BindPattern name) = identifier name ∷ []
  pattern_spelling (IgnorePattern span) = word (codes "_") (Some span) ∷ []
  pattern_spelling (UnpackPattern path arguments fields last) =
      path_spelling path ++ maybe_arguments_spelling None arguments
      ++ sign LeftBrace ∷ comma_list (field_pattern_spellings fields) last ++ sign RightBrace ∷ []
  pattern_spelling (TuplePattern span items last) =
      sign_at span LeftParenthesis ∷ comma_list (pattern_spellings items) last ++ sign RightParenthesis ∷ []

  pub field_pattern_spelling : FieldPatternData → List Lexeme
  field_pattern_spelling (ShortFieldPattern name) = identifier name ∷ []
  field_pattern_spelling (LongFieldPattern name pattern) = identifier name ∷ sign Colon ∷ pattern_spelling pattern

  pub pattern_spellings : PatternsData → List (List Lexeme)
  pattern_spellings NoPatterns = []
  pattern_spellings (MorePatterns one more) = pattern_spelling one ∷ pattern_spellings more

  pub field_pattern_spellings : FieldPatternsData → List (List Lexeme)
  field_pattern_spellings NoFieldPatterns = []
  field_pattern_spellings (MoreFieldPatterns one more) = field_pattern_spelling one ∷ field_pattern_spellings more

-- a pattern after a comma
abbrev pub pattern_after_comma : PatternData → List Lexeme
pattern_after_comma one = sign Comma ∷ pattern_spelling one

abbrev pub field_pattern_after_comma : FieldPatternData → List Lexeme
field_pattern_after_comma one = sign Comma ∷ field_pattern_spelling one
