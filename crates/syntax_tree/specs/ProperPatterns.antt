-- Proper patterns: those of the grammar. A lone `_` is no name here, and a name that a pattern binds is that of a
-- local. Source: The Move Book, "Variables" and "Structs".
use Rattle.std.specs.Prelude.{◌≡◌, ◌≢◌, true, codes}
use Rattle.syntax_tree.specs.NameRules.{IsName, IsSmall}
use Rattle.syntax_tree.specs.ProperTypes.{IsProperPath, AreProperMaybeArguments}
use Rattle.syntax_tree.specs.PatternData.{PatternData, BindPattern, IgnorePattern, UnpackPattern, TuplePattern, FieldPatternData, ShortFieldPattern, LongFieldPattern, PatternsData, NoPatterns, MorePatterns, FieldPatternsData, NoFieldPatterns, MoreFieldPatterns}

abbrev pub AreSomePatterns : PatternsData → Type 0
AreSomePatterns NoPatterns = ⊥
AreSomePatterns (MorePatterns one more) = Unit {0}

abbrev pub AreSomeFields : FieldPatternsData → Type 0
AreSomeFields NoFieldPatterns = ⊥
AreSomeFields (MoreFieldPatterns one more) = Unit {0}

abbrev mutual
  pub IsProperPattern : PatternData → Type 0
  IsProperPattern (BindPattern name) = IsName name.text × IsSmall name.text × (name.text ≢ codes "_")
  IsProperPattern (IgnorePattern span) = Unit {0}
  IsProperPattern (UnpackPattern path arguments fields last) =
      IsProperPath path × AreProperMaybeArguments arguments × AreProperFieldPatterns fields × (last ≡ true → AreSomeFields fields)
  IsProperPattern (TuplePattern span items last) = AreProperPatterns items × AreSomePatterns items

  pub IsProperFieldPattern : FieldPatternData → Type 0
  IsProperFieldPattern (ShortFieldPattern name) = IsName name.text × IsSmall name.text
  IsProperFieldPattern (LongFieldPattern name pattern) = IsName name.text × IsProperPattern pattern

  pub AreProperPatterns : PatternsData → Type 0
  AreProperPatterns NoPatterns = Unit {0}
  AreProperPatterns (MorePatterns one more) = IsProperPattern one × AreProperPatterns more

  pub AreProperFieldPatterns : FieldPatternsData → Type 0
  AreProperFieldPatterns NoFieldPatterns = Unit {0}
  AreProperFieldPatterns (MoreFieldPatterns one more) = IsProperFieldPattern one × AreProperFieldPatterns more
