-- The codes by which the logic stores patterns: each as a tree of numbers, and back.
use base.Stored.{Gv, gnil, gnum, gcons}
use denote.Struct.Codes.{itself}
use Rattle.std.specs.Prelude.{◌≡◌, [], ◌∷◌, refl}
use Rattle.std.specs.Coded.{Coded, code_by}
use Rattle.base.specs.Codes.{pick}
use Rattle.syntax_tree.specs.LeafCodes.{bool_back, bool_back-code, bool_code, identifier_back, identifier_back-code, identifier_code, path_back, path_back-code, path_code, span_back, span_back-code, span_code}
use Rattle.syntax_tree.specs.TypeTreeCodes.{maybe_arguments_back, maybe_arguments_back-code, maybe_arguments_code}
use Rattle.syntax_tree.specs.PatternData.{PatternData, BindPattern, IgnorePattern, UnpackPattern, TuplePattern, FieldPatternData, ShortFieldPattern, LongFieldPattern, PatternsData, NoPatterns, MorePatterns, FieldPatternsData, NoFieldPatterns, MoreFieldPatterns}

abbrev mutual
  pub pattern_code : PatternData → Gv
  pattern_code (BindPattern a) = gcons (gnum 0) (gcons (identifier_code a) (gcons gnil (gcons gnil gnil)))
  pattern_code (IgnorePattern a) = gcons (gnum 1) (gcons (span_code a) (gcons gnil (gcons gnil gnil)))
  pattern_code (UnpackPattern a b c d) = gcons (gnum 2) (gcons (path_code a) (gcons (maybe_arguments_code b) (gcons (field_patterns_code c) (bool_code d))))
  pattern_code (TuplePattern a b c) = gcons (gnum 3) (gcons (span_code a) (gcons (patterns_code b) (gcons (bool_code c) gnil)))

  pub field_pattern_code : FieldPatternData → Gv
  field_pattern_code (ShortFieldPattern a) = gcons (gnum 0) (gcons (identifier_code a) gnil)
  field_pattern_code (LongFieldPattern a b) = gcons (gnum 1) (gcons (identifier_code a) (pattern_code b))

  pub patterns_code : PatternsData → Gv
  patterns_code NoPatterns = gnil
  patterns_code (MorePatterns a b) = gcons (pattern_code a) (patterns_code b)

  pub field_patterns_code : FieldPatternsData → Gv
  field_patterns_code NoFieldPatterns = gnil
  field_patterns_code (MoreFieldPatterns a b) = gcons (field_pattern_code a) (field_patterns_code b)

abbrev mutual
  pub pattern_back : Gv → PatternData
  pattern_back (gcons (gnum n) (gcons a (gcons b (gcons c d)))) =
      pick n (IgnorePattern (span_back gnil)) (BindPattern (identifier_back a) ∷ IgnorePattern (span_back a) ∷ UnpackPattern (path_back a) (maybe_arguments_back b) (field_patterns_back c) (bool_back d) ∷ TuplePattern (span_back a) (patterns_back b) (bool_back c) ∷ [])
  pattern_back _ = IgnorePattern (span_back gnil)

  pub field_pattern_back : Gv → FieldPatternData
  field_pattern_back (gcons (gnum n) (gcons a b)) =
      pick n (ShortFieldPattern (identifier_back gnil)) (ShortFieldPattern (identifier_back a) ∷ LongFieldPattern (identifier_back a) (pattern_back b) ∷ [])
  field_pattern_back _ = ShortFieldPattern (identifier_back gnil)

  pub patterns_back : Gv → PatternsData
  patterns_back gnil = NoPatterns
  patterns_back (gnum n) = NoPatterns
  patterns_back (gcons a b) = MorePatterns (pattern_back a) (patterns_back b)

  pub field_patterns_back : Gv → FieldPatternsData
  field_patterns_back gnil = NoFieldPatterns
  field_patterns_back (gnum n) = NoFieldPatterns
  field_patterns_back (gcons a b) = MoreFieldPatterns (field_pattern_back a) (field_patterns_back b)

mutual
  pub pattern_back-code : (x : PatternData) → pattern_back (pattern_code x) ≡ x
  pattern_back-code (BindPattern a) = λ i. BindPattern (identifier_back-code a i)
  pattern_back-code (IgnorePattern a) = λ i. IgnorePattern (span_back-code a i)
  pattern_back-code (UnpackPattern a b c d) = λ i. UnpackPattern (path_back-code a i) (maybe_arguments_back-code b i) (field_patterns_back-code c i) (bool_back-code d i)
  pattern_back-code (TuplePattern a b c) = λ i. TuplePattern (span_back-code a i) (patterns_back-code b i) (bool_back-code c i)

  pub field_pattern_back-code : (x : FieldPatternData) → field_pattern_back (field_pattern_code x) ≡ x
  field_pattern_back-code (ShortFieldPattern a) = λ i. ShortFieldPattern (identifier_back-code a i)
  field_pattern_back-code (LongFieldPattern a b) = λ i. LongFieldPattern (identifier_back-code a i) (pattern_back-code b i)

  pub patterns_back-code : (x : PatternsData) → patterns_back (patterns_code x) ≡ x
  patterns_back-code NoPatterns = refl
  patterns_back-code (MorePatterns a b) = λ i. MorePatterns (pattern_back-code a i) (patterns_back-code b i)

  pub field_patterns_back-code : (x : FieldPatternsData) → field_patterns_back (field_patterns_code x) ≡ x
  field_patterns_back-code NoFieldPatterns = refl
  field_patterns_back-code (MoreFieldPatterns a b) = λ i. MoreFieldPatterns (field_pattern_back-code a i) (field_patterns_back-code b i)

abbrev pub coded_pattern : Coded PatternData
coded_pattern = code_by Gv itself pattern_code pattern_back pattern_back-code

abbrev pub coded_field_pattern : Coded FieldPatternData
coded_field_pattern = code_by Gv itself field_pattern_code field_pattern_back field_pattern_back-code
