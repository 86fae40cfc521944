-- Patterns as pure data that contracts see. Source: The Move Book, "Variables" and "Structs", on destructuring.
use Rattle.std.specs.Prelude.{◌≡◌, ℕ, ◌+◌, Bool, List, [], ◌∷◌, refl}
use Rattle.std.proofs.Common.{ap, sym, ◌∙◌}
use Rattle.syntax_tree.specs.declared.lexeme.Identifier.{Identifier}
use Rattle.syntax_tree.specs.TypeTreeData.{MaybeArgumentsData}
use Rattle.syntax_tree.specs.declared.path.Path.{Path}
use Rattle.base.specs.declared.span.Span.{Span}

mutual
  pub data PatternData : Type 0 where
    BindPattern : Identifier → PatternData
    IgnorePattern : Span → PatternData
    UnpackPattern : Path → MaybeArgumentsData → FieldPatternsData → Bool → PatternData
    TuplePattern : Span → PatternsData → Bool → PatternData

  -- a field that is bound to a local of its name, or one with a pattern of its own
  pub data FieldPatternData : Type 0 where
    ShortFieldPattern : Identifier → FieldPatternData
    LongFieldPattern : Identifier → PatternData → FieldPatternData

  pub data PatternsData : Type 0 where
    NoPatterns : PatternsData
    MorePatterns : PatternData → PatternsData → PatternsData

  pub data FieldPatternsData : Type 0 where
    NoFieldPatterns : FieldPatternsData
    MoreFieldPatterns : FieldPatternData → FieldPatternsData → FieldPatternsData

-- the list as one of this family, and back
abbrev pub patterns_of : List PatternData → PatternsData
patterns_of [] = NoPatterns
patterns_of (x ∷ xs) = MorePatterns x (patterns_of xs)

abbrev pub list_of_patterns : PatternsData → List PatternData
list_of_patterns NoPatterns = []
list_of_patterns (MorePatterns x xs) = x ∷ list_of_patterns xs

pub list_of_patterns-patterns_of : (xs : List PatternData) → list_of_patterns (patterns_of xs) ≡ xs
list_of_patterns-patterns_of [] = refl
list_of_patterns-patterns_of (x ∷ xs) = ap (λ ys. x ∷ ys) (list_of_patterns-patterns_of xs)

pub patterns_of_injective : (xs ys : List PatternData) → patterns_of xs ≡ patterns_of ys → xs ≡ ys
patterns_of_injective xs ys e = sym (list_of_patterns-patterns_of xs) ∙ ap list_of_patterns e ∙ list_of_patterns-patterns_of ys

-- the list as one of this family, and back
abbrev pub field_patterns_of : List FieldPatternData → FieldPatternsData
field_patterns_of [] = NoFieldPatterns
field_patterns_of (x ∷ xs) = MoreFieldPatterns x (field_patterns_of xs)

abbrev pub list_of_field_patterns : FieldPatternsData → List FieldPatternData
list_of_field_patterns NoFieldPatterns = []
list_of_field_patterns (MoreFieldPatterns x xs) = x ∷ list_of_field_patterns xs

pub list_of_field_patterns-field_patterns_of : (xs : List FieldPatternData) → list_of_field_patterns (field_patterns_of xs) ≡ xs
list_of_field_patterns-field_patterns_of [] = refl
list_of_field_patterns-field_patterns_of (x ∷ xs) = ap (λ ys. x ∷ ys) (list_of_field_patterns-field_patterns_of xs)

pub field_patterns_of_injective : (xs ys : List FieldPatternData) → field_patterns_of xs ≡ field_patterns_of ys → xs ≡ ys
field_patterns_of_injective xs ys e = sym (list_of_field_patterns-field_patterns_of xs) ∙ ap list_of_field_patterns e ∙ list_of_field_patterns-field_patterns_of ys

-- the number of nodes, each cell of a list as one more
abbrev mutual
  pub pattern_size : PatternData → ℕ
  pattern_size (BindPattern a) = 1
  pattern_size (IgnorePattern a) = 1
  pattern_size (UnpackPattern a b c d) = 1 + field_patterns_size c
  pattern_size (TuplePattern a b c) = 1 + patterns_size b

  pub field_pattern_size : FieldPatternData → ℕ
  field_pattern_size (ShortFieldPattern a) = 1
  field_pattern_size (LongFieldPattern a b) = 1 + pattern_size b

  pub patterns_size : PatternsData → ℕ
  patterns_size NoPatterns = 1
  patterns_size (MorePatterns a b) = 1 + (pattern_size a + patterns_size b)

  pub field_patterns_size : FieldPatternsData → ℕ
  field_patterns_size NoFieldPatterns = 1
  field_patterns_size (MoreFieldPatterns a b) = 1 + (field_pattern_size a + field_patterns_size b)
