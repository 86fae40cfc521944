-- Patterns with their names resolved.
-- Source: The Move Book, "Local Variables and Scope" and "Structs", on destructuring.
use Rattle.std.specs.Prelude.{ℕ, ◌+◌, List, [], ◌∷◌, ◌++◌, length}
use Rattle.std.specs.Option.{option_map}
use Rattle.base.specs.declared.span.Span.{Span}
use Rattle.syntax_tree.specs.PatternData.{PatternData, BindPattern, IgnorePattern, UnpackPattern, TuplePattern, FieldPatternData, ShortFieldPattern, LongFieldPattern, PatternsData, NoPatterns, MorePatterns, FieldPatternsData, NoFieldPatterns, MoreFieldPatterns}
use Rattle.program.specs.Trees.{LeafTree, ManyTree, NoTrees, MoreTrees}
use Rattle.program.specs.declared.code.CodeLeaf.TheVariants.{Bind, Ignore}
use Rattle.program.specs.declared.code.CodeMany.{CodeMany}
use Rattle.program.specs.declared.code.CodeMany.TheVariants.{Unpack, TuplePattern as tuple_pattern}
use Rattle.scopes.specs.TypeMeanings.{TypeScope}
use Rattle.body_names.specs.CodeForms.{CodeTree, CodeTrees, many_tree}
use Rattle.body_names.specs.SharedWords.{fields_meaning}
use Rattle.body_names.specs.FirstSpans.{path_span}

-- the tree of items in parentheses: one item in parentheses is that item
abbrev pub parenthesized : CodeMany → CodeTrees → CodeTree
parenthesized m NoTrees = ManyTree m NoTrees
parenthesized m (MoreTrees t NoTrees) = t
parenthesized m (MoreTrees t (MoreTrees u us)) = ManyTree m (MoreTrees t (MoreTrees u us))

-- the names that a pattern binds, in source order
abbrev mutual
  pub pattern_names : PatternData → List (List ℕ)
  pattern_names (BindPattern name) = name.text ∷ []
  pattern_names (IgnorePattern span) = []
  pattern_names (UnpackPattern path types fields last) = field_pattern_names fields
  pattern_names (TuplePattern span items last) = patterns_names items

  pub patterns_names : PatternsData → List (List ℕ)
  patterns_names NoPatterns = []
  patterns_names (MorePatterns p ps) = pattern_names p ++ patterns_names ps

  -- a field without a pattern is bound to a local of its name
  pub field_pattern_name : FieldPatternData → List (List ℕ)
  field_pattern_name (ShortFieldPattern name) = name.text ∷ []
  field_pattern_name (LongFieldPattern name pattern) = pattern_names pattern

  pub field_pattern_names : FieldPatternsData → List (List ℕ)
  field_pattern_names NoFieldPatterns = []
  field_pattern_names (MoreFieldPatterns p ps) = field_pattern_name p ++ field_pattern_names ps

abbrev pub field_of_pattern : FieldPatternData → List ℕ
field_of_pattern (ShortFieldPattern name) = name.text
field_of_pattern (LongFieldPattern name pattern) = name.text

-- the fields in a struct pattern
abbrev pub fields_of_patterns : FieldPatternsData → List (List ℕ)
fields_of_patterns NoFieldPatterns = []
fields_of_patterns (MoreFieldPatterns p ps) = field_of_pattern p ∷ fields_of_patterns ps

-- A pattern's tree, if n names are bound before it in source order: the number of a local is the number of names bound
-- before it.
abbrev mutual
  pub pattern_tree : TypeScope → ℕ → PatternData → CodeTree
  pattern_tree w n (BindPattern name) = LeafTree (Bind n)
  pattern_tree w n (IgnorePattern span) = LeafTree Ignore
  pattern_tree w n (UnpackPattern path types fields last) =
      many_tree (option_map Unpack (fields_meaning w path types (fields_of_patterns fields))) (field_pattern_trees w n fields)
  pattern_tree w n (TuplePattern span items last) = parenthesized tuple_pattern (pattern_trees w n items)

  pub pattern_trees : TypeScope → ℕ → PatternsData → CodeTrees
  pattern_trees w n NoPatterns = NoTrees
  pattern_trees w n (MorePatterns p ps) = MoreTrees (pattern_tree w n p) (pattern_trees w (n + length (pattern_names p)) ps)

  pub field_pattern_tree : TypeScope → ℕ → FieldPatternData → CodeTree
  field_pattern_tree w n (ShortFieldPattern name) = LeafTree (Bind n)
  field_pattern_tree w n (LongFieldPattern name pattern) = pattern_tree w n pattern

  pub field_pattern_trees : TypeScope → ℕ → FieldPatternsData → CodeTrees
  field_pattern_trees w n NoFieldPatterns = NoTrees
  field_pattern_trees w n (MoreFieldPatterns p ps) =
      MoreTrees (field_pattern_tree w n p) (field_pattern_trees w (n + length (field_pattern_name p)) ps)

-- items in parentheses have a span of their own, unless there is just one
abbrev pub patterns_own : Span → PatternsData → List Span
patterns_own span NoPatterns = span ∷ []
patterns_own span (MorePatterns p NoPatterns) = []
patterns_own span (MorePatterns p (MorePatterns q qs)) = span ∷ []

-- the spans of a pattern's nodes: of the first token of each
abbrev mutual
  pub pattern_spans : PatternData → List Span
  pattern_spans (BindPattern name) = name.span ∷ []
  pattern_spans (IgnorePattern span) = span ∷ []
  pattern_spans (UnpackPattern path types fields last) = field_patterns_spans fields ++ path_span path ∷ []
  pattern_spans (TuplePattern span items last) = patterns_spans items ++ patterns_own span items

  pub patterns_spans : PatternsData → List Span
  patterns_spans NoPatterns = []
  patterns_spans (MorePatterns p ps) = pattern_spans p ++ patterns_spans ps

  pub field_pattern_spans : FieldPatternData → List Span
  field_pattern_spans (ShortFieldPattern name) = name.span ∷ []
  field_pattern_spans (LongFieldPattern name pattern) = pattern_spans pattern

  pub field_patterns_spans : FieldPatternsData → List Span
  field_patterns_spans NoFieldPatterns = []
  field_patterns_spans (MoreFieldPatterns p ps) = field_pattern_spans p ++ field_patterns_spans ps
