-- Lists of patterns.
use Rattle.std.proofs.Common.{ℕ, ◌≡◌, ◌≤◌, List, [], ◌∷◌, length, map, take, Option, None, Some, refl, sym, ap, ◌∙◌}
use Rattle.std.proofs.lemmas.List.{take_all}
use Rattle.syntax_tree.specs.declared.lexeme.Identifier.{Identifier}
use Rattle.syntax_tree.specs.PatternView.{field_pattern_of}
use Rattle.base.specs.declared.span.Span.{Span}
use Rattle.syntax_tree.specs.PatternData.{PatternData, FieldPatternData, PatternsData, NoPatterns, MorePatterns, patterns_of, field_patterns_of}
use Rattle.scopes.specs.TypeMeanings.{TypeScope}
use Rattle.body_names.specs.PatternTrees.{patterns_names, pattern_trees, patterns_spans, patterns_own, field_of_pattern, fields_of_patterns, field_pattern_names, field_pattern_trees, field_patterns_spans}
use Rattle.body_names.proofs.CodeAddedLaws.{own}
use Rattle.body_names.proofs.CodeRemainsLaws.{Listing}

abbrev pub pattern_listing : TypeScope → Listing PatternData
pattern_listing w = record {
  trees = λ a ps. pattern_trees w a.names (patterns_of ps);
  spans = λ ps. patterns_spans (patterns_of ps);
  names = λ ps. patterns_names (patterns_of ps);
  loops = λ a ps. [];
}

abbrev pub field_pattern_listing : TypeScope → Listing FieldPatternData
field_pattern_listing w = record {
  trees = λ a ps. field_pattern_trees w a.names (field_patterns_of ps);
  spans = λ ps. field_patterns_spans (field_patterns_of ps);
  names = λ ps. field_pattern_names (field_patterns_of ps);
  loops = λ a ps. [];
}

-- items in parentheses have a span exactly if they have a node
pub patterns_own-is : (w : TypeScope) (n : ℕ) (span : Span) (ps : PatternsData) → patterns_own span ps ≡ own span (pattern_trees w n ps)
patterns_own-is w n span NoPatterns = refl
patterns_own-is w n span (MorePatterns p NoPatterns) = refl
patterns_own-is w n span (MorePatterns p (MorePatterns q qs)) = refl

-- ---- the fields of patterns

pub field_of-is : (name : Identifier) (pattern : Option PatternData) → field_of_pattern (field_pattern_of name pattern) ≡ name.text
field_of-is name None = refl
field_of-is name (Some pattern) = refl

fields_of-map : (ps : List FieldPatternData) → fields_of_patterns (field_patterns_of ps) ≡ map field_of_pattern ps
fields_of-map [] = refl
fields_of-map (p ∷ ps) = ap (λ xs. field_of_pattern p ∷ xs) (fields_of-map ps)

pub fields_taken : (ps : List FieldPatternData) (i : ℕ) → length ps ≤ i → map field_of_pattern (take i ps) ≡ fields_of_patterns (field_patterns_of ps)
fields_taken ps i h = ap (map field_of_pattern) (take_all i ps h) ∙ sym (fields_of-map ps)
