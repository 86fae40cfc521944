-- Each item of a list is smaller than the list.
use Rattle.std.proofs.Common.{ℕ, zero, suc, ◌<◌, List, [], ◌∷◌, length, get_or, arith}
use Rattle.syntax_tree.specs.TypeTreeData.{SourceTypeData, source_type_size, source_types_size, source_types_of}
use Rattle.syntax_tree.specs.PatternData.{PatternData, pattern_size, patterns_size, patterns_of, FieldPatternData, field_pattern_size, field_patterns_size, field_patterns_of}

pub source_type_smaller : (xs : List SourceTypeData) (i : ℕ) (d : SourceTypeData) → i < length xs → source_type_size (get_or xs i d) < source_types_size (source_types_of xs)
source_type_smaller [] i d h = absurd (omega arith)
source_type_smaller (x ∷ xs) zero d h = omega arith
source_type_smaller (x ∷ xs) (suc i) d h = omega (arith, source_type_smaller xs i d (omega arith))

pub pattern_smaller : (xs : List PatternData) (i : ℕ) (d : PatternData) → i < length xs → pattern_size (get_or xs i d) < patterns_size (patterns_of xs)
pattern_smaller [] i d h = absurd (omega arith)
pattern_smaller (x ∷ xs) zero d h = omega arith
pattern_smaller (x ∷ xs) (suc i) d h = omega (arith, pattern_smaller xs i d (omega arith))

pub field_pattern_smaller : (xs : List FieldPatternData) (i : ℕ) (d : FieldPatternData) → i < length xs → field_pattern_size (get_or xs i d) < field_patterns_size (field_patterns_of xs)
field_pattern_smaller [] i d h = absurd (omega arith)
field_pattern_smaller (x ∷ xs) zero d h = omega arith
field_pattern_smaller (x ∷ xs) (suc i) d h = omega (arith, field_pattern_smaller xs i d (omega arith))
