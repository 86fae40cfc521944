-- Each part of a pattern is smaller than the whole.
use Rattle.std.specs.Prelude.{◌+◌, ◌≤◌, max, List, [], ◌∷◌, Option, Some, None}
use Rattle.std.proofs.Common.{arith}
use denote.Param.Weighed.{most}
use Rattle.syntax_tree.specs.declared.lexeme.Identifier.{Identifier}
use Rattle.syntax_tree.specs.PatternData.{PatternData, FieldPatternData, pattern_size, field_pattern_size, patterns_size, field_patterns_size, patterns_of, field_patterns_of}
use Rattle.syntax_tree.specs.PatternView.{pattern_of_node, field_pattern_of}
use Rattle.syntax_tree.specs.declared.pattern.PatternNode.{PatternNode}
use Rattle.syntax_tree.specs.declared.pattern.PatternNode.TheVariants.{Bind, Ignore, Unpack, Tuple}
use Rattle.syntax_tree.specs.declared.pattern.FieldPattern.TheDeep.{deep-PatternNode, deep-FieldPattern}

-- no pattern is larger than all of them together
pub patterns_fall : (ps : List PatternData) → max (most (λ p. pattern_size p + 1) ps) 0 ≤ patterns_size (patterns_of ps)
patterns_fall [] = omega arith
patterns_fall (p ∷ ps) = omega (arith, patterns_fall ps)

pub field_patterns_fall : (ps : List FieldPatternData) → max (most (λ p. field_pattern_size p + 1) ps) 0 ≤ field_patterns_size (field_patterns_of ps)
field_patterns_fall [] = omega arith
field_patterns_fall (p ∷ ps) = omega (arith, field_patterns_fall ps)

pub pattern_falls : (n : PatternNode) → max (deep-PatternNode n) 0 ≤ pattern_size (pattern_of_node n)
pattern_falls (Bind name) = omega arith
pattern_falls (Ignore span) = omega arith
pattern_falls (Unpack path arguments fields last) = omega (arith, field_patterns_fall fields.items)
pattern_falls (Tuple span items last) = omega (arith, patterns_fall items.items)

pub field_pattern_falls : (name : Identifier) (pattern : Option PatternData) → deep-FieldPattern (record { name = name; pattern = pattern }) ≤ field_pattern_size (field_pattern_of name pattern)
field_pattern_falls name None = omega arith
field_pattern_falls name (Some pattern) = omega arith
