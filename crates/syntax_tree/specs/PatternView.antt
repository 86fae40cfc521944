-- One level of a pattern, with its children as pure data.
use Rattle.std.specs.Prelude.{Option, Some, None}
use Rattle.syntax_tree.specs.declared.lexeme.Identifier.{Identifier}
use Rattle.syntax_tree.specs.TypeTreeData.{maybe_arguments_of}
use Rattle.syntax_tree.specs.PatternData.{PatternData, BindPattern, IgnorePattern, UnpackPattern, TuplePattern, FieldPatternData, ShortFieldPattern, LongFieldPattern, patterns_of, field_patterns_of}
use Rattle.syntax_tree.specs.declared.pattern.PatternNode.{PatternNode}
use Rattle.syntax_tree.specs.declared.pattern.PatternNode.TheVariants.{Bind, Ignore, Unpack, Tuple}

abbrev pub field_pattern_of : Identifier → Option PatternData → FieldPatternData
field_pattern_of name None = ShortFieldPattern name
field_pattern_of name (Some pattern) = LongFieldPattern name pattern

abbrev pub pattern_of_node : PatternNode → PatternData
pattern_of_node (Bind name) = BindPattern name
pattern_of_node (Ignore span) = IgnorePattern span
pattern_of_node (Unpack path arguments fields last) = UnpackPattern path (maybe_arguments_of arguments) (field_patterns_of fields.items) last
pattern_of_node (Tuple span items last) = TuplePattern span (patterns_of items.items) last
