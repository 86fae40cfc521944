use Rattle.std.proofs.Common.{◌≡◌, ◌*◌, ◌++◌, take}
use Rattle.std.specs.List.{flat_map}
use Rattle.syntax_tree.specs.PatternData.{pattern_size, patterns_size, field_pattern_size, field_patterns_size, patterns_of, field_patterns_of}
use Rattle.syntax_tree.specs.Locals.{names_of, names_of_field}
use Rattle.syntax_tree.proofs.source.locals.+collect_names.Given as goal

abbrev pub decreases-collect_names : goal.decreases-collect_names
decreases-collect_names l = 4 * pattern_size l.pattern.now

abbrev pub decreases-collect_from_field : goal.decreases-collect_from_field
decreases-collect_from_field l = 4 * field_pattern_size l.field.now

abbrev pub decreases-collect_from_patterns : goal.decreases-collect_from_patterns
decreases-collect_from_patterns l = 4 * patterns_size (patterns_of l.patterns.now)

abbrev pub decreases-collect_from_fields : goal.decreases-collect_from_fields
decreases-collect_from_fields l = 4 * field_patterns_size (field_patterns_of l.fields.now)

abbrev pub invariant-collect_from_patterns-loop-one : goal.invariant-collect_from_patterns-loop-one
invariant-collect_from_patterns-loop-one l = l.into ≡ l.initial.into ++ flat_map names_of (take l.one-index l.patterns)

abbrev pub invariant-collect_from_fields-loop-one : goal.invariant-collect_from_fields-loop-one
invariant-collect_from_fields-loop-one l = l.into ≡ l.initial.into ++ flat_map names_of_field (take l.one-index l.fields)
