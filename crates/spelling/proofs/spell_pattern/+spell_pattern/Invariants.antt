use Rattle.std.proofs.Common.{◌≡◌, ◌+◌, ◌*◌, ◌++◌, take}
use Rattle.std.specs.List.{flat_map}
use Rattle.syntax_tree.specs.PatternData.{pattern_size, field_pattern_size, patterns_size, field_patterns_size, patterns_of, field_patterns_of}
use Rattle.syntax_tree.specs.PatternSpelling.{pattern_after_comma, field_pattern_after_comma}
use Rattle.spelling.proofs.spell_pattern.+spell_pattern.Given as goal

abbrev pub decreases-spell_pattern : goal.decreases-spell_pattern
decreases-spell_pattern l = 3 * pattern_size l.pattern.now

abbrev pub decreases-spell_field_pattern : goal.decreases-spell_field_pattern
decreases-spell_field_pattern l = 3 * field_pattern_size l.field.now

abbrev pub decreases-spell_patterns : goal.decreases-spell_patterns
decreases-spell_patterns l = 3 * patterns_size (patterns_of l.patterns.now) + 1

abbrev pub decreases-spell_more_patterns : goal.decreases-spell_more_patterns
decreases-spell_more_patterns l = 3 * patterns_size (patterns_of l.patterns.now)

abbrev pub decreases-spell_field_patterns : goal.decreases-spell_field_patterns
decreases-spell_field_patterns l = 3 * field_patterns_size (field_patterns_of l.fields.now) + 1

abbrev pub decreases-spell_more_fields : goal.decreases-spell_more_fields
decreases-spell_more_fields l = 3 * field_patterns_size (field_patterns_of l.fields.now)

abbrev pub invariant-spell_more_patterns-loop-one : goal.invariant-spell_more_patterns-loop-one
invariant-spell_more_patterns-loop-one l = l.into ≡ l.initial.into ++ flat_map pattern_after_comma (take l.one-index l.patterns)

abbrev pub invariant-spell_more_fields-loop-one : goal.invariant-spell_more_fields-loop-one
invariant-spell_more_fields-loop-one l = l.into ≡ l.initial.into ++ flat_map field_pattern_after_comma (take l.one-index l.fields)
