use Rattle.std.proofs.Common.{◌≡◌, ◌*◌, ◌+◌, drop}
use Rattle.syntax_tree.specs.PatternData.{pattern_size, patterns_size, field_pattern_size, field_patterns_size, patterns_of, field_patterns_of}
use Rattle.body_names.specs.CodeSetting.{setting}
use Rattle.body_names.proofs.CodeRemainsLaws.{RemainsOf, before_of}
use Rattle.body_names.proofs.PatternListings.{pattern_listing, field_pattern_listing}
use Rattle.body_names.proofs.code.patterns.+resolve_pattern.Given as goal

abbrev pub decreases-resolve_pattern : goal.decreases-resolve_pattern
decreases-resolve_pattern l = 4 * pattern_size l.pattern.now

abbrev pub decreases-resolve_unpack : goal.decreases-resolve_unpack
decreases-resolve_unpack l = 4 * field_patterns_size (field_patterns_of l.fields.now) + 1

abbrev pub decreases-resolve_tuple : goal.decreases-resolve_tuple
decreases-resolve_tuple l = 4 * patterns_size (patterns_of l.items.now) + 1

abbrev pub decreases-resolve_patterns : goal.decreases-resolve_patterns
decreases-resolve_patterns l = 4 * patterns_size (patterns_of l.patterns.now)

abbrev pub decreases-resolve_fields : goal.decreases-resolve_fields
decreases-resolve_fields l = 4 * field_patterns_size (field_patterns_of l.fields.now)

abbrev pub decreases-resolve_field : goal.decreases-resolve_field
decreases-resolve_field l = 4 * field_pattern_size l.field.now

abbrev pub invariant-resolve_patterns-loop-one : goal.invariant-resolve_patterns-loop-one
invariant-resolve_patterns-loop-one l = record {
  remains : RemainsOf (pattern_listing (setting l.context)) (before_of l.initial.into.scope l.initial.into) (before_of l.into.scope l.into) l.patterns (drop l.one-index l.patterns) l.initial.into l.into l.parts;
  scope : l.into.scope ≡ l.initial.into.scope;
}

abbrev pub invariant-resolve_fields-loop-one : goal.invariant-resolve_fields-loop-one
invariant-resolve_fields-loop-one l = record {
  remains : RemainsOf (field_pattern_listing (setting l.context)) (before_of l.initial.into.scope l.initial.into) (before_of l.into.scope l.into) l.fields (drop l.one-index l.fields) l.initial.into l.into l.parts;
  scope : l.into.scope ≡ l.initial.into.scope;
}
