use Rattle.std.proofs.Common.{◌≡◌, ◌+◌, ◌*◌, ◌++◌, take}
use Rattle.std.specs.List.{flat_map}
use Rattle.syntax_tree.specs.TypeTreeData.{source_type_size, arguments_size, maybe_arguments_size, source_types_size, source_types_of, maybe_arguments_of}
use Rattle.syntax_tree.specs.TypeSpelling.{type_after_comma}
use Rattle.spelling.proofs.spell_type.+spell_type.Given as goal

abbrev pub decreases-spell_type : goal.decreases-spell_type
decreases-spell_type l = 3 * source_type_size l.source_type.now

abbrev pub decreases-spell_maybe_arguments : goal.decreases-spell_maybe_arguments
decreases-spell_maybe_arguments l = 3 * maybe_arguments_size (maybe_arguments_of l.arguments.now)

abbrev pub decreases-spell_arguments : goal.decreases-spell_arguments
decreases-spell_arguments l = 3 * arguments_size l.arguments.now

abbrev pub decreases-spell_types : goal.decreases-spell_types
decreases-spell_types l = 3 * source_types_size (source_types_of l.types.now) + 1

abbrev pub decreases-spell_more_types : goal.decreases-spell_more_types
decreases-spell_more_types l = 3 * source_types_size (source_types_of l.types.now)

abbrev pub invariant-spell_more_types-loop-one : goal.invariant-spell_more_types-loop-one
invariant-spell_more_types-loop-one l = l.into ≡ l.initial.into ++ flat_map type_after_comma (take l.one-index l.types)
