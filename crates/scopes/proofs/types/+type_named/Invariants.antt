use Rattle.std.proofs.Common.{◌≡◌, Some, take}
use Rattle.syntax_tree.specs.TypeTreeData.{source_type_size, maybe_arguments_size, maybe_arguments_of, source_types_size, source_types_of}
use Rattle.scopes.specs.Meanings.{each}
use Rattle.scopes.specs.TypeMeanings.{type_meaning}
use Rattle.scopes.proofs.types.+type_named.Given as goal

abbrev pub decreases-type_named : goal.decreases-type_named
decreases-type_named l = source_type_size l.source.now

abbrev pub decreases-type_arguments : goal.decreases-type_arguments
decreases-type_arguments l = maybe_arguments_size (maybe_arguments_of l.arguments.now)

abbrev pub decreases-types_named : goal.decreases-types_named
decreases-types_named l = source_types_size (source_types_of l.sources.now)

abbrev pub invariant-types_named-loop-source : goal.invariant-types_named-loop-source
invariant-types_named-loop-source l = each (type_meaning (record { environment = l.context.environment.now; parameters = l.context.parameters.now; is_spec = l.context.is_spec })) (take l.source-index l.sources) ≡ Some l.items.items
