-- One level of a type, with its children as pure data.
use Rattle.syntax_tree.specs.TypeTreeData.{SourceTypeData, SharedSourceType, MutableSourceType, NamedSourceType, TupleSourceType, source_types_of, maybe_arguments_of}
use Rattle.syntax_tree.specs.declared.types.SourceTypeNode.{SourceTypeNode}
use Rattle.syntax_tree.specs.declared.types.SourceTypeNode.TheVariants.{Shared, Mutable, Named, Tuple}

abbrev pub source_type_of_node : SourceTypeNode → SourceTypeData
source_type_of_node (Shared span target) = SharedSourceType span target.value
source_type_of_node (Mutable span target) = MutableSourceType span target.value
source_type_of_node (Named path arguments) = NamedSourceType path (maybe_arguments_of arguments)
source_type_of_node (Tuple span items last_comma) = TupleSourceType span (source_types_of items.items) last_comma
