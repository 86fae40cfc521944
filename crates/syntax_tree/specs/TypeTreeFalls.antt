-- Each part of a type is smaller than the whole.
use Rattle.std.specs.Prelude.{◌+◌, ◌≤◌, Bool, max, List, [], ◌∷◌, Some, None}
use Rattle.std.proofs.Common.{arith}
use denote.Param.Weighed.{most}
use Rattle.syntax_tree.specs.TypeTreeData.{SourceTypeData, Arguments, source_type_size, arguments_size, source_types_size, source_types_of}
use Rattle.syntax_tree.specs.TypeTreeView.{source_type_of_node}
use Rattle.syntax_tree.specs.declared.types.SourceTypeNode.{SourceTypeNode}
use Rattle.syntax_tree.specs.declared.types.SourceTypeNode.TheVariants.{Shared, Mutable, Named, Tuple}
use Rattle.syntax_tree.specs.declared.types.SourceType.TheDeep.{deep-SourceTypeNode}

-- no type is larger than all of them together
pub source_types_fall : (ts : List SourceTypeData) → max (most (λ t. source_type_size t + 1) ts) 0 ≤ source_types_size (source_types_of ts)
source_types_fall [] = omega arith
source_types_fall (t ∷ ts) = omega (arith, source_types_fall ts)

pub arguments_fall : (ts : List SourceTypeData) (last : Bool) → max (most (λ t. source_type_size t + 1) ts) 0 ≤ arguments_size (Arguments (source_types_of ts) last)
arguments_fall ts last = omega (arith, source_types_fall ts)

pub source_type_falls : (n : SourceTypeNode) → max (deep-SourceTypeNode n) 0 ≤ source_type_size (source_type_of_node n)
source_type_falls (Shared span target) = omega arith
source_type_falls (Mutable span target) = omega arith
source_type_falls (Named path None) = omega arith
source_type_falls (Named path (Some arguments)) = omega arith
source_type_falls (Tuple span items last_comma) = omega (arith, source_types_fall items.items)
