use Rattle.std.proofs.Common.{◌+◌, ◌*◌}
use Rattle.base.specs.TypeData.{type_size, types_size, types_of}
use Rattle.base.proofs.same.+same_type.Given as goal

abbrev pub decreases-same_type : goal.decreases-same_type
decreases-same_type l = 2 * type_size l.left.now

abbrev pub decreases-same_types : goal.decreases-same_types
decreases-same_types l = 2 * types_size l.left.now + 1

abbrev pub decreases-same_slices : goal.decreases-same_slices
decreases-same_slices l = 2 * types_size (types_of l.left.now)
