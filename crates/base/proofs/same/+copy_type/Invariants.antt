use Rattle.std.proofs.Common.{◌+◌, ◌*◌}
use Rattle.base.specs.TypeData.{type_size, types_size, types_of}
use Rattle.base.proofs.same.+copy_type.Given as goal

abbrev pub decreases-copy_type : goal.decreases-copy_type
decreases-copy_type l = 3 * type_size l.from.now

abbrev pub decreases-copy_boxed : goal.decreases-copy_boxed
decreases-copy_boxed l = 3 * type_size l.from.now + 1

abbrev pub decreases-copy_types : goal.decreases-copy_types
decreases-copy_types l = 3 * types_size l.from.now + 1

abbrev pub decreases-copy_onto : goal.decreases-copy_onto
decreases-copy_onto l = 3 * types_size (types_of l.from.now)
