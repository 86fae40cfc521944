use Rattle.std.proofs.Common.{◌+◌, ◌*◌}
use Rattle.base.specs.TypeData.{type_size, types_size, types_of}
use Rattle.axioms.proofs.fields.+put.Given as goal

abbrev pub decreases-is_put : goal.decreases-is_put
decreases-is_put l = 2 * type_size l.from.now

abbrev pub decreases-are_put : goal.decreases-are_put
decreases-are_put l = 2 * types_size l.from.now + 1

abbrev pub decreases-are_all_put : goal.decreases-are_all_put
decreases-are_all_put l = 2 * types_size (types_of l.from.now)
