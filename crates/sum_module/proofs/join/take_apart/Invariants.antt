use Rattle.std.proofs.Common.{◌≡◌, ◌++◌}
use Rattle.std.specs.Vec.Iter.{into_iter_items}
use Rattle.sum_module.specs.Joined.{functions_in, specs_in}
use Rattle.sum_module.proofs.join.take_apart.Given as goal

abbrev pub invariant-loop-member : goal.invariant-loop-member
invariant-loop-member l =
    (functions_in l.fn.members.items ≡ l.functions.items ++ functions_in (into_iter_items l.member-iterator))
    × (specs_in l.fn.members.items ≡ l.specs.items ++ specs_in (into_iter_items l.member-iterator))
