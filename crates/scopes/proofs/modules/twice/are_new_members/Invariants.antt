use Rattle.std.proofs.Common.{◌≡◌, ◌++◌}
use Rattle.std.specs.Vec.Iter.{into_iter_items}
use Rattle.scopes.specs.MemberNames.{same_name_of_kind}
use Rattle.scopes.specs.Twice.{are_new}
use Rattle.scopes.proofs.modules.twice.are_new_members.Given as goal

abbrev pub invariant-loop-item : goal.invariant-loop-item
invariant-loop-item l =
    (are_new same_name_of_kind l.initial.seen.keys l.fn.items.items ≡ are_new same_name_of_kind l.seen.keys (into_iter_items l.item-iterator))
    × (l.initial.seen.keys ++ l.fn.items.items ≡ l.seen.keys ++ into_iter_items l.item-iterator)
