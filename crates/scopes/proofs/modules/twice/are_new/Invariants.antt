use Rattle.std.proofs.Common.{◌≡◌, ◌++◌}
use Rattle.std.specs.Vec.Iter.{into_iter_items}
use Rattle.base.specs.Names.{same_name}
use Rattle.scopes.specs.Twice.{are_new}
use Rattle.scopes.proofs.modules.twice.are_new.Given as goal

abbrev pub invariant-loop-item : goal.invariant-loop-item
invariant-loop-item l =
    (are_new same_name l.initial.seen.keys l.fn.items.items ≡ are_new same_name l.seen.keys (into_iter_items l.item-iterator))
    × (l.initial.seen.keys ++ l.fn.items.items ≡ l.seen.keys ++ into_iter_items l.item-iterator)
