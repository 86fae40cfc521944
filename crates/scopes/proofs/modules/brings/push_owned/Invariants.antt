use Rattle.std.proofs.Common.{◌≡◌, ◌++◌, map}
use Rattle.std.specs.Vec.Iter.{into_iter_items}
use Rattle.scopes.proofs.modules.brings.push_owned.Given as goal

abbrev pub invariant-loop-name : goal.invariant-loop-name
invariant-loop-name l = l.initial.into.entries.items ++ map (λ name. (name, l.owner)) l.fn.names.items ≡ l.into.entries.items ++ map (λ name. (name, l.owner)) (into_iter_items l.name-iterator)
