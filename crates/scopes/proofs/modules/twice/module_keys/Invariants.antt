use Rattle.std.proofs.Common.{◌≡◌, ◌++◌, map}
use Rattle.std.specs.Vec.Iter.{into_iter_items}
use Rattle.scopes.specs.Twice.{name_of}
use Rattle.scopes.proofs.modules.twice.module_keys.Given as goal

abbrev pub invariant-loop-name : goal.invariant-loop-name
invariant-loop-name l = l.keys.items ++ map name_of (into_iter_items l.name-iterator) ≡ map name_of l.fn.names.entries.items
