use Rattle.std.proofs.Common.{◌≡◌, map, take}
use Rattle.scopes.proofs.modules.twice.typed_names.Given as goal

abbrev pub invariant-loop-name : goal.invariant-loop-name
invariant-loop-name l = l.found.items ≡ map (λ n. n.name.text) (take l.name-index l.names.items)
