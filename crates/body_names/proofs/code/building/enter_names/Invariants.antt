use Rattle.std.proofs.Common.{◌≡◌, ◌+◌, ◌++◌, drop}
use Rattle.body_names.specs.CodeNames.{numbered}
use Rattle.body_names.proofs.code.building.enter_names.Given as goal

abbrev pub invariant-loop-index : goal.invariant-loop-index
invariant-loop-index l = l.scope ++ numbered (l.first + l.index) (drop l.index l.names) ≡ l.initial.scope ++ numbered l.first l.names
