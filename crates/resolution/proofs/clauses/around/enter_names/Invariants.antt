use Rattle.std.proofs.Common.{◌≡◌, ◌++◌, take}
use Rattle.resolution.specs.Around.{numbered}
use Rattle.resolution.proofs.clauses.around.enter_names.Given as goal

abbrev pub invariant-loop-number : goal.invariant-loop-number
invariant-loop-number l = l.into ≡ l.initial.into ++ numbered l.kind 0 (take l.number l.names)
