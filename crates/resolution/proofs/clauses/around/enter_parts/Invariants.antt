use Rattle.std.proofs.Common.{◌≡◌, ◌++◌}
use Rattle.resolution.specs.Around.{parts_of_result}
use Rattle.resolution.proofs.clauses.around.enter_parts.Given as goal

abbrev pub invariant-loop-number : goal.invariant-loop-number
invariant-loop-number l = l.into ≡ l.initial.into ++ parts_of_result l.number
