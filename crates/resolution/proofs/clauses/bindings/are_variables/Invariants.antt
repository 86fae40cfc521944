use Rattle.std.proofs.Common.{◌≡◌, drop}
use Rattle.resolution.specs.Includes.{are_variables}
use Rattle.resolution.proofs.clauses.bindings.are_variables.Given as goal

abbrev pub invariant-loop-name : goal.invariant-loop-name
invariant-loop-name l = are_variables l.variables l.names ≡ are_variables l.variables (drop l.name-index l.names)
