use Rattle.std.proofs.Common.{◌≡◌, Some, take}
use Rattle.scopes.specs.Meanings.{each}
use Rattle.resolution.specs.Includes.{index_of}
use Rattle.resolution.proofs.clauses.bindings.indices_of.Given as goal

abbrev pub invariant-loop-variable : goal.invariant-loop-variable
invariant-loop-variable l = each (index_of l.names l.roots) (take l.variable-index l.variables) ≡ Some l.indices
