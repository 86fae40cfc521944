use Rattle.std.proofs.Common.{◌≡◌, ◌++◌, map, drop}
use Rattle.resolution.specs.Includes.{implied_binding, missing}
use Rattle.resolution.proofs.clauses.bindings.complete.Given as goal

abbrev pub invariant-loop-variable : goal.invariant-loop-variable
invariant-loop-variable l = record {
  names : l.names ++ missing l.names (drop l.variable-index l.variables) ≡ l.initial.names ++ missing l.initial.names l.variables;
  implied : l.implied.items ++ map (implied_binding l.span) (missing l.names (drop l.variable-index l.variables)) ≡ map (implied_binding l.span) (missing l.initial.names l.variables);
}
