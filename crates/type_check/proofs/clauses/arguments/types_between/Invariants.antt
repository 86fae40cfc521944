use Rattle.std.proofs.Common.{◌≤◌}
use Rattle.typing_rules.specs.Answers.{System}
use Rattle.body_types.specs.SpecTyped.{SpecTypingSays}
use Rattle.type_check.proofs.Placing.{TypesTo}
use Rattle.type_check.proofs.clauses.arguments.types_between.Given as goal

abbrev pub invariant-loop-variable : goal.invariant-loop-variable
invariant-loop-variable l = record {
  begins : l.first ≤ l.variable;
  types : (s : System) → SpecTypingSays s l.pool l.typing → TypesTo s l.first l.variable l.terms.items;
}
