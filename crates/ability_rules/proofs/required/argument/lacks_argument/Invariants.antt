use Rattle.std.proofs.Common.{◌≡◌, ◌+◌, ◌<◌, ℕ, true}
use Rattle.ability_rules.specs.Bodies.{is_argument, judged_variable}
use Rattle.ability_rules.proofs.required.argument.lacks_argument.Given as goal

abbrev pub invariant-loop-variable : goal.invariant-loop-variable
invariant-loop-variable l =
    (i : ℕ) → l.first + i < l.variable → is_argument (judged_variable l.judged.table.now l.judged.variables.now (l.first + i)) l.parameters i ≡ true
