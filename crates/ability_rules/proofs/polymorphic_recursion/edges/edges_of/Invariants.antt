use Rattle.std.proofs.Common.{◌≡◌, ◌<◌, ℕ, Some}
use Rattle.std.specs.Prelude.{slice_get}
use Rattle.ability_rules.specs.declared.polymorphic_recursion.known.VariableTypes.{VariableTypes}
use Rattle.ability_rules.specs.Edges.{at_function, pieces}
use Rattle.ability_rules.specs.Rows.{PartsAreBelow}
use Rattle.ability_rules.proofs.polymorphic_recursion.edges.edges_of.Given as goal

abbrev pub invariant-loop-number : goal.invariant-loop-number
invariant-loop-number l =
    (l.edges.items ≡ pieces (at_function l.all.program.now l.all.rows.now l.all.known.now) l.number)
    × ((k : ℕ) (p : VariableTypes) → k < l.number → slice_get l.all.known.now k ≡ Some p → PartsAreBelow p.pool.now)
