use Rattle.std.proofs.Common.{◌≡◌, ◌++◌}
use Rattle.typing_rules.specs.Settings.{first_argument}
use Rattle.typing_rules.specs.CodeSystems.{function_setting}
use Rattle.ability_rules.specs.Edges.{at_node, pieces}
use Rattle.ability_rules.proofs.polymorphic_recursion.edges.push_nodes.Given as goal

abbrev pub invariant-loop-number : goal.invariant-loop-number
invariant-loop-number l =
    (l.into.items ≡ l.initial.into.items ++ pieces (at_node l.all.program.now l.all.rows.now l.row l.function l.known) l.number)
    × (l.first ≡ first_argument (function_setting l.all.program.now l.function) l.number)
