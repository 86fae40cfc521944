use Rattle.std.proofs.Common.{◌≡◌, ◌+◌, ◌++◌}
use Rattle.std.specs.Prelude.{slice_get}
use Rattle.ability_rules.specs.Edges.{argument_edge, of_option, parameter_node, pieces}
use Rattle.ability_rules.proofs.polymorphic_recursion.edges.push_arguments.Given as goal

abbrev pub invariant-loop-number : goal.invariant-loop-number
invariant-loop-number l =
    l.into.items ≡ l.initial.into.items ++ pieces (λ i. of_option (argument_edge l.row (parameter_node l.to i)) (slice_get l.given.types.now (l.first + i))) l.number
