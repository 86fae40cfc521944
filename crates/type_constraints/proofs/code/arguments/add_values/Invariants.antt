use Rattle.std.proofs.Common.{◌≡◌, ◌++◌}
use Rattle.typing_rules.specs.CodeConstraints.{each_of, variables_from}
use Rattle.typing_rules.specs.declared.sort.Sort.TheVariants.{Value}
use Rattle.type_constraints.specs.Seen.{seen_all}
use Rattle.type_constraints.proofs.code.arguments.add_values.Given as goal

abbrev pub invariant-loop-left : goal.invariant-loop-left
invariant-loop-left l =
    seen_all l.constraints.items ++ each_of Value (variables_from l.at l.left) ≡ seen_all l.fn.constraints.items ++ each_of Value (variables_from l.first l.count)

abbrev pub decreases-loop-left : goal.decreases-loop-left
decreases-loop-left l = l.left
