use Rattle.std.proofs.Common.{◌≡◌, ◌++◌, take}
use Rattle.std.specs.List.{flat_map}
use Rattle.sum_tree.specs.declared.clause.ClauseKind.TheVariants.{Ensures}
use Rattle.vc_gen.specs.Conditions.{condition_if, at_each_return}
use Rattle.vc_gen.proofs.conditions.push_ensures.Given as goal

abbrev pub invariant-loop-clause : goal.invariant-loop-clause
invariant-loop-clause l = l.conditions.items ≡ l.initial.conditions.items ++ flat_map (condition_if Ensures (at_each_return l.function l.premise l.returned)) (take l.clause-index l.clauses)
