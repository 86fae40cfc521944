use Rattle.std.proofs.Common.{◌≡◌, ◌++◌, take}
use Rattle.std.specs.List.{flat_map}
use Rattle.sum_tree.specs.declared.clause.ClauseKind.TheVariants.{AbortsIf}
use Rattle.vc_gen.specs.Conditions.{condition_if, at_no_return}
use Rattle.vc_gen.proofs.conditions.push_aborts_if.Given as goal

abbrev pub invariant-loop-clause : goal.invariant-loop-clause
invariant-loop-clause l = l.conditions.items ≡ l.initial.conditions.items ++ flat_map (condition_if AbortsIf (at_no_return l.function l.premise)) (take l.clause-index l.clauses)
