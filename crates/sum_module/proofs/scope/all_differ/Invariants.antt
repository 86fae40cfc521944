use Rattle.std.proofs.Common.{◌≡◌, length}
use Rattle.sum_module.specs.Scope.{all_differ}
use Rattle.sum_module.proofs.scope.all_differ.Given as goal

abbrev pub invariant-loop-name : goal.invariant-loop-name
invariant-loop-name l = all_differ l.names ≡ all_differ l.others

abbrev pub decreases-loop-name : goal.decreases-loop-name
decreases-loop-name l = length l.others
