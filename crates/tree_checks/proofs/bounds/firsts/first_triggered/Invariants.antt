use Rattle.tree_checks.specs.Firsts.{IsTriggered}
use Rattle.tree_checks.proofs.FirstLemmas.{HasNoneBefore}
use Rattle.tree_checks.proofs.bounds.firsts.first_triggered.Given as goal

abbrev pub invariant-loop-position : goal.invariant-loop-position
invariant-loop-position l = HasNoneBefore (IsTriggered l.classes.keys l.name l.number) l.values l.position
