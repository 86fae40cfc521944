use Rattle.tree_checks.proofs.ChosenLemmas.{IsWithinTo}
use Rattle.tree_checks.proofs.bounds.chosen.is_within.Given as goal

abbrev pub invariant-loop-unknown : goal.invariant-loop-unknown
invariant-loop-unknown l = IsWithinTo l.width l.unknown l.row
