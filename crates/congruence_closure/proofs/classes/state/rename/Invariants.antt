use Rattle.congruence_closure.proofs.StateLemmas.{IsRenaming}
use Rattle.congruence_closure.proofs.classes.state.rename.Given as goal

abbrev pub invariant-loop-number : goal.invariant-loop-number
invariant-loop-number l = record { renaming : IsRenaming l.fn.classes l.classes l.numbers l.number-index l.from l.to }
