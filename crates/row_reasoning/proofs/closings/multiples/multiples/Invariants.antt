use Rattle.row_reasoning.proofs.CitedLemmas.{AreCitedSoFar}
use Rattle.row_reasoning.proofs.closings.multiples.multiples.Given as goal

abbrev pub invariant-loop-i : goal.invariant-loop-i
invariant-loop-i l = AreCitedSoFar l.origins l.multipliers l.positions l.i l.cited.items
