use Rattle.closing_rules.proofs.CitedLemmas.{AreCitedBefore}
use Rattle.closing_rules.proofs.row_closings.cited.cited_entries.Given as goal

abbrev pub invariant-loop-i : goal.invariant-loop-i
invariant-loop-i l = AreCitedBefore l.origins l.multipliers l.i l.fn.count l.cited.items
