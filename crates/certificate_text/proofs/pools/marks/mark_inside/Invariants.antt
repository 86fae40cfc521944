use Rattle.certificate_text.proofs.MarkLemmas.{IsDownTo}
use Rattle.certificate_text.proofs.pools.marks.mark_inside.Given as goal

abbrev pub invariant-loop-rest : goal.invariant-loop-rest
invariant-loop-rest l = IsDownTo l.pool l.fn.marks l.rest l.marks

abbrev pub decreases-loop-rest : goal.decreases-loop-rest
decreases-loop-rest l = l.rest
