use Rattle.base.proofs.OnCycleLemmas.{AreFound}
use Rattle.base.proofs.cycles.on_cycle.all_on_cycle.Given as goal

abbrev pub invariant-loop-i : goal.invariant-loop-i
invariant-loop-i l = AreFound l.graph l.found.items l.i
