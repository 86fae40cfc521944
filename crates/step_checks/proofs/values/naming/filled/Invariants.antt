use Rattle.step_checks.proofs.NamingLemmas.{AreFilled}
use Rattle.step_checks.proofs.values.naming.filled.Given as goal

abbrev pub invariant-loop-number : goal.invariant-loop-number
invariant-loop-number l = AreFilled l.names l.number l.made.items
