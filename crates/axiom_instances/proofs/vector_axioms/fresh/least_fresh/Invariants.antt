use Rattle.std.proofs.Common.{◌-◌, ◌<◌}
use Rattle.axiom_instances.specs.Numbers.{term_at}
use Rattle.axiom_instances.proofs.FreshLemmas.{AreFree}
use Rattle.axiom_instances.proofs.vector_axioms.fresh.least_fresh.Given as goal

abbrev pub invariant-loop-found : goal.invariant-loop-found
invariant-loop-found l = record {
  free : AreFree (term_at l.pool l.left) (term_at l.pool l.right) l.variable;
  small : l.variable < 4294967296;
}

abbrev pub decreases-loop-found : goal.decreases-loop-found
decreases-loop-found l = 4294967296 - l.variable
