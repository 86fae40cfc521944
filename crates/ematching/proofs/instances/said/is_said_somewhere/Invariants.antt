use Rattle.tableau.specs.PoolBranches.{branch_in}
use Rattle.ematching.specs.Numbers.{term_at}
use Rattle.ematching.specs.Bodies.{universal_at}
use Rattle.ematching.proofs.SaidLemmas.{NoneSaid}
use Rattle.ematching.proofs.instances.said.is_said_somewhere.Given as goal

abbrev pub invariant-loop-i : goal.invariant-loop-i
invariant-loop-i l = NoneSaid (branch_in l.pool l.branch) (universal_at l.pool l.universal) (term_at l.pool l.term) l.i
