use Rattle.tableau.specs.PoolBranches.{branch_in}
use Rattle.tableau.proofs.TermLemmas.{AreTermsBelow}
use Rattle.tableau.proofs.aliasing.terms.terms.Given as goal

abbrev pub invariant-loop-number : goal.invariant-loop-number
invariant-loop-number l =
    AreTermsBelow l.pool (branch_in l.pool l.branch) l.number l.terms.items
