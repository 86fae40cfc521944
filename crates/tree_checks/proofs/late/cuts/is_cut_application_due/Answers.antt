use Rattle.tableau.specs.PoolBranches.{branch_in}
use Rattle.tableau.specs.Terms.{term_at}
use Rattle.tree_checks.proofs.FamilyLemmas.{refuted}
use Rattle.tree_checks.proofs.ApplicationLemmas.{not_late, early_cut, other_generation, cut_tells}
use Rattle.tree_checks.proofs.late.cuts.is_cut_application_due.Goals as goal

pub returns-then-not-late-clause-exact : goal.returns-then-not-late-clause-exact
returns-then-not-late-clause-exact c = λ shapes tells. early_cut shapes (branch_in c.args.pool.now c.args.branch.now) (term_at c.args.pool.now c.args.left) (term_at c.args.pool.now c.args.right) c.args.generation (not_late c.if-not-late.true tells)

pub returns-then-not-late-clause-shown : goal.returns-then-not-late-clause-shown
returns-then-not-late-clause-shown c = λ shapes tells t. absurd (cc)

pub returns-then-not-fits-clause-exact : goal.returns-then-not-fits-clause-exact
returns-then-not-fits-clause-exact c = λ shapes tells. other_generation shapes (branch_in c.args.pool.now c.args.branch.now) (term_at c.args.pool.now c.args.left) (term_at c.args.pool.now c.args.right) c.args.generation (refuted c.is_generation_of-fits.result c.if-not-fits.true c.is_generation_of-fits.ensures)

pub returns-then-not-fits-clause-shown : goal.returns-then-not-fits-clause-shown
returns-then-not-fits-clause-shown c = λ shapes tells t. absurd (cc)

pub returns-clause-exact : goal.returns-clause-exact
returns-clause-exact c = λ shapes tells. cut_tells shapes (branch_in c.args.pool.now c.args.branch.now) (term_at c.args.pool.now c.args.left) (term_at c.args.pool.now c.args.right) c.args.generation (tells.0 c.if-not-late.false) (c.is_generation_of-fits.ensures.0 c.if-not-fits.false) c.in_ok-due.due c.in_ok-due.ensures.exact

pub returns-clause-shown : goal.returns-clause-shown
returns-clause-shown c = λ shapes tells. (cut_tells shapes (branch_in c.args.pool.now c.args.branch.now) (term_at c.args.pool.now c.args.left) (term_at c.args.pool.now c.args.right) c.args.generation (tells c.if-not-late.false) (c.is_generation_of-fits.ensures.0 c.if-not-fits.false) c.in_ok-due.due c.in_ok-due.ensures.exact).0
