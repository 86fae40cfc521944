use Rattle.std.proofs.Common.{◌≡◌, true, false, sym, ◌∙◌}
use Rattle.search.proofs.ApplicationLemmas.{full_at, spent_at, grown_at}
use Rattle.search.proofs.LengthLemmas.{some_formulas}
use Rattle.tableau.specs.PoolBranches.{branch_in}
use Rattle.search.proofs.applications.take.Goals as goal

pub grow-requires-clause-some : goal.grow-requires-clause-some
grow-requires-clause-some g c = some_formulas _ c.args.pool.now (branch_in c.args.pool.now c.args.tree.now.branch) c.args.extension c.requires.1.1.1

pub returns-then-not-fits-clause-shown : goal.returns-then-not-fits-clause-shown
returns-then-not-fits-clause-shown g c = full_at _ g.sought c.args.pool.now c.args.tree.now c.args.left.now c.requires.1.1.0 c.args.extension c.requires.1.1.1 (λ fits. (let never : false ≡ true = sym c.if-not-fits.true ∙ c.fits.ensures.1 fits in absurd (cc)))

pub returns-then-not-take_step-clause-shown : goal.returns-then-not-take_step-clause-shown
returns-then-not-take_step-clause-shown g c = (let none = c.take_step.ensures.none c.if-not-take_step.true in spent_at _ g.sought c.args.pool.now c.args.tree.now c.args.left.now c.requires.1.1.0 c.take_step.new.left none.0 none.1)

pub returns-clause-shown : goal.returns-clause-shown
returns-clause-shown g c = grown_at _ g.sought c.args.pool.now c.args.tree.now c.args.left.now c.requires.1.1.0 c.grow.new.tree c.args.extension c.take_step.new.left c.requires.1.1.1 (c.fits.ensures.0 c.if-not-fits.false) (c.take_step.ensures.taken c.if-not-take_step.false) c.in_ok-grow.ensures
