use Rattle.std.proofs.Common.{◌≡◌, true, false}
use Rattle.tableau.specs.PoolBranches.{branch_in}
use Rattle.step_checks.proofs.AddingLemmas.{among_given}
use Rattle.step_checks.proofs.closings.adding.stands_before.Goals as goal

pub returns : goal.returns
returns c =
    among_given c.args.pool.now (branch_in c.args.pool.now c.args.branch.now) c.args.added.now c.args.formula c.one_number.ensures c.requires.added c.requires.formula (λ s. (let both : false ≡ true = c.if-stands.ensures.1 s in absurd (cc))) c.is_among.result c.is_among.ensures
