use Rattle.std.proofs.Common.{sym}
use Rattle.tableau.specs.PoolBranches.{branch_in}
use Rattle.axiom_strategy.specs.Instances.{triggered_in}
use Rattle.axiom_strategy.proofs.DueLemmas.{wanted_yes, wanted_no, not_wanted, not_due, only_step}
use Rattle.axiom_strategy.proofs.due.step_of.Goals as goal

pub returns-then-not-is_wanted : goal.returns-then-not-is_wanted
returns-then-not-is_wanted c =
    not_wanted (branch_in c.args.pool.now c.args.branch.now) (triggered_in c.args.pool.now c.args.triggered) c.args.wanted (wanted_no c.args.wanted c.args.triggered.name (sym c.if-not-is_wanted.ensures))

pub returns-in_default : goal.returns-in_default
returns-in_default c =
    not_due (branch_in c.args.pool.now c.args.branch.now) (triggered_in c.args.pool.now c.args.triggered) c.args.wanted c.in_default.ensures

pub returns : goal.returns
returns c =
    only_step c.args.triggered c.in-Some.generation c.requires.triggered (wanted_yes c.args.wanted c.args.triggered.name (sym c.if-not-is_wanted.ensures)) c.in-Some.ensures
