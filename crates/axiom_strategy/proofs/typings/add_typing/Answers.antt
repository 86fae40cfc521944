use Rattle.tableau.specs.PoolBranches.{branch_in}
use Rattle.axiom_strategy.proofs.TypingLemmas.{typings_push, typings_skip}
use Rattle.axiom_strategy.proofs.typings.add_typing.Goals as goal

pub returns-in_ok-push-in-Some : goal.returns-in_ok-push-in-Some
returns-in_ok-push-in-Some c =
    typings_push c.args.pool.now (branch_in c.args.pool.now c.args.branch.now) c.args.i c.args.typings.now.items _ c.in-Some.typing c.in_ok-push-in-Some.ensures.items c.requires.before c.in-Some.ensures

pub returns-in-None : goal.returns-in-None
returns-in-None c =
    typings_skip c.args.pool.now (branch_in c.args.pool.now c.args.branch.now) c.args.i c.args.typings.now.items c.requires.before c.in-None.ensures
