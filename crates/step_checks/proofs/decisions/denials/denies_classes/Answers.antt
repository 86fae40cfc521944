use Rattle.tableau.specs.PoolBranches.{branch_in}
use Rattle.tableau.proofs.BranchLemmas.{known_term}
use Rattle.step_checks.proofs.DenyLemmas.{denies_none, denies_so}
use Rattle.step_checks.proofs.decisions.denials.denies_classes.Goals as goal

pub returns-in_default : goal.returns-in_default
returns-in_default c = denies_none c.args.pool.now (branch_in c.args.pool.now c.args.branch.now) c.args.classes.now c.args.i c.args.one c.args.other c.in_default.ensures

pub class-first-requires : goal.class-first-requires
class-first-requires c = known_term c.args.pool.now c.one_number.ensures c.args.branch.now c.requires.over c.args.classes.now c.requires.classes c.in-Some.left c.in-Some.ensures.left

pub class-second-requires : goal.class-second-requires
class-second-requires c = known_term c.args.pool.now c.one_number.ensures c.args.branch.now c.requires.over c.args.classes.now c.requires.classes c.in-Some.right c.in-Some.ensures.right

pub returns : goal.returns
returns c =
    denies_so c.args.pool.now (branch_in c.args.pool.now c.args.branch.now) c.args.classes.now c.args.i c.args.one c.args.other c.one_number.ensures (c.in-Some.left, c.in-Some.right) c.in-Some.ensures c.class-first.result c.class-second.result c.class-first.ensures c.class-second.ensures c.are_they.result c.are_they.ensures
