use Rattle.tableau.specs.PoolBranches.{branch_in}
use Rattle.ematching.specs.Numbers.{term_at}
use Rattle.ematching.proofs.StepLemmas.{no_term, deep_term, shallow_term}
use Rattle.step_checks.proofs.GivenLemmas.{never}
use Rattle.step_checks.proofs.InstanceLemmas.{next_given}
use Rattle.step_checks.proofs.applications.universals.is_next.Goals as goal

pub returns-then-depth-gt-MOST_DEPTH : goal.returns-then-depth-gt-MOST_DEPTH
returns-then-depth-gt-MOST_DEPTH c =
    never (λ h. (deep_term c.args.pool.now c.args.term c.depth.result c.depth.ensures c.requires.term c.if-depth-gt-MOST_DEPTH.true (branch_in c.args.pool.now c.args.branch.now) c.args.generation).none c.args.next h)

pub returns-in_default : goal.returns-in_default
returns-in_default c =
    never (λ h. (no_term (branch_in c.args.pool.now c.args.branch.now) c.args.generation (term_at c.args.pool.now c.args.term) c.in_default.ensures).none c.args.next h)

pub returns : goal.returns
returns c =
    next_given (branch_in c.args.pool.now c.args.branch.now) c.args.generation c.in-Some.older c.max-before.result (term_at c.args.pool.now c.args.term) c.in-Some.ensures c.max-before.ensures (shallow_term c.args.pool.now c.args.term c.depth.result c.depth.ensures c.requires.term c.if-depth-gt-MOST_DEPTH.false) c.args.next c.is_after.result c.is_after.ensures
