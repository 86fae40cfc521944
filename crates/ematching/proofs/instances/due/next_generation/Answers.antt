use Rattle.tableau.specs.PoolBranches.{branch_in}
use Rattle.ematching.specs.Numbers.{term_at}
use Rattle.ematching.proofs.StepLemmas.{shallow_term, deep_term, no_term, next_is, too_late}
use Rattle.ematching.proofs.instances.due.next_generation.Goals as goal

pub returns-then-depth-gt-MOST_DEPTH : goal.returns-then-depth-gt-MOST_DEPTH
returns-then-depth-gt-MOST_DEPTH c = deep_term c.args.pool.now c.args.term c.depth.result c.depth.ensures c.requires.term c.if-depth-gt-MOST_DEPTH.true (branch_in c.args.pool.now c.args.branch.now) c.args.generation

pub returns-in_default : goal.returns-in_default
returns-in_default c = no_term (branch_in c.args.pool.now c.args.branch.now) c.args.generation (term_at c.args.pool.now c.args.term) c.in_default.ensures

pub returns-then-before-lt-MOST_GENERATIONS : goal.returns-then-before-lt-MOST_GENERATIONS
returns-then-before-lt-MOST_GENERATIONS c = next_is (branch_in c.args.pool.now c.args.branch.now) c.args.generation (term_at c.args.pool.now c.args.term) c.in-Some.older c.in-Some.ensures c.max-before.result c.max-before.ensures c.if-before-lt-MOST_GENERATIONS.true (shallow_term c.args.pool.now c.args.term c.depth.result c.depth.ensures c.requires.term c.if-depth-gt-MOST_DEPTH.false)

pub returns : goal.returns
returns c = too_late (branch_in c.args.pool.now c.args.branch.now) c.args.generation (term_at c.args.pool.now c.args.term) c.in-Some.older c.in-Some.ensures c.max-before.result c.max-before.ensures c.if-before-lt-MOST_GENERATIONS.false
