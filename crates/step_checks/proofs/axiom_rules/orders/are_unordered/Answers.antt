use Rattle.std.proofs.Common.{◌≡◌, true, false, refl}
use Rattle.tableau.specs.PoolBranches.{branch_in}
use Rattle.tableau.specs.Terms.{term_at}
use Rattle.step_checks.proofs.OrderLemmas.{joined_so, unordered_so}
use Rattle.step_checks.proofs.axiom_rules.orders.are_unordered.Goals as goal

pub returns-then-not-are_apart-clause-exact : goal.returns-then-not-are_apart-clause-exact
returns-then-not-are_apart-clause-exact c =
    joined_so (branch_in c.args.pool.now c.args.branch.now) (term_at c.args.pool.now c.args.left) (term_at c.args.pool.now c.args.right) (λ none. (let both : false ≡ true = c.if-not-are_apart.ensures.1 none in absurd (cc)))

pub is_instance_said-requires-clause-left : goal.is_instance_said-requires-clause-left
is_instance_said-requires-clause-left c = c.requires.right.number

pub is_instance_said-requires-clause-right : goal.is_instance_said-requires-clause-right
is_instance_said-requires-clause-right c = c.requires.left.number

pub returns-clause-exact : goal.returns-clause-exact
returns-clause-exact c =
    unordered_so (branch_in c.args.pool.now c.args.branch.now) (term_at c.args.pool.now c.args.left) (term_at c.args.pool.now c.args.right) (c.if-not-are_apart.ensures.0 refl) c.in_ok-turned.turned c.in_ok-turned.ensures.exact
