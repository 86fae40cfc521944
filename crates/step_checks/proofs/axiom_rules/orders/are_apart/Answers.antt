use Rattle.std.proofs.Common.{sym, ◌∙◌}
use Rattle.tableau.specs.PoolBranches.{branch_in}
use Rattle.tableau.specs.Terms.{term_at}
use Rattle.tableau.proofs.BranchLemmas.{known_term}
use Rattle.tableau.proofs.NearLemmas.{joined_of_class, class_of_joined}
use Rattle.step_checks.proofs.OrderLemmas.{not_apart, is_apart}
use Rattle.step_checks.proofs.axiom_rules.orders.are_apart.Goals as goal

pub class-one-requires : goal.class-one-requires
class-one-requires c = known_term c.args.pool.now c.one_number.ensures c.args.branch.now c.requires.over c.args.classes.now c.requires.classes c.args.left c.requires.left

pub class-other-requires : goal.class-other-requires
class-other-requires c = known_term c.args.pool.now c.one_number.ensures c.args.branch.now c.requires.over c.args.classes.now c.requires.classes c.args.right c.requires.right

pub returns-then-one-other : goal.returns-then-one-other
returns-then-one-other c =
    not_apart (branch_in c.args.pool.now c.args.branch.now) (term_at c.args.pool.now c.args.left) (term_at c.args.pool.now c.args.right) (joined_of_class c.args.pool.now c.one_number.ensures c.args.branch.now c.requires.over c.args.classes.now c.requires.classes c.exact.ensures c.args.left c.args.right c.requires.left c.requires.right (sym c.class-one.ensures ∙ c.if-one-other.true ∙ c.class-other.ensures))

pub returns : goal.returns
returns c =
    is_apart (branch_in c.args.pool.now c.args.branch.now) (term_at c.args.pool.now c.args.left) (term_at c.args.pool.now c.args.right) (λ joined. c.if-one-other.false (c.class-one.ensures ∙ class_of_joined c.args.pool.now c.one_number.ensures c.args.branch.now c.requires.over c.args.classes.now c.requires.classes c.exact.ensures c.args.left c.args.right c.requires.left c.requires.right joined ∙ sym c.class-other.ensures))
