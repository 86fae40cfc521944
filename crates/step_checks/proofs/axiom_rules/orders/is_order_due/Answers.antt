use Rattle.std.proofs.Common.{◌≡◌, true, false, refl}
use Rattle.tableau.specs.PoolBranches.{branch_in}
use Rattle.tableau.specs.Numbers.{formula_at}
use Rattle.tableau.proofs.NumberLemmas.{vec_ok}
use Rattle.tableau.proofs.StandLemmas.{shallow_at, too_deep_at}
use Rattle.step_checks.proofs.DecisionsNumberLemmas.{two_stand}
use Rattle.step_checks.proofs.OrderLemmas.{not_new, too_deep, no_sides, other_generation, order_due}
use Rattle.step_checks.proofs.axiom_rules.orders.is_order_due.Goals as goal

pub returns-then-stands-clause-exact : goal.returns-then-stands-clause-exact
returns-then-stands-clause-exact c = not_new (branch_in c.args.pool.now c.args.branch.now) (formula_at c.args.pool.now c.args.formula) c.args.generation (c.if-stands.ensures.0 refl)

pub depth-requires : goal.depth-requires
depth-requires c = c.requires.formula.within

pub returns-then-depth-gt-MOST_DEPTH-clause-exact : goal.returns-then-depth-gt-MOST_DEPTH-clause-exact
returns-then-depth-gt-MOST_DEPTH-clause-exact c =
    too_deep (branch_in c.args.pool.now c.args.branch.now) (formula_at c.args.pool.now c.args.formula) c.args.generation (too_deep_at c.args.pool.now c.args.formula c.depth.result c.requires.formula c.depth.ensures c.if-depth-gt-MOST_DEPTH.true)

pub returns-in_default-clause-exact : goal.returns-in_default-clause-exact
returns-in_default-clause-exact c = no_sides (branch_in c.args.pool.now c.args.branch.now) (formula_at c.args.pool.now c.args.formula) c.args.generation c.in_default.ensures

pub is_generation_of-requires-clause-left : goal.is_generation_of-requires-clause-left
is_generation_of-requires-clause-left c = c.in-Some.ensures.left

pub is_generation_of-requires-clause-right : goal.is_generation_of-requires-clause-right
is_generation_of-requires-clause-right c = c.in-Some.ensures.right

pub returns-then-not-is_generation_of-clause-exact : goal.returns-then-not-is_generation_of-clause-exact
returns-then-not-is_generation_of-clause-exact c =
    other_generation c.args.pool.now (branch_in c.args.pool.now c.args.branch.now) (formula_at c.args.pool.now c.args.formula) c.args.generation (c.in-Some.left, c.in-Some.right) c.in-Some.ensures (λ g. (let both : false ≡ true = c.if-not-is_generation_of.ensures.1 g in absurd (cc)))

pub is_order_of-requires-clause-left : goal.is_order_of-requires-clause-left
is_order_of-requires-clause-left c = record { number = c.in-Some.ensures.left; stands = (two_stand (c.if-not-is_generation_of.ensures.0 refl)).0 }

pub is_order_of-requires-clause-right : goal.is_order_of-requires-clause-right
is_order_of-requires-clause-right c = record { number = c.in-Some.ensures.right; stands = (two_stand (c.if-not-is_generation_of.ensures.0 refl)).1 }

pub returns-clause-exact : goal.returns-clause-exact
returns-clause-exact c =
    vec_ok c.is_order_of.result (λ known h. order_due c.args.pool.now (branch_in c.args.pool.now c.args.branch.now) (formula_at c.args.pool.now c.args.formula) c.args.generation (c.in-Some.left, c.in-Some.right) c.in-Some.ensures (c.if-not-is_generation_of.ensures.0 refl) (record { new = λ s. (let both : false ≡ true = c.if-stands.ensures.1 s in absurd (cc)) }) (shallow_at c.args.pool.now c.args.formula c.depth.result c.requires.formula c.depth.ensures c.if-depth-gt-MOST_DEPTH.false) known h) c.is_order_of.ensures.exact
