use Rattle.tableau.specs.Numbers.{formula_at}
use Rattle.step_checks.proofs.SideLemmas.{no_join, fewer, first_untyped, second_untyped, sides_are}
use Rattle.step_checks.proofs.axiom_rules.sides.number_sides.Goals as goal

pub returns-in_default : goal.returns-in_default
returns-in_default c = no_join (formula_at c.args.pool.now c.args.formula) c.in_default.ensures

pub returns-in_default-first_two : goal.returns-in_default-first_two
returns-in_default-first_two c = fewer c.args.pool.now (formula_at c.args.pool.now c.args.formula) c.in-Some.list c.in-Some.ensures c.in_default-first_two.ensures

pub returns-in_default-typing_of : goal.returns-in_default-typing_of
returns-in_default-typing_of c = first_untyped c.args.pool.now (formula_at c.args.pool.now c.args.formula) c.in-Some.list c.in-Some.ensures (c.in-Some-first_two.first, c.in-Some-first_two.second) c.in-Some-first_two.ensures c.in_default-typing_of.ensures

pub returns-in_default-typing_of-2 : goal.returns-in_default-typing_of-2
returns-in_default-typing_of-2 c = second_untyped c.args.pool.now (formula_at c.args.pool.now c.args.formula) c.in-Some.list c.in-Some.ensures (c.in-Some-first_two.first, c.in-Some-first_two.second) c.in-Some-first_two.ensures c.in_default-typing_of-2.ensures

pub returns : goal.returns
returns c = sides_are c.args.pool.now (formula_at c.args.pool.now c.args.formula) c.in-Some.list c.in-Some.ensures (c.in-Some-first_two.first, c.in-Some-first_two.second) c.in-Some-first_two.ensures c.in-Some-typing_of.left c.in-Some-typing_of-2.right c.in-Some-typing_of.ensures c.in-Some-typing_of-2.ensures
