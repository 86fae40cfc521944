use Rattle.term_pool.specs.Items.{formulas_in}
use Rattle.term_pool.specs.Pools.{item_at}
use Rattle.step_checks.proofs.SideLemmas.{none_first, none_second, first_two_are}
use Rattle.step_checks.proofs.axiom_rules.sides.first_two.Goals as goal

pub returns-in_default : goal.returns-in_default
returns-in_default c = none_first (formulas_in (item_at c.args.pool.now c.args.list)) c.in_default.ensures

pub returns-in_default-first_formula : goal.returns-in_default-first_formula
returns-in_default-first_formula c = none_second c.args.pool.now c.args.list (c.in-Some.first, c.in-Some.rest) c.in-Some.ensures c.in_default-first_formula.ensures

pub returns : goal.returns
returns c = first_two_are c.args.pool.now c.args.list (c.in-Some.first, c.in-Some.rest) c.in-Some.ensures c.in-Some-first_formula.next c.in-Some-first_formula.ensures
