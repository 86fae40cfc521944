use Rattle.tableau.specs.PoolBranches.{branch_in}
use Rattle.step_checks.proofs.OpenLemmas.{none_is_triggered, rows_not_met}
use Rattle.step_checks.proofs.values.are_open_values.Goals as goal

pub returns-then-not-branch : goal.returns-then-not-branch
returns-then-not-branch c = λ class names. rows_not_met (branch_in c.args.pool.now c.args.branch.now) class c.args.rows.now c.args.values.now c.in_ok-meets_rows.field-0 c.if-not-branch.true c.in_ok-meets_rows.ensures

pub next_bound-requires-clause-positive : goal.next_bound-requires-clause-positive
next_bound-requires-clause-positive c = (c.in_ok-meets_rows.ensures.0 c.if-not-branch.false).positive

pub returns : goal.returns
returns c = λ class names. none_is_triggered c.args.pool.now (branch_in c.args.pool.now c.args.branch.now) class c.args.rows.now c.args.values.now c.in_ok-bound.bound c.is_none.result (c.in_ok-meets_rows.ensures.0 c.if-not-branch.false) (c.in_ok-bound.ensures class names) c.is_none.ensures
