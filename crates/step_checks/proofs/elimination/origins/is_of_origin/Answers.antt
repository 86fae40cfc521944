use Rattle.std.proofs.Common.{sym, subst, IfOk}
use Rattle.std.specs.Bool.{Decides}
use Rattle.step_checks.specs.Given.{IsOfOrigin}
use Rattle.step_checks.specs.declared.elimination.Origin.{Origin}
use Rattle.step_checks.proofs.elimination.origins.is_of_origin.Goals as goal

pub returns-in-Given : goal.returns-in-Given
returns-in-Given c = subst (λ (o : Origin). IfOk c.is_given_row.result (λ b. Decides b (IsOfOrigin c.args.width c.args.rows.now c.args.unknowns.now c.args.before.now o c.args.made.now.row))) (sym c.in-Given.is) c.is_given_row.ensures

pub returns-in-Sum : goal.returns-in-Sum
returns-in-Sum c = subst (λ (o : Origin). IfOk c.is_sum_of_two.result (λ b. Decides b (IsOfOrigin c.args.width c.args.rows.now c.args.unknowns.now c.args.before.now o c.args.made.now.row))) (sym c.in-Sum.is) c.is_sum_of_two.ensures
