use Rattle.driver.proofs.Findings.{shown_by, whole_with}
use Rattle.driver.proofs.verify.finding_of.Goals as goal

pub values_with-requires-clause-whole : goal.values_with-requires-clause-whole
values_with-requires-clause-whole g c =
    whole_with c.args.formula.now c.args.parameters.now c.args.steps.now c.answer_for.new.steps c.in_ok-answer.answer c.in_ok-answer.ensures c.requires.typed

pub returns : goal.returns
returns g c =
    shown_by c.args.formula.now c.args.parameters.now c.args.steps.now c.answer_for.new.steps c.in_ok-answer.answer c.in_ok-answer.ensures c.have_one_number.ensures c.in_ok-values.values.items c.in_ok-values.ensures
