use Rattle.tableau.specs.Numbers.{formula_at}
use Rattle.closing_rules.proofs.FormLemmas.{reflexive_answer, not_reflexive}
use Rattle.closing_rules.proofs.clashes.forms.is_reflexive.Goals as goal

pub returns-in-Some : goal.returns-in-Some
returns-in-Some c = reflexive_answer c.args.pool.now c.one_number.ensures c.args.formula (c.in-Some.left, c.in-Some.right) c.in-Some.ensures

pub returns-in-None : goal.returns-in-None
returns-in-None c = not_reflexive (formula_at c.args.pool.now c.args.formula) c.in-None.ensures
