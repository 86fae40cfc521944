use Rattle.std.proofs.Common.{refl}
use Rattle.tableau.specs.Numbers.{formula_at}
use Rattle.closing_rules.proofs.FalseLemmas.{holds, denied_no_part, denied_answer}
use Rattle.closing_rules.proofs.clashes.forms.is_false_denied.Goals as goal

pub returns-then-is_no_part : goal.returns-then-is_no_part
returns-then-is_no_part c = holds (denied_no_part (formula_at c.args.pool.now c.args.formula) (c.if-is_no_part.ensures.0 refl))

pub returns : goal.returns
returns c = denied_answer (formula_at c.args.pool.now c.args.formula) c.is_reflexive.result c.if-is_no_part.ensures c.is_reflexive.ensures
