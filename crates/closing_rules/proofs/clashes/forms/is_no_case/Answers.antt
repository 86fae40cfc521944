use Rattle.std.proofs.Common.{arith}
use Rattle.closing_rules.proofs.FormLemmas.{no_case_answer, no_disjunction}
use Rattle.closing_rules.proofs.clashes.forms.is_no_case.Goals as goal

pub returns-in_default : goal.returns-in_default
returns-in_default c = absurd (let w = c.in_default.ensures in let v = c.requires.within in omega (arith, w, v))

pub returns-in-Some-any_part : goal.returns-in-Some-any_part
returns-in-Some-any_part c = no_case_answer c.args.pool.now c.args.formula c.in-Some-any_part.list c.in-Some.node c.in-Some.ensures c.in-Some-any_part.ensures c.is_empty.result c.is_empty.ensures

pub returns-in-None : goal.returns-in-None
returns-in-None c = no_disjunction c.args.pool.now c.args.formula c.in-Some.node c.in-Some.ensures c.requires c.in-None.ensures
