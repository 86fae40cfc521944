use Rattle.std.proofs.Common.{arith}
use Rattle.closing_rules.proofs.FormLemmas.{no_part_answer, no_conjunction}
use Rattle.closing_rules.proofs.clashes.forms.is_no_part.Goals as goal

pub returns-in_default : goal.returns-in_default
returns-in_default c = absurd (let w = c.in_default.ensures in let v = c.requires.within in omega (arith, w, v))

pub returns-in-Some-all_part : goal.returns-in-Some-all_part
returns-in-Some-all_part c = no_part_answer c.args.pool.now c.args.formula c.in-Some-all_part.list c.in-Some.node c.in-Some.ensures c.in-Some-all_part.ensures c.is_empty.result c.is_empty.ensures

pub returns-in-None : goal.returns-in-None
returns-in-None c = no_conjunction c.args.pool.now c.args.formula c.in-Some.node c.in-Some.ensures c.requires c.in-None.ensures
