use Rattle.std.proofs.Common.{ap}
use Rattle.term_pool.specs.Items.{formulas_in}
use Rattle.term_pool.proofs.ItemLemmas.{item_past}
use Rattle.closing_rules.proofs.FormLemmas.{empty_answer}
use Rattle.closing_rules.proofs.FalseLemmas.{holds}
use Rattle.closing_rules.proofs.clashes.forms.is_empty.Goals as goal

pub returns-in-Some : goal.returns-in-Some
returns-in-Some c = empty_answer c.args.pool.now c.args.list c.in-Some.node c.in-Some.ensures c.is_no_first.result c.is_no_first.ensures

pub returns-in-None : goal.returns-in-None
returns-in-None c = holds (ap formulas_in (item_past c.args.pool.now c.args.list c.in-None.ensures))
