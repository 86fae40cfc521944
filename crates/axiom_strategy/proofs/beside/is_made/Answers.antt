use Rattle.std.proofs.Common.{◌∙◌}
use Rattle.axiom_strategy.proofs.BesideLemmas.{made_is}
use Rattle.axiom_strategy.proofs.beside.is_made.Goals as goal

pub returns : goal.returns
returns c = c.is_made_form.ensures ∙ made_is c.args.pool.now c.args.term c.term_form.result c.term_form.ensures
