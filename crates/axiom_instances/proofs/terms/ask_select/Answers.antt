use Rattle.std.proofs.Common.{sym, ◌∙◌}
use Rattle.axiom_instances.specs.Numbers.{term_at}
use Rattle.axiom_instances.proofs.ListLemmas.{adds_nothing}
use Rattle.axiom_instances.proofs.FormLemmas.{not_blank}
use Rattle.axiom_instances.proofs.terms.ask_select.Goals as goal

pub returns-else-is_blank-clause-adds : goal.returns-else-is_blank-clause-adds
returns-else-is_blank-clause-adds c =
    adds_nothing _ _ (not_blank (term_at c.args.pool.now c.args.memory) (term_at c.args.pool.now c.args.key) (sym c.is_blank.ensures ∙ c.if-is_blank.false))
