use Rattle.std.proofs.Common.{sym, ◌∙◌}
use Rattle.axiom_instances.specs.Numbers.{term_at}
use Rattle.axiom_instances.proofs.ListLemmas.{adds_nothing}
use Rattle.axiom_instances.proofs.FormLemmas.{left_numeral, right_numeral}
use Rattle.axiom_instances.proofs.terms.ask_product.Goals as goal

pub returns-then-is_numeral-clause-adds : goal.returns-then-is_numeral-clause-adds
returns-then-is_numeral-clause-adds c =
    adds_nothing _ _ (left_numeral _ _ (term_at c.args.pool.now c.args.left) (term_at c.args.pool.now c.args.right) (sym c.is_numeral.ensures ∙ c.if-is_numeral.true))

pub returns-then-is_numeral-2-clause-adds : goal.returns-then-is_numeral-2-clause-adds
returns-then-is_numeral-2-clause-adds c =
    adds_nothing _ _ (right_numeral _ _ (term_at c.args.pool.now c.args.left) (term_at c.args.pool.now c.args.right) (sym c.is_numeral.ensures ∙ c.if-is_numeral.false) (sym c.is_numeral-else-is_numeral.ensures ∙ c.if-is_numeral-2.true))
