use Rattle.std.proofs.Common.{ap, ◌∙◌}
use Rattle.term_pool.proofs.GrowthLemmas.{extends_itself}
use Rattle.axiom_instances.specs.declared.reading.TermForm.TheVariants.{Unary, Ternary}
use Rattle.axiom_instances.specs.Numbers.{type_at}
use Rattle.axiom_instances.proofs.ListLemmas.{adds_nothing}
use Rattle.axiom_instances.proofs.QuietLemmas.{is_made, quiet_made, not_empty, not_pushed_beside, not_made}
use Rattle.axiom_instances.proofs.pairs.ask_vector.Goals as goal

pub returns-in_default-constant : goal.returns-in_default-constant
returns-in_default-constant c =
    record { extends = extends_itself _; adds = adds_nothing _ _ (quiet_made c.args.pool.now c.args.term (type_at c.args.pool.now c.args.items) c.term_form.result c.term_form.ensures (ap is_made c.in-Constant.is ∙ not_empty c.in-Constant.constant c.in_default-constant.not-Empty)) }

pub returns-in-Len-clause-adds : goal.returns-in-Len-clause-adds
returns-in-Len-clause-adds c =
    adds_nothing _ _ (quiet_made c.args.pool.now c.args.term (type_at c.args.pool.now c.args.items) c.term_form.result c.term_form.ensures (ap is_made (c.in-Unary.is ∙ ap (λ o. Unary o c.in-Unary.v) c.in-Len.is)))

pub returns-in_default-operator : goal.returns-in_default-operator
returns-in_default-operator c =
    record { extends = extends_itself _; adds = adds_nothing _ _ (quiet_made c.args.pool.now c.args.term (type_at c.args.pool.now c.args.items) c.term_form.result c.term_form.ensures (ap is_made c.in-Binary.is ∙ not_pushed_beside c.in-Binary.operator c.in-Binary.v c.in-Binary.x c.in_default-operator.not-Push)) }

pub returns-in-Store-clause-adds : goal.returns-in-Store-clause-adds
returns-in-Store-clause-adds c =
    adds_nothing _ _ (quiet_made c.args.pool.now c.args.term (type_at c.args.pool.now c.args.items) c.term_form.result c.term_form.ensures (ap is_made (c.in-Ternary.is ∙ ap (λ o. Ternary o c.in-Ternary.v c.in-Ternary.i c.in-Ternary.x) c.in-Store.is)))

pub returns-in_default-clause-adds : goal.returns-in_default-clause-adds
returns-in_default-clause-adds c =
    adds_nothing _ _ (quiet_made c.args.pool.now c.args.term (type_at c.args.pool.now c.args.items) c.term_form.result c.term_form.ensures (not_made c.term_form.result c.in_default.not-Constant c.in_default.not-Unary c.in_default.not-Binary c.in_default.not-Ternary))
