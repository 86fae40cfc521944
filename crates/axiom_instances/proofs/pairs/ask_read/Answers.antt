use Rattle.std.proofs.Common.{ap, ◌∙◌}
use Rattle.term_pool.proofs.GrowthLemmas.{extends_itself}
use Rattle.axiom_instances.specs.declared.reading.TermForm.TheVariants.{Unary}
use Rattle.axiom_instances.specs.Numbers.{term_at}
use Rattle.axiom_instances.proofs.ListLemmas.{adds_nothing}
use Rattle.axiom_instances.proofs.QuietLemmas.{is_read, quiet_read, not_pushed, not_read}
use Rattle.axiom_instances.proofs.pairs.ask_read.Goals as goal

pub returns-in-Len-clause-adds : goal.returns-in-Len-clause-adds
returns-in-Len-clause-adds c =
    adds_nothing _ _ (quiet_read c.args.pool.now c.args.term (term_at c.args.pool.now c.args.key) c.term_form.result c.term_form.ensures (ap is_read (c.in-Unary.is ∙ ap (λ o. Unary o c.in-Unary.v) c.in-Len.is)))

pub returns-in_default-operator : goal.returns-in_default-operator
returns-in_default-operator c =
    record { extends = extends_itself _; adds = adds_nothing _ _ (quiet_read c.args.pool.now c.args.term (term_at c.args.pool.now c.args.key) c.term_form.result c.term_form.ensures (ap is_read c.in-Binary.is ∙ not_pushed c.in-Binary.operator c.in-Binary.v c.in-Binary.x c.in_default-operator.not-Push)) }

pub returns-in_default : goal.returns-in_default
returns-in_default c =
    record { extends = extends_itself _; adds = adds_nothing _ _ (quiet_read c.args.pool.now c.args.term (term_at c.args.pool.now c.args.key) c.term_form.result c.term_form.ensures (not_read c.term_form.result c.in_default.not-Unary c.in_default.not-Binary c.in_default.not-Ternary)) }
