use Rattle.std.proofs.Common.{sym, ◌∙◌}
use Rattle.axiom_instances.specs.Numbers.{term_at}
use Rattle.axiom_instances.proofs.ListLemmas.{adds_nothing}
use Rattle.axiom_instances.proofs.FormLemmas.{no_divisor}
use Rattle.axiom_instances.proofs.terms.ask_quotient.Goals as goal

pub returns-in-IsOther-clause-adds : goal.returns-in-IsOther-clause-adds
returns-in-IsOther-clause-adds c = adds_nothing _ _ (no_divisor (term_at c.args.pool.now c.args.dividend) (term_at c.args.pool.now c.args.divisor) (sym c.divisor_at.ensures ∙ c.in-IsOther.is))
