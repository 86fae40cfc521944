use Rattle.axiom_instances.proofs.ListLemmas.{adds_nothing}
use Rattle.axiom_instances.proofs.FormLemmas.{quiet_constant}
use Rattle.axiom_instances.proofs.terms.ask_constant.Goals as goal

pub returns-in_default-clause-adds : goal.returns-in_default-clause-adds
returns-in_default-clause-adds c =
    adds_nothing _ _ (quiet_constant c.args.constant c.in_default.not-Num c.in_default.not-Max c.in_default.not-Empty)
