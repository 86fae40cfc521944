use Rattle.std.proofs.Common.{subst}
use Rattle.std.proofs.lemmas.Result.{IfOk-weaker}
use Rattle.unification.specs.declared.type_variables.heads.KindSeen.{KindSeen}
use Rattle.type_solver.specs.Equations.{KindSaid}
use Rattle.type_solver.proofs.Returning.{part_unsettled, part_plain}
use Rattle.type_solver.proofs.returned.lent_as.Goals as goal

pub returns-in-Unsettled-clause-said : goal.returns-in-Unsettled-clause-said
returns-in-Unsettled-clause-said c before seen e i wanted at said shared = part_unsettled before seen c.args.slots.now.items e i c.args.variable wanted at
    (subst (λ (k : KindSeen). KindSaid seen c.args.slots.now.items c.args.variable k) c.in-Unsettled.is said)

pub returns-in-Plain-clause-said : goal.returns-in-Plain-clause-said
returns-in-Plain-clause-said c before seen e i wanted at said shared = part_plain before seen c.args.slots.now.items e i c.args.variable wanted
    (subst (λ (k : KindSeen). KindSaid seen c.args.slots.now.items c.args.variable k) c.in-Plain.is said)

pub returns-in-To-clause-said : goal.returns-in-To-clause-said
returns-in-To-clause-said c = IfOk-weaker c.lent_to.result _ _ (λ term h before seen e i wanted at said shared.
    h before seen e i wanted at (subst (λ (k : KindSeen). KindSaid seen c.args.slots.now.items c.args.variable k) c.in-To.is said) shared) c.lent_to.ensures.said
