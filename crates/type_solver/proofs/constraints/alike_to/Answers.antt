use Rattle.std.proofs.Common.{subst}
use Rattle.unification.specs.declared.type_variables.heads.KindSeen.{KindSeen}
use Rattle.type_solver.specs.Equations.{KindSaid}
use Rattle.type_solver.proofs.Emitting.{alike_two, alike_right_unsettled, alike_right_plain}
use Rattle.type_solver.proofs.constraints.alike_to.Goals as goal

pub returns-in-Unsettled : goal.returns-in-Unsettled
returns-in-Unsettled c w old new wrap s r lp lq = alike_right_unsettled w old new c.args.left c.args.right (subst (λ (k : KindSeen). KindSaid old new c.args.right k) c.in-Unsettled.is r) lp lq

pub returns-in-Plain : goal.returns-in-Plain
returns-in-Plain c w old new wrap s r lp lq = alike_right_plain w old new c.args.left c.args.right (subst (λ (k : KindSeen). KindSaid old new c.args.right k) c.in-Plain.is r) lp lq

pub returns-in-To : goal.returns-in-To
returns-in-To c w old new wrap s r lp lq = alike_two w old new c.args.left c.args.right wrap c.in-To.field-0 c.args.to c.in-To.other s (subst (λ (k : KindSeen). KindSaid old new c.args.right k) c.in-To.is r) lp lq
