use Rattle.std.proofs.Common.{subst}
use Rattle.unification.specs.declared.type_variables.heads.KindSeen.{KindSeen}
use Rattle.type_solver.specs.Equations.{KindSaid}
use Rattle.type_solver.proofs.Emitting.{alike_left_unsettled, alike_left_plain}
use Rattle.type_solver.proofs.constraints.alike_by.Goals as goal

pub returns-in-Unsettled : goal.returns-in-Unsettled
returns-in-Unsettled c w old new s r lp lq = alike_left_unsettled w old new c.args.left c.args.right (subst (λ (k : KindSeen). KindSaid old new c.args.left k) c.in-Unsettled.is s) lp lq

pub returns-in-Plain : goal.returns-in-Plain
returns-in-Plain c w old new s r lp lq = alike_left_plain w old new c.args.left c.args.right (subst (λ (k : KindSeen). KindSaid old new c.args.left k) c.in-Plain.is s) lp lq

pub returns-in-To : goal.returns-in-To
returns-in-To c w old new s r lp lq = c.alike_to.ensures w old new c.in-To.field-0 (subst (λ (k : KindSeen). KindSaid old new c.args.left k) c.in-To.is s) r lp lq
