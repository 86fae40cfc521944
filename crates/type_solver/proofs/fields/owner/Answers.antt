use Rattle.std.proofs.Common.{subst}
use Rattle.unification.specs.declared.type_variables.heads.KindSeen.{KindSeen}
use Rattle.type_solver.specs.Equations.{KindSaid}
use Rattle.type_solver.proofs.Fielding.{owner_open, owner_plain, owner_to}
use Rattle.type_solver.proofs.fields.owner.Goals as goal

pub returns-in-Unsettled : goal.returns-in-Unsettled
returns-in-Unsettled c old new s lt = owner_open old new c.args.variable (subst (λ (k : KindSeen). KindSaid old new c.args.variable k) c.in-Unsettled.is s)

pub returns-in-Plain : goal.returns-in-Plain
returns-in-Plain c old new s lt = owner_plain old new c.args.variable (subst (λ (k : KindSeen). KindSaid old new c.args.variable k) c.in-Plain.is s) lt

pub returns-in-To : goal.returns-in-To
returns-in-To c old new s lt = owner_to old new c.args.variable c.in-To.field-0 c.in-To.to (subst (λ (k : KindSeen). KindSaid old new c.args.variable k) c.in-To.is s) lt
