use Rattle.std.proofs.Common.{subst}
use Rattle.std.proofs.lemmas.Result.{IfOk-weaker}
use Rattle.unification.specs.declared.type_variables.heads.KindSeen.{KindSeen}
use Rattle.type_solver.specs.Equations.{KindSaid}
use Rattle.type_solver.proofs.Emitting.{given_unsettled, given_plain}
use Rattle.type_solver.proofs.constraints.given.Goals as goal

pub returns-in-To-clause-says : goal.returns-in-To-clause-says
returns-in-To-clause-says c = IfOk-weaker c.given_to.result _ _ (λ q h old s lt. h old (subst (λ (k : KindSeen). KindSaid old c.args.slots.now.items c.args.variable k) c.in-To.is s) lt) c.given_to.ensures.says

pub returns-in-Unsettled-clause-says : goal.returns-in-Unsettled-clause-says
returns-in-Unsettled-clause-says c old s lt = given_unsettled old c.args.slots.now.items c.args.variable c.args.wanted (subst (λ (k : KindSeen). KindSaid old c.args.slots.now.items c.args.variable k) c.in-Unsettled.is s) c.requires.variable c.requires.wanted

pub returns-in-Plain-clause-says : goal.returns-in-Plain-clause-says
returns-in-Plain-clause-says c old s lt = given_plain old c.args.slots.now.items c.args.variable c.args.wanted (subst (λ (k : KindSeen). KindSaid old c.args.slots.now.items c.args.variable k) c.in-Plain.is s) c.requires.variable c.requires.wanted
