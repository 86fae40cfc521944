use Rattle.std.proofs.Common.{subst}
use Rattle.std.proofs.lemmas.Result.{IfOk-weaker}
use Rattle.unification.specs.declared.type_variables.slots.Wrap.{Wrap}
use Rattle.unification.specs.declared.type_variables.heads.KindSeen.TheVariants.{To}
use Rattle.type_solver.specs.Equations.{KindSaid}
use Rattle.type_solver.proofs.Emitting.{given_shared, given_vector}
use Rattle.type_solver.proofs.constraints.given_to.Goals as goal

pub returns-in-Mutable-clause-says : goal.returns-in-Mutable-clause-says
returns-in-Mutable-clause-says c = IfOk-weaker c.lent.result _ _ (λ q h old s lt. h old c.args.variable (subst (λ (k : Wrap). KindSaid old c.args.slots.now.items c.args.variable (To k c.args.to)) c.in-Mutable.is s) lt) c.lent.ensures.says

pub returns-in-Vector-clause-says : goal.returns-in-Vector-clause-says
returns-in-Vector-clause-says c old s lt = given_vector old c.args.slots.now.items c.args.variable c.args.to c.args.wanted (subst (λ (k : Wrap). KindSaid old c.args.slots.now.items c.args.variable (To k c.args.to)) c.in-Vector.is s) c.requires.variable c.requires.wanted

pub returns-in-Shared-clause-says : goal.returns-in-Shared-clause-says
returns-in-Shared-clause-says c old s lt = given_shared old c.args.slots.now.items c.args.variable c.args.to c.args.wanted (subst (λ (k : Wrap). KindSaid old c.args.slots.now.items c.args.variable (To k c.args.to)) c.in-Shared.is s) c.requires.variable c.requires.wanted
