use Rattle.std.proofs.lemmas.Result.{IfOk-weaker}
use Rattle.unification.proofs.Growing.{grown}
use Rattle.type_solver.proofs.Forming.{said_made}
use Rattle.type_solver.proofs.forms.made_vector.Goals as goal

pub returns-clause-said : goal.returns-clause-said
returns-clause-said c = IfOk-weaker c.made.result _ _ (λ q s. said_made _ _ _ c.in_ok-of.of q c.args.wrap _ c.in_ok-of.ensures.said s) c.made.ensures.said

pub returns-clause-keeps : goal.returns-clause-keeps
returns-clause-keeps c = IfOk-weaker c.made.result _ _ (λ q k. grown c.in_ok-of.ensures.keeps k) c.made.ensures.keeps
