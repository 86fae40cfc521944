use Rattle.std.proofs.Common.{sym, ◌∙◌}
use Rattle.std.proofs.lemmas.Result.{IfOk-weaker}
use Rattle.unification.proofs.Growing.{grown}
use Rattle.type_solver.proofs.Returning.{part_kept}
use Rattle.type_solver.proofs.returned.lent_part.Goals as goal

pub returns-then-not-is_shared-clause-said : goal.returns-then-not-is_shared-clause-said
returns-then-not-is_shared-clause-said c before e i at = part_kept before c.args.slots.now.items e i c.args.variable c.args.wanted.now (sym c.is_shared.ensures ∙ c.if-not-is_shared.true)

pub returns-clause-keeps : goal.returns-clause-keeps
returns-clause-keeps c = IfOk-weaker c.lent_as.result _ _ (λ term k. grown c.kind_at-kind.ensures.keeps k) c.lent_as.ensures.keeps

pub returns-clause-said : goal.returns-clause-said
returns-clause-said c = IfOk-weaker c.lent_as.result _ _ (λ term h before e i at.
    h before c.args.slots.now.items e i c.args.wanted.now at c.kind_at-kind.ensures.said (sym c.is_shared.ensures ∙ c.if-not-is_shared.false)) c.lent_as.ensures.said
