use Rattle.std.proofs.Common.{◌∙◌}
use Rattle.vc_gen.proofs.DecideProof.{made_under}
use Rattle.vc_gen.proofs.conditions.at_returns.Goals as goal

pub returns : goal.returns
returns c =
    made_under (λ made. made.items) c.args.function.now c.args.clauses.now c.under_premise.result _ _ _ _ (c.deref.ensures ∙ c.in_ok-premise.ensures) (c.deref-2.ensures ∙ c.in_ok-returned.ensures) c.under_premise.ensures
