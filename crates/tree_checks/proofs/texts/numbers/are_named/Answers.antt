use Rattle.std.proofs.Common.{refl, subst}
use Rattle.std.specs.Prelude.{All}
use Rattle.std.proofs.lemmas.List.{take_all}
use Rattle.std.proofs.lemmas.List.Elements.{All-more}
use Rattle.explanations.specs.declared.chain.ChainStep.TheVariants.{Itself}
use Rattle.step_checks.specs.Links.{IsNamed}
use Rattle.tree_checks.proofs.texts.numbers.are_named.Goals as goal

pub loop-step-preserved : goal.loop-step-preserved
loop-step-preserved c =
    All-more (IsNamed c.args.pool.now) c.args.steps.now c.loop-step.step-index (Itself 0) c.loop-step-test.true c.loop-step.invariant (c.if-not-is_named.ensures refl)

pub returns : goal.returns
returns c = λ e. record { each = subst (All (IsNamed c.args.pool.now)) (take_all c.loop-step.step-index c.args.steps.now c.loop-step-test.false) c.loop-step.invariant }
