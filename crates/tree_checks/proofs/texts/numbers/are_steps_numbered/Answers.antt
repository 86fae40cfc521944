use Rattle.std.proofs.Common.{refl, subst}
use Rattle.std.specs.Prelude.{All}
use Rattle.std.proofs.lemmas.List.{take_all}
use Rattle.std.proofs.lemmas.List.Elements.{All-more}
use Rattle.tree_checks.specs.Steps.{HasNumbers}
use Rattle.tree_checks.specs.declared.grown.steps.GrownStep.{GrownStep}
use Rattle.tree_checks.proofs.texts.numbers.are_steps_numbered.Goals as goal

pub loop-step-preserved : goal.loop-step-preserved
loop-step-preserved c =
    All-more (λ (s : GrownStep). HasNumbers c.args.pool.now s.extension) c.args.steps.now c.loop-step.step-index c.step-item.result c.loop-step-test.true c.loop-step.invariant (subst (λ (s : GrownStep). HasNumbers c.args.pool.now s.extension) c.step-item.is (c.if-not-has_numbers.ensures refl))

pub returns : goal.returns
returns c = λ e. record { each = subst (All (λ (s : GrownStep). HasNumbers c.args.pool.now s.extension)) (take_all c.loop-step.step-index c.args.steps.now c.loop-step-test.false) c.loop-step.invariant }
