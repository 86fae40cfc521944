use Rattle.explanations.specs.declared.chain.ChainStep.TheVariants.{Itself}
use Rattle.step_checks.proofs.AddingLemmas.{shallow_more, shallow_all}
use Rattle.step_checks.proofs.closings.adding.are_shallow.Goals as goal

pub loop-step-preserved : goal.loop-step-preserved
loop-step-preserved c =
    shallow_more c.args.pool.now c.args.steps.now c.loop-step.step-index (Itself 0) c.is_shallow_step-shallow.result c.loop-step-test.true c.is_shallow_step-shallow.ensures c.if-not-shallow.false c.loop-step.invariant

pub returns : goal.returns
returns c = shallow_all c.args.pool.now c.args.steps.now c.loop-step.step-index c.loop-step-test.false c.loop-step.invariant
