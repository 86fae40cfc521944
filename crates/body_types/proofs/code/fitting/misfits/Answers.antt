use Rattle.std.proofs.Common.{◌<◌, arith}
use Rattle.body_types.proofs.Misfitting.{some_misfit, none_more, no_misfit}
use Rattle.body_types.proofs.code.fitting.misfits.Goals as goal

pub loop-variable-init : goal.loop-variable-init
loop-variable-init c s has inside k lt m = absurd (omega (arith, lt))

pub loop-variable-preserved : goal.loop-variable-preserved
loop-variable-preserved c s has inside =
    let at : c.loop-variable.variable < s.variables = (let a = c.requires.read in let b = c.loop-variable-test.true in omega (arith, a, b, inside)) in
    none_more s c.args.body.now.nodes c.loop-variable.variable c.misfit_at.result c.if-misfit_at.false (c.misfit_at.ensures s has at) (c.loop-variable.invariant s has inside)

pub returns-then-misfit_at : goal.returns-then-misfit_at
returns-then-misfit_at c s has inside reads =
    let at : c.loop-variable.variable < s.variables = (let a = c.requires.read in let b = c.loop-variable-test.true in omega (arith, a, b, inside)) in
    some_misfit s c.args.body.now.nodes c.args.read c.loop-variable.variable c.misfit_at.result c.if-misfit_at.true c.loop-variable-test.true reads (c.misfit_at.ensures s has at)

pub returns : goal.returns
returns c s has inside reads = no_misfit s c.args.body.now.nodes c.args.read c.loop-variable.variable (omega arith) reads (c.loop-variable.invariant s has inside)
