use Rattle.std.proofs.Common.{Bool, IsTrue, length, subst, arith}
use Rattle.unification.specs.Grown.{Grows}
use Rattle.type_solver.specs.Equations.{EachSolved, Solved}
use Rattle.type_solver.proofs.Stepping.{apply_start, apply_more, apply_never, apply_end, within_next, equations_more}
use Rattle.type_solver.proofs.step.apply_all.Goals as goal

pub loop-equation-init : goal.loop-equation-init
loop-equation-init c = record { grows = apply_start c.args.slots.now.items c.args.equations.now c.requires.fits; within = c.requires.within }

pub loop-equation-preserved : goal.loop-equation-preserved
loop-equation-preserved c = record {
  grows = apply_more c.args.slots.now.items c.loop-equation.slots.items c.apply.new.slots.items (λ t. EachSolved t c.args.equations.now) c.args.equations.now c.loop-equation.equation-index c.equation-item.result (omega (arith, c.loop-equation-test.true)) c.equation-item.is c.loop-equation.invariant.grows c.loop-equation.invariant.within (subst (λ (b : Bool). Grows c.loop-equation.slots.items (λ t. Solved t c.equation-item.result) c.apply.new.slots.items (λ t. IsTrue b)) c.if-not-branch.false c.in_ok-apply.ensures);
  within = equations_more (length c.loop-equation.slots.items) (length c.apply.new.slots.items) _ c.in_ok-apply.ensures.longer
      (within_next (length c.loop-equation.slots.items) c.args.equations.now c.loop-equation.equation-index c.equation-item.result (omega (arith, c.loop-equation-test.true)) c.equation-item.is c.loop-equation.invariant.within).1;
}

pub returns-then-not-branch : goal.returns-then-not-branch
returns-then-not-branch c = apply_never c.args.slots.now.items c.loop-equation.slots.items c.apply.new.slots.items (λ t. EachSolved t c.args.equations.now) c.args.equations.now c.loop-equation.equation-index c.equation-item.result (omega (arith, c.loop-equation-test.true)) c.equation-item.is c.loop-equation.invariant.grows c.loop-equation.invariant.within (subst (λ (b : Bool). Grows c.loop-equation.slots.items (λ t. Solved t c.equation-item.result) c.apply.new.slots.items (λ t. IsTrue b)) c.if-not-branch.true c.in_ok-apply.ensures)

pub returns : goal.returns
returns c = apply_end c.args.slots.now.items c.loop-equation.slots.items (λ t. EachSolved t c.args.equations.now) c.args.equations.now c.loop-equation.equation-index c.loop-equation.invariant.grows.fits (omega arith) c.loop-equation.invariant.grows
