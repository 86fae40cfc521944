use Rattle.std.proofs.Common.{◌≡◌, ◌+◌, ◌-◌, sym, subst, arith}
use Rattle.step_checks.specs.Inside.{IsSwept}
use Rattle.step_checks.proofs.MarkLemmas.{sweep_next}
use Rattle.step_checks.proofs.closings.inside.sweep_all.Goals as goal

pub loop-rest-init : goal.loop-rest-init
loop-rest-init c = record {
  within = omega (arith, c.requires);
  swept = λ d h. subst (IsSwept c.args.pool.now d c.args.marks.now) (sym c.requires) h;
}

pub loop-rest-preserved : goal.loop-rest-preserved
loop-rest-preserved c =
    let rest = c.loop-rest.rest in
    let next : rest ≡ (rest - 1) + 1 = (let t = c.loop-rest-test.true in omega (arith, t)) in
    record {
      within = (let w = c.loop-rest.invariant.within in omega (arith, w));
      swept = λ d h. sweep_next c.args.pool.now d c.loop-rest.marks c.sweep.new.marks rest (rest - 1) next (c.sweep.ensures d) (c.loop-rest.invariant.swept d h);
    }

pub returns : goal.returns
returns c = λ d h. (
    let none : c.loop-rest.rest ≡ 0 = (let f = c.loop-rest-test.false in omega (arith, f)) in
    subst (IsSwept c.args.pool.now d c.loop-rest.marks) none (c.loop-rest.invariant.swept d h))
