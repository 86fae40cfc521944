use Rattle.std.proofs.Common.{◌≡◌, ◌+◌, ◌-◌, arith}
use Rattle.certificate_text.proofs.MarkLemmas.{down_more}
use Rattle.certificate_text.proofs.pools.marks.mark_inside.Goals as goal

pub bounds-marks-rest : goal.bounds-marks-rest
bounds-marks-rest c = (let w = c.loop-rest.invariant.within in let t = c.loop-rest-test.true in omega (arith, w, t))

pub loop-rest-preserved-then-marks-rest : goal.loop-rest-preserved-then-marks-rest
loop-rest-preserved-then-marks-rest c =
    let rest = c.loop-rest.rest in
    let next : rest ≡ (rest - 1) + 1 = (let t = c.loop-rest-test.true in omega (arith, t)) in
    down_more c.args.pool.now c.args.marks.now c.loop-rest.marks rest (rest - 1) next c.loop-rest.invariant c.mark_parts_at.new.marks c.if-marks-rest.true c.mark_parts_at.ensures.marks c.mark_parts_at.ensures.earlier
