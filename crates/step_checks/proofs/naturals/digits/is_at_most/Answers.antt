use Rattle.std.proofs.Common.{arith}
use Rattle.step_checks.proofs.DigitLemmas.{AreDigits, decided_here, decided_below}
use Rattle.step_checks.proofs.naturals.digits.is_at_most.Goals as goal
use Rattle.step_checks.proofs.naturals.digits.is_at_most.Goals.{then-digit-other, else-digit-other}

pub loop-position-preserved : goal.loop-position-preserved
loop-position-preserved c =
    let xs = c.args.left.now in
    let ys = c.args.right.now in
    let are : AreDigits xs = record { below = λ k. (let h = c.type_inv.left k in omega (arith, h)) } in
    let others : AreDigits ys = record { below = λ k. (let h = c.type_inv.right k in omega (arith, h)) } in
    let d = c.digit_at-digit.result in
    let e = c.digit_at-other.result in
    let r = c.if-digit-other.is_at_most in
    elim c.if-digit-other.branch [ then-digit-other w ↦ decided_here xs ys c.loop-position.position r d e are others c.digit_at-digit.ensures c.digit_at-other.ensures w.if-digit-other.true w.is_at_most-is | else-digit-other w ↦ decided_below xs ys c.loop-position.position r d e are others c.digit_at-digit.ensures c.digit_at-other.ensures c.loop-position.is_at_most w.if-digit-other.false w.is_at_most-is c.loop-position.invariant ]
