use Rattle.std.proofs.Common.{◌≡◌, ◌<◌, ◌-◌, ◌/◌, ◌^◌, pos, ◌-ℤ◌, ◌≤ℤ◌, ◌<ℤ◌, neg_ℤ, to_z, of_z, FitsSigned, arith}
use Rattle.std.specs.Int.{w128}
use Rattle.std.proofs.lemmas.Int.{ints, to_z-of_z}
use Rattle.std.proofs.Math.Nat.{div-le_self}
use Rattle.linear_arith.proofs.NumberLemmas.{quotient-not_negative, quotient-negative, quotient-of_negative_positive}
use Rattle.linear_arith.proofs.numbers.exact_quotient.Goals as goal

pub overflow_sub-result : goal.overflow_sub-result
overflow_sub-result c =
    let f : FitsSigned w128 c.args.number = c.ranges.number in
    let s = simp to_z-of_z at c.unsigned_abs.ensures.value in
    let h : c.args.number <ℤ pos 0 = omega (arith, ints) in
    quotient-of_negative_positive c.args.number c.args.divisor c.unsigned_abs.result c.requires.nonzero s c.requires.divides h

pub returns-then-number-ge0 : goal.returns-then-number-ge0
returns-then-number-ge0 c =
    let f : FitsSigned w128 c.args.number = c.ranges.number in
    let s = simp to_z-of_z at c.unsigned_abs.ensures.value in
    let h : pos 0 ≤ℤ c.args.number = omega (arith, ints) in
    let p = quotient-not_negative c.args.number c.args.divisor c.unsigned_abs.result c.requires.nonzero s c.requires.divides h in
    let less = div-le_self c.unsigned_abs.result c.args.divisor in
    let bounded : c.unsigned_abs.result < 2 ^ 127 = omega (arith, ints) in
    let z : to_z w128 (c.unsigned_abs.result / c.args.divisor) ≡ pos (c.unsigned_abs.result / c.args.divisor) = omega (arith, ints) in
    rw z p

pub returns-else-number-ge0 : goal.returns-else-number-ge0
returns-else-number-ge0 c =
    let f : FitsSigned w128 c.args.number = c.ranges.number in
    let s = simp to_z-of_z at c.unsigned_abs.ensures.value in
    let h : c.args.number <ℤ pos 0 = omega (arith, ints) in
    let p = quotient-negative c.args.number c.args.divisor c.unsigned_abs.result c.requires.nonzero s c.requires.divides h in
    let some = quotient-of_negative_positive c.args.number c.args.divisor c.unsigned_abs.result c.requires.nonzero s c.requires.divides h in
    let less = div-le_self c.unsigned_abs.result c.args.divisor in
    let z : to_z w128 (of_z w128 (to_z w128 (of_z w128 (pos 0 -ℤ to_z w128 (c.unsigned_abs.result / c.args.divisor - 1))) -ℤ pos 1)) ≡ neg_ℤ (pos (c.unsigned_abs.result / c.args.divisor)) = omega (arith, ints) in
    rw z p
