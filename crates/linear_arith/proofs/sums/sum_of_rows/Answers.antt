use Rattle.std.proofs.Common.{rules, ◌≡◌, ◌<ℤ◌, pos, ◌+ℤ◌, ◌*ℤ◌, sym, subst, arith, FitsSigned}
use Rattle.std.specs.Int.{w128}
use Rattle.std.proofs.lemmas.Int.{to_z-of_z}
use Rattle.linear_arith.specs.Inequality.{Inequality, coefficient}
use Rattle.linear_arith.specs.Elimination.{Cancels, IsMix}
use Rattle.linear_arith.specs.Reduction.{IsReduced}
use Rattle.linear_arith.proofs.ClosureLemmas.{rows_summed, sum_of_multiples, multiple_of_itself, multiple_of_reduced}
use Rattle.linear_arith.proofs.sums.sum_of_rows.Goals as goal

pub returns : goal.returns
returns c = λ same above below.
    let upper = c.args.upper.now in
    let lower = c.args.lower.now in
    let weights = c.cancelling-weights.result in
    let fu : FitsSigned w128 c.coefficient.result = search rules in
    let fl : FitsSigned w128 c.coefficient-2.result = search rules in
    let above' : pos 0 <ℤ c.coefficient.result = rw c.coefficient.ensures above in
    let below' : c.coefficient-2.result <ℤ pos 0 = rw c.coefficient-2.ensures below in
    let k = simp to_z-of_z at c.cancelling-weights.ensures in
    let cancels : Cancels c.coefficient.result c.coefficient-2.result weights.first weights.second = k above' below' in
    let cancelled : Cancels (coefficient c.args.unknown upper) (coefficient c.args.unknown lower) weights.first weights.second = rw (c.coefficient.ensures, c.coefficient-2.ensures) at cancels in
    let some = rw c.in-Some.is at c.in_ok-coefficients.ensures.some in
    let mix : IsMix weights.first weights.second upper.coefficients lower.coefficients c.in-Some.coefficients.items = rw (c.coefficients.ensures, c.coefficients-2.ensures) at some in
    let fa : FitsSigned w128 c.bound.result = search rules in
    let fb : FitsSigned w128 c.bound-2.result = search rules in
    let fm : FitsSigned w128 c.in-Some-mixed_number.bound = search rules in
    let added = simp to_z-of_z at (rw c.in-Some-mixed_number.is at c.mixed_number.ensures) in
    let bound : c.in-Some-mixed_number.bound ≡ (pos weights.first *ℤ upper.bound) +ℤ (pos weights.second *ℤ lower.bound) = rw (c.bound.ensures, c.bound-2.ensures) at added.1 in
    let mixed : Inequality = record { coefficients = c.in-Some.coefficients.items; bound = c.in-Some-mixed_number.bound } in
    let reduced : IsReduced mixed c.in_ok-reduced.field-0 = subst (λ (r : Inequality). IsReduced r c.in_ok-reduced.field-0) (simp to_z-of_z at c.new.ensures) c.in_ok-reduced.ensures in
    sum_of_multiples c.args.unknown 1 weights.first weights.second upper lower c.in_ok-reduced.field-0 upper lower mixed (omega arith) cancelled (multiple_of_reduced mixed c.in_ok-reduced.field-0 reduced) (multiple_of_itself upper) (multiple_of_itself lower) (rows_summed weights.first weights.second upper lower mixed (sym same) mix bound)
