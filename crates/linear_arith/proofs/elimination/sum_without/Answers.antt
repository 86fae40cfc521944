use Rattle.std.proofs.Common.{rules, ◌≡◌, ◌<ℤ◌, pos, subst, FitsSigned}
use Rattle.std.specs.Int.{w128}
use Rattle.std.proofs.lemmas.Int.{to_z-of_z}
use Rattle.std.proofs.lemmas.Result.{err_from_is_err_and}
use Rattle.linear_arith.specs.Inequality.{Inequality, coefficient}
use Rattle.linear_arith.specs.Reduction.{IsReduced}
use Rattle.linear_arith.specs.Combination.{combination, CombinesWithin}
use Rattle.linear_arith.specs.Elimination.{Cancels, IsLeastMix, MixLeaves}
use Rattle.linear_arith.specs.Wide.SumLeaves.{multiplier, number}
use Rattle.linear_arith.proofs.StageLemmas.{least_multipliers, sum_derived, sum_of_derived, sum_due, wide_sum}
use Rattle.linear_arith.proofs.elimination.sum_without.Goals as goal

pub total_of-requires : goal.total_of-requires
total_of-requires c =
    let least = rw c.in-Some.is at c.in_ok-multipliers.ensures.some in
    least_multipliers c.args.system.now.rows.now _ _ _ _ _ c.requires.upper c.requires.lower least

pub returns-clause-ok : goal.returns-clause-ok
returns-clause-ok c = λ found unknowns before.
    let system = c.args.system.now in
    let upper = c.args.upper.now in
    let lower = c.args.lower.now in
    let weights = c.cancelling-weights.result in
    let fu : FitsSigned w128 c.coefficient.result = search rules in
    let fl : FitsSigned w128 c.coefficient-2.result = search rules in
    let some = rw c.in-Some.is at c.in_ok-multipliers.ensures.some in
    let least : IsLeastMix weights.first weights.second upper.multipliers lower.multipliers c.in-Some.multipliers = some in
    let made = rw c.in-Some-2.is at c.in_ok-total.ensures.ok in
    let total : c.in-Some-2.total ≡ combination system.width c.in-Some.multipliers system.rows.now = made.1 in
    let above : pos 0 <ℤ c.coefficient.result = rw c.coefficient.ensures before.above in
    let below : c.coefficient-2.result <ℤ pos 0 = rw c.coefficient-2.ensures before.below in
    let k = simp to_z-of_z at c.cancelling-weights.ensures in
    let cancels : Cancels c.coefficient.result c.coefficient-2.result weights.first weights.second = k above below in
    let cancelled : Cancels (coefficient c.args.unknown upper.total) (coefficient c.args.unknown lower.total) weights.first weights.second = rw (c.coefficient.ensures, c.coefficient-2.ensures) at cancels in
    sum_derived system.width system.rows.now found unknowns c.args.unknown weights.first weights.second upper lower _ before cancelled least total (subst (λ (r : Inequality). IsReduced r c.in_ok-reduced.field-0) c.in_ok-try_clone.ensures c.in_ok-reduced.ensures) (rw c.in-Some-2.is at c.in_ok-total.ensures.sound) made.0

pub returns-in_default-clause-err : goal.returns-in_default-clause-err
returns-in_default-clause-err c = λ found unknowns before.
    let system = c.args.system.now in
    let upper = c.args.upper.now in
    let lower = c.args.lower.now in
    let weights = c.cancelling-weights.result in
    let fu : FitsSigned w128 c.coefficient.result = search rules in
    let fl : FitsSigned w128 c.coefficient-2.result = search rules in
    let above : pos 0 <ℤ c.coefficient.result = rw c.coefficient.ensures before.above in
    let below : c.coefficient-2.result <ℤ pos 0 = rw c.coefficient-2.ensures before.below in
    let k = simp to_z-of_z at c.cancelling-weights.ensures in
    let cancels : Cancels c.coefficient.result c.coefficient-2.result weights.first weights.second = k above below in
    let cancelled : Cancels (coefficient c.args.unknown upper.total) (coefficient c.args.unknown lower.total) weights.first weights.second = rw (c.coefficient.ensures, c.coefficient-2.ensures) at cancels in
    let none = rw c.in_default.is at c.in_ok-multipliers.ensures.none in
    let leaves : MixLeaves weights.first weights.second upper.multipliers lower.multipliers = none in
    c.in_ok-wide.ensures system.rows.now (wide_sum system.width system.rows.now found unknowns c.args.unknown weights.first weights.second upper lower before cancelled (multiplier leaves))

pub returns-in_default-2-clause-err : goal.returns-in_default-2-clause-err
returns-in_default-2-clause-err c = λ found unknowns before.
    let system = c.args.system.now in
    let upper = c.args.upper.now in
    let lower = c.args.lower.now in
    let weights = c.cancelling-weights.result in
    let fu : FitsSigned w128 c.coefficient.result = search rules in
    let fl : FitsSigned w128 c.coefficient-2.result = search rules in
    let above : pos 0 <ℤ c.coefficient.result = rw c.coefficient.ensures before.above in
    let below : c.coefficient-2.result <ℤ pos 0 = rw c.coefficient-2.ensures before.below in
    let k = simp to_z-of_z at c.cancelling-weights.ensures in
    let cancels : Cancels c.coefficient.result c.coefficient-2.result weights.first weights.second = k above below in
    let cancelled : Cancels (coefficient c.args.unknown upper.total) (coefficient c.args.unknown lower.total) weights.first weights.second = rw (c.coefficient.ensures, c.coefficient-2.ensures) at cancels in
    let some = rw c.in-Some.is at c.in_ok-multipliers.ensures.some in
    let least : IsLeastMix weights.first weights.second upper.multipliers lower.multipliers c.in-Some.multipliers = some in
    let none = rw c.in_default-2.is at c.in_ok-total.ensures.ok in
    let leaves : ¬ (CombinesWithin system.width c.in-Some.multipliers system.rows.now) = none in
    c.in_ok-wide-2.ensures system.rows.now (wide_sum system.width system.rows.now found unknowns c.args.unknown weights.first weights.second upper lower before cancelled (number c.in-Some.multipliers least leaves))

pub returns-clause-sum : goal.returns-clause-sum
returns-clause-sum c = λ found unknowns before.
    let system = c.args.system.now in
    let upper = c.args.upper.now in
    let lower = c.args.lower.now in
    let weights = c.cancelling-weights.result in
    let fu : FitsSigned w128 c.coefficient.result = search rules in
    let fl : FitsSigned w128 c.coefficient-2.result = search rules in
    let some = rw c.in-Some.is at c.in_ok-multipliers.ensures.some in
    let least : IsLeastMix weights.first weights.second upper.multipliers lower.multipliers c.in-Some.multipliers = some in
    let made = rw c.in-Some-2.is at c.in_ok-total.ensures.ok in
    let total : c.in-Some-2.total ≡ combination system.width c.in-Some.multipliers system.rows.now = made.1 in
    let above : pos 0 <ℤ c.coefficient.result = rw c.coefficient.ensures before.above in
    let below : c.coefficient-2.result <ℤ pos 0 = rw c.coefficient-2.ensures before.below in
    let k = simp to_z-of_z at c.cancelling-weights.ensures in
    let cancels : Cancels c.coefficient.result c.coefficient-2.result weights.first weights.second = k above below in
    let cancelled : Cancels (coefficient c.args.unknown upper.total) (coefficient c.args.unknown lower.total) weights.first weights.second = rw (c.coefficient.ensures, c.coefficient-2.ensures) at cancels in
    sum_of_derived system.width system.rows.now found unknowns c.args.unknown weights.first weights.second upper lower (record { row = c.in_ok-reduced.field-0; total = c.in-Some-2.total; multipliers = c.in-Some.multipliers }) before cancelled least total (subst (λ (r : Inequality). IsReduced r c.in_ok-reduced.field-0) c.in_ok-try_clone.ensures c.in_ok-reduced.ensures)

pub returns-in_err-total-clause-err : goal.returns-in_err-total-clause-err
returns-in_err-total-clause-err c = λ found unknowns before.
    let system = c.args.system.now in
    let upper = c.args.upper.now in
    let lower = c.args.lower.now in
    let weights = c.cancelling-weights.result in
    let p = err_from_is_err_and c.from_residual-in_err-total.result c.from_residual-in_err-total.ensures.1 in
    let fu : FitsSigned w128 c.coefficient.result = search rules in
    let fl : FitsSigned w128 c.coefficient-2.result = search rules in
    let some = rw c.in-Some.is at c.in_ok-multipliers.ensures.some in
    let least : IsLeastMix weights.first weights.second upper.multipliers lower.multipliers c.in-Some.multipliers = some in
    let above : pos 0 <ℤ c.coefficient.result = rw c.coefficient.ensures before.above in
    let below : c.coefficient-2.result <ℤ pos 0 = rw c.coefficient-2.ensures before.below in
    let k = simp to_z-of_z at c.cancelling-weights.ensures in
    let cancels : Cancels c.coefficient.result c.coefficient-2.result weights.first weights.second = k above below in
    let cancelled : Cancels (coefficient c.args.unknown upper.total) (coefficient c.args.unknown lower.total) weights.first weights.second = rw (c.coefficient.ensures, c.coefficient-2.ensures) at cancels in
    let due = sum_due system.width system.rows.now found unknowns c.args.unknown weights.first weights.second upper lower c.in-Some.multipliers before cancelled least in
    rw (p.1, p.2) (c.in_err-total.ensures.err due)
