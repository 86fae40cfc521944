use Rattle.std.proofs.Common.{rules, ◌≡◌, ◌<ℤ◌, ℤ, List, pos, ◌+ℤ◌, ◌*ℤ◌, sym, subst, arith, FitsSigned}
use Rattle.std.specs.Int.{w128}
use Rattle.std.proofs.lemmas.Int.{ints, to_z-of_z}
use Rattle.linear_arith.specs.Inequality.{Inequality, coefficient}
use Rattle.linear_arith.specs.Elimination.{Cancels, IsMix, MixFits}
use Rattle.linear_arith.specs.Reduction.{IsReduced}
use Rattle.step_checks.specs.Sums.{MixesWithin}
use Rattle.step_checks.proofs.SumLemmas.{bound_fits, numbers_fit}
use Rattle.step_checks.proofs.elimination.sums.sum_of_two.Goals as goal

pub returns-in_default-clause-none : goal.returns-in_default-clause-none
returns-in_default-clause-none c = λ row h.
    let u = c.args.unknown in
    let upper = c.args.upper.now in
    let lower = c.args.lower.now in
    let w = c.cancelling-weights.result in
    let fu : FitsSigned w128 c.coefficient-above.result = search rules in
    let fl : FitsSigned w128 c.coefficient-below.result = search rules in
    let above : pos 0 <ℤ c.coefficient-above.result = omega (arith, ints) in
    let below : c.coefficient-below.result <ℤ pos 0 = omega (arith, ints) in
    let k = simp to_z-of_z at c.cancelling-weights.ensures in
    let cancels : Cancels c.coefficient-above.result c.coefficient-below.result w.first w.second = k above below in
    let cancelled : Cancels (coefficient u upper) (coefficient u lower) w.first w.second = rw (c.coefficient-above.ensures, c.coefficient-below.ensures) at cancels in
    let fa : FitsSigned w128 c.bound.result = search rules in
    let fb : FitsSigned w128 c.bound-2.result = search rules in
    let gone = simp to_z-of_z at c.in_default.ensures in
    gone (subst (λ (z : ℤ). MixFits w.first w.second z c.bound-2.result) (sym c.bound.ensures) (subst (λ (z : ℤ). MixFits w.first w.second upper.bound z) (sym c.bound-2.ensures) (bound_fits u upper lower row w.first w.second cancelled h)))

pub returns-in_default-2-clause-none : goal.returns-in_default-2-clause-none
returns-in_default-2-clause-none c = λ row h.
    let u = c.args.unknown in
    let upper = c.args.upper.now in
    let lower = c.args.lower.now in
    let w = c.cancelling-weights.result in
    let fu : FitsSigned w128 c.coefficient-above.result = search rules in
    let fl : FitsSigned w128 c.coefficient-below.result = search rules in
    let above : pos 0 <ℤ c.coefficient-above.result = omega (arith, ints) in
    let below : c.coefficient-below.result <ℤ pos 0 = omega (arith, ints) in
    let k = simp to_z-of_z at c.cancelling-weights.ensures in
    let cancels : Cancels c.coefficient-above.result c.coefficient-below.result w.first w.second = k above below in
    let cancelled : Cancels (coefficient u upper) (coefficient u lower) w.first w.second = rw (c.coefficient-above.ensures, c.coefficient-below.ensures) at cancels in
    let gone = rw c.in_default-2.is at c.in_ok-coefficients.ensures.none in
    gone (subst (λ (xs : List ℤ). MixesWithin w.first w.second xs c.coefficients-2.result.now) (sym c.coefficients.ensures) (subst (λ (xs : List ℤ). MixesWithin w.first w.second upper.coefficients xs) (sym c.coefficients-2.ensures) (numbers_fit u upper lower row w.first w.second cancelled h)))

pub returns-clause-some : goal.returns-clause-some
returns-clause-some c =
    let u = c.args.unknown in
    let upper = c.args.upper.now in
    let lower = c.args.lower.now in
    let w = c.cancelling-weights.result in
    let fu : FitsSigned w128 c.coefficient-above.result = search rules in
    let fl : FitsSigned w128 c.coefficient-below.result = search rules in
    let above : pos 0 <ℤ c.coefficient-above.result = omega (arith, ints) in
    let below : c.coefficient-below.result <ℤ pos 0 = omega (arith, ints) in
    let k = simp to_z-of_z at c.cancelling-weights.ensures in
    let cancels : Cancels c.coefficient-above.result c.coefficient-below.result w.first w.second = k above below in
    let cancelled : Cancels (coefficient u upper) (coefficient u lower) w.first w.second = rw (c.coefficient-above.ensures, c.coefficient-below.ensures) at cancels in
    let some = rw c.in-Some-2.is at c.in_ok-coefficients.ensures.some in
    let mix : IsMix w.first w.second upper.coefficients lower.coefficients c.in-Some-2.coefficients.items = rw (c.coefficients.ensures, c.coefficients-2.ensures) at some in
    let inside = rw c.in-Some-2.is at c.in_ok-coefficients.ensures.within in
    let within : MixesWithin w.first w.second upper.coefficients lower.coefficients = rw (c.coefficients.ensures, c.coefficients-2.ensures) at inside in
    let fa : FitsSigned w128 c.bound.result = search rules in
    let fb : FitsSigned w128 c.bound-2.result = search rules in
    let fm : FitsSigned w128 c.in-Some.bound = search rules in
    let added = simp to_z-of_z at (rw c.in-Some.is at c.mixed_number.ensures) in
    let fits : MixFits w.first w.second upper.bound lower.bound = rw (c.bound.ensures, c.bound-2.ensures) at added.0 in
    let bound : c.in-Some.bound ≡ (pos w.first *ℤ upper.bound) +ℤ (pos w.second *ℤ lower.bound) = rw (c.bound.ensures, c.bound-2.ensures) at added.1 in
    let sum : Inequality = record { coefficients = c.in-Some-2.coefficients.items; bound = c.in-Some.bound } in
    let reduced : IsReduced sum c.in_ok-reduced.field-0 = subst (λ (r : Inequality). IsReduced r c.in_ok-reduced.field-0) (simp to_z-of_z at c.new.ensures) c.in_ok-reduced.ensures in
    record {
      above = subst (λ (z : ℤ). pos 0 <ℤ z) c.coefficient-above.ensures above;
      below = subst (λ (z : ℤ). z <ℤ pos 0) c.coefficient-below.ensures below;
      x = w.first;
      y = w.second;
      cancels = cancelled;
      sum = sum;
      coefficients = mix;
      bound = bound;
      coefficients_within = within;
      bound_within = fits;
      is_reduced = reduced;
    }
