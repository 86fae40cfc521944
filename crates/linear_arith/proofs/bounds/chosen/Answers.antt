use Rattle.std.proofs.Common.{rules, refl, ◌≡◌, ℕ, pos, ◌<ℤ◌, ◌≤ℤ◌, FitsSigned, arith, subst}
use Rattle.std.specs.Prelude.{unsigned_abs}
use Rattle.std.specs.Int.{w128}
use Rattle.std.proofs.lemmas.Int.{ints, to_z-of_z}
use Rattle.linear_arith.specs.Floor.{IsFloor}
use Rattle.linear_arith.specs.declared.rows.Fraction.{Fraction}
use Rattle.linear_arith.specs.Bounds.IsBetween.{bound}
use Rattle.linear_arith.proofs.BoundLemmas.{uppers_met, uppers_most, all_met, all_met_at_quotient, none_met, nearer_max, whole_is_between}
use Rattle.linear_arith.proofs.bounds.chosen.Goals as goal

pub returns-then-greatest-least-clause-met : goal.returns-then-greatest-least-clause-met
returns-then-greatest-least-clause-met c =
    λ consistent. all_met_at_quotient c.args.bounds.now c.in-Some.upper c.quotient.result.numerator c.quotient.result.denominator c.requires consistent c.in-Some.ensures.some c.quotient.ensures.positive c.quotient.ensures.value

pub returns-then-greatest-least-clause-between : goal.returns-then-greatest-least-clause-between
returns-then-greatest-least-clause-between c =
    let bounds = c.args.bounds.now in
    let upper = c.in-Some.upper in
    let f = c.floor_quotient-greatest.result in
    let ff : FitsSigned w128 f = search rules in
    let fl : FitsSigned w128 c.in_ok-least.least = search rules in
    let fc : FitsSigned w128 upper.coefficient = search rules in
    let fb : FitsSigned w128 upper.bound = search rules in
    let size : c.unsigned_abs.result ≡ unsigned_abs upper.coefficient = simp to_z-of_z at c.unsigned_abs.ensures.value in
    let floored : IsFloor upper.bound c.unsigned_abs.result f = simp to_z-of_z at c.floor_quotient-greatest.ensures in
    let floor : IsFloor upper.bound (unsigned_abs upper.coefficient) f = subst (λ (m : ℕ). IsFloor upper.bound m f) size floored in
    let less : f <ℤ c.in_ok-least.least = omega (arith, ints) in
    let none = none_met bounds upper f c.in_ok-least.least ff c.in-Some.ensures.some floor less c.in_ok-least.ensures.least in
    bound none c.quotient.ensures.lowest upper c.in-Some.ensures.some.member c.quotient.ensures.value

pub returns-in_default-clause-between : goal.returns-in_default-clause-between
returns-in_default-clause-between c =
    let bounds = c.args.bounds.now in
    let z = c.max.result in
    let fz : FitsSigned w128 z = search rules in
    let fl : FitsSigned w128 c.in_ok-least.least = search rules in
    let none = c.in_default.ensures.none in
    let least : c.in_ok-least.least ≤ℤ z = simp to_z-of_z at c.max.ensures.self_bound in
    let zero : pos 0 ≤ℤ z = c.max.ensures.other_bound in
    let is = simp to_z-of_z at c.max.ensures.value in
    let value : Fraction = record { unknown = c.args.unknown; numerator = z; denominator = pos 1 } in
    let met = all_met bounds z c.requires (λ k d h on. absurd (none k d h on)) (c.in_ok-least.ensures.met z least) in
    rw (to_z-of_z w128 z fz) (whole_is_between bounds value refl fz met (λ y fy met. nearer_max _ c.in_ok-least.least z y is zero (c.in_ok-least.ensures.least y fy (λ k d h on. met k d h))))

pub returns-clause-between : goal.returns-clause-between
returns-clause-between c =
    let bounds = c.args.bounds.now in
    let upper = c.in-Some.upper in
    let f = c.floor_quotient-greatest.result in
    let z = c.nearest_to_zero.result in
    let ff : FitsSigned w128 f = search rules in
    let fz : FitsSigned w128 z = search rules in
    let fl : FitsSigned w128 c.in_ok-least.least = search rules in
    let fc : FitsSigned w128 upper.coefficient = search rules in
    let fb : FitsSigned w128 upper.bound = search rules in
    let size : c.unsigned_abs.result ≡ unsigned_abs upper.coefficient = simp to_z-of_z at c.unsigned_abs.ensures.value in
    let floored : IsFloor upper.bound c.unsigned_abs.result f = simp to_z-of_z at c.floor_quotient-greatest.ensures in
    let floor : IsFloor upper.bound (unsigned_abs upper.coefficient) f = subst (λ (m : ℕ). IsFloor upper.bound m f) size floored in
    let least : c.in_ok-least.least ≤ℤ z = simp to_z-of_z at c.nearest_to_zero.ensures.least in
    let greatest : z ≤ℤ f = simp to_z-of_z at c.nearest_to_zero.ensures.greatest in
    let above = uppers_met bounds upper f z c.in-Some.ensures.some floor greatest in
    let below = c.in_ok-least.ensures.met z least in
    let near = simp to_z-of_z at c.nearest_to_zero.ensures.nearest in
    let value : Fraction = record { unknown = c.args.unknown; numerator = z; denominator = pos 1 } in
    rw (to_z-of_z w128 z fz) (whole_is_between bounds value refl fz (all_met bounds z c.requires above below) (λ y fy met. near y (c.in_ok-least.ensures.least y fy (λ k d h on. met k d h)) (uppers_most bounds upper f y c.in-Some.ensures.some floor met)))

pub returns-clause-met : goal.returns-clause-met
returns-clause-met c = λ consistent.
    let bounds = c.args.bounds.now in
    let upper = c.in-Some.upper in
    let f = c.floor_quotient-greatest.result in
    let z = c.nearest_to_zero.result in
    let ff : FitsSigned w128 f = search rules in
    let fz : FitsSigned w128 z = search rules in
    let fl : FitsSigned w128 c.in_ok-least.least = search rules in
    let fc : FitsSigned w128 upper.coefficient = search rules in
    let fb : FitsSigned w128 upper.bound = search rules in
    let size : c.unsigned_abs.result ≡ unsigned_abs upper.coefficient = simp to_z-of_z at c.unsigned_abs.ensures.value in
    let floored : IsFloor upper.bound c.unsigned_abs.result f = simp to_z-of_z at c.floor_quotient-greatest.ensures in
    let floor : IsFloor upper.bound (unsigned_abs upper.coefficient) f = subst (λ (m : ℕ). IsFloor upper.bound m f) size floored in
    let least : c.in_ok-least.least ≤ℤ z = simp to_z-of_z at c.nearest_to_zero.ensures.least in
    let greatest : z ≤ℤ f = simp to_z-of_z at c.nearest_to_zero.ensures.greatest in
    let above = uppers_met bounds upper f z c.in-Some.ensures.some floor greatest in
    let below = c.in_ok-least.ensures.met z least in
    rw (to_z-of_z w128 z fz) (all_met bounds z c.requires above below)
