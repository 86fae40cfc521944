use Rattle.std.proofs.Common.{rules, FitsSigned, ◌-◌, ◌^◌, pos, ◌<ℤ◌, refl, sym, subst, arith}
use Rattle.std.specs.Int.{w128}
use Rattle.std.proofs.lemmas.Int.{ints, to_z-of_z}
use Rattle.linear_arith.specs.Floor.{IsFloor}
use Rattle.row_reasoning.proofs.ValueLemmas.{is_whole_by, is_between_by, next_fits}
use Rattle.row_reasoning.proofs.values.bounds.below.Goals as goal

pub returns-then-unsigned_abs-divisor-eq0-clause-is : goal.returns-then-unsigned_abs-divisor-eq0-clause-is
returns-then-unsigned_abs-divisor-eq0-clause-is c =
    let a : FitsSigned w128 c.args.numerator = c.ranges.numerator in
    let b : FitsSigned w128 c.args.denominator = c.ranges.denominator in
    let n = simp to_z-of_z at c.unsigned_abs.ensures.value in
    let d = simp to_z-of_z at c.unsigned_abs-divisor.ensures.value in
    is_whole_by c.args.numerator c.args.denominator c.unsigned_abs.result c.unsigned_abs-divisor.result n d c.requires c.if-unsigned_abs-divisor-eq0.true

pub returns-clause-is : goal.returns-clause-is
returns-clause-is c =
    let a : FitsSigned w128 c.args.numerator = c.ranges.numerator in
    let b : FitsSigned w128 c.args.denominator = c.ranges.denominator in
    let n = simp to_z-of_z at c.unsigned_abs.ensures.value in
    let d = simp to_z-of_z at c.unsigned_abs-divisor.ensures.value in
    let floor = subst (λ z. IsFloor z c.unsigned_abs-divisor.result c.floor_quotient.result) (to_z-of_z w128 c.args.numerator a) c.floor_quotient.ensures in
    let f : FitsSigned w128 c.floor_quotient.result = search rules in
    is_between_by c.args.numerator c.args.denominator c.unsigned_abs.result c.unsigned_abs-divisor.result _ n d c.requires c.if-unsigned_abs-divisor-eq0.false (subst (λ z. IsFloor c.args.numerator c.unsigned_abs-divisor.result z) (sym (to_z-of_z w128 c.floor_quotient.result f)) floor)

pub returns-clause-fits : goal.returns-clause-fits
returns-clause-fits c =
    let a : FitsSigned w128 c.args.numerator = c.ranges.numerator in
    let b : FitsSigned w128 c.args.denominator = c.ranges.denominator in
    let n = simp to_z-of_z at c.unsigned_abs.ensures.value in
    let d = simp to_z-of_z at c.unsigned_abs-divisor.ensures.value in
    let floor = subst (λ z. IsFloor z c.unsigned_abs-divisor.result c.floor_quotient.result) (to_z-of_z w128 c.args.numerator a) c.floor_quotient.ensures in
    let f : FitsSigned w128 c.floor_quotient.result = search rules in
    let between = is_between_by c.args.numerator c.args.denominator c.unsigned_abs.result c.unsigned_abs-divisor.result c.floor_quotient.result n d c.requires c.if-unsigned_abs-divisor-eq0.false floor (record { unknown = 0; numerator = c.args.numerator; denominator = c.args.denominator }) refl refl in
    subst (λ z. z <ℤ pos (2 ^ 127 - 1)) (sym (to_z-of_z w128 c.floor_quotient.result f)) (next_fits c.floor_quotient.result c.args.numerator c.args.denominator c.requires between.above (omega (arith, ints, a)))
