use Rattle.std.proofs.Common.{rules, FitsSigned, refl, subst}
use Rattle.std.specs.Int.{w128}
use Rattle.std.proofs.lemmas.Int.{to_z-of_z}
use Rattle.linear_arith.specs.Floor.{IsFloor}
use Rattle.row_reasoning.proofs.ValueLemmas.{is_whole_by, is_between_by}
use Rattle.tree_checks.proofs.BoundsTruthLemmas.{never}
use Rattle.tree_checks.proofs.BetweenLemmas.{not_whole, between_known, same_bits}
use Rattle.tree_checks.proofs.bounds.firsts.is_between.Goals as goal

pub returns-then-unsigned_abs-divisor-eq0 : goal.returns-then-unsigned_abs-divisor-eq0
returns-then-unsigned_abs-divisor-eq0 c =
    let v = c.args.value in
    let a : FitsSigned w128 v.numerator = search rules in
    let b : FitsSigned w128 v.denominator = search rules in
    let n = simp to_z-of_z at c.unsigned_abs.ensures.value in
    let d = simp to_z-of_z at c.unsigned_abs-divisor.ensures.value in
    never (λ between. not_whole c.args.number v c.requires between (is_whole_by v.numerator v.denominator c.unsigned_abs.result c.unsigned_abs-divisor.result n d c.requires c.if-unsigned_abs-divisor-eq0.true v refl refl))

pub returns : goal.returns
returns c =
    let v = c.args.value in
    let a : FitsSigned w128 v.numerator = search rules in
    let b : FitsSigned w128 v.denominator = search rules in
    let n = simp to_z-of_z at c.unsigned_abs.ensures.value in
    let d = simp to_z-of_z at c.unsigned_abs-divisor.ensures.value in
    let floor = subst (λ z. IsFloor z c.unsigned_abs-divisor.result c.floor_quotient.result) (to_z-of_z w128 v.numerator a) c.floor_quotient.ensures in
    let f : FitsSigned w128 c.floor_quotient.result = search rules in
    let between = is_between_by v.numerator v.denominator c.unsigned_abs.result c.unsigned_abs-divisor.result c.floor_quotient.result n d c.requires c.if-unsigned_abs-divisor-eq0.false floor v refl refl in
    between_known c.floor_quotient.result c.args.number v _ c.requires between (same_bits c.floor_quotient.result c.args.number f c.ranges.number)
