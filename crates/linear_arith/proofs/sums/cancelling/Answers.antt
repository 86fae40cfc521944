use Rattle.std.proofs.Common.{◌≡◌, ℕ, ◌<◌, FitsSigned, arith, subst}
use Rattle.std.specs.Prelude.{unsigned_abs}
use Rattle.std.specs.Int.{w128, IsGcd}
use Rattle.std.proofs.lemmas.Int.{to_z-of_z}
use Rattle.linear_arith.proofs.SumLemmas.{cancels_by_sizes, no_zero_divisor}
use Rattle.linear_arith.proofs.sums.cancelling.Goals as goal

pub returns-then-common-eq0 : goal.returns-then-common-eq0
returns-then-common-eq0 c = λ above below.
    let f : FitsSigned w128 c.args.above = c.ranges.above in
    let m : c.unsigned_abs-above.result ≡ unsigned_abs c.args.above = simp to_z-of_z at c.unsigned_abs-above.ensures.value in
    let z : c.greatest_common_divisor-common.result ≡ 0 = omega arith in
    absurd (no_zero_divisor c.args.above c.unsigned_abs-above.result c.unsigned_abs-below.result m (subst (λ (g : ℕ). IsGcd c.unsigned_abs-above.result c.unsigned_abs-below.result g) z c.greatest_common_divisor-common.ensures) above)

pub returns : goal.returns
returns c = λ above below.
    let f : FitsSigned w128 c.args.above = c.ranges.above in
    let h : FitsSigned w128 c.args.below = c.ranges.below in
    let m : c.unsigned_abs-above.result ≡ unsigned_abs c.args.above = simp to_z-of_z at c.unsigned_abs-above.ensures.value in
    let n : c.unsigned_abs-below.result ≡ unsigned_abs c.args.below = simp to_z-of_z at c.unsigned_abs-below.ensures.value in
    let p : 0 < c.greatest_common_divisor-common.result = omega arith in
    cancels_by_sizes c.args.above c.args.below c.greatest_common_divisor-common.result c.unsigned_abs-above.result c.unsigned_abs-below.result p m n c.greatest_common_divisor-common.ensures above below
