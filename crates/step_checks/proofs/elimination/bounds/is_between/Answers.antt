use Rattle.std.proofs.Common.{rules, ◌≡◌, ◌≢◌, ℕ, pos, ℤ, ◌<ℤ◌, FitsSigned, subst, arith}
use Rattle.std.specs.Prelude.{unsigned_abs}
use Rattle.std.specs.Bool.{Decides}
use Rattle.std.specs.Int.{w128, IsGcd}
use Rattle.std.proofs.lemmas.Int.{ints, to_z-of_z}
use Rattle.std.proofs.lemmas.Nat.Gcd.{same_from_IsGcd}
use Rattle.step_checks.specs.Choices.{AreMetAt, HasReached, IsNearest, IsBetween}
use Rattle.step_checks.proofs.BoundLemmas.{between_met, whole_between, quotient_of, quotient_decided}
use Rattle.step_checks.proofs.CheckLemmas.{refused, decided_false}
use Rattle.step_checks.proofs.elimination.bounds.is_between.Goals as goal

pub returns-then-not-are_met : goal.returns-then-not-are_met
returns-then-not-are_met c =
    let bounds = c.args.bounds.now in
    let value = c.args.value.now in
    let fp : FitsSigned w128 value.numerator = search rules in
    let fq : FitsSigned w128 value.denominator = search rules in
    let known : Decides c.are_met.result (AreMetAt bounds value.numerator value.denominator) = simp to_z-of_z at c.are_met.ensures in
    decided_false (IsBetween bounds value) (λ h. refused c.are_met.result (AreMetAt bounds value.numerator value.denominator) c.if-not-are_met.true known (between_met bounds value h))

pub returns-then-value-eq1 : goal.returns-then-value-eq1
returns-then-value-eq1 c =
    let bounds = c.args.bounds.now in
    let value = c.args.value.now in
    let fp : FitsSigned w128 value.numerator = search rules in
    let fq : FitsSigned w128 value.denominator = search rules in
    let known : Decides c.are_met.result (AreMetAt bounds value.numerator value.denominator) = simp to_z-of_z at c.are_met.ensures in
    let one : value.denominator ≡ pos 1 = omega (arith, ints) in
    let met : AreMetAt bounds value.numerator (pos 1) = subst (λ (z : ℤ). AreMetAt bounds value.numerator z) one (known.0 c.if-not-are_met.false) in
    let near : Decides c.is_nearest.result (IsNearest bounds value.numerator) = simp to_z-of_z at c.is_nearest.ensures in
    whole_between bounds value c.is_nearest.result one met near

pub returns-then-common-ne1 : goal.returns-then-common-ne1
returns-then-common-ne1 c =
    let bounds = c.args.bounds.now in
    let value = c.args.value.now in
    let g = c.greatest_common_divisor-common.result in
    let fp : FitsSigned w128 value.numerator = search rules in
    let fq : FitsSigned w128 value.denominator = search rules in
    let n : value.denominator ≢ pos 1 = omega (arith, ints) in
    let u : c.unsigned_abs.result ≡ unsigned_abs value.numerator = simp to_z-of_z at c.unsigned_abs.ensures.value in
    let v : c.unsigned_abs-2.result ≡ unsigned_abs value.denominator = simp to_z-of_z at c.unsigned_abs-2.ensures.value in
    let gcd : IsGcd (unsigned_abs value.numerator) (unsigned_abs value.denominator) g = subst (λ (m : ℕ). IsGcd m (unsigned_abs value.denominator) g) u (subst (λ (m : ℕ). IsGcd c.unsigned_abs.result m g) v c.greatest_common_divisor-common.ensures) in
    decided_false (IsBetween bounds value) (λ h. c.if-common-ne1.true (same_from_IsGcd (unsigned_abs value.numerator) (unsigned_abs value.denominator) g 1 gcd (quotient_of bounds value n h).lowest))

pub returns : goal.returns
returns c =
    let bounds = c.args.bounds.now in
    let value = c.args.value.now in
    let g = c.greatest_common_divisor-common.result in
    let fp : FitsSigned w128 value.numerator = search rules in
    let fq : FitsSigned w128 value.denominator = search rules in
    let known : Decides c.are_met.result (AreMetAt bounds value.numerator value.denominator) = simp to_z-of_z at c.are_met.ensures in
    let n : value.denominator ≢ pos 1 = omega (arith, ints) in
    let positive : pos 0 <ℤ value.denominator = omega (arith, ints) in
    let u : c.unsigned_abs.result ≡ unsigned_abs value.numerator = simp to_z-of_z at c.unsigned_abs.ensures.value in
    let v : c.unsigned_abs-2.result ≡ unsigned_abs value.denominator = simp to_z-of_z at c.unsigned_abs-2.ensures.value in
    let gcd : IsGcd (unsigned_abs value.numerator) (unsigned_abs value.denominator) g = subst (λ (m : ℕ). IsGcd m (unsigned_abs value.denominator) g) u (subst (λ (m : ℕ). IsGcd c.unsigned_abs.result m g) v c.greatest_common_divisor-common.ensures) in
    let lowest : IsGcd (unsigned_abs value.numerator) (unsigned_abs value.denominator) 1 = subst (λ (m : ℕ). IsGcd (unsigned_abs value.numerator) (unsigned_abs value.denominator) m) c.if-common-ne1.false gcd in
    let reached : Decides c.has_reached.result (HasReached bounds value.numerator value.denominator) = simp to_z-of_z at c.has_reached.ensures in
    quotient_decided bounds value c.has_no_whole.result positive n (known.0 c.if-not-are_met.false) lowest (reached.0 c.if-not-has_reached.false) c.has_no_whole.ensures
