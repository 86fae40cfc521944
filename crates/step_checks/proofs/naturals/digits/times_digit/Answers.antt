use Rattle.std.proofs.Common.{◌≡◌, ℕ, ◌+◌, ◌*◌, ◌^◌, ◌<◌, ◌%◌, length, get_or, ◌∙◌, refl, ap, arith}
use Rattle.std.proofs.lemmas.List.{length_push}
use Rattle.step_checks.proofs.DigitLemmas.{product_fits, carry_fits, times_step, last_digit, number_all}
use Rattle.step_checks.proofs.naturals.digits.times_digit.Goals as goal
use Rattle.step_checks.proofs.naturals.digits.times_digit.Goals.{After-from-in-loop-digit-2}

abbrev sum : After-from-in-loop-digit-2 → ℕ
sum c = c.from.result * c.from-in-loop-digit.result + c.from-in-loop-digit-2.result

sum_is : (c : After-from-in-loop-digit-2) → sum c ≡ get_or c.args.digits.now c.loop-digit.digit-index 0 * c.args.factor + c.loop-digit.carry
sum_is c = rw (c.from.ensures, c.from-in-loop-digit.ensures, c.from-in-loop-digit-2.ensures) refl

sum_fits : (c : After-from-in-loop-digit-2) → sum c < 2 ^ 128
sum_fits c =
    let digit = c.type_inv.digits c.loop-digit.digit-index in
    let fits = product_fits (get_or c.args.digits.now c.loop-digit.digit-index 0) c.args.factor c.loop-digit.carry (omega (arith, digit)) (omega (arith, c.ranges.factor.fits)) c.loop-digit.invariant.small in
    rw (sum_is c) fits

pub overflow_add-sum : goal.overflow_add-sum
overflow_add-sum c = let h = sum_fits c in omega (arith, h)

pub overflow_cast-carry : goal.overflow_cast-carry
overflow_cast-carry c = let h = carry_fits (sum (goal.at.overflow_cast-carry c).After-from-in-loop-digit-2) (sum_fits (goal.at.overflow_cast-carry c).After-from-in-loop-digit-2) in omega (arith, h)

pub loop-digit-preserved : goal.loop-digit-preserved
loop-digit-preserved c =
    let before = (goal.at.loop-digit-preserved c).After-from-in-loop-digit-2 in
    let ps = c.loop-digit.product.items in
    let qs = c.push.new.self.items in
    let pushed = c.in_ok-push.ensures.items in
    record {
      long = omega (arith, ap length pushed, length_push ps (sum before % 2 ^ 64));
      small = carry_fits (sum before) (sum_fits before);
      so_far = times_step c.args.digits.now ps qs c.loop-digit.digit-index c.args.factor c.loop-digit.carry (sum before) c.loop-digit.invariant.long c.loop-digit.invariant.so_far (sum_is before) pushed;
    }

pub returns : goal.returns
returns c =
    let last = last_digit c.loop-digit.product.items c.push-2.new.self.items c.loop-digit.digit-index c.loop-digit.carry c.loop-digit.invariant.long c.in_ok-push-2.ensures.items in
    last ∙ c.loop-digit.invariant.so_far ∙ ap (λ (n : ℕ). n * c.args.factor) (number_all c.args.digits.now c.loop-digit.digit-index c.loop-digit-test.false)
