use Rattle.std.proofs.Common.{◌≡◌, ℕ, ◌+◌, ◌^◌, ◌<◌, ◌%◌, length, get_or, refl, ap, arith}
use Rattle.std.proofs.lemmas.List.{length_push}
use Rattle.step_checks.proofs.DigitLemmas.{carry_fits, sum_step, last_digit, number_all}
use Rattle.step_checks.proofs.naturals.digits.sum.Goals as goal
use Rattle.step_checks.proofs.naturals.digits.sum.Goals.{After-from-in-loop-position-2}

abbrev total : After-from-in-loop-position-2 → ℕ
total c = c.from.result + c.from-in-loop-position.result + c.from-in-loop-position-2.result

total_is : (c : After-from-in-loop-position-2) → total c ≡ get_or c.args.left.now c.loop-position.position 0 + get_or c.args.right.now c.loop-position.position 0 + c.loop-position.carry
total_is c = rw (c.from.ensures, c.from-in-loop-position.ensures, c.from-in-loop-position-2.ensures, c.digit_at.ensures, c.digit_at-in-loop-position.ensures) refl

total_fits : (c : After-from-in-loop-position-2) → total c < 2 ^ 128
total_fits c =
    let left = c.type_inv.left c.loop-position.position in
    let right = c.type_inv.right c.loop-position.position in
    let small = c.loop-position.invariant.small in
    let is = total_is c in
    omega (arith, left, right, small, is)

pub overflow_add-sum-in-loop-position : goal.overflow_add-sum-in-loop-position
overflow_add-sum-in-loop-position c = let h = total_fits c in omega (arith, h)

pub overflow_cast-carry : goal.overflow_cast-carry
overflow_cast-carry c = let h = carry_fits (total (goal.at.overflow_cast-carry c).After-from-in-loop-position-2) (total_fits (goal.at.overflow_cast-carry c).After-from-in-loop-position-2) in omega (arith, h)

pub loop-position-preserved : goal.loop-position-preserved
loop-position-preserved c =
    let before = (goal.at.loop-position-preserved c).After-from-in-loop-position-2 in
    let ps = c.loop-position.total.items in
    let qs = c.push.new.self.items in
    let pushed = c.in_ok-push.ensures.items in
    record {
      long = omega (arith, ap length pushed, length_push ps (total before % 2 ^ 64));
      small = carry_fits (total before) (total_fits before);
      so_far = sum_step c.args.left.now c.args.right.now ps qs c.loop-position.position c.loop-position.carry (total before) c.loop-position.invariant.long c.loop-position.invariant.so_far (total_is before) pushed;
    }

pub returns : goal.returns
returns c =
    let k = c.loop-position.position in
    let last = last_digit c.loop-position.total.items c.push-2.new.self.items k c.loop-position.carry c.loop-position.invariant.long c.in_ok-push-2.ensures.items in
    let left = number_all c.args.left.now k (omega (arith, c.max-count.ensures, c.loop-position-test.false)) in
    let right = number_all c.args.right.now k (omega (arith, c.max-count.ensures, c.loop-position-test.false)) in
    let so_far = c.loop-position.invariant.so_far in
    omega (arith, last, left, right, so_far)
