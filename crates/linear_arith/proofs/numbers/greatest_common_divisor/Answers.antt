use Rattle.std.proofs.Common.{◌≡◌, ℕ, ◌*◌, sym, subst, arith}
use Rattle.std.specs.Int.{IsGcd, ◌∣◌}
use Rattle.std.proofs.Math.Nat.{dvd-mul_right}
use Rattle.std.proofs.lemmas.Nat.Gcd.{IsGcd-from_mod, IsGcd-from_zero, dvd_refl}
use Rattle.linear_arith.proofs.numbers.greatest_common_divisor.Goals as goal

pub loop-less-preserved : goal.loop-less-preserved
loop-less-preserved c = λ g h. c.loop-less.invariant g (IsGcd-from_mod _ _ g h)

pub returns : goal.returns
returns c = c.loop-less.invariant c.loop-less.greater (IsGcd-from_zero _ _ (let e : c.loop-less.less ≡ 0 = omega arith in e))

pub returns-then-a-eq1 : goal.returns-then-a-eq1
returns-then-a-eq1 c =
    let one : c.args.a ≡ 1 = omega arith in
    subst (λ (a : ℕ). IsGcd a c.args.b 1) (sym one) (dvd_refl 1, subst (λ (n : ℕ). 1 ∣ n) (let e : 1 * c.args.b ≡ c.args.b = omega arith in e) (dvd-mul_right 1 c.args.b), λ d x y. x)
