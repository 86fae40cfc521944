use Rattle.std.proofs.Common.{rules, ◌≡◌, ℕ, pos, ℤ, List, get_or, length, FitsSigned, arith, ap, ◌∙◌, subst, below_more}
use Rattle.std.specs.Prelude.{unsigned_abs}
use Rattle.std.specs.Int.{w128, ◌∣◌}
use Rattle.std.proofs.lemmas.Int.{to_z-of_z}
use Rattle.std.proofs.lemmas.Nat.Gcd.{dvd_refl, dvd_trans}
use Rattle.std.proofs.Math.Nat.{one-dvd}
use Rattle.linear_arith.proofs.ListLemmas.{get_or-any_default}
use Rattle.linear_arith.proofs.reduction.divisor_of.Goals as goal

pub loop-coefficient-init : goal.loop-coefficient-init
loop-coefficient-init c =
    let f : FitsSigned w128 c.bound.result = search rules in
    let v = simp to_z-of_z at c.unsigned_abs-divisor.ensures.value in
    let e : c.unsigned_abs-divisor.result ≡ unsigned_abs c.args.row.now.bound = v ∙ ap unsigned_abs c.bound.ensures in
    rw e record {
      bound = dvd_refl (unsigned_abs c.args.row.now.bound);
      before = λ k h. absurd (omega arith);
      greatest = λ d b h. b;
    }

pub loop-coefficient-preserved : goal.loop-coefficient-preserved
loop-coefficient-preserved c =
    let i = c.loop-coefficient.coefficient-index in
    let items : c.coefficients-coefficient-items.result.now ≡ c.args.row.now.coefficients = c.coefficients-coefficient-items.ensures in
    let f : FitsSigned w128 (get_or c.coefficients-coefficient-items.result.now i (pos 0)) = search rules in
    let v = simp to_z-of_z at c.unsigned_abs.ensures.value in
    let e : c.unsigned_abs.result ≡ unsigned_abs (get_or c.args.row.now.coefficients i (pos 0)) = v ∙ ap (λ (xs : List ℤ). unsigned_abs (get_or xs i (pos 0))) items in
    let g = rw e at c.greatest_common_divisor-divisor.ensures in
    let old = c.loop-coefficient.invariant in
    let new = c.greatest_common_divisor-divisor.result in
    record {
      bound = dvd_trans new g.0 old.bound;
      before = below_more _ _ (λ k h. dvd_trans new g.0 (old.before k h)) g.1;
      greatest = λ d b h. g.2 d (old.greatest d b (λ k l. h k (omega arith))) (h i (omega arith));
    }

pub returns-then-divisor-eq1 : goal.returns-then-divisor-eq1
returns-then-divisor-eq1 c =
    let items : c.coefficients-coefficient-items.result.now ≡ c.args.row.now.coefficients = c.coefficients-coefficient-items.ensures in
    let len : length c.coefficients-coefficient-items.result.now ≡ length c.args.row.now.coefficients = ap length items in
    let inv = c.loop-coefficient.invariant in
    let one : c.loop-coefficient.divisor ≡ 1 = omega arith in
    record {
      divides = record { coefficients = λ k d h. one-dvd _; bound = one-dvd _ };
      greatest = λ d h. subst (λ (n : ℕ). d ∣ n) one (inv.greatest d h.bound (λ k l. h.coefficients k (pos 0) (omega arith)));
    }

pub returns : goal.returns
returns c =
    let items : c.coefficients-coefficient-items.result.now ≡ c.args.row.now.coefficients = c.coefficients-coefficient-items.ensures in
    let len : length c.coefficients-coefficient-items.result.now ≡ length c.args.row.now.coefficients = ap length items in
    let inv = c.loop-coefficient.invariant in
    let xs = c.args.row.now.coefficients in
    record {
      divides = record {
        coefficients = λ k d h. subst (λ (z : ℤ). c.loop-coefficient.divisor ∣ unsigned_abs z) (get_or-any_default xs k (pos 0) d h) (inv.before k (omega arith));
        bound = inv.bound;
      };
      greatest = λ d h. inv.greatest d h.bound (λ k l. h.coefficients k (pos 0) (omega arith));
    }
