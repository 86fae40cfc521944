-- Sums of two rows that cancel an unknown: two rows have exactly one, and every combination of them without the unknown
-- is proportional to it.
use Rattle.std.proofs.Common.{◌≡◌, ℕ, zero, suc, ◌*◌, ◌/◌, ◌<◌, List, length, pos, negsuc, ℤ, ◌+ℤ◌, ◌*ℤ◌, ◌<ℤ◌, refl, sym, ap, ◌∙◌, subst, arith}
use Rattle.std.specs.Prelude.{unsigned_abs}
use Rattle.std.specs.Int.{IsGcd, ◌∣◌}
use Rattle.std.proofs.Math.IntN.{*ℤ-zero}
use Rattle.std.proofs.Math.Nat.{dvd-mul_right, dvd-mul_left}
use Rattle.std.proofs.lemmas.Int.{ints}
use Rattle.std.proofs.lemmas.Nat.Gcd.{dvd_antisymm}
use Rattle.std.proofs.lemmas.List.{ext_get_or}
use Rattle.linear_arith.specs.Inequality.{Inequality, coefficient}
use Rattle.linear_arith.specs.Elimination.{Cancels, IsMix, MixFits}
use Rattle.linear_arith.specs.Reduction.{IsReduced}
use Rattle.linear_arith.specs.Closure.{IsSumOf}
use Rattle.linear_arith.proofs.SumLemmas.{cancels_by_sizes, no_zero_divisor}
use Rattle.linear_arith.proofs.ClosureLemmas.{rows_summed, sum_of_multiples, multiple_of_itself, multiple_of_reduced}
use Rattle.linear_arith.proofs.ProductLemmas.{positive_product}
use Rattle.base.proofs.WholeNumbers.{mul_assoc, mul_add, mul_swap}
use Rattle.step_checks.specs.Sums.{MixesWithin, IsReducedSum}
use Rattle.step_checks.proofs.GcdLemmas.{has_gcd, gcd_times}
use Rattle.step_checks.proofs.ReducedLemmas.{AreInRatio, one_reduced, mul_cancel, size_positive}

-- a positive and a negative number have multipliers that cancel them
pub record HaveWeights (a b : ℤ) : Type 0 where
  pub x : ℕ
  pub y : ℕ
  pub cancels : Cancels a b x y

pub have_weights : (a b : ℤ) → pos 0 <ℤ a → b <ℤ pos 0 → HaveWeights a b
have_weights a b above below =
    let g = has_gcd (unsigned_abs a) (unsigned_abs b) in
    let p : 0 < g.divisor = positive g.divisor (λ z. no_zero_divisor a (unsigned_abs a) (unsigned_abs b) refl (subst (λ (n : ℕ). IsGcd (unsigned_abs a) (unsigned_abs b) n) z g.is_gcd) above) in
    record { x = unsigned_abs b / g.divisor; y = unsigned_abs a / g.divisor; cancels = cancels_by_sizes a b g.divisor (unsigned_abs a) (unsigned_abs b) p refl refl g.is_gcd above below }
  where
    positive : (n : ℕ) → (n ≡ 0 → ⊥) → 0 < n
    positive zero h = absurd (h refl)
    positive (suc n) h = omega arith

-- the same for their absolute values
sizes_cancel : (a b : ℤ) (x y : ℕ) → pos 0 <ℤ a → b <ℤ pos 0 → (pos x *ℤ a) +ℤ (pos y *ℤ b) ≡ pos 0 → x * unsigned_abs a ≡ y * unsigned_abs b
sizes_cancel (pos a) (pos b) x y h k e = absurd (omega (arith, ints, k))
sizes_cancel (pos a) (negsuc b) x y h k e = omega (arith, ints, e)
sizes_cancel (negsuc a) b x y h k e = absurd (omega (arith, ints, h))

size_above : (a : ℤ) → pos 0 <ℤ a → 0 < unsigned_abs a
size_above (pos a) h = omega (arith, ints, h)
size_above (negsuc a) h = absurd (omega (arith, ints, h))

size_below : (b : ℤ) → b <ℤ pos 0 → 0 < unsigned_abs b
size_below (pos b) h = absurd (omega (arith, ints, h))
size_below (negsuc b) h = omega arith

nat_cancel : (m x y : ℕ) → 0 < m → x * m ≡ y * m → x ≡ y
nat_cancel m x y h e = mul_nat x y (mul_cancel (pos m) (pos x) (pos y) (size_positive m h) (ap pos (let f : m * x ≡ m * y = omega (arith, e) in f)))
  where
    mul_nat : (x y : ℕ) → pos x ≡ pos y → x ≡ y
    mul_nat x y e = omega (arith, ints, e)

-- x * y' equals y * x'
crossed : (m n x y x' y' : ℕ) → 0 < m → x * m ≡ y * n → x' * m ≡ y' * n → x * y' ≡ y * x'
crossed m n x y x' y' h e f =
    let one : (x * y') * m ≡ y' * (y * n) = (let o : (x * y') * m ≡ y' * (x * m) = omega arith in o) ∙ ap (λ (k : ℕ). y' * k) e in
    let two : (y * x') * m ≡ y * (y' * n) = (let o : (y * x') * m ≡ y * (x' * m) = omega arith in o) ∙ ap (λ (k : ℕ). y * k) f in
    nat_cancel m (x * y') (y * x') h (omega (arith, one, two))

factor_divides : (x y x' y' : ℕ) → 0 < x' → IsGcd x y 1 → x * y' ≡ y * x' → x ∣ x'
factor_divides x y x' y' p g e =
    let h = gcd_times x' x y 1 p g in
    let one : x ∣ x' * x = dvd-mul_left x x' in
    let two : x ∣ x' * y = subst (λ (n : ℕ). x ∣ n) (let o : x * y' ≡ x' * y = omega (arith, e) in o) (dvd-mul_right x y') in
    subst (λ (n : ℕ). x ∣ n) (let o : x' * 1 ≡ x' = omega arith in o) (h.2 x one two)

-- these multipliers are the only ones
pub record AreSame (x y x' y' : ℕ) : Type 0 where
  pub first : x ≡ x'
  pub second : y ≡ y'

pub one_weights : (a b : ℤ) (x y x' y' : ℕ) → pos 0 <ℤ a → b <ℤ pos 0 → Cancels a b x y → Cancels a b x' y' → AreSame x y x' y'
one_weights a b x y x' y' above below c d =
    let m = unsigned_abs a in
    let n = unsigned_abs b in
    let e : x * m ≡ y * n = sizes_cancel a b x y above below c.cancels in
    let f : x' * m ≡ y' * n = sizes_cancel a b x' y' above below d.cancels in
    let same : x ≡ x' = dvd_antisymm (factor_divides x y x' y' d.first_positive c.least (crossed m n x y x' y' (size_above a above) e f)) (factor_divides x' y' x y c.first_positive d.least (crossed m n x' y' x y (size_above a above) f e)) in
    record { first = same; second = nat_cancel n y y' (size_below b below) (sym e ∙ ap (λ (k : ℕ). k * m) same ∙ f) }

-- the sum of two lists with given multipliers is unique
one_mix : (x y : ℕ) (first second one two : List ℤ) → IsMix x y first second one → IsMix x y first second two → one ≡ two
one_mix x y first second one two a b =
    ext_get_or (pos 0) one two (a.one_each ∙ sym b.one_each) (λ k l. let len = a.one_each in a.numbers k (omega (arith, len, l)) ∙ sym (b.numbers k (omega (arith, len, l))))

-- the sum of two rows is unique
pub one_sum : (unknown : ℕ) (upper lower first second : Inequality) → IsReducedSum unknown upper lower first → IsReducedSum unknown upper lower second → first ≡ second
one_sum unknown upper lower first second a b =
    let w = one_weights _ _ a.x a.y b.x b.y a.above a.below a.cancels b.cancels in
    let mixed : IsMix a.x a.y upper.coefficients lower.coefficients b.sum.coefficients = subst (λ (n : ℕ). IsMix n a.y upper.coefficients lower.coefficients b.sum.coefficients) (sym w.first) (subst (λ (n : ℕ). IsMix b.x n upper.coefficients lower.coefficients b.sum.coefficients) (sym w.second) b.coefficients) in
    let same = one_mix a.x a.y upper.coefficients lower.coefficients a.sum.coefficients b.sum.coefficients a.coefficients mixed in
    let bound : a.sum.bound ≡ b.sum.bound = a.bound ∙ ap (λ (n : ℕ). (pos n *ℤ upper.bound) +ℤ (pos a.y *ℤ lower.bound)) w.first ∙ ap (λ (n : ℕ). (pos b.x *ℤ upper.bound) +ℤ (pos n *ℤ lower.bound)) w.second ∙ sym b.bound in
    let sums : a.sum ≡ b.sum = λ i. record { coefficients = same i; bound = bound i } in
    one_reduced b.sum first second (subst (λ (r : Inequality). IsReduced r first) sums a.is_reduced) b.is_reduced

-- the sum meets the requirements of a sum in an elimination
pub is_sum_of : (unknown : ℕ) (upper lower row : Inequality) → length lower.coefficients ≡ length upper.coefficients → IsReducedSum unknown upper lower row → IsSumOf unknown upper lower row
is_sum_of unknown upper lower row same s =
    sum_of_multiples unknown 1 s.x s.y upper lower row upper lower s.sum (omega arith) s.cancels (multiple_of_reduced s.sum row s.is_reduced) (multiple_of_itself upper) (multiple_of_itself lower) (rows_summed s.x s.y upper lower s.sum same s.coefficients s.bound)

-- the multipliers of two sums of two rows are proportional, if an unknown cancels in both
crossed_weights : (a1 b1 a2 b2 : ℕ) (a b : ℤ) → b <ℤ pos 0 → (pos a1 *ℤ a) +ℤ (pos b1 *ℤ b) ≡ pos 0 → (pos a2 *ℤ a) +ℤ (pos b2 *ℤ b) ≡ pos 0 → pos 0 <ℤ a → a2 * b1 ≡ a1 * b2
crossed_weights a1 b1 a2 b2 a b below e f above =
    let m = unsigned_abs a in
    let n = unsigned_abs b in
    let p : a1 * m ≡ b1 * n = sizes_cancel a b a1 b1 above below e in
    let q : a2 * m ≡ b2 * n = sizes_cancel a b a2 b2 above below f in
    let r : a1 * b2 ≡ b1 * a2 = crossed m n a1 b1 a2 b2 (size_above a above) p q in
    omega (arith, r)

-- one number of both sums
part_in_ratio : (f1 a1 b1 f2 a2 b2 : ℕ) (r1 r2 u l : ℤ) → a2 * b1 ≡ a1 * b2 → pos f1 *ℤ r1 ≡ (pos a1 *ℤ u) +ℤ (pos b1 *ℤ l) → pos f2 *ℤ r2 ≡ (pos a2 *ℤ u) +ℤ (pos b2 *ℤ l) → pos (a2 * f1) *ℤ r1 ≡ pos (a1 * f2) *ℤ r2
part_in_ratio f1 a1 b1 f2 a2 b2 r1 r2 u l c e f =
    let left : pos (a2 * f1) *ℤ r1 ≡ (pos a2 *ℤ (pos a1 *ℤ u)) +ℤ (pos a2 *ℤ (pos b1 *ℤ l)) = mul_assoc (pos a2) (pos f1) r1 ∙ ap (λ (z : ℤ). pos a2 *ℤ z) e ∙ mul_add (pos a2) (pos a1 *ℤ u) (pos b1 *ℤ l) in
    let right : pos (a1 * f2) *ℤ r2 ≡ (pos a1 *ℤ (pos a2 *ℤ u)) +ℤ (pos a1 *ℤ (pos b2 *ℤ l)) = mul_assoc (pos a1) (pos f2) r2 ∙ ap (λ (z : ℤ). pos a1 *ℤ z) f ∙ mul_add (pos a1) (pos a2 *ℤ u) (pos b2 *ℤ l) in
    let one : pos a2 *ℤ (pos a1 *ℤ u) ≡ pos a1 *ℤ (pos a2 *ℤ u) = mul_swap (pos a2) (pos a1) u in
    let two : pos a2 *ℤ (pos b1 *ℤ l) ≡ pos a1 *ℤ (pos b2 *ℤ l) = sym (mul_assoc (pos a2) (pos b1) l) ∙ ap (λ (n : ℕ). pos n *ℤ l) c ∙ mul_assoc (pos a1) (pos b2) l in
    left ∙ ap (λ (z : ℤ). z +ℤ (pos a2 *ℤ (pos b1 *ℤ l))) one ∙ ap (λ (z : ℤ). (pos a1 *ℤ (pos a2 *ℤ u)) +ℤ z) two ∙ sym right

-- two sums of two rows in which an unknown cancels are proportional
pub sums_in_ratio : (unknown : ℕ) (upper lower first second : Inequality) → pos 0 <ℤ coefficient unknown upper → coefficient unknown lower <ℤ pos 0 → length second.coefficients ≡ length first.coefficients → IsSumOf unknown upper lower first → IsSumOf unknown upper lower second → AreInRatio first second
sums_in_ratio unknown upper lower first second above below same s t =
    let zero_first = sym (s.coefficients unknown) ∙ ap (λ (z : ℤ). pos s.factor *ℤ z) s.cancels ∙ *ℤ-zero (pos s.factor) in
    let zero_second = sym (t.coefficients unknown) ∙ ap (λ (z : ℤ). pos t.factor *ℤ z) t.cancels ∙ *ℤ-zero (pos t.factor) in
    let c = crossed_weights s.first s.second t.first t.second (coefficient unknown upper) (coefficient unknown lower) below zero_first zero_second above in
    record {
      p = t.first * s.factor;
      q = s.first * t.factor;
      first_positive = positive_product t.first s.factor t.first_positive s.factor_positive;
      second_positive = positive_product s.first t.factor s.first_positive t.factor_positive;
      same_unknowns = same;
      coefficients = λ u. part_in_ratio s.factor s.first s.second t.factor t.first t.second _ _ _ _ c (s.coefficients u) (t.coefficients u);
      bound = part_in_ratio s.factor s.first s.second t.factor t.first t.second _ _ _ _ c s.bound t.bound;
    }

-- with the least multipliers, under any names, the numbers of the sum are computed within 128 bits
pub bound_fits : (unknown : ℕ) (upper lower row : Inequality) (x y : ℕ) → Cancels (coefficient unknown upper) (coefficient unknown lower) x y → IsReducedSum unknown upper lower row → MixFits x y upper.bound lower.bound
bound_fits unknown upper lower row x y c s =
    let w = one_weights _ _ x y s.x s.y s.above s.below c s.cancels in
    subst (λ (n : ℕ). MixFits n y upper.bound lower.bound) (sym w.first) (subst (λ (n : ℕ). MixFits s.x n upper.bound lower.bound) (sym w.second) s.bound_within)

pub numbers_fit : (unknown : ℕ) (upper lower row : Inequality) (x y : ℕ) → Cancels (coefficient unknown upper) (coefficient unknown lower) x y → IsReducedSum unknown upper lower row → MixesWithin x y upper.coefficients lower.coefficients
numbers_fit unknown upper lower row x y c s =
    let w = one_weights _ _ x y s.x s.y s.above s.below c s.cancels in
    subst (λ (n : ℕ). MixesWithin n y upper.coefficients lower.coefficients) (sym w.first) (subst (λ (n : ℕ). MixesWithin s.x n upper.coefficients lower.coefficients) (sym w.second) s.coefficients_within)
