-- Values between consecutive whole numbers.
use Rattle.std.proofs.Common.{◌≡◌, ◌↔◌, Bool, IsTrue, nat_eq, ℤ, pos, ◌+ℤ◌, ◌*ℤ◌, ◌<ℤ◌, FitsSigned, to_z, of_z, sym, ap, ◌∙◌, subst, arith}
use Rattle.std.specs.Int.{w128}
use Rattle.std.proofs.lemmas.Bool.{eqb-true, eq-eqb}
use Rattle.std.proofs.Math.IntN.{*ℤ_comm}
use Rattle.std.proofs.lemmas.Int.{ints, by_lt_z, to_z-of_z}
use Rattle.base.proofs.WholeNumbers.{mul_le}
use Rattle.linear_arith.specs.declared.rows.Fraction.{Fraction}
use Rattle.certificates.specs.Rows.{IsWholeValue}
use Rattle.certificates.specs.ProofTraces.{IsBetween}

less_of_products : (a b d : ℤ) → pos 0 <ℤ d → (a *ℤ d) <ℤ (b *ℤ d) → a <ℤ b
less_of_products a b d positive h = by_lt_z a b (λ less. less)
    (λ not_less. absurd (
    let p = mul_le d b a (omega (arith, ints, positive)) not_less in
    let left = *ℤ_comm d b in
    let right = *ℤ_comm d a in
    omega (arith, ints, p, left, right, h)))

-- such a value is not whole
pub not_whole : (k : ℤ) (v : Fraction) → pos 0 <ℤ v.denominator → IsBetween k v → IsWholeValue v → ⊥
not_whole k v positive between whole =
    let above = less_of_products k whole.number v.denominator positive (subst (λ z. (k *ℤ v.denominator) <ℤ z) whole.is between.above) in
    let below = less_of_products whole.number (k +ℤ pos 1) v.denominator positive (subst (λ z. z <ℤ ((k +ℤ pos 1) *ℤ v.denominator)) whole.is between.below) in
    omega (arith, ints, above, below)

-- the two numbers are determined
one_between : (k n : ℤ) (v : Fraction) → pos 0 <ℤ v.denominator → IsBetween k v → IsBetween n v → k ≡ n
one_between k n v positive h g =
    let under = h.above in
    let over = g.below in
    let first = less_of_products k (n +ℤ pos 1) v.denominator positive (omega (arith, ints, under, over)) in
    let low = g.above in
    let high = h.below in
    let second = less_of_products n (k +ℤ pos 1) v.denominator positive (omega (arith, ints, low, high)) in
    omega (arith, ints, first, second)

pub between_known : (k n : ℤ) (v : Fraction) (known : Bool) → pos 0 <ℤ v.denominator → IsBetween k v → IsTrue known ↔ (k ≡ n) → IsTrue known ↔ IsBetween n v
between_known k n v known positive h same = (λ t. subst (λ z. IsBetween z v) (same.0 t) h, λ g. same.1 (one_between k n v positive h g))

-- numbers of 128 bits are equal if their bits are
pub same_bits : (x y : ℤ) → FitsSigned w128 x → FitsSigned w128 y → IsTrue (nat_eq (of_z w128 x) (of_z w128 y)) ↔ (x ≡ y)
same_bits x y a b =
    (λ t. sym (to_z-of_z w128 x a) ∙ ap (to_z w128) (eqb-true (of_z w128 x) (of_z w128 y) t) ∙ to_z-of_z w128 y b, λ e. eq-eqb (of_z w128 x) (of_z w128 y) (ap (of_z w128) e))
