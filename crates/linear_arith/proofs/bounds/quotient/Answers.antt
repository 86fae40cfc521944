use Rattle.std.proofs.Common.{rules, ◌≡◌, ℕ, subst, pos, ℤ, ◌*ℤ◌, FitsSigned, ap, ◌∙◌, sym}
use Rattle.std.specs.Prelude.{unsigned_abs}
use Rattle.std.specs.Int.{w128, IsGcd}
use Rattle.std.proofs.lemmas.Int.{to_z-of_z}
use Rattle.linear_arith.proofs.NumberLemmas.{divisor_of_positive}
use Rattle.base.proofs.WholeNumbers.{mul_assoc, mul_swap}
use Rattle.linear_arith.proofs.BoundLemmas.{lowest_terms}
use Rattle.linear_arith.proofs.bounds.quotient.Goals as goal

pub exact_quotient-requires-clause-nonzero : goal.exact_quotient-requires-clause-nonzero
exact_quotient-requires-clause-nonzero c =
    let f : FitsSigned w128 c.args.upper.coefficient = search rules in
    let v : c.unsigned_abs-2.result ≡ unsigned_abs c.args.upper.coefficient = simp to_z-of_z at c.unsigned_abs-2.ensures.value in
    divisor_of_positive c.greatest_common_divisor-common.result c.unsigned_abs-2.result c.args.upper.coefficient v c.requires c.greatest_common_divisor-common.ensures.1

pub exact_quotient-requires-clause-divides : goal.exact_quotient-requires-clause-divides
exact_quotient-requires-clause-divides c = rw (← c.unsigned_abs.ensures.value) c.greatest_common_divisor-common.ensures.0

pub exact_quotient-requires-2-clause-nonzero : goal.exact_quotient-requires-2-clause-nonzero
exact_quotient-requires-2-clause-nonzero c =
    let f : FitsSigned w128 c.args.upper.coefficient = search rules in
    let v : c.unsigned_abs-2.result ≡ unsigned_abs c.args.upper.coefficient = simp to_z-of_z at c.unsigned_abs-2.ensures.value in
    divisor_of_positive c.greatest_common_divisor-common.result c.unsigned_abs-2.result c.args.upper.coefficient v c.requires c.greatest_common_divisor-common.ensures.1

pub exact_quotient-requires-2-clause-divides : goal.exact_quotient-requires-2-clause-divides
exact_quotient-requires-2-clause-divides c = rw (← c.unsigned_abs-2.ensures.value) c.greatest_common_divisor-common.ensures.1

pub returns-clause-lowest : goal.returns-clause-lowest
returns-clause-lowest c =
    let g = c.greatest_common_divisor-common.result in
    let n = c.exact_quotient.result in
    let d = c.exact_quotient-2.result in
    let fb : FitsSigned w128 c.args.upper.bound = search rules in
    let fc : FitsSigned w128 c.args.upper.coefficient = search rules in
    let fn : FitsSigned w128 n = search rules in
    let fd : FitsSigned w128 d = search rules in
    let u : c.unsigned_abs.result ≡ unsigned_abs c.args.upper.bound = simp to_z-of_z at c.unsigned_abs.ensures.value in
    let v : c.unsigned_abs-2.result ≡ unsigned_abs c.args.upper.coefficient = simp to_z-of_z at c.unsigned_abs-2.ensures.value in
    let p = divisor_of_positive g c.unsigned_abs-2.result c.args.upper.coefficient v c.requires c.greatest_common_divisor-common.ensures.1 in
    let b : pos g *ℤ n ≡ c.args.upper.bound = simp to_z-of_z at c.exact_quotient.ensures in
    let k : pos g *ℤ d ≡ c.args.upper.coefficient = simp to_z-of_z at c.exact_quotient-2.ensures in
    let gcd : IsGcd (unsigned_abs c.args.upper.bound) (unsigned_abs c.args.upper.coefficient) g = subst (λ (m : ℕ). IsGcd m (unsigned_abs c.args.upper.coefficient) g) u (subst (λ (m : ℕ). IsGcd c.unsigned_abs.result m g) v c.greatest_common_divisor-common.ensures) in
    rw (to_z-of_z w128 n fn, to_z-of_z w128 d fd) (lowest_terms g n d c.args.upper.bound c.args.upper.coefficient p b k gcd)

pub returns-clause-value : goal.returns-clause-value
returns-clause-value c =
    let g = pos c.greatest_common_divisor-common.result in
    let n = c.exact_quotient.result in
    let d = c.exact_quotient-2.result in
    let fb : FitsSigned w128 c.args.upper.bound = search rules in
    let fc : FitsSigned w128 c.args.upper.coefficient = search rules in
    let fn : FitsSigned w128 n = search rules in
    let fd : FitsSigned w128 d = search rules in
    let b : g *ℤ n ≡ c.args.upper.bound = simp to_z-of_z at c.exact_quotient.ensures in
    let k : g *ℤ d ≡ c.args.upper.coefficient = simp to_z-of_z at c.exact_quotient-2.ensures in
    rw (to_z-of_z w128 n fn, to_z-of_z w128 d fd) (ap (λ (z : ℤ). n *ℤ z) (sym k) ∙ mul_swap n g d ∙ sym (mul_assoc g n d) ∙ ap (λ (z : ℤ). z *ℤ d) b)
