use Rattle.std.proofs.Common.{rules, ◌≡◌, ◌*ℤ◌, ℕ, pos, ℤ, List, ◌∷◌, [], ◌++◌, get_or, length, FitsSigned, arith, ap, ◌∙◌}
use Rattle.std.specs.Int.{w128}
use Rattle.std.proofs.lemmas.Int.{to_z-of_z}
use Rattle.linear_arith.proofs.ListLemmas.{each-push, ratio_everywhere}
use Rattle.linear_arith.proofs.reduction.divided.Goals as goal

pub exact_quotient-requires-clause-divides : goal.exact_quotient-requires-clause-divides
exact_quotient-requires-clause-divides c =
    let i = c.loop-coefficient.coefficient-index in
    let items : c.coefficients-coefficient-items.result.now ≡ c.args.row.now.coefficients = c.coefficients-coefficient-items.ensures in
    let len : length c.coefficients-coefficient-items.result.now ≡ length c.args.row.now.coefficients = ap length items in
    let f : FitsSigned w128 (get_or c.coefficients-coefficient-items.result.now i (pos 0)) = search rules in
    rw (to_z-of_z w128 _ f, items) (c.requires.divides.coefficients i (pos 0) (omega arith))

pub exact_quotient-requires-2-clause-divides : goal.exact_quotient-requires-2-clause-divides
exact_quotient-requires-2-clause-divides c =
    let f : FitsSigned w128 c.bound.result = search rules in
    rw (to_z-of_z w128 _ f, c.bound.ensures) c.requires.divides.bound

pub loop-coefficient-preserved : goal.loop-coefficient-preserved
loop-coefficient-preserved c =
    let i = c.loop-coefficient.coefficient-index in
    let old = c.loop-coefficient.coefficients.items in
    let items : c.coefficients-coefficient-items.result.now ≡ c.args.row.now.coefficients = c.coefficients-coefficient-items.ensures in
    let f : FitsSigned w128 (get_or c.coefficients-coefficient-items.result.now i (pos 0)) = search rules in
    let g : FitsSigned w128 c.exact_quotient.result = search rules in
    let pushed : c.push.new.self.items ≡ old ++ c.exact_quotient.result ∷ [] = simp to_z-of_z at c.in_ok-push.ensures.items in
    let q = simp to_z-of_z at c.exact_quotient.ensures in
    let e : pos c.args.divisor *ℤ c.exact_quotient.result ≡ get_or c.args.row.now.coefficients i (pos 0) = q ∙ ap (λ (xs : List ℤ). get_or xs i (pos 0)) items in
    let more = each-push (λ (k : ℕ) (z : ℤ). pos c.args.divisor *ℤ z ≡ get_or c.args.row.now.coefficients k (pos 0)) old c.exact_quotient.result (pos 0) i (omega arith) c.loop-coefficient.invariant.quotients e in
    let len = c.in_ok-push.ensures.len in
    record { len = omega (arith, len); quotients = rw pushed more }

pub returns : goal.returns
returns c =
    let items : c.coefficients-coefficient-items.result.now ≡ c.args.row.now.coefficients = c.coefficients-coefficient-items.ensures in
    let len : length c.coefficients-coefficient-items.result.now ≡ length c.args.row.now.coefficients = ap length items in
    let f : FitsSigned w128 c.bound.result = search rules in
    let g : FitsSigned w128 c.exact_quotient-2.result = search rules in
    let same : length c.loop-coefficient.coefficients.items ≡ length c.args.row.now.coefficients = omega arith in
    let made = simp to_z-of_z at c.new.ensures in
    let b = simp to_z-of_z at c.exact_quotient-2.ensures in
    rw made record {
      same_unknowns = same;
      coefficients = ratio_everywhere (pos c.args.divisor) c.loop-coefficient.coefficients.items c.args.row.now.coefficients same (λ k h. c.loop-coefficient.invariant.quotients k (omega arith));
      bound = b ∙ c.bound.ensures;
    }
