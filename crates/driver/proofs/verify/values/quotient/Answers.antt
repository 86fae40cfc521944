use Rattle.std.proofs.Common.{rules, FitsSigned, ◌≡◌, ◌*ℤ◌, sym, subst}
use Rattle.std.specs.Int.{w128}
use Rattle.std.proofs.lemmas.Int.{to_z-of_z}
use Rattle.linear_arith.specs.Floor.{IsFloor}
use Rattle.driver.proofs.ValueLemmas.{exact}
use Rattle.driver.proofs.verify.values.quotient.Goals as goal

pub returns : goal.returns
returns c =
    let value = c.args.value in
    let a : FitsSigned w128 value.numerator = search rules in
    let b : FitsSigned w128 value.denominator = search rules in
    let d = simp to_z-of_z at c.unsigned_abs.ensures.value in
    let floor = subst (λ z. IsFloor z c.unsigned_abs.result c.floor_quotient.result) (to_z-of_z w128 value.numerator a) c.floor_quotient.ensures in
    let f : FitsSigned w128 c.floor_quotient.result = search rules in
    subst (λ z. value.numerator ≡ z *ℤ value.denominator) (sym (to_z-of_z w128 c.floor_quotient.result f))
    (exact value c.floor_quotient.result c.requires.positive c.requires.whole (subst (λ n. IsFloor value.numerator n c.floor_quotient.result) d floor))
