use Rattle.std.proofs.Common.{rules, FitsSigned, pos, ◌<ℤ◌, ◌*ℤ◌, IfSome, sym, ap, ◌∙◌, subst, to_z, of_z}
use Rattle.std.specs.Int.{w128}
use Rattle.std.proofs.lemmas.Int.{to_z-of_z}
use Rattle.certificates.specs.Rows.{IsWholeValue}
use Rattle.driver.specs.OpenValues.{IsNumber, Likely}
use Rattle.driver.proofs.verify.values.whole_number.Goals as goal

pub quotient-requires-clause-positive : goal.quotient-requires-clause-positive
quotient-requires-clause-positive c = (subst (λ o. IfSome o (λ f. (pos 0 <ℤ f.denominator) × Likely (IsWholeValue f))) c.in-Some.is c.requires).0

pub quotient-requires-clause-whole : goal.quotient-requires-clause-whole
quotient-requires-clause-whole c = (subst (λ o. IfSome o (λ f. (pos 0 <ℤ f.denominator) × Likely (IsWholeValue f))) c.in-Some.is c.requires).1

pub returns-in-Some : goal.returns-in-Some
returns-in-Some c =
    let f : FitsSigned w128 c.quotient.result = search rules in
    subst (λ o. IsNumber o (to_z w128 (of_z w128 c.quotient.result))) (sym c.in-Some.is) (c.quotient.ensures ∙ ap (λ z. z *ℤ c.in-Some.value.denominator) (sym (to_z-of_z w128 c.quotient.result f)))
