use Rattle.std.proofs.Common.{rules, FitsSigned, position, sym, ◌∙◌, subst}
use Rattle.base.specs.Names.{same_name}
use Rattle.std.specs.Int.{w128}
use Rattle.std.proofs.lemmas.Int.{to_z-of_z}
use Rattle.driver.specs.OpenValues.{IsValueAt}
use Rattle.driver.proofs.verify.values.number_of.Goals as goal

pub returns-in-Some : goal.returns-in-Some
returns-in-Some c =
    let z = c.value_of.result in
    let f : FitsSigned w128 z = search rules in
    subst (λ y. IsValueAt c.args.pool.now c.args.values.now (position (same_name c.args.name.now) c.args.parameters.now) y) (sym (to_z-of_z w128 z f))
    (subst (λ o. IsValueAt c.args.pool.now c.args.values.now o z) (sym c.in-Some.is ∙ c.position_of.ensures) c.value_of.ensures)
