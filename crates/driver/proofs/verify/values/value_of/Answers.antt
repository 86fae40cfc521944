use Rattle.std.proofs.Common.{rules, FitsSigned, sym, ap, ◌∙◌, subst}
use Rattle.std.specs.Int.{w128}
use Rattle.std.proofs.lemmas.Int.{to_z-of_z}
use Rattle.driver.specs.OpenValues.{IsNumber, IsValueOf, OfClass, fraction_of}
use Rattle.driver.proofs.ValueLemmas.{known_whole}
use Rattle.driver.proofs.verify.values.value_of.Goals as goal

pub whole_number-requires : goal.whole_number-requires
whole_number-requires c =
    known_whole c.args.pool.now c.args.values.now c.args.variable c.requires c.in-Some.number c.in-Some.ensures c.fraction_of.result (c.fraction_of.ensures ∙ ap (fraction_of c.args.values.now) c.class_of.ensures)

pub returns-in-Some : goal.returns-in-Some
returns-in-Some c =
    let z = c.whole_number.result in
    let f : FitsSigned w128 z = search rules in
    subst (IsValueOf c.args.pool.now c.args.values.now c.args.variable) (sym (to_z-of_z w128 z f))
    (OfClass c.in-Some.number c.in-Some.ensures (subst (λ o. IsNumber o z) (c.fraction_of.ensures ∙ ap (fraction_of c.args.values.now) c.class_of.ensures) c.whole_number.ensures))
