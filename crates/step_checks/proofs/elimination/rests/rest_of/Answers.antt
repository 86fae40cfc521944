use Rattle.std.proofs.Common.{rules, ◌≡◌, ◌≢◌, ◌<◌, ◌∷◌, ◌++◌, [], List, pos, get_or, take, length, FitsSigned, arith, ◌∙◌, sym, subst}
use Rattle.std.specs.Int.{w128}
use Rattle.std.proofs.lemmas.Int.{ints}
use Rattle.std.proofs.lemmas.List.{take_more}
use Rattle.linear_arith.specs.Inequality.{Inequality}
use Rattle.linear_arith.specs.declared.rows.Fraction.{Fraction}
use Rattle.linear_arith.specs.Rest.{IsRest}
use Rattle.linear_arith.specs.Rest.IsRest.{none, absent, put}
use Rattle.step_checks.proofs.AlikeLemmas.{no_rest}
use Rattle.step_checks.proofs.elimination.rests.rest_of.Goals as goal
use Rattle.step_checks.proofs.elimination.rests.rest_of.Goals.{then-coefficient-ne0+in_ok-next+in-Some, else-coefficient-ne0}

pub loop-value-init : goal.loop-value-init
loop-value-init c = subst (λ (r : Inequality). IsRest c.args.row.now [] r) (sym c.in_ok-left.ensures) none

pub loop-value-preserved : goal.loop-value-preserved
loop-value-preserved c =
    let row = c.args.row.now in
    let values = c.args.values.now in
    let i = c.loop-value.value-index in
    let left = c.loop-value.left in
    let blank : Fraction = record { unknown = 0; numerator = pos 0; denominator = pos 0 } in
    let chosen : Fraction = get_or values i blank in
    let lt : i < length values = omega arith in
    let more = take_more values i blank lt in
    let f : FitsSigned w128 c.coefficient.result = search rules in
    elim c.if-coefficient-ne0.branch [
      | then-coefficient-ne0+in_ok-next+in-Some w ↦
          let e = rw w.in-Some.is at w.in_ok-next.ensures.some in
          let n : c.coefficient.result ≢ pos 0 = omega (arith, ints) in
          subst (λ (vs : List Fraction). IsRest row vs c.if-coefficient-ne0.left) (sym more) (subst (λ (r : Inequality). IsRest row (take i values ++ chosen ∷ []) r) (sym w.left-is) (put (take i values) chosen left w.in-Some.next c.loop-value.invariant (λ z. n (c.coefficient.ensures ∙ z)) e))
      | else-coefficient-ne0 w ↦
          let z : c.coefficient.result ≡ pos 0 = omega (arith, ints) in
          subst (λ (vs : List Fraction). IsRest row vs c.if-coefficient-ne0.left) (sym more) (subst (λ (r : Inequality). IsRest row (take i values ++ chosen ∷ []) r) (sym w.left-is) (absent (take i values) chosen left c.loop-value.invariant (sym c.coefficient.ensures ∙ z)))
    ]

pub returns-in_default-clause-none : goal.returns-in_default-clause-none
returns-in_default-clause-none c = λ rest h.
    let values = c.args.values.now in
    let i = c.loop-value.value-index in
    let blank : Fraction = record { unknown = 0; numerator = pos 0; denominator = pos 0 } in
    let lt : i < length values = omega arith in
    let f : FitsSigned w128 c.coefficient.result = search rules in
    let n : c.coefficient.result ≢ pos 0 = omega (arith, ints) in
    let leaves = rw c.in_default.is at c.in_ok-next.ensures.none in
    no_rest c.args.row.now c.loop-value.left rest values i blank c.requires lt c.loop-value.invariant (λ z. n (c.coefficient.ensures ∙ z)) leaves h
