use Rattle.std.proofs.Common.{rules, ◌≡◌, ◌≢◌, ◌<◌, ◌∷◌, ◌++◌, [], List, pos, get_or, take, drop, length, suc, FitsSigned, arith, ap, ◌∙◌, sym, subst}
use Rattle.std.specs.Int.{w128}
use Rattle.std.proofs.Math.Seq.{drop-cons}
use Rattle.std.proofs.lemmas.Int.{ints}
use Rattle.std.proofs.lemmas.List.{take_more, take-append-drop}
use Rattle.linear_arith.specs.Inequality.{Inequality}
use Rattle.linear_arith.specs.Rest.{IsRest}
use Rattle.linear_arith.specs.Rest.IsRest.{none, absent, put}
use Rattle.linear_arith.specs.Wide.IsWide.{value}
use Rattle.linear_arith.specs.declared.rows.Fraction.{Fraction}
use Rattle.linear_arith.proofs.substitution.put_in_all.Goals as goal
use Rattle.linear_arith.proofs.substitution.put_in_all.Goals.{then-coefficient-ne0+in_ok-next+in-Some, else-coefficient-ne0}

pub loop-value-init : goal.loop-value-init
loop-value-init c = subst (λ (r : Inequality). IsRest c.args.row.now [] r) (sym c.in_ok-left.ensures) none

pub loop-value-preserved : goal.loop-value-preserved
loop-value-preserved c =
    let row = c.args.row.now in
    let values = c.args.values.now in
    let i = c.loop-value.value-index in
    let left = c.loop-value.left in
    let blank : Fraction = record { unknown = 0; numerator = pos 0; denominator = pos 0 } in
    let chosen : Fraction = get_or values i blank in
    let lt : i < length values = omega arith in
    let more = take_more values i blank lt in
    let f : FitsSigned w128 c.coefficient.result = search rules in
    elim c.if-coefficient-ne0.branch [
      | then-coefficient-ne0+in_ok-next+in-Some w ↦
          let e = rw w.in-Some.is at w.in_ok-next.ensures.some in
          let n : c.coefficient.result ≢ pos 0 = omega (arith, ints) in
          subst (λ (vs : List Fraction). IsRest row vs c.if-coefficient-ne0.left) (sym more) (subst (λ (r : Inequality). IsRest row (take i values ++ chosen ∷ []) r) (sym w.left-is) (put (take i values) chosen left w.in-Some.next c.loop-value.invariant (λ z. n (c.coefficient.ensures ∙ z)) e))
      | else-coefficient-ne0 w ↦
          let z : c.coefficient.result ≡ pos 0 = omega (arith, ints) in
          subst (λ (vs : List Fraction). IsRest row vs c.if-coefficient-ne0.left) (sym more) (subst (λ (r : Inequality). IsRest row (take i values ++ chosen ∷ []) r) (sym w.left-is) (absent (take i values) chosen left c.loop-value.invariant (sym c.coefficient.ensures ∙ z)))
    ]

pub returns-in_default-clause-err : goal.returns-in_default-clause-err
returns-in_default-clause-err c = λ rows choosing found.
    let values = c.args.values.now in
    let i = c.loop-value.value-index in
    let blank : Fraction = record { unknown = 0; numerator = pos 0; denominator = pos 0 } in
    let chosen : Fraction = get_or values i blank in
    let lt : i < length values = omega arith in
    let f : FitsSigned w128 c.coefficient.result = search rules in
    let n : c.coefficient.result ≢ pos 0 = omega (arith, ints) in
    let leaves = rw c.in_default.is at c.in_ok-next.ensures.none in
    let parts : take i values ++ chosen ∷ drop (suc i) values ≡ values = ap (λ (vs : List Fraction). take i values ++ vs) (sym (drop-cons values i blank lt)) ∙ take-append-drop i values in (
      tt,
      tt,
      tt,
      rw c.left.view_is (value (record {
        values = values;
        choosing = choosing;
        row = c.args.row.now;
        is_found = found;
        earlier = take i values;
        value = chosen;
        later = drop (suc i) values;
        parts = parts;
        is_rest = c.loop-value.invariant;
        stands = λ z. n (c.coefficient.ensures ∙ z);
        is_value_row = c.in_ok-value_row.ensures;
        leaves = leaves;
      })),
      tt,
      tt,
    )
