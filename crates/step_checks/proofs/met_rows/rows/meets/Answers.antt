use Rattle.std.proofs.Common.{pos, take, sym, subst}
use Rattle.std.proofs.lemmas.List.{take_all}
use Rattle.std.proofs.lemmas.List.Sums.{fold_more}
use Rattle.linear_arith.specs.declared.rows.Fraction.{Fraction}
use Rattle.linear_arith.specs.Substitution.{LinearForm, form_of, put_in, put_in_all}
use Rattle.step_checks.specs.Rests.{IsRestOf}
use Rattle.step_checks.proofs.met_rows.rows.meets.Goals as goal

abbrev none : Fraction
none = record { unknown = 0; numerator = pos 0; denominator = pos 0 }

pub with_value-requires : goal.with_value-requires
with_value-requires c = c.requires c.loop-value.value-index none c.loop-value-test.true

pub loop-value-preserved : goal.loop-value-preserved
loop-value-preserved c =
    let values = c.args.values.now in
    let i = c.loop-value.value-index in
    let before = put_in_all (form_of c.args.row.now) (take i values) in
    subst (λ (f : LinearForm). IsRestOf f c.in_ok-rest-2.rest) (sym (fold_more put_in (form_of c.args.row.now) values i none c.loop-value-test.true))
    (c.in_ok-rest-2.ensures before c.loop-value.invariant)

pub returns : goal.returns
returns c =
    let values = c.args.values.now in
    c.is_true.ensures (put_in_all (form_of c.args.row.now) values)
    (subst (λ vs. IsRestOf (put_in_all (form_of c.args.row.now) vs) c.loop-value.rest) (take_all c.loop-value.value-index values c.loop-value-test.false) c.loop-value.invariant)
