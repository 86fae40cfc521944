use Rattle.std.proofs.Common.{refl, sym, ◌∙◌, subst}
use Rattle.std.specs.Prelude.{All}
use Rattle.std.proofs.lemmas.List.{take_all}
use Rattle.std.proofs.lemmas.List.Elements.{All-more}
use Rattle.linear_arith.specs.Substitution.{Meets}
use Rattle.step_checks.proofs.RestLemmas.{false_not}
use Rattle.step_checks.proofs.met_rows.rows.meets_rows.Goals as goal

pub loop-row-preserved : goal.loop-row-preserved
loop-row-preserved c =
    let rows = c.as_slice-row-items.result.now in
    let values = c.args.values.now in
    let i = c.loop-row.row-index in
    let here : Meets values c.row-item.result = c.in_ok-meets.ensures.0 c.if-not-branch.false in
    All-more (Meets values) rows i c.row-item.result c.loop-row-test.true c.loop-row.invariant (subst (Meets values) c.row-item.is here)

pub returns-then-not-are_positive : goal.returns-then-not-are_positive
returns-then-not-are_positive c = (λ t. false_not t, λ s. sym c.if-not-are_positive.true ∙ c.are_positive.ensures.1 s.positive)

pub returns-then-not-branch : goal.returns-then-not-branch
returns-then-not-branch c = (
  λ t. false_not t,
  λ s. sym c.if-not-branch.true ∙ c.in_ok-meets.ensures.1 (
      let rows = c.as_slice-row-items.result.now in
      let met = subst (All (Meets c.args.values.now)) (sym c.as_slice-row-items.ensures) s.met in
      subst (Meets c.args.values.now) (sym c.row-item.is) (met c.loop-row.row-index c.row-item.result c.loop-row-test.true)),
)

pub returns : goal.returns
returns c = (
  λ t. record {
    positive = c.are_positive.ensures.0 c.if-not-are_positive.false;
    met = subst (All (Meets c.args.values.now)) c.as_slice-row-items.ensures (subst (All (Meets c.args.values.now)) (take_all c.loop-row.row-index c.as_slice-row-items.result.now c.loop-row-test.false) c.loop-row.invariant);
  },
  λ s. refl,
)
