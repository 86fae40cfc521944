use Rattle.std.proofs.Common.{arith, sym, ap, ◌∙◌, length, Some, None}
use Rattle.parser_base.proofs.MarkerLemmas.{finds_answer, finding_ends, finding_goes_on, finding_is_over}
use Rattle.parser_base.proofs.marker.first_marker.Goals as goal

pub returns-then-is_marker : goal.returns-then-is_marker
returns-then-is_marker c =
    finds_answer c.args.tokens.now (Some c.loop-token.index)
    (finding_ends _ _ _ _ _ c.loop-token.invariant.0 c.in-Some.ensures.cases.0 (sym c.is_marker.ensures ∙ c.if-is_marker.true))

pub loop-token-preserved : goal.loop-token-preserved
loop-token-preserved c = (
  finding_goes_on _ _ _ _ _ c.loop-token.invariant.0 c.in-Some.ensures.cases.0 (sym c.is_marker.ensures ∙ c.if-is_marker.false),
  omega (arith, c.loop-token.invariant.1, ap length c.in-Some.ensures.cases.0),
)

pub returns : goal.returns
returns c = finds_answer c.args.tokens.now None (finding_is_over _ _ _ c.loop-token.invariant.0 c.in_default.ensures.cases)
