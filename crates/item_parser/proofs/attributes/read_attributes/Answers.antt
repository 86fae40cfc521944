use Rattle.std.proofs.Common.{arith, rules, length, ◌-◌, ◌+◌}
use Rattle.tokens.specs.declared.token.Punctuation.TheVariants.{NumberSign}
use Rattle.parser_base.specs.TokenReading.{sign_span_at}
use Rattle.item_parser.specs.AttributeReading.{placed_attribute_at, attributes_at}
use Rattle.parser_base.proofs.ListSteps.{fault_hands_on, IfNoTree-weaker}
use Rattle.parser_base.proofs.RepeatLemmas.{repeating_stops, repeating_is_over, repeating_fails, repeating_goes_on}
use Rattle.item_parser.proofs.attributes.read_attributes.Goals as goal

pub returns : goal.returns
unfolding attributes_at
returns c = repeating_is_over (sign_span_at NumberSign) placed_attribute_at _ _ _ _ c.loop.invariant (omega arith)

pub returns-in_default : goal.returns-in_default
unfolding attributes_at
returns-in_default c = repeating_stops (sign_span_at NumberSign) placed_attribute_at _ _ _ (length c.args.tokens.now - (c.loop.counter + 1)) _ c.loop.invariant (omega arith) (search rules)

pub returns-in_err-item : goal.returns-in_err-item
unfolding attributes_at
returns-in_err-item c =
    fault_hands_on c.from_residual.result _ _ _ c.from_residual.ensures.1
    (IfNoTree-weaker _ (repeating_fails (sign_span_at NumberSign) placed_attribute_at _ _ _ (length c.args.tokens.now - (c.loop.counter + 1)) _ _ c.loop.invariant (omega arith) (search rules)) c.in_err-item.ensures)

pub loop-preserved : goal.loop-preserved
loop-preserved c = repeating_goes_on (sign_span_at NumberSign) placed_attribute_at _ _ _ _ _ _ _ _ _ c.loop.invariant (omega arith) (search rules) c.in_ok-item.ensures c.in_ok-push.ensures.items
