use Rattle.std.proofs.Common.{arith, rules, length, ◌-◌, ◌+◌}
use Rattle.tokens.specs.declared.token.Punctuation.TheVariants.{Plus}
use Rattle.parser_base.specs.TokenReading.{after_sign}
use Rattle.parser_base.specs.AbilityReading.{ability_at, added_abilities_at}
use Rattle.parser_base.proofs.ListSteps.{fault_hands_on, IfNoTree-weaker}
use Rattle.parser_base.proofs.RepeatLemmas.{repeating_stops, repeating_is_over, repeating_fails, repeating_goes_on}
use Rattle.parser_base.proofs.abilities.read_added_abilities.Goals as goal

pub returns : goal.returns
unfolding added_abilities_at
returns c = repeating_is_over (after_sign Plus) ability_at _ _ _ _ c.loop.invariant (omega arith)

pub returns-in_default : goal.returns-in_default
unfolding added_abilities_at
returns-in_default c = repeating_stops (after_sign Plus) ability_at _ _ _ (length c.args.tokens.now - (c.loop.counter + 1)) _ c.loop.invariant (omega arith) (search rules)

pub returns-in_err-item : goal.returns-in_err-item
unfolding added_abilities_at
returns-in_err-item c =
    fault_hands_on c.from_residual-in_err-item.result _ _ _ c.from_residual-in_err-item.ensures.1
    (IfNoTree-weaker _ (repeating_fails (after_sign Plus) ability_at _ _ _ (length c.args.tokens.now - (c.loop.counter + 1)) _ _ c.loop.invariant (omega arith) (search rules)) c.in_err-item.ensures)

pub loop-preserved : goal.loop-preserved
loop-preserved c = repeating_goes_on (after_sign Plus) ability_at _ _ _ _ _ _ _ _ _ c.loop.invariant (omega arith) (search rules) c.in_ok-item.ensures c.in_ok-push-2.ensures.items
