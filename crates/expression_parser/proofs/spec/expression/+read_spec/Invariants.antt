use Rattle.std.proofs.Common.{◌≡◌, ◌+◌, ◌*◌, ◌-◌, [], true, false, length}
use Rattle.tokens.specs.declared.token.Punctuation.TheVariants.{RightBrace}
use Rattle.parser_base.specs.TokenReading.{after_sign}
use Rattle.parser_base.specs.ListReading.{items_at, put_before}
use Rattle.parser_base.specs.ChainReading.{chain_at}
use Rattle.parser_base.specs.TypeReading.{type_at}
use Rattle.expression_parser.specs.RepeatReading.{repeat_at, whole_repeat_at}
use Rattle.expression_parser.specs.OperatorReading.{spec_joints}
use Rattle.expression_parser.specs.LeafReading.{has_postfix}
use Rattle.expression_parser.specs.SpecReading.{spec_at, bind_at, binds_end, spec_field_at, has_trigger, trigger_at, operated_at, postfix_at}
use Rattle.expression_parser.proofs.spec.expression.+read_spec.Given as goal

abbrev pub decreases-read_spec : goal.decreases-read_spec
decreases-read_spec l = 24 * l.budget

abbrev pub decreases-read_spec_form : goal.decreases-read_spec_form
decreases-read_spec_form l = 24 * l.budget + 23

abbrev pub decreases-read_if : goal.decreases-read_if
decreases-read_if l = 24 * l.budget + 22

abbrev pub decreases-read_quantified : goal.decreases-read_quantified
decreases-read_quantified l = 24 * l.budget + 21

abbrev pub decreases-read_binds : goal.decreases-read_binds
decreases-read_binds l = 24 * l.budget + 20

abbrev pub decreases-read_bind : goal.decreases-read_bind
decreases-read_bind l = 24 * l.budget + 19

abbrev pub decreases-read_triggers : goal.decreases-read_triggers
decreases-read_triggers l = 24 * l.budget + 18

abbrev pub decreases-read_operated : goal.decreases-read_operated
decreases-read_operated l = 24 * l.budget + 17

abbrev pub decreases-read_operand : goal.decreases-read_operand
decreases-read_operand l = 24 * l.budget + 16

abbrev pub decreases-read_postfixes : goal.decreases-read_postfixes
decreases-read_postfixes l = 24 * l.budget + 15

abbrev pub decreases-read_postfix : goal.decreases-read_postfix
decreases-read_postfix l = 24 * l.budget + 14

abbrev pub decreases-read_term : goal.decreases-read_term
decreases-read_term l = 24 * l.budget + 13

abbrev pub decreases-read_plain_term : goal.decreases-read_plain_term
decreases-read_plain_term l = 24 * l.budget + 12

abbrev pub decreases-read_path_form : goal.decreases-read_path_form
decreases-read_path_form l = 24 * l.budget + 11

abbrev pub decreases-read_applied : goal.decreases-read_applied
decreases-read_applied l = 24 * l.budget + 10

abbrev pub decreases-read_call : goal.decreases-read_call
decreases-read_call l = 24 * l.budget + 9

abbrev pub decreases-read_values : goal.decreases-read_values
decreases-read_values l = 24 * l.budget + 8

abbrev pub decreases-read_pack : goal.decreases-read_pack
decreases-read_pack l = 24 * l.budget + 7

abbrev pub decreases-read_spec_fields : goal.decreases-read_spec_fields
decreases-read_spec_fields l = 24 * l.budget + 6

abbrev pub decreases-read_some_fields : goal.decreases-read_some_fields
decreases-read_some_fields l = 24 * l.budget + 5

abbrev pub decreases-read_spec_field : goal.decreases-read_spec_field
decreases-read_spec_field l = 24 * l.budget + 4

abbrev pub decreases-read_specs : goal.decreases-read_specs
decreases-read_specs l = 24 * l.budget + 2

abbrev pub decreases-read_condition : goal.decreases-read_condition
decreases-read_condition l = 24 * l.budget + 1

abbrev pub invariant-read_binds-loop : goal.invariant-read_binds-loop
invariant-read_binds-loop l =
    items_at binds_end (bind_at (type_at l.budget) (spec_at l.budget false 0)) (length l.tokens) l.tokens
    ≡ put_before l.binds.items (items_at binds_end (bind_at (type_at l.budget) (spec_at l.budget false 0)) (length l.tokens - l.counter) l.rest)

abbrev pub invariant-read_triggers-loop : goal.invariant-read_triggers-loop
invariant-read_triggers-loop l =
    whole_repeat_at has_trigger (trigger_at (spec_at l.budget true 0)) [] l.tokens
    ≡ repeat_at has_trigger (trigger_at (spec_at l.budget true 0)) (length l.tokens + 1 - l.counter) l.triggers.items l.rest

abbrev pub invariant-read_operated-loop : goal.invariant-read_operated-loop
invariant-read_operated-loop l =
    operated_at (type_at l.budget) (spec_at l.budget) l.packs l.minimum l.tokens
    ≡ chain_at spec_joints (spec_at l.budget l.packs) l.minimum (l.end - l.counter) l.whole.value l.rest

abbrev pub invariant-read_postfixes-loop : goal.invariant-read_postfixes-loop
invariant-read_postfixes-loop l =
    whole_repeat_at has_postfix (postfix_at (spec_at l.budget true 0)) l.fn.base.value l.tokens
    ≡ repeat_at has_postfix (postfix_at (spec_at l.budget true 0)) (length l.tokens + 1 - l.counter) l.whole.value l.rest

abbrev pub invariant-read_specs-loop : goal.invariant-read_specs-loop
invariant-read_specs-loop l =
    items_at (after_sign l.close) (spec_at l.budget true 0) (length l.tokens) l.tokens
    ≡ put_before l.items.items (items_at (after_sign l.close) (spec_at l.budget true 0) (length l.tokens - l.counter) l.rest)

abbrev pub invariant-read_some_fields-loop : goal.invariant-read_some_fields-loop
invariant-read_some_fields-loop l =
    items_at (after_sign RightBrace) (spec_field_at (spec_at l.budget true 0)) (length l.tokens) l.tokens
    ≡ put_before l.items.items (items_at (after_sign RightBrace) (spec_field_at (spec_at l.budget true 0)) (length l.tokens - l.counter) l.rest)
