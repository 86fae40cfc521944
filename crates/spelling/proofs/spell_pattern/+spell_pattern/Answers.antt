use Rattle.spelling.proofs.PatternCommas.{patterns_comma_list, field_patterns_comma_list}
use Rattle.spelling.proofs.Steps.{three_parts}
use Rattle.spelling.proofs.spell_pattern.+spell_pattern.Goals as goal

pub spell_patterns-returns : goal.spell_patterns-returns
spell_patterns-returns t c =
    three_parts _ _ _ _ c.in_ok-spell_pattern.ensures c.in_ok-spell_more_patterns.ensures c.in_ok-push_last_comma.ensures (patterns_comma_list c.args.patterns.now c.in-Some.first.now c.in-Some.rest.now c.args.last_comma c.in-Some.ensures.cases.0)

pub spell_field_patterns-returns : goal.spell_field_patterns-returns
spell_field_patterns-returns t c =
    three_parts _ _ _ _ c.in_ok-spell_field_pattern.ensures c.in_ok-spell_more_fields.ensures c.in_ok-push_last_comma.ensures (field_patterns_comma_list c.args.fields.now c.in-Some.first.now c.in-Some.rest.now c.args.last_comma c.in-Some.ensures.cases.0)
