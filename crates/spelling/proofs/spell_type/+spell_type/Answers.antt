use Rattle.spelling.proofs.PatternCommas.{types_comma_list}
use Rattle.spelling.proofs.Steps.{three_parts}
use Rattle.spelling.proofs.spell_type.+spell_type.Goals as goal

pub spell_types-returns : goal.spell_types-returns
spell_types-returns t c =
    three_parts _ _ _ _ c.in_ok-spell_type.ensures c.in_ok-spell_more_types.ensures c.in_ok-push_last_comma.ensures (types_comma_list c.args.types.now c.in-Some.first.now c.in-Some.rest.now c.args.last_comma c.in-Some.ensures.cases.0)
