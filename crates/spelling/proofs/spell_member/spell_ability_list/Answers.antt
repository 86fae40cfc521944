use Rattle.syntax_tree.specs.MemberSpelling.{ability_spelling}
use Rattle.spelling.proofs.MemberCommas.{mapped_comma_list}
use Rattle.spelling.proofs.Steps.{three_parts}
use Rattle.spelling.proofs.spell_member.spell_ability_list.Goals as goal

pub returns : goal.returns
returns c =
    three_parts _ _ _ _ c.in_ok-spell_ability.ensures c.in_ok-spell_more_ability_list.ensures c.in_ok-push_last_comma.ensures (mapped_comma_list ability_spelling c.args.abilities.now c.in-Some.first.now c.in-Some.rest.now c.args.last_comma c.in-Some.ensures.cases.0)
