use Rattle.syntax_tree.specs.MemberSpelling.{parameter_spelling}
use Rattle.spelling.proofs.MemberCommas.{mapped_comma_list}
use Rattle.spelling.proofs.Steps.{three_parts}
use Rattle.spelling.proofs.spell_member.spell_parameter_list.Goals as goal

pub returns : goal.returns
returns c =
    three_parts _ _ _ _ c.in_ok-spell_parameter.ensures c.in_ok-spell_more_parameter_list.ensures c.in_ok-push_last_comma.ensures (mapped_comma_list parameter_spelling c.args.parameters.now c.in-Some.first.now c.in-Some.rest.now c.args.last_comma c.in-Some.ensures.cases.0)
