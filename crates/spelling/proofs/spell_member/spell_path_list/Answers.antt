use Rattle.syntax_tree.specs.PathSpelling.{path_spelling}
use Rattle.spelling.proofs.MemberCommas.{mapped_comma_list}
use Rattle.spelling.proofs.Steps.{three_parts}
use Rattle.spelling.proofs.spell_member.spell_path_list.Goals as goal

pub returns : goal.returns
returns c =
    three_parts _ _ _ _ c.in_ok-spell_path.ensures c.in_ok-spell_more_path_list.ensures c.in_ok-push_last_comma.ensures (mapped_comma_list path_spelling c.args.paths.now c.in-Some.first.now c.in-Some.rest.now c.args.last_comma c.in-Some.ensures.cases.0)
