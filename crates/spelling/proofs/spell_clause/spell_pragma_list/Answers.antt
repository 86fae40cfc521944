use Rattle.spelling.proofs.MemberCommas.{mapped_comma_list}
use Rattle.spelling.proofs.Steps.{three_parts}
use Rattle.syntax_tree.specs.ClauseSpelling.{pragma_spelling}
use Rattle.spelling.proofs.spell_clause.spell_pragma_list.Goals as goal

pub returns : goal.returns
returns c =
    three_parts _ _ _ _ c.in_ok-spell_pragma.ensures c.in_ok-spell_more_pragmas.ensures c.in_ok-push_last_comma.ensures (mapped_comma_list pragma_spelling c.args.pragmas.now c.in-Some.first.now c.in-Some.rest.now c.args.last_comma c.in-Some.ensures.cases.0)
