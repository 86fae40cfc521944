use Rattle.std.proofs.Common.{◌≡◌, ◌++◌, take}
use Rattle.std.specs.List.{flat_map}
use Rattle.spelling.specs.MemberAfterCommas.{ability_after_comma}
use Rattle.spelling.proofs.spell_member.spell_more_ability_list.Given as goal

abbrev pub invariant-loop-one : goal.invariant-loop-one
invariant-loop-one l = l.into ≡ l.initial.into ++ flat_map ability_after_comma (take l.one-index l.abilities)
