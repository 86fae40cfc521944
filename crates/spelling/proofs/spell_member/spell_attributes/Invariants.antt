use Rattle.std.proofs.Common.{◌≡◌, ◌++◌, take}
use Rattle.std.specs.List.{flat_map}
use Rattle.syntax_tree.specs.MemberSpelling.{attribute_spelling}
use Rattle.spelling.proofs.spell_member.spell_attributes.Given as goal

abbrev pub invariant-loop-one : goal.invariant-loop-one
invariant-loop-one l = l.into ≡ l.initial.into ++ flat_map attribute_spelling (take l.one-index l.attributes)
