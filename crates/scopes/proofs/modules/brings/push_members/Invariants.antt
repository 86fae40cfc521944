use Rattle.std.proofs.Common.{◌≡◌, ◌++◌, take}
use Rattle.std.specs.List.{flat_map}
use Rattle.scopes.specs.Brings.{member_modules, member_members}
use Rattle.scopes.proofs.modules.brings.push_members.Given as goal

abbrev pub invariant-loop-member : goal.invariant-loop-member
invariant-loop-member l =
    (l.into_modules.entries.items ≡ l.initial.into_modules.entries.items ++ flat_map (member_modules l.environment) (take l.member-index l.members))
    × (l.into_members.entries.items ≡ l.initial.into_members.entries.items ++ flat_map (member_members l.environment) (take l.member-index l.members))
