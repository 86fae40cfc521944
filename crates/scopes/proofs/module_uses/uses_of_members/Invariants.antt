use Rattle.std.proofs.Common.{◌≡◌, take}
use Rattle.std.specs.List.{flat_map}
use Rattle.scopes.specs.Uses.{member_uses}
use Rattle.scopes.proofs.module_uses.uses_of_members.Given as goal

abbrev pub invariant-loop-member : goal.invariant-loop-member
invariant-loop-member l = l.names ≡ flat_map (member_uses l.environment) (take l.member-index l.members)
