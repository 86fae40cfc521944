use Rattle.std.proofs.Common.{◌≡◌, ◌++◌, [], take}
use Rattle.std.specs.List.{filter_map}
use Rattle.resolution.specs.Items.{AreKnown, items_behind}
use Rattle.resolution.specs.OwnersSoFar.{AreOwners, blocks_before}
use Rattle.resolution.specs.Parts.{ArePartsFrom, here_of}
use Rattle.resolution.specs.Programs.{friend_of_member}
use Rattle.resolution.proofs.parts.own_members.Given as goal

abbrev pub invariant-loop-number : goal.invariant-loop-number
invariant-loop-number l = record {
  parts : ArePartsFrom (here_of l.context) 0 (take l.number l.context.members.now) l.parts.items;
  friends : l.friends ≡ l.initial.friends ++ filter_map (friend_of_member (here_of l.context)) (take l.number l.context.members.now);
  owners : AreOwners (here_of l.context) (blocks_before (here_of l.context) (take l.number l.context.members.now)) l.owners.items;
  known : AreKnown (items_behind (here_of l.context) [] (take l.number l.context.members.now));
}
