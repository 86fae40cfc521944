use Rattle.std.proofs.Common.{◌≡◌, [], take, drop}
use Rattle.scopes.specs.Twice.{first_twice, modules_named, members_named}
use Rattle.scopes.proofs.modules.twice.first_twice.Given as goal

abbrev pub invariant-loop-member : goal.invariant-loop-member
invariant-loop-member l =
    (first_twice l.environment [] l.members ≡ first_twice l.environment (take l.member-index l.members) (drop l.member-index l.members))
    × (l.seen.modules.keys ≡ modules_named l.environment (take l.member-index l.members))
    × (l.seen.members.keys ≡ members_named l.environment (take l.member-index l.members))
