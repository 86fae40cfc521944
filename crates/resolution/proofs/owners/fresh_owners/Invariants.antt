use Rattle.std.proofs.Common.{[], map, take}
use Rattle.resolution.specs.Known.{Schemas}
use Rattle.resolution.specs.Owners.{member_scope}
use Rattle.resolution.specs.OwnersSoFar.{AreOwnersFrom}
use Rattle.resolution.proofs.owners.fresh_owners.Given as goal

abbrev pub invariant-loop-member : goal.invariant-loop-member
invariant-loop-member l = (schemas : Schemas) → AreOwnersFrom (λ n. []) 0 (map (member_scope l.environment schemas) (take l.member-index l.members)) l.owners.items
