use Rattle.std.proofs.Common.{take}
use Rattle.sum_module.proofs.MemberLemmas.{Reading}
use Rattle.sum_module.proofs.module.read_members.Given as goal

abbrev pub invariant-loop-member : goal.invariant-loop-member
invariant-loop-member l = Reading l.members l.parameters.table (take l.member-index l.members) l.seen l.found.items
