use Rattle.std.proofs.Common.{◌≡◌, take}
use Rattle.std.specs.Prelude.{None}
use Rattle.front_end.specs.LocalCounts.{excess_of_member, first_of}
use Rattle.front_end.proofs.locals.excess_of_module.Given as goal

abbrev pub invariant-loop-member : goal.invariant-loop-member
invariant-loop-member l = first_of excess_of_member (take l.member-index l.member-items) ≡ None
