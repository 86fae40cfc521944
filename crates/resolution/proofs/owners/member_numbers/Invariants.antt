use Rattle.std.proofs.Common.{◌≡◌, drop}
use Rattle.scopes.specs.MemberNames.{same_name_of_kind}
use Rattle.scopes.specs.Brings.{firsts}
use Rattle.resolution.specs.Owners.{member_numbers, numbered_names}
use Rattle.resolution.proofs.owners.member_numbers.Given as goal

abbrev pub invariant-loop-number : goal.invariant-loop-number
invariant-loop-number l = firsts same_name_of_kind l.numbers (numbered_names l.number (drop l.number l.members)) ≡ member_numbers l.members
