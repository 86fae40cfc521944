use Rattle.std.proofs.Common.{take}
use Rattle.std.specs.Prelude.{All}
use Rattle.certificates.specs.Branch.{entries_of}
use Rattle.certificates.specs.Linear.{MayCount}
use Rattle.certificates.proofs.linear.may_all_count.Given as goal

abbrev pub invariant-loop-multiple : goal.invariant-loop-multiple
invariant-loop-multiple l = All (MayCount (entries_of l.branch)) (take l.multiple-index l.multiples)
