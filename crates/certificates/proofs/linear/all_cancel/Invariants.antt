use Rattle.std.proofs.Common.{take}
use Rattle.std.specs.Prelude.{All}
use Rattle.certificates.specs.Branch.{entries_of}
use Rattle.certificates.specs.Unknowns.{Cancels}
use Rattle.certificates.proofs.linear.all_cancel.Given as goal

abbrev pub invariant-loop-multiple : goal.invariant-loop-multiple
invariant-loop-multiple l =
    All (Cancels (entries_of l.branch) l.multiples) (take l.multiple-index l.multiples)
