use Rattle.std.proofs.Common.{◌≡◌, drop}
use Rattle.certificates.specs.Branch.{entries_of}
use Rattle.certificates.specs.Linear.{combined, total}
use Rattle.certificates.specs.LinearView.{part_of}
use Rattle.certificates.proofs.linear.total.Given as goal

-- the sum so far and the rest make the total
abbrev pub invariant-loop-multiple : goal.invariant-loop-multiple
invariant-loop-multiple l =
    combined (part_of l.part) (entries_of l.branch) l.sum (drop l.multiple-index l.multiples) ≡ total (part_of l.part) (entries_of l.branch) l.multiples
