use Rattle.std.proofs.Common.{take}
use Rattle.certificates.specs.Branch.{entries_of}
use Rattle.certificates.specs.Quantified.{IsNew}
use Rattle.certificates.proofs.quantified.is_new.Given as goal

abbrev pub invariant-loop-index : goal.invariant-loop-index
invariant-loop-index l = IsNew l.variable (take l.index (entries_of l.branch))
