use Rattle.std.proofs.Common.{◌≡◌, ◌+◌, ◌≤◌, ◌++◌, length, take}
use Rattle.certificates.specs.Branch.{entries_of, IsCounted}
use Rattle.certificates.specs.Closes.{most_entries}
use Rattle.certificates.proofs.branch.extend.Given as goal

-- the formulas so far are at the end
abbrev pub invariant-loop-formula : goal.invariant-loop-formula
invariant-loop-formula l = record {
  counted : IsCounted l.branch;
  fits : length (entries_of l.fn.branch) + length l.formulas ≤ most_entries;
  entries : entries_of l.branch ≡ entries_of l.fn.branch ++ take l.formula-index l.formulas;
}
