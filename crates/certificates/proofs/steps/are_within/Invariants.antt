use Rattle.std.proofs.Common.{take}
use Rattle.std.specs.Prelude.{All}
use Rattle.certificates.specs.Closes.{IsWithin}
use Rattle.certificates.proofs.steps.are_within.Given as goal

abbrev pub invariant-loop-formula : goal.invariant-loop-formula
invariant-loop-formula l = All (IsWithin l.limit) (take l.formula-index l.formulas)
