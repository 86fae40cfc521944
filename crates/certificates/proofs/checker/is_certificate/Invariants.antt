use Rattle.std.proofs.Common.{[], ◌∷◌}
use Rattle.fol.specs.FormulaData.{NotFormula}
use Rattle.certificates.specs.Open.{open_of, IsKept}
use Rattle.certificates.proofs.CheckerLemmas.{ClosesFrom}
use Rattle.certificates.proofs.checker.is_certificate.Given as goal

-- the remaining moves close the open branches
abbrev pub invariant-loop-made : goal.invariant-loop-made
invariant-loop-made l = record {
  kept : IsKept l.branches;
  rest : ClosesFrom l.shapes ((NotFormula l.formula ∷ []) ∷ []) (open_of l.branches) l.moves l.made-index;
}
