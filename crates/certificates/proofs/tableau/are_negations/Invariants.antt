use Rattle.fol.specs.FormulaData.{NotFormula}
use Rattle.certificates.proofs.Pointwise.{AlikeFrom}
use Rattle.certificates.proofs.tableau.are_negations.Given as goal

abbrev pub invariant-loop-i : goal.invariant-loop-i
invariant-loop-i l = AlikeFrom (λ p. p) NotFormula l.i l.formulas l.of
