-- The moves of a certificate for a proof trace: each rule application is one move, and a closing one comes after the
-- steps of the explanation that leads to it.
use Rattle.std.specs.Prelude.{pos, ◌+ℤ◌, List, [], ◌∷◌, ◌++◌, map}
use Rattle.fol.specs.FormulaData.{NumTerm, EqFormula, LeFormula}
use Rattle.axioms.specs.Forms.{DifferFormula}
use Rattle.certificates.specs.CertData.{PartsStep, AxiomStep, InstanceStep, NameStep, MoveData, StraightMove, ForkedMove, ClosedMove}
use Rattle.certificates.specs.declared.certificate.Cause.TheVariants.{Split, Cut, Bound}
use Rattle.certificates.specs.ProofTraces.{Application, PartsApplication, NameApplication, InstanceApplication, AxiomApplication, SplitApplication, CutApplication, BoundApplication, CloseApplication}

abbrev pub moves_of : Application → List MoveData
moves_of (PartsApplication i ps) = StraightMove (PartsStep i ps) ∷ []
moves_of (NameApplication i v p) = StraightMove (NameStep i v p) ∷ []
moves_of (InstanceApplication i t p generation) = StraightMove (InstanceStep i t p) ∷ []
moves_of (AxiomApplication name p generation) = StraightMove (AxiomStep name p) ∷ []
moves_of (SplitApplication i ps) = ForkedMove (Split i) ps ∷ []
moves_of (CutApplication t u generation) = ForkedMove Cut (EqFormula t u ∷ DifferFormula t u ∷ []) ∷ []
moves_of (BoundApplication i t k) = ForkedMove (Bound i) (LeFormula t (NumTerm k) ∷ LeFormula (NumTerm (k +ℤ pos 1)) t ∷ []) ∷ []
moves_of (CloseApplication chain by) = map StraightMove chain ++ ClosedMove by ∷ []

-- the moves of a trace, in its order
abbrev pub all_moves : List Application → List MoveData
all_moves [] = []
all_moves (application ∷ applications) = moves_of application ++ all_moves applications
