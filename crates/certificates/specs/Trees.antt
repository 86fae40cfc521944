-- Certificates as trees of steps, each followed by the trees for the branches that it leaves, and the sequence of
-- moves of a tree.
use Rattle.std.specs.Prelude.{◌≡◌, ℕ, ℤ, pos, ◌+ℤ◌, List, [], ◌∷◌, ◌++◌}
use Rattle.axioms.specs.declared.axiom.Axiom.{Axiom}
use Rattle.fol.specs.FormulaData.{TermData, NumTerm, FormulaData, NotFormula, LeFormula}
use Rattle.fol.specs.declared.shapes.Shape.{Shape}
use Rattle.certificates.specs.Closes.{Certifies}
use Rattle.certificates.specs.CertData.{PartsStep, AxiomStep, InstanceStep, NameStep, RewriteStep, LinearClose, ClashClose, FalseClose, MoveData, StraightMove, ForkedMove, ClosedMove}
use Rattle.certificates.specs.declared.certificate.Cause.TheVariants.{Split, Cut, Bound}
use Rattle.certificates.specs.declared.certificate.Multiple.{Multiple}

mutual
  pub data TreeData : Type 0 where
    PartsTree : ℕ → List FormulaData → TreeData → TreeData
    SplitTree : ℕ → CasesData → TreeData
    CutTree : FormulaData → TreeData → TreeData → TreeData
    NameTree : ℕ → ℕ → FormulaData → TreeData → TreeData
    InstanceTree : ℕ → TermData → FormulaData → TreeData → TreeData
    RewriteTree : ℕ → ℕ → ℕ → FormulaData → FormulaData → TreeData → TreeData
    AxiomTree : Axiom → FormulaData → TreeData → TreeData
    BoundTree : ℕ → TermData → ℤ → TreeData → TreeData → TreeData
    LinearTree : List Multiple → TreeData
    ClashTree : ℕ → ℕ → TreeData
    FalseTree : ℕ → TreeData

  -- the cases of a split, each with its tree
  pub data CasesData : Type 0 where
    NoCases : CasesData
    MoreCases : FormulaData → TreeData → CasesData → CasesData

abbrev pub list_of_cases : CasesData → List FormulaData
list_of_cases NoCases = []
list_of_cases (MoreCases p next cs) = p ∷ list_of_cases cs

-- the moves in depth-first order: the first case of each fork until its branch is closed, and then the next
abbrev mutual
  pub moves_of : TreeData → List MoveData
  moves_of (PartsTree i ps next) = StraightMove (PartsStep i ps) ∷ moves_of next
  moves_of (SplitTree i cs) = ForkedMove (Split i) (list_of_cases cs) ∷ moves_of_cases cs
  moves_of (CutTree p next other) = ForkedMove Cut (p ∷ NotFormula p ∷ []) ∷ (moves_of next ++ moves_of other)
  moves_of (NameTree i v p next) = StraightMove (NameStep i v p) ∷ moves_of next
  moves_of (InstanceTree i t p next) = StraightMove (InstanceStep i t p) ∷ moves_of next
  moves_of (RewriteTree i j x c p next) = StraightMove (RewriteStep i j x c p) ∷ moves_of next
  moves_of (AxiomTree name p next) = StraightMove (AxiomStep name p) ∷ moves_of next
  moves_of (BoundTree i t k next other) =
      ForkedMove (Bound i) (LeFormula t (NumTerm k) ∷ LeFormula (NumTerm (k +ℤ pos 1)) t ∷ []) ∷ (moves_of next ++ moves_of other)
  moves_of (LinearTree ms) = ClosedMove (LinearClose ms) ∷ []
  moves_of (ClashTree i j) = ClosedMove (ClashClose i j) ∷ []
  moves_of (FalseTree i) = ClosedMove (FalseClose i) ∷ []

  pub moves_of_cases : CasesData → List MoveData
  moves_of_cases NoCases = []
  moves_of_cases (MoreCases p next cs) = moves_of next ++ moves_of_cases cs

-- each accepted certificate is the sequence of moves of a tree
abbrev pub AcceptedAreTrees : Type 0
AcceptedAreTrees =
    (shapes : List Shape) (moves : List MoveData) (p : FormulaData) → Certifies shapes moves p → (tree : TreeData) × (moves_of tree ≡ moves)
