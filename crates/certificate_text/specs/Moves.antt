-- The moves of a certificate for the rule applications of a search, by number.
use Rattle.std.specs.Prelude.{◌≡◌, ℕ, ◌<◌, ◌^◌, Bool, true, false, List, [], ◌∷◌, ◌++◌, length, map, All}
use Rattle.std.specs.List.{AllZip}
use Rattle.fol.specs.declared.shapes.Shape.{Shape}
use Rattle.fol.specs.FormulaData.{FormulaData, AnyOfFormula, NoFormulas}
use Rattle.certificates.specs.CertData.{PartsStep, AxiomStep, InstanceStep, NameStep, MoveData, StraightMove, ForkedMove, ClosedMove}
use Rattle.certificates.specs.CertView.{close_of_node}
use Rattle.certificates.specs.declared.certificate.Cause.TheVariants.{Split as SplitCause, Cut as CutCause, Bound as BoundCause}
use Rattle.term_pool.specs.declared.node.Node.{Node}
use Rattle.certificates.specs.ProofTraces.{Application, AreDue, begun}
use Rattle.explanations.specs.Chains.{step_in}
use Rattle.explanations.specs.declared.chain.ChainStep.{ChainStep}
use Rattle.explanations.specs.declared.chain.ChainStep.TheVariants.{Itself, Rewritten}
use Rattle.search.specs.Applications.{term_at, formulas_of, IsApplicationOf}
use Rattle.search.specs.declared.trees.application.Reason.{Reason}
use Rattle.search.specs.declared.trees.application.Reason.TheVariants.{Parts, Name, Instance, Axiom, Split, Cut, Bound}
use Rattle.search.specs.declared.trees.application.Extension.{Extension}
use Rattle.search.specs.declared.trees.application.Closing.{Closing}
use Rattle.search.specs.declared.trees.application.PoolApplication.{PoolApplication}
use Rattle.search.specs.declared.trees.application.PoolApplication.TheVariants.{Grown, Closed}

-- ---- the move of a rule application

abbrev pub first_of : List FormulaData → FormulaData
first_of [] = AnyOfFormula NoFormulas
first_of (p ∷ ps) = p

abbrev pub move_for : List Node → List FormulaData → Reason → MoveData
move_for ns ps (Parts i) = StraightMove (PartsStep i ps)
move_for ns ps (Name i v) = StraightMove (NameStep i v (first_of ps))
move_for ns ps (Instance i t) = StraightMove (InstanceStep i (term_at ns t) (first_of ps))
move_for ns ps (Axiom name) = StraightMove (AxiomStep name (first_of ps))
move_for ns ps (Split i) = ForkedMove (SplitCause i) ps
move_for ns ps (Cut t u) = ForkedMove CutCause ps
move_for ns ps (Bound i t k) = ForkedMove (BoundCause i) ps

abbrev pub move_of_extension : List Node → Extension → MoveData
move_of_extension ns g = move_for ns (formulas_of ns g) g.reason

-- each explanation step is a move, and so is the closing step
abbrev pub link_move : List Node → ChainStep → MoveData
link_move ns s = StraightMove (step_in ns s)

abbrev pub moves_of_closing : List Node → Closing → List MoveData
moves_of_closing ns c = map (link_move ns) c.chain.items ++ ClosedMove (close_of_node c.by) ∷ []

abbrev pub moves_of_application : List Node → PoolApplication → List MoveData
moves_of_application ns (Grown g) = move_of_extension ns g ∷ []
moves_of_application ns (Closed c) = moves_of_closing ns c

-- ---- numbers that a certificate can hold

-- the number of the entry in the reason, or 0
abbrev pub named_entry : Reason → ℕ
named_entry (Parts i) = i
named_entry (Name i v) = i
named_entry (Instance i t) = i
named_entry (Axiom name) = 0
named_entry (Split i) = i
named_entry (Cut t u) = 0
named_entry (Bound i t k) = i

-- the first added formula is encoded by itself
abbrev pub spells_first : Reason → Bool
spells_first (Parts i) = false
spells_first (Split i) = false
spells_first _ = true

pub record FitsExtension (g : Extension) : Type 0 where
  pub entry : named_entry g.reason < 2 ^ 32
  pub some : spells_first g.reason ≡ true → 0 < length g.formulas.items

abbrev pub equation_position : ChainStep → ℕ
equation_position (Itself k) = 0
equation_position (Rewritten r) = r.equation

abbrev pub source_position : ChainStep → ℕ
source_position (Itself k) = 0
source_position (Rewritten r) = r.source

pub record FitsLink (s : ChainStep) : Type 0 where
  pub equation : equation_position s < 2 ^ 32
  pub source : source_position s < 2 ^ 32

pub record FitsClosing (c : Closing) : Type 0 where
  pub links : All FitsLink c.chain.items

abbrev pub FitsApplication : PoolApplication → Type 0
FitsApplication (Grown g) = FitsExtension g
FitsApplication (Closed c) = FitsClosing c

pub record FitApplications (text : List PoolApplication) : Type 0 where
  pub each : All FitsApplication text

-- ---- traces

-- a trace whose rule applications are due in a search for a proof of the formula
pub record DueText : Type 0 where
  pub shapes : List Shape
  pub formula : FormulaData
  pub applications : List Application

-- the trace by number represents this one
pub record IsTextOf (ns : List Node) (text : List PoolApplication) (d : DueText) : Type 0 where
  pub are_applications : AllZip (IsApplicationOf ns) text d.applications
  pub due : AreDue d.shapes (begun d.formula) d.applications
