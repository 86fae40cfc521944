-- Rule applications of a search over a pool: what an application by number stands for.
use Rattle.std.specs.Prelude.{◌≡◌, ℕ, ◌<◌, ℤ, pos, ◌+ℤ◌, Bool, true, false, List, [], ◌∷◌, length, map, Option, Some, None, All}
use Rattle.fol.specs.declared.shapes.Shape.{Shape}
use Rattle.fol.specs.FormulaData.{TermData, NumTerm, FormulaData, EqFormula, LeFormula}
use Rattle.axioms.specs.declared.axiom.Axiom.{Axiom as AxiomName}
use Rattle.axioms.specs.Forms.{DifferFormula}
use Rattle.certificates.specs.CertView.{close_of_node}
use Rattle.term_pool.specs.Items.{term_in}
use Rattle.term_pool.specs.Pools.{item_at}
use Rattle.term_pool.specs.declared.node.Node.{Node}
use Rattle.certificates.specs.BranchesBranch.{Branch}
use Rattle.certificates.specs.ProofTraces.{Application, PartsApplication, NameApplication, InstanceApplication, AxiomApplication, SplitApplication, CutApplication, BoundApplication, CloseApplication, generation_at, left_of, IsDueApplication, IsShortBranch}
use Rattle.certificates.specs.declared.branches.origin.Origin.{Origin}
use Rattle.certificates.specs.declared.branches.origin.Origin.TheVariants.{Name as FromName, Other}
use Rattle.tableau.specs.Numbers.{formula_at, AreFormulas}
use Rattle.explanations.specs.Chains.{step_in, NamesInPool}
use Rattle.search.specs.declared.trees.application.Reason.{Reason}
use Rattle.search.specs.declared.trees.application.Reason.TheVariants.{Parts, Name, Instance, Axiom, Split, Cut, Bound}
use Rattle.search.specs.declared.trees.application.Extension.{Extension}
use Rattle.search.specs.declared.trees.application.Closing.{Closing}
use Rattle.search.specs.declared.trees.application.PoolApplication.{PoolApplication}
use Rattle.search.specs.declared.trees.application.PoolApplication.TheVariants.{Grown, Closed}

abbrev pub term_at : List Node → ℕ → TermData
term_at ns n = term_in (item_at ns n)

-- ---- reasons

-- each of the formulas begins a branch of its own
abbrev pub is_fork : Reason → Bool
is_fork (Split i) = true
is_fork (Cut t u) = true
is_fork (Bound i t k) = true
is_fork _ = false

abbrev pub origin_of : Reason → Origin
origin_of (Name i v) = FromName i
origin_of _ = Other

-- the entry from which the formulas take their generation
abbrev pub entry_of : Reason → Option ℕ
entry_of (Parts i) = Some i
entry_of (Name i v) = Some i
entry_of (Split i) = Some i
entry_of (Bound i t k) = Some i
entry_of _ = None

abbrev pub IsGenerationFrom : Branch → Option ℕ → ℕ → Type 0
IsGenerationFrom b None g = Unit {0}
IsGenerationFrom b (Some i) g = g ≡ generation_at b i

-- the numbers of the terms in it
abbrev pub terms_of : Reason → List ℕ
terms_of (Instance i t) = t ∷ []
terms_of (Cut t u) = t ∷ u ∷ []
terms_of (Bound i t k) = t ∷ []
terms_of _ = []

-- ---- applications

-- the application that adds these formulas with this generation for the reason
pub data IsAddedFor (ns : List Node) (ps : List FormulaData) : Reason → ℕ → Application → Type 0 where
  AsParts : (i g : ℕ) → IsAddedFor ns ps (Parts i) g (PartsApplication i ps)
  AsName : (i v g : ℕ) (p : FormulaData) → ps ≡ p ∷ [] → IsAddedFor ns ps (Name i v) g (NameApplication i v p)
  AsInstance : (i t g : ℕ) (p : FormulaData) → ps ≡ p ∷ [] → IsAddedFor ns ps (Instance i t) g (InstanceApplication i (term_at ns t) p g)
  AsAxiom : (name : AxiomName) (g : ℕ) (p : FormulaData) → ps ≡ p ∷ [] → IsAddedFor ns ps (Axiom name) g (AxiomApplication name p g)
  AsSplit : (i g : ℕ) → IsAddedFor ns ps (Split i) g (SplitApplication i ps)
  AsCut : (t u g : ℕ) → ps ≡ EqFormula (term_at ns t) (term_at ns u) ∷ DifferFormula (term_at ns t) (term_at ns u) ∷ [] → IsAddedFor ns ps (Cut t u) g (CutApplication (term_at ns t) (term_at ns u) g)
  AsBound : (i t g : ℕ) (k : ℤ) → ps ≡ LeFormula (term_at ns t) (NumTerm k) ∷ LeFormula (NumTerm (k +ℤ pos 1)) (term_at ns t) ∷ [] → IsAddedFor ns ps (Bound i t k) g (BoundApplication i (term_at ns t) k)

abbrev pub formulas_of : List Node → Extension → List FormulaData
formulas_of ns g = map (formula_at ns) g.formulas.items

pub record IsExtensionOf (ns : List Node) (g : Extension) (application : Application) : Type 0 where
  pub formulas : AreFormulas ns g.formulas.items
  pub terms : All (λ t. t < length ns) (terms_of g.reason)
  pub added : IsAddedFor ns (formulas_of ns g) g.reason g.generation application

pub record IsClosingOf (ns : List Node) (c : Closing) (application : Application) : Type 0 where
  pub named : All (NamesInPool ns) c.chain.items
  pub is : application ≡ CloseApplication (map (step_in ns) c.chain.items) (close_of_node c.by)

-- the application by number stands for this one
abbrev pub IsApplicationOf : List Node → PoolApplication → Application → Type 0
IsApplicationOf ns (Grown g) application = IsExtensionOf ns g application
IsApplicationOf ns (Closed c) application = IsClosingOf ns c application

-- the application is due on the branch, and leaves no branch that is too long
pub record IsDueOn (shapes : List Shape) (b : Branch) (application : Application) : Type 0 where
  pub due : IsDueApplication shapes b application
  pub short : All IsShortBranch (left_of b application)
