-- What the end of a search shows.
use Rattle.std.specs.Prelude.{◌≡◌, ◌⊎◌, ℕ, ◌+◌, ◌<◌, ◌≤◌, Bool, true, false, IsTrue, List, [], length, map, take, drop, Option, Some, None}
use Rattle.std.specs.List.{AllZip}
use Rattle.fol.specs.declared.shapes.Shape.{Shape}
use Rattle.fol.specs.FormulaData.{FormulaData, NotFormula}
use Rattle.certificates.specs.CertData.{StepData}
use Rattle.certificates.specs.CertView.{close_of_node}
use Rattle.term_pool.specs.declared.node.Node.{Node}
use Rattle.certificates.specs.BranchesBranch.{Branch}
use Rattle.certificates.specs.Due.{IsSaturated, IsShallow}
use Rattle.certificates.specs.ProofTraces.{Application, ClosesBranch, IsReached, IsProof, IsOpenBranch, IsWideBranch, IsLargeBranch, IsPartialTree, EndsInChain, IsFull, steps_in}
use Rattle.tableau.specs.PoolBranches.{branch_in}
use Rattle.explanations.specs.Chains.{step_in}
use Rattle.search.specs.Applications.{IsApplicationOf}
use Rattle.search.specs.Trees.{IsText, IsTree}
use Rattle.search.specs.declared.trees.tree.SearchTree.{SearchTree}
use Rattle.search.specs.declared.trees.application.Closing.{Closing}
use Rattle.search.specs.Decisions.{IsValued, IsWideAt, IsLargeAt}
use Rattle.search.specs.declared.search.Outcome.{Outcome}
use Rattle.search.specs.declared.values.OpenValues.{OpenValues}
use Rattle.search.specs.declared.end.End.{End}
use Rattle.search.specs.declared.end.End.TheVariants.{Proved, Open, Spent, SpentInChain, Wide, TooManyRows, Full}

-- the aim of a search: a proof of this formula, within this budget of steps
pub record Claim : Type 0 where
  pub formula : FormulaData
  pub budget : ℕ

-- the search continues, with this many steps left of the budget
pub record IsGoing (shapes : List Shape) (claim : Claim) (left : ℕ) (ns : List Node) (t : SearchTree) : Type 0 where
  pub spent : ℕ
  pub sum : spent + left ≡ claim.budget
  pub tree : IsTree shapes claim.formula spent ns t

-- the search has ended, and its tree has as many steps as were taken, except for those of the explanation in which it
-- ended
pub record IsEnded (shapes : List Shape) (claim : Claim) (left : ℕ) (ns : List Node) (t : SearchTree) (P : Branch → Type 0) : Type 0 where
  pub spent : ℕ
  pub sum : spent + left ≡ claim.budget
  pub tree : IsTree shapes claim.formula spent ns t
  pub shown : P (branch_in ns t.branch)

-- no branch is open
pub record IsDone (shapes : List Shape) (claim : Claim) (left : ℕ) (ns : List Node) (t : SearchTree) : Type 0 where
  pub spent : ℕ
  pub sum : spent + left ≡ claim.budget
  pub text : IsText shapes claim.formula spent ns t.text.items []

-- this many steps of the explanation of a closing of the branch
pub record EndsAmong (shapes : List Shape) (ns : List Node) (c : Closing) (done : ℕ) (b : Branch) : Type 0 where
  pub within : done ≤ length c.chain.items
  pub closes : ClosesBranch shapes b (map (step_in ns) c.chain.items) (close_of_node c.by)

-- what the end of a search shows, with this much of the budget left
abbrev pub ShowsEnd : List Shape → Claim → ℕ → List Node → SearchTree → End → Type 0
ShowsEnd shapes claim left ns t Proved = IsDone shapes claim left ns t
ShowsEnd shapes claim left ns t (Open values) = IsEnded shapes claim left ns t (λ b. IsSaturated shapes b × IsValued ns b values)
ShowsEnd shapes claim left ns t Spent = IsEnded shapes claim 0 ns t (λ b. left ≡ 0)
ShowsEnd shapes claim left ns t (SpentInChain c done) = IsEnded shapes claim done ns t (λ b. (left ≡ 0) × EndsAmong shapes ns c done b)
ShowsEnd shapes claim left ns t (Wide first second) = IsEnded shapes claim left ns t (λ b. IsWideAt b first second)
ShowsEnd shapes claim left ns t (TooManyRows rows) = IsEnded shapes claim left ns t (λ b. IsLargeAt b rows)
ShowsEnd shapes claim left ns t Full = IsEnded shapes claim left ns t (IsFull shapes)

-- what the search shows after an application
abbrev pub Shows : List Shape → Claim → ℕ → List Node → SearchTree → Option End → Type 0
Shows shapes claim left ns t None = IsGoing shapes claim left ns t
Shows shapes claim left ns t (Some end) = ShowsEnd shapes claim left ns t end

-- if the search continues, it has taken a step of the budget or a pending branch
abbrev pub FallsIn : ℕ → ℕ → ℕ → ℕ → Option End → Type 0
FallsIn left_old left_new old new None = (left_new < left_old) ⊎ ((left_new ≡ left_old) × (new + 1 ≡ old))
FallsIn left_old left_new old new (Some end) = Unit {0}

-- ---- what the outcome of a search shows

-- the trace by number is that of applications for which `P` holds, with at most `taken` steps
pub record HasApplications (ns : List Node) (t : SearchTree) (taken : ℕ) (P : List Application → Type 0) : Type 0 where
  pub applications : List Application
  pub are_applications : AllZip (IsApplicationOf ns) t.text.items applications
  pub few : steps_in applications ≤ taken
  pub shown : P applications

-- the first open branch is saturated, and these are its values
pub record IsOpenAt (shapes : List Shape) (p : FormulaData) (applications : List Application) (ns : List Node) (b : Branch) (values : OpenValues) : Type 0 where
  pub open_branch : IsOpenBranch shapes p applications b values.values
  pub valued : IsValued ns b values

-- the first open branch cannot be extended
pub record IsFullAt (shapes : List Shape) (p : FormulaData) (applications : List Application) (b : Branch) : Type 0 where
  pub reached : IsReached shapes p applications b
  pub full : IsFull shapes b

abbrev pub links_of : List Node → Closing → List StepData
links_of ns c = map (step_in ns) c.chain.items

-- the tree of the outcome shows it, after this many steps
abbrev pub IsShown : List Shape → FormulaData → ℕ → ℕ → List Node → SearchTree → End → Type 0
IsShown shapes p budget taken ns t Proved = HasApplications ns t taken (IsProof shapes p)
IsShown shapes p budget taken ns t (Open values) = HasApplications ns t taken (λ applications. IsOpenAt shapes p applications ns (branch_in ns t.branch) values)
IsShown shapes p budget taken ns t Spent = HasApplications ns t taken (λ applications. IsPartialTree shapes p applications budget)
IsShown shapes p budget taken ns t (SpentInChain c done) = HasApplications ns t taken (λ applications. EndsInChain shapes p applications (take done (links_of ns c)) (drop done (links_of ns c)) (close_of_node c.by) budget)
IsShown shapes p budget taken ns t (Wide first second) = HasApplications ns t taken (λ applications. IsWideBranch shapes p applications (branch_in ns t.branch) first second)
IsShown shapes p budget taken ns t (TooManyRows rows) = HasApplications ns t taken (λ applications. IsLargeBranch shapes p applications (branch_in ns t.branch) rows)
IsShown shapes p budget taken ns t Full = HasApplications ns t taken (λ applications. IsFullAt shapes p applications (branch_in ns t.branch))

-- if `known` is true, the negation of the formula is deeper than a step may add; if false, the formula is not
pub record TellsDeep (p : FormulaData) (known : Bool) : Type 0 where
  pub deep : IsTrue known → IsShallow (NotFormula p) → ⊥
  pub shallow : (IsTrue known → ⊥) → IsShallow p

abbrev pub is_full : End → Bool
is_full Full = true
is_full _ = false

-- the outcome of a search, by the steps counted before and after it. For a formula that is deeper than a step may add,
-- the outcome is that the branch is full
pub record IsOutcome (shapes : List Shape) (claim : Claim) (before after : ℕ) (ns : List Node) (outcome : Outcome) : Type 0 where
  pub taken : ℕ
  pub counted : after ≡ before + taken
  pub at_most : taken ≤ claim.budget
  pub shallow : is_full outcome.end ≡ false → IsShallow claim.formula
  pub shown : IsShown shapes claim.formula claim.budget taken ns outcome.tree outcome.end
