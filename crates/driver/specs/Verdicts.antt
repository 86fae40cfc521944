-- The justification of each verdict on a condition.
use Rattle.std.specs.Prelude.{ℕ, ◌<◌, ◌≤◌, List, [], take, drop}
use Rattle.std.specs.List.{AllZip}
use Rattle.fol.specs.FormulaData.{FormulaData}
use Rattle.fol.specs.Validity.{Valid}
use Rattle.linear_arith.specs.Inequality.{Inequality}
use Rattle.certificates.specs.CertView.{close_of_node}
use Rattle.certificates.specs.Closes.{Certifies}
use Rattle.certificates.specs.Lengths.{IsLengthOf}
use Rattle.term_pool.specs.Pools.{IsOneNumber}
use Rattle.certificates.specs.BranchesBranch.{Branch}
use Rattle.certificates.specs.Moves.{all_moves}
use Rattle.certificates.specs.ProofTraces.{Application, IsProof, IsPartialTree, EndsInChain, IsWideBranch, IsLargeBranch}
use Rattle.tableau.specs.PoolBranches.{branch_in}
use Rattle.search.specs.Applications.{IsApplicationOf}
use Rattle.search.specs.declared.trees.application.Closing.{Closing}
use Rattle.search.specs.Ends.{IsOpenAt, IsFullAt, links_of}
use Rattle.search.specs.declared.end.End.{End}
use Rattle.search.specs.declared.end.End.TheVariants.{Proved as EndProved, Open as EndOpen, Spent as EndSpent, SpentInChain as EndSpentInChain, Wide as EndWide, TooManyRows as EndTooManyRows, Full as EndFull}
use Rattle.search.specs.declared.values.OpenValues.{OpenValues}
use Rattle.substitution.specs.Numerals.{numerals_of, HasNoWide, IsWideAmong}
use Rattle.certificate_text.specs.Answers.{most_bytes, IsProofOfLength}
use Rattle.certificate_text.specs.declared.prover.answer.Search.{Search}
use Rattle.certificate_text.specs.declared.prover.answer.Answer.{Answer}
use Rattle.certificate_text.specs.declared.prover.answer.Answer.TheVariants.{Ended, TooLong, WideNumeral}
use Rattle.report.specs.declared.report.ConditionVerdict.{ConditionVerdict}
use Rattle.report.specs.declared.report.ConditionVerdict.TheVariants.{Proved, Open, Wide, Rows, Budget, Size}
use Rattle.report.specs.ReportData.{ParameterValueData}
use Rattle.driver.specs.OpenValues.{AreValuesOf}

-- the greatest number of steps of a search
abbrev pub most_steps : ℕ
most_steps = 20000

-- ---- the justification of each verdict on a formula, without structs

-- The trace of a search has due applications that leave no branch open. It gives a certificate that the checker accepts
-- and that at most 4 MiB of bytes spell; so the formula is valid.
pub record IsProvedBy (p : FormulaData) (s : Search) : Type 0 where
  pub applications : List Application
  pub are_applications : AllZip (IsApplicationOf s.pool) s.outcome.tree.text.items applications
  pub proof : IsProof [] p applications
  pub certifies : Certifies [] (all_moves applications) p
  pub len : ℕ
  pub length_is : IsLengthOf (all_moves applications) len
  pub short : len ≤ most_bytes
  pub valid : Valid [] p

-- the trace is that of these applications, and the search tree's current branch is this branch over its pool
pub record HasText (s : Search) (P : List Application → Branch → Type 0) : Type 0 where
  pub applications : List Application
  pub are_applications : AllZip (IsApplicationOf s.pool) s.outcome.tree.text.items applications
  pub shown : P applications (branch_in s.pool s.outcome.tree.branch)

-- The first open branch is saturated, these are its values, and distinct numbers of the pool stand for distinct items.
pub record IsOpenBy (p : FormulaData) (s : Search) (v : OpenValues) : Type 0 where
  pub text : HasText s (λ applications b. IsOpenAt [] p applications s.pool b v)
  pub one : IsOneNumber s.pool

-- the trace has as many steps as the budget; it may end within the explanation of a closing
abbrev pub IsSpentBy : FormulaData → ℕ → Search → Type 0
IsSpentBy p budget s = HasText s (λ applications b. IsPartialTree [] p applications budget)

abbrev pub IsSpentInChain : FormulaData → ℕ → Search → Closing → ℕ → Type 0
IsSpentInChain p budget s c done =
    HasText s (λ applications b. EndsInChain [] p applications (take done (links_of s.pool c)) (drop done (links_of s.pool c)) (close_of_node c.by) budget)

-- an elimination of the rows of the first open branch reaches two rows whose sum overflows 128 bits
abbrev pub IsWideBy : FormulaData → Search → Inequality → Inequality → Type 0
IsWideBy p s first second = HasText s (λ applications b. IsWideBranch [] p applications b first second)

-- an elimination of these rows reaches the limit of 5,000 rows: these
abbrev pub IsLargeBy : FormulaData → Search → List Inequality → Type 0
IsLargeBy p s rows = HasText s (λ applications b. IsLargeBranch [] p applications b rows)

-- no certificate can extend the first open branch
abbrev pub IsFullBy : FormulaData → Search → Type 0
IsFullBy p s = HasText s (λ applications b. IsFullAt [] p applications b)

-- the trace leaves no branch open, but more than 4 MiB of bytes spell the certificate
abbrev pub IsTooLongBy : FormulaData → Search → ℕ → Type 0
IsTooLongBy p s len = IsProofOfLength [] p s.pool s.outcome.tree.text.items len × (most_bytes < len)

-- The justification of the verdict, and the values of the parameters with it: those of an open branch.
pub data IsShownBy (p : FormulaData) (parameters : List (List ℕ)) (s : Search) : End → ConditionVerdict → List ParameterValueData → Type 0 where
  ByProof : IsProvedBy p s → IsShownBy p parameters s EndProved Proved []
  ByValues : (v : OpenValues) (values : List ParameterValueData) → IsOpenBy p s v → AreValuesOf s.pool v parameters values → IsShownBy p parameters s (EndOpen v) Open values
  BySteps : IsSpentBy p most_steps s → IsShownBy p parameters s EndSpent (Budget most_steps) []
  ByLinks : (c : Closing) (done : ℕ) → IsSpentInChain p most_steps s c done → IsShownBy p parameters s (EndSpentInChain c done) (Budget most_steps) []
  ByTwoRows : (first second : Inequality) → IsWideBy p s first second → IsShownBy p parameters s (EndWide first second) Wide []
  ByRows : (rows : List Inequality) → IsLargeBy p s rows → IsShownBy p parameters s (EndTooManyRows rows) Rows []
  ByBranch : IsFullBy p s → IsShownBy p parameters s EndFull Size []

-- without a search if the formula has a numeral that is too great; otherwise each end of a search justifies its verdict
pub data IsShown (p : FormulaData) (parameters : List (List ℕ)) : Answer → ConditionVerdict → List ParameterValueData → Type 0 where
  BySearch : (s : Search) (verdict : ConditionVerdict) (values : List ParameterValueData) → HasNoWide (numerals_of p) → IsShownBy p parameters s s.outcome.end verdict values → IsShown p parameters (Ended s) verdict values
  ByBytes : (s : Search) (len : ℕ) → HasNoWide (numerals_of p) → IsTooLongBy p s len → IsShown p parameters (TooLong s len) Size []
  ByNumeral : (u : ℕ) → IsWideAmong (numerals_of p) u → IsShown p parameters (WideNumeral u) Wide []
