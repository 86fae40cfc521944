-- The evidence in the answer for a formula.
use Rattle.std.specs.Prelude.{◌≡◌, ℕ, ◌<◌, ◌≤◌, Bool, true, false, List}
use Rattle.std.specs.List.{AllZip}
use Rattle.fol.specs.declared.shapes.Shape.{Shape}
use Rattle.fol.specs.FormulaData.{FormulaData}
use Rattle.certificates.specs.Lengths.{IsLengthOf}
use Rattle.term_pool.specs.declared.node.Node.{Node}
use Rattle.certificates.specs.Moves.{all_moves}
use Rattle.certificates.specs.ProofTraces.{Application, IsProof}
use Rattle.search.specs.Applications.{IsApplicationOf}
use Rattle.search.specs.declared.trees.application.PoolApplication.{PoolApplication}
use Rattle.certificate_text.specs.Moves.{FitApplications}
use Rattle.search.specs.Ends.{Claim, IsOutcome}
use Rattle.search.specs.declared.search.Outcome.{Outcome}
use Rattle.search.specs.declared.end.End.{End}
use Rattle.search.specs.declared.end.End.TheVariants.{Proved}
use Rattle.substitution.specs.Numerals.{numerals_of, HasNoWide, IsWideAmong}
use Rattle.certificate_text.specs.declared.prover.answer.Search.{Search}
use Rattle.certificate_text.specs.declared.prover.answer.Answer.{Answer}
use Rattle.certificate_text.specs.declared.prover.answer.Answer.TheVariants.{Ended, TooLong, WideNumeral}

-- the greatest number of bytes of a certificate: 4 MiB
abbrev pub most_bytes : ℕ
most_bytes = 4194304

-- the property holds of each pool
pub record AreAll (P : List Node → Type 0) : Type 0 where
  pub each : (ns : List Node) → P ns

abbrev pub is_proved : End → Bool
is_proved Proved = true
is_proved _ = false

-- the trace is that of due rule applications that prove the formula, and this is the length of their moves
pub record IsProofOfLength (shapes : List Shape) (p : FormulaData) (ns : List Node) (text : List PoolApplication) (len : ℕ) : Type 0 where
  pub applications : List Application
  pub are_applications : AllZip (IsApplicationOf ns) text applications
  pub proof : IsProof shapes p applications
  pub length : IsLengthOf (all_moves applications) len

-- the certificate of a proof that was found is within the limit
pub record HasShortProof (shapes : List Shape) (p : FormulaData) (ns : List Node) (outcome : Outcome) : Type 0 where
  pub short : is_proved outcome.end ≡ true → (len : ℕ) × IsProofOfLength shapes p ns outcome.tree.text.items len × (len ≤ most_bytes)

-- the evidence of a search whose formula has no numeral that is too great
pub record IsSearched (shapes : List Shape) (sought : Claim) (before after : ℕ) (s : Search) : Type 0 where
  pub numerals : HasNoWide (numerals_of sought.formula)
  pub outcome : IsOutcome shapes sought before after s.pool s.outcome

pub record IsEndedSo (shapes : List Shape) (sought : Claim) (before after : ℕ) (s : Search) : Type 0 where
  pub searched : IsSearched shapes sought before after s
  pub short : HasShortProof shapes sought.formula s.pool s.outcome

pub record IsTooLong (shapes : List Shape) (sought : Claim) (before after : ℕ) (s : Search) (len : ℕ) : Type 0 where
  pub searched : IsSearched shapes sought before after s
  pub proved : is_proved s.outcome.end ≡ true
  pub proof : IsProofOfLength shapes sought.formula s.pool s.outcome.tree.text.items len
  pub long : most_bytes < len

-- nothing is searched
pub record IsBarred (sought : Claim) (before after : ℕ) (u : ℕ) : Type 0 where
  pub numeral : IsWideAmong (numerals_of sought.formula) u
  pub no_steps : after ≡ before

-- the evidence in the answer, by the steps counted before and after it
abbrev pub Shows : List Shape → Claim → ℕ → ℕ → Answer → Type 0
Shows shapes sought before after (Ended s) = IsEndedSo shapes sought before after s
Shows shapes sought before after (TooLong s len) = IsTooLong shapes sought before after s len
Shows shapes sought before after (WideNumeral u) = IsBarred sought before after u

-- ---- searches whose traces can be read

-- if the formula is proved, a certificate can hold the numbers of the trace
pub record IsReadable (s : Search) : Type 0 where
  pub fits : is_proved s.outcome.end ≡ true → FitApplications s.outcome.tree.text.items

-- the second search ended like the first, and its trace is that of each list of applications of which the first one's
-- is
pub record HasSameApplications (s r : Search) : Type 0 where
  pub end : r.outcome.end ≡ s.outcome.end
  pub applications : (applications : List Application) → AllZip (IsApplicationOf s.pool) s.outcome.tree.text.items applications → AllZip (IsApplicationOf r.pool) r.outcome.tree.text.items applications
  pub fit : FitApplications s.outcome.tree.text.items → FitApplications r.outcome.tree.text.items
