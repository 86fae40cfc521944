-- The prover's answer justifies the verdict on a condition, and its values are whole.
use Rattle.std.proofs.Common.{◌≡◌, ℕ, ◌≤◌, true, false, List, [], refl, sym, subst}
use Rattle.fol.specs.FormulaData.{FormulaData}
use Rattle.certificates.proofs.Sound.{certified_valid}
use Rattle.term_pool.specs.Pools.{IsOneNumber}
use Rattle.certificates.specs.BranchesBranch.{Branch}
use Rattle.certificates.specs.Due.{IsShallow}
use Rattle.certificates.specs.Moves.{all_moves}
use Rattle.certificates.specs.ProofTraces.{Application}
use Rattle.certificates.proofs.MoveLaws.{certified}
use Rattle.tableau.specs.PoolBranches.{branch_in}
use Rattle.search.specs.Ends.{Claim, HasApplications, is_full, IsShown as IsShownEnd}
use Rattle.search.specs.declared.end.End.{End}
use Rattle.search.specs.declared.end.End.TheVariants.{Proved as EndProved, Open as EndOpen, Spent as EndSpent, SpentInChain as EndSpentInChain, Wide as EndWide, TooManyRows as EndTooManyRows, Full as EndFull}
use Rattle.certificate_text.specs.Answers.{most_bytes, is_proved, IsProofOfLength, Shows}
use Rattle.certificate_text.specs.declared.prover.answer.Answer.{Answer}
use Rattle.certificate_text.specs.declared.prover.answer.Answer.TheVariants.{Ended, TooLong, WideNumeral}
use Rattle.certificate_text.specs.declared.prover.answer.Search.{Search}
use Rattle.report.specs.declared.report.ConditionVerdict.TheVariants.{Proved, Wide, Rows, Budget, Size}
use Rattle.report.specs.ReportData.{ParameterValueData}
use Rattle.vc_gen.specs.Supposed.{SupposesTypes}
use Rattle.driver.specs.Findings.{verdict_of_end, verdict_of, ValuesAfter, ValuesWith, WholeAfter, WholeWith, HasOneNumber}
use Rattle.driver.specs.Verdicts.{most_steps, IsProvedBy, HasText, IsShownBy, ByProof, ByValues, BySteps, ByLinks, ByTwoRows, ByRows, ByBranch, IsShown, BySearch, ByBytes, ByNumeral}
use Rattle.driver.proofs.SupposedLemmas.{parameter_stands}
use Rattle.driver.proofs.ValueLemmas.{whole_at}

-- the claim for a condition
abbrev pub claim_of : FormulaData → Claim
claim_of p = record { formula = p; budget = most_steps }

module _ (p : FormulaData) (parameters : List (List ℕ)) (s : Search) where
  text_of : (taken : ℕ) (P : List Application → Branch → Type 0) → HasApplications s.pool s.outcome.tree taken (λ applications. P applications (branch_in s.pool s.outcome.tree.branch)) → HasText s P
  text_of taken P h = record { applications = h.applications; are_applications = h.are_applications; shown = h.shown }

  proved_by : (len : ℕ) → IsProofOfLength [] p s.pool s.outcome.tree.text.items len → len ≤ most_bytes → IsProvedBy p s
  proved_by len h short =
      let certificate = certified [] p h.applications h.proof in
      record {
        applications = h.applications;
        are_applications = h.are_applications;
        proof = h.proof;
        certifies = certificate;
        len = len;
        length_is = h.length;
        short = short;
        valid = certified_valid [] (all_moves h.applications) p certificate;
      }

  shown_at : (taken : ℕ) → IsOneNumber s.pool → (e : End) → IsShownEnd [] p most_steps taken s.pool s.outcome.tree e → (is_proved e ≡ true → (len : ℕ) × IsProofOfLength [] p s.pool s.outcome.tree.text.items len × (len ≤ most_bytes)) → (values : List ParameterValueData) → ValuesAfter s.pool parameters e values → IsShownBy p parameters s e (verdict_of_end e) values
  shown_at taken one EndProved h short values none = (let found = short refl in subst (IsShownBy p parameters s EndProved Proved) (sym none) (ByProof (proved_by found.0 found.1 found.2)))
  shown_at taken one (EndOpen v) h short values are = ByValues v values (record { text = text_of taken _ h; one = one }) are
  shown_at taken one EndSpent h short values none = subst (IsShownBy p parameters s EndSpent (Budget most_steps)) (sym none) (BySteps (text_of taken _ h))
  shown_at taken one (EndSpentInChain c done) h short values none = subst (IsShownBy p parameters s (EndSpentInChain c done) (Budget most_steps)) (sym none) (ByLinks c done (text_of taken _ h))
  shown_at taken one (EndWide first second) h short values none = subst (IsShownBy p parameters s (EndWide first second) Wide) (sym none) (ByTwoRows first second (text_of taken _ h))
  shown_at taken one (EndTooManyRows rows) h short values none = subst (IsShownBy p parameters s (EndTooManyRows rows) Rows) (sym none) (ByRows rows (text_of taken _ h))
  shown_at taken one EndFull h short values none = subst (IsShownBy p parameters s EndFull Size) (sym none) (ByBranch (text_of taken _ h))

  whole_after : (taken : ℕ) → SupposesTypes parameters p → (e : End) → IsShownEnd [] p most_steps taken s.pool s.outcome.tree e → (is_full e ≡ false → IsShallow p) → WholeAfter s.pool parameters e
  whole_after taken supposes EndProved h shallow = tt
  whole_after taken supposes (EndOpen v) h shallow =
      let b : Branch = branch_in s.pool s.outcome.tree.branch in
      let is_open = h.shown.open_branch in
      record { each = λ name k is. whole_at s.pool b v k h.shown.valued (parameter_stands [] p h.applications b parameters is_open.reached is_open.saturated (shallow refl) supposes name k is) }
  whole_after taken supposes EndSpent h shallow = tt
  whole_after taken supposes (EndSpentInChain c done) h shallow = tt
  whole_after taken supposes (EndWide first second) h shallow = tt
  whole_after taken supposes (EndTooManyRows rows) h shallow = tt
  whole_after taken supposes EndFull h shallow = tt

-- the answer justifies its verdict, with its values
pub shown_by : (p : FormulaData) (parameters : List (List ℕ)) (before after : ℕ) (a : Answer) → Shows [] (claim_of p) before after a → HasOneNumber a → (values : List ParameterValueData) → ValuesWith parameters a values → IsShown p parameters a (verdict_of a) values
shown_by p parameters before after (Ended s) h one values are =
    BySearch s (verdict_of_end s.outcome.end) values h.searched.numerals (shown_at p parameters s h.searched.outcome.taken one s.outcome.end h.searched.outcome.shown h.short.short values are)
shown_by p parameters before after (TooLong s len) h one values none =
    subst (IsShown p parameters (TooLong s len) Size) (sym none) (ByBytes s len h.searched.numerals (h.proof, h.long))
shown_by p parameters before after (WideNumeral u) h one values none =
    subst (IsShown p parameters (WideNumeral u) Wide) (sym none) (ByNumeral u h.numeral)

-- the values of its parameters are whole, up to a double negation
pub whole_with : (p : FormulaData) (parameters : List (List ℕ)) (before after : ℕ) (a : Answer) → Shows [] (claim_of p) before after a → SupposesTypes parameters p → WholeWith parameters a
whole_with p parameters before after (Ended s) h supposes =
    whole_after p parameters s h.searched.outcome.taken supposes s.outcome.end h.searched.outcome.shown h.searched.outcome.shallow
whole_with p parameters before after (TooLong s len) h supposes = tt
whole_with p parameters before after (WideNumeral u) h supposes = tt
