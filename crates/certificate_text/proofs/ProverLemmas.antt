-- The evidence in an outcome if the formula is proved, and the negation with which a search begins.
use Rattle.std.proofs.Common.{◌≡◌, ℕ, ◌<◌, ◌≤◌, true, false, List, length, sym, ap, ◌∙◌, subst}
use Rattle.std.specs.List.{AllZip}
use Rattle.std.proofs.lemmas.Option.{slice_get_within}
use Rattle.fol.specs.declared.shapes.Shape.{Shape}
use Rattle.fol.specs.FormulaData.{FormulaData, NotFormula}
use Rattle.certificates.specs.Lengths.{IsLengthOf}
use Rattle.term_pool.specs.Items.{FormulaItem, FormulaSort, sort_of, formula_in}
use Rattle.term_pool.specs.Pools.{HasPart, IsItem, IsMade, Extends}
use Rattle.term_pool.specs.declared.node.One.TheVariants.{Not}
use Rattle.term_pool.specs.declared.node.Node.{Node}
use Rattle.term_pool.specs.declared.node.Node.TheVariants.{One as OneNode}
use Rattle.term_pool.proofs.ItemLemmas.{item_kept}
use Rattle.certificates.specs.Due.{IsShallow}
use Rattle.certificates.specs.Moves.{all_moves}
use Rattle.certificates.specs.ProofTraces.{Application, IsProof}
use Rattle.tableau.specs.PoolBranches.{IsFormulaNumber}
use Rattle.tableau.specs.Numbers.{formula_at}
use Rattle.search.specs.Applications.{IsApplicationOf}
use Rattle.search.specs.declared.trees.application.PoolApplication.{PoolApplication}
use Rattle.search.specs.declared.trees.tree.SearchTree.{SearchTree}
use Rattle.certificate_text.specs.Moves.{DueText, IsTextOf, FitApplications}
use Rattle.search.specs.Ends.{HasApplications, IsShown, is_full, Claim, IsOutcome}
use Rattle.search.specs.declared.search.Outcome.{Outcome}
use Rattle.search.specs.declared.end.End.{End}
use Rattle.search.specs.declared.end.End.TheVariants.{Proved}
use Rattle.certificate_text.specs.declared.prover.answer.Search.{Search}
use Rattle.certificate_text.specs.declared.prover.answer.Answer.TheVariants.{Ended, TooLong}
use Rattle.certificate_text.specs.Answers.{most_bytes, is_proved, IsProofOfLength, HasSameApplications, IsReadable, IsSearched, Shows}

proved_applications : (shapes : List Shape) (p : FormulaData) (budget taken : ℕ) (ns : List Node) (tree : SearchTree) (e : End) → is_proved e ≡ true → IsShown shapes p budget taken ns tree e → HasApplications ns tree taken (IsProof shapes p)
proved_applications shapes p budget taken ns tree Proved is h = h
proved_applications shapes p budget taken ns tree _ is h = absurd (cc)

applications_of : (shapes : List Shape) (sought : Claim) (before after : ℕ) (ns : List Node) (outcome : Outcome) → IsOutcome shapes sought before after ns outcome → is_proved outcome.end ≡ true → (taken : ℕ) × HasApplications ns outcome.tree taken (IsProof shapes sought.formula)
applications_of shapes sought before after ns outcome h is = (h.taken, proved_applications shapes sought.formula sought.budget h.taken ns outcome.tree outcome.end is h.shown)

-- a certificate can hold the numbers of a proof
pub readable : ((ns : List Node) (text : List PoolApplication) (due : DueText) → IsTextOf ns text due → FitApplications text) → (shapes : List Shape) (sought : Claim) (before after : ℕ) (s : Search) → IsOutcome shapes sought before after s.pool s.outcome → IsReadable s
readable fit shapes sought before after s h = record {
  fits = λ is. (
      let found = (applications_of shapes sought before after s.pool s.outcome h is).1 in
      fit s.pool s.outcome.tree.text.items (record { shapes = shapes; formula = sought.formula; applications = found.applications }) (record { are_applications = found.are_applications; due = found.shown.due }));
}

module _ (shapes : List Shape) (sought : Claim) (before after : ℕ) (s : Search) (h : IsSearched shapes sought before after s) where
  module _ (proved : is_proved s.outcome.end ≡ true) (len : ℕ) (counted : (applications : List Application) → AllZip (IsApplicationOf s.pool) s.outcome.tree.text.items applications → IsLengthOf (all_moves applications) len) where
    proof_of : IsProofOfLength shapes sought.formula s.pool s.outcome.tree.text.items len
    proof_of =
        let found = (applications_of shapes sought before after s.pool s.outcome h.outcome proved).1 in
        record { applications = found.applications; are_applications = found.are_applications; proof = found.shown; length = counted found.applications found.are_applications }

    pub ended_short : len ≤ most_bytes → Shows shapes sought before after (Ended s)
    ended_short short = record { searched = h; short = record { short = λ is. (len, proof_of, short) } }

    pub ended_long : most_bytes < len → Shows shapes sought before after (TooLong s len)
    ended_long long = record { searched = h; proved = proved; proof = proof_of; long = long }

  pub ended_other : is_proved s.outcome.end ≡ false → Shows shapes sought before after (Ended s)
  ended_other other = record { searched = h; short = record { short = λ is. absurd (cc) } }

-- ---- a search with the same applications

shown_proved : (shapes : List Shape) (p : FormulaData) (budget taken : ℕ) (ns : List Node) (tree : SearchTree) (e : End) → is_proved e ≡ true → HasApplications ns tree taken (IsProof shapes p) → IsShown shapes p budget taken ns tree e
shown_proved shapes p budget taken ns tree Proved is h = h
shown_proved shapes p budget taken ns tree _ is h = absurd (cc)

module _ (s r : Search) (same : HasSameApplications s r) where
  pub still_proved : is_proved s.outcome.end ≡ true → is_proved r.outcome.end ≡ true
  still_proved is = ap is_proved same.end ∙ is

  pub still_searched : is_proved s.outcome.end ≡ true → (shapes : List Shape) (sought : Claim) (before after : ℕ) → IsSearched shapes sought before after s → IsSearched shapes sought before after r
  still_searched is shapes sought before after h =
      let found = proved_applications shapes sought.formula sought.budget h.outcome.taken s.pool s.outcome.tree s.outcome.end is h.outcome.shown in
      record {
        numerals = h.numerals;
        outcome = record {
          taken = h.outcome.taken;
          counted = h.outcome.counted;
          at_most = h.outcome.at_most;
          shown = shown_proved shapes sought.formula sought.budget h.outcome.taken r.pool r.outcome.tree r.outcome.end (still_proved is) (record { applications = found.applications; are_applications = same.applications found.applications found.are_applications; few = found.few; shown = found.shown });
          shallow = subst (λ e. is_full e ≡ false → IsShallow sought.formula) (sym same.end) h.outcome.shallow;
        };
      }

  pub still_readable : IsReadable s → IsReadable r
  still_readable h = record { fits = λ is. same.fit (h.fits (sym (ap is_proved same.end) ∙ is)) }

-- ---- the negation

module _ (ns ms : List Node) (grown : Extends ns ms) (p : FormulaData) (n denial : ℕ) (is : IsItem ns n (FormulaItem p)) (made : IsMade ms denial (OneNode Not n)) where
  pub denial_number : IsFormulaNumber ms denial
  denial_number = record { within = slice_get_within ms denial (OneNode Not n) made.found; sort = ap sort_of made.item }

  pub denied : formula_at ms denial ≡ NotFormula p
  denied = ap formula_in made.item ∙ ap (λ x. NotFormula (formula_in x)) (item_kept ns ms grown n is.within ∙ is.is)

pub formula_part : (ns : List Node) (p : FormulaData) (n : ℕ) → IsItem ns n (FormulaItem p) → HasPart ns (length ns) n FormulaSort
formula_part ns p n is = record { earlier = is.within; sort = ap sort_of is.is }
