-- Closings of a branch are due.
use Rattle.std.proofs.Common.{◌≡◌, ℕ, zero, suc, ◌<◌, ◌≤◌, ℤ, pos, negsuc, List, [], ◌∷◌, length, map, Option, Some, refl, sym, ap, ◌∙◌, subst, arith}
use Rattle.std.specs.Prelude.{slice_get, All}
use Rattle.std.specs.List.{AllZip}
use Rattle.std.proofs.lemmas.List.{length-map}
use Rattle.std.proofs.lemmas.List.Elements.{All-nil, All-cons}
use Rattle.fol.specs.declared.shapes.Shape.{Shape}
use Rattle.fol.specs.FormulaData.{TermData, FormulaData, NotFormula}
use Rattle.certificates.specs.CertData.{CloseData, LinearClose, ClashClose}
use Rattle.certificates.specs.CertView.{close_of_node}
use Rattle.certificates.specs.Closes.{most_entries, IsClose}
use Rattle.term_pool.specs.declared.node.Node.{Node}
use Rattle.linear_arith.specs.Inequality.{Inequality}
use Rattle.linear_arith.specs.Combination.{IsContradiction}
use Rattle.certificates.specs.BranchesBranch.{Branch, formula_of, formulas}
use Rattle.certificates.specs.ProofTraces.{CloseApplication, after_links, ClosesBranch, IsFull, Chain as LongChain}
use Rattle.tableau.specs.PoolBranches.{BranchData, entry_in, branch_in}
use Rattle.row_reasoning.specs.Rows.{IsRowFrom}
use Rattle.row_reasoning.specs.declared.rows.RowOrigin.{RowOrigin}
use Rattle.explanations.specs.Chains.{ChainData, formula_at, IsAt, step_in, NamesInPool, IsChain}
use Rattle.search.specs.declared.trees.application.Closing.{Closing}
use Rattle.search.specs.Decisions.{IsClosingDue}
use Rattle.row_reasoning.specs.Chosen.{AreChosen}
use Rattle.row_reasoning.specs.Cited.{NoneCited, NotCited, OneCited, ArePositionsWithin, IsPlaced, ArePlaced}
use Rattle.row_reasoning.proofs.CloseLemmas.{closes}
use Rattle.row_reasoning.proofs.CitedLemmas.{HasCited}
use Rattle.closing_rules.specs.Positions.{AreBelow}

-- ---- explanations

all_found : {X : Type 0} (P : X → Type 0) (xs : List X) → ((i : ℕ) (x : X) → slice_get xs i ≡ Some x → P x) → All P xs
all_found P [] h = All-nil P
all_found P (x ∷ xs) h = All-cons P x xs (h zero x refl) (all_found P xs (λ i y f. h (suc i) y f))

module _ (shapes : List Shape) (ns : List Node) (b : Branch) (chain : ChainData) (is : IsChain ns b chain) (by : CloseData) (closes : IsClose (map (formula_at ns) chain.formulas) by) where
  links_close : IsClose (after_links (formulas b) (map (step_in ns) chain.steps)) by
  links_close = subst (λ ps. IsClose ps by) is.stand closes

  as_long : length (after_links (formulas b) (map (step_in ns) chain.steps)) ≡ length chain.formulas
  as_long = ap length (sym is.stand) ∙ length-map chain.formulas (formula_at ns)

  pub too_long : most_entries < length chain.formulas → IsFull shapes b
  too_long w = LongChain (map (step_in ns) chain.steps) by (is.links shapes) links_close (λ short. (let l = as_long in omega (arith, l, w, short)))

  closes_branch : length chain.formulas ≤ most_entries → ClosesBranch shapes b (map (step_in ns) chain.steps) by
  closes_branch w = record { links = is.links shapes; short = (let l = as_long in omega (arith, l, w)); closes = links_close }

pub chain_closes : (shapes : List Shape) (ns : List Node) (b : Branch) (chain : ChainData) → IsChain ns b chain → (c : Closing) → c.chain.items ≡ chain.steps → IsClose (map (formula_at ns) chain.formulas) (close_of_node c.by) → length chain.formulas ≤ most_entries → IsClosingDue shapes ns b c
chain_closes shapes ns b chain is c steps closes w = record {
  application = CloseApplication (map (step_in ns) chain.steps) (close_of_node c.by);
  is = record {
    named = subst (All (NamesInPool ns)) (sym steps) (all_found (NamesInPool ns) chain.steps is.named);
    is = ap (λ ss. CloseApplication (map (step_in ns) ss) (close_of_node c.by)) (sym steps);
  };
  due = closes_branch shapes ns b chain is (close_of_node c.by) closes w;
}

-- ---- two formulas of an explanation

at_found : (ns : List Node) (d : ChainData) (position : ℕ) (p : FormulaData) → IsAt ns d position p → slice_get (map (formula_at ns) d.formulas) position ≡ Some p
at_found ns d position p h = go d.formulas position h.found
  where
    go : (ks : List ℕ) (i : ℕ) → slice_get ks i ≡ Some h.number → slice_get (map (formula_at ns) ks) i ≡ Some p
    go [] i f = absurd (cc)
    go (k ∷ ks) zero f = let same : k ≡ h.number = cc in ap (λ n. Some (formula_at ns n)) same ∙ ap Some h.is
    go (k ∷ ks) (suc i) f = go ks i f

pub clash_closes : (ns : List Node) (d : ChainData) (said denied : ℕ) (p : FormulaData) → IsAt ns d said p → IsAt ns d denied (NotFormula p) → IsClose (map (formula_at ns) d.formulas) (ClashClose said denied)
clash_closes ns d said denied p h k = (p, at_found ns d said p h, at_found ns d denied (NotFormula p) k)

-- ---- the entries of rows, at indexes of an explanation

cite_one : (class : TermData → ℕ) (chosen : ℕ → TermData) (ps qs : List FormulaData) (positions : List (Option ℕ)) (origin : RowOrigin) (origins : List RowOrigin) (m : ℤ) (ms : List ℤ) → ((m ≡ pos 0 → ⊥) → IsPlaced class chosen ps qs positions origin) → HasCited origins ms positions class chosen ps qs → HasCited (origin ∷ origins) (m ∷ ms) positions class chosen ps qs
cite_one class chosen ps qs positions origin origins (pos zero) ms h rest = record { cited = rest.cited; are = NotCited origin origins ms rest.cited rest.are }
cite_one class chosen ps qs positions origin origins (pos (suc n)) ms h rest = let it = h (λ e. cc) in record { cited = _; are = OneCited origin origins (pos (suc n)) ms it.position rest.cited it.stands rest.are }
cite_one class chosen ps qs positions origin origins (negsuc n) ms h rest = let it = h (λ e. cc) in record { cited = _; are = OneCited origin origins (negsuc n) ms it.position rest.cited it.stands rest.are }

has_cited : (class : TermData → ℕ) (chosen : ℕ → TermData) (ps qs : List FormulaData) (positions : List (Option ℕ)) (origins : List RowOrigin) (ms : List ℤ) → length ms ≡ length origins → ArePlaced class chosen ps qs origins ms positions → HasCited origins ms positions class chosen ps qs
has_cited class chosen ps qs positions [] [] e h = record { cited = []; are = NoneCited }
has_cited class chosen ps qs positions [] (m ∷ ms) e h = absurd (omega (arith, e))
has_cited class chosen ps qs positions (o ∷ os) [] e h = absurd (omega (arith, e))
has_cited class chosen ps qs positions (o ∷ os) (m ∷ ms) e h =
    cite_one class chosen ps qs positions o os m ms (h.each zero o m refl refl)
    (has_cited class chosen ps qs positions os ms (omega (arith, e)) (record { each = λ i origin n f g. h.each (suc i) origin n f g }))

module _ (shapes : List Shape) (ns : List Node) (b : Branch) (chain : ChainData) (is : IsChain ns b chain) (class : TermData → ℕ) (classes : List ℕ) (chosen : ℕ → TermData) (are : AreChosen class classes chosen) (rows : List Inequality) (origins : List RowOrigin) (from : AllZip (IsRowFrom class (formulas b) classes) rows origins) (ms : List ℤ) (contradiction : IsContradiction rows ms) (positions : List (Option ℕ)) (one_each : length ms ≡ length origins) (placed : ArePlaced class chosen (formulas b) (map (formula_at ns) chain.formulas) origins ms positions) where
  pub rows_too_long : most_entries < length chain.formulas → IsFull shapes b
  rows_too_long w =
      let it = has_cited class chosen (formulas b) (map (formula_at ns) chain.formulas) positions origins ms one_each placed in
      too_long shapes ns b chain is (LinearClose it.cited) (closes class classes chosen are (formulas b) (map (formula_at ns) chain.formulas) rows origins from ms contradiction it.cited it.are) w

-- a short explanation has indexes of few bits
pub few_positions : (limit : ℕ) (positions : List (Option ℕ)) → AreBelow limit positions → limit ≤ most_entries → ArePositionsWithin positions
few_positions limit positions h w = record { within = λ entry position f. (let l = h.below entry position f in omega (arith, l, w)) }

-- ---- without congruence

pub without_links : (shapes : List Shape) (ns : List Node) (d : BranchData) (c : Closing) → c.chain.items ≡ [] → length d.entries ≤ most_entries → IsClose (formulas (branch_in ns d)) (close_of_node c.by) → IsClosingDue shapes ns (branch_in ns d) c
without_links shapes ns d c none w closes = record {
  application = CloseApplication [] (close_of_node c.by);
  is = record {
    named = subst (All (NamesInPool ns)) (sym none) (All-nil (NamesInPool ns));
    is = ap (λ ss. CloseApplication (map (step_in ns) ss) (close_of_node c.by)) (sym none);
  };
  due = record { links = tt; short = (let l = length-map (branch_in ns d) formula_of in let m = length-map d.entries (entry_in ns) in omega (arith, l, m, w)); closes = closes };
}
