-- Indexes of entries after their rewritings.
use Rattle.std.proofs.Common.{◌≡◌, inl, inr, ℕ, zero, ◌+◌, ◌<◌, List, [], ◌∷◌, ◌++◌, length, take, get_or, set, Option, Some, None, refl, sym, ap, ◌∙◌, subst}
use Rattle.std.specs.Prelude.{slice_get}
use Rattle.std.proofs.lemmas.Bool.{cases_eq}
use Rattle.std.proofs.lemmas.List.{take_more, get_or-set_same, get_or-set_other}
use Rattle.std.proofs.lemmas.Option.{slice_get-get_or, slice_get_within}
use Rattle.term_pool.specs.Items.{TermSort, formula_in}
use Rattle.term_pool.specs.Pools.{item_at, Extends}
use Rattle.term_pool.specs.declared.node.Node.{Node}
use Rattle.term_pool.proofs.ItemLemmas.{item_kept}
use Rattle.fol.specs.FormulaData.{FormulaData}
use Rattle.certificates.specs.BranchesBranch.{Branch}
use Rattle.congruence_closure.specs.Numbers.{number_at}
use Rattle.explanations.specs.Chains.{ChainData, Keeps, IsAt, IsChain}
use Rattle.explanations.proofs.ChainLemmas.{push_kept, push_new}
use Rattle.explanations.specs.Replacing.{IsReplacement, after_all, AreInTurn, CanReplaceAt, IsReplacedAt}
use Rattle.explanations.specs.declared.derived.replacing.Difference.{Difference}
use Rattle.explanations.proofs.GrowthLemmas.{begin_grown}
use Rattle.explanations.proofs.ReplacingLemmas.{replace_grown, all_grown, turn_grown}
use Rattle.row_reasoning.specs.Cited.{position_at}
use Rattle.closing_rules.specs.Rewritings.{IsReady, HasPositionFor, ArePlacedBy}
use Rattle.closing_rules.specs.declared.row_closings.rewriting.Rewriting.{Rewriting}
use Rattle.closing_rules.proofs.RowClosingsRewritingLemmas.{push_cases}

-- ---- while the explanation is extended

pub at_later : (ns ms : List Node) → Extends ns ms → (b : Branch) (d e : ChainData) → Keeps d e → IsChain ns b d → (position : ℕ) (p : FormulaData) → IsAt ns d position p → IsAt ms e position p
at_later ns ms x b d e k chain position p h = record { number = h.number; found = k.kept position h.number h.found; is = ap formula_in (item_kept ns ms x h.number (chain.numbers position h.number h.found).earlier) ∙ h.is }

within_kept : (d e : ChainData) → Keeps d e → (position : ℕ) → position < length d.formulas → position < length e.formulas
within_kept d e k position w = slice_get_within e.formulas position (get_or d.formulas position 0) (k.kept position (get_or d.formulas position 0) (slice_get-get_or d.formulas position 0 w))

module _ (ns ms : List Node) (x : Extends ns ms) (b : Branch) (d e : ChainData) (k : Keeps d e) (chain : IsChain ns b d) (numbers : List ℕ) where
  pub ready_later : (table : List (Option ℕ)) (r : Rewriting) → IsReady ns b d numbers table r → IsReady ms b e numbers table r
  ready_later table r h = record {
    can = record {
      number = h.can.number;
      found = k.kept r.entry h.can.number h.can.found;
      in_turn = subst (λ y. AreInTurn ms numbers y r.differences.items) (sym (item_kept ns ms x h.can.number (chain.numbers r.entry h.can.number h.can.found).earlier)) (turn_grown ns ms x numbers (item_at ns h.can.number) r.differences.items (λ n c f. (h.can.each n c f).is) h.can.in_turn);
      each = λ n c f. replace_grown ns ms x d e k numbers table c (h.can.each n c f);
    };
    begin = record { each = λ n c f. begin_grown ns ms x b d e k (number_at numbers c.from) TermSort (h.can.each n c f).is.from_term (h.begin.each n c f) };
  }

  -- the result for an entry is the same over the smaller pool
  pub replaced_back : (ks : List Node) (f : ChainData) (entry position : ℕ) (read ds : List Difference) → read ≡ ds → ((n : ℕ) (c : Difference) → slice_get ds n ≡ Some c → IsReplacement ns numbers c) → IsReplacedAt ms e numbers entry read ks f position → IsReplacedAt ns d numbers entry ds ks f position
  replaced_back ks f entry position read ds same each h = record {
    at = λ number found.
        subst (λ y. IsAt ks f position (formula_in y))
        ((λ i. after_all ms numbers (item_kept ns ms x number (chain.numbers entry number found).earlier i) (same i)) ∙ all_grown ns ms x numbers (item_at ns number) ds each)
        (h.at number (k.kept entry number found));
  }

-- the first formula of a rewriting that is ready
pub position_within : (ns : List Node) (d : ChainData) (numbers : List ℕ) (entry : ℕ) (ds : List Difference) (table : List (Option ℕ)) (ms : List Node) (e : ChainData) (position : ℕ) → CanReplaceAt ns d numbers table entry ds → IsReplacedAt ns d numbers entry ds ms e position → position < length e.formulas
position_within ns d numbers entry ds table ms e position can h = let at = h.at can.number can.found in slice_get_within e.formulas position at.number at.found

pub entry_within : (ns : List Node) (d : ChainData) (numbers : List ℕ) (entry : ℕ) (ds : List Difference) (table : List (Option ℕ)) → CanReplaceAt ns d numbers table entry ds → entry < length d.formulas
entry_within ns d numbers entry ds table can = slice_get_within d.formulas entry can.number can.found

-- ---- the table of indexes

none_taken : {X : Type 0} (xs : List X) (i : ℕ) (x : X) → slice_get (take zero xs) i ≡ Some x → ⊥
none_taken [] i x e = absurd (cc)
none_taken (y ∷ ys) i x e = absurd (cc)

pub none_placed : (ns : List Node) (d : ChainData) (numbers : List ℕ) (rs : List Rewriting) (ms : List Node) (e : ChainData) (positions : List (Option ℕ)) → ((entry : ℕ) → position_at positions entry ≡ None) → ArePlacedBy ns d numbers (take zero rs) ms e positions
none_placed ns d numbers rs ms e positions none = record {
  each = λ k r f. absurd (none_taken rs k r f);
  below = λ entry position f. absurd (let both : None ≡ Some position = sym (none entry) ∙ f in cc);
}

module _ (ns : List Node) (d : ChainData) (numbers : List ℕ) (rs : List Rewriting) (ms ks : List Node) (x : Extends ms ks) (b : Branch) (e f : ChainData) (k : Keeps e f) (chain : IsChain ms b e) (positions : List (Option ℕ)) (h : ArePlacedBy ns d numbers rs ms e positions) (r : Rewriting) (position : ℕ) (is : IsReplacedAt ns d numbers r.entry r.differences.items ks f position) (within : position < length f.formulas) (inside : r.entry < length positions) where
  abbrev more : List (Option ℕ)
  more = set positions r.entry (Some position)

  here : (entry : ℕ) → entry ≡ r.entry → position_at more entry ≡ Some position
  here entry q = ap (λ n. get_or more n None) q ∙ get_or-set_same positions r.entry (Some position) None inside

  other : (entry : ℕ) → (entry ≡ r.entry → ⊥) → position_at more entry ≡ position_at positions entry
  other entry q = get_or-set_other positions r.entry entry (Some position) None q

  new_position : (entry : ℕ) → entry ≡ r.entry → HasPositionFor ns d numbers (rs ++ r ∷ []) ks f more entry
  new_position entry q = record {
    position = position;
    found = here entry q;
    has = record { position = length rs; rewriting = r; found = push_new rs r; same = sym q };
    at = subst (λ n. IsReplacedAt ns d numbers n r.differences.items ks f position) (sym q) is;
  }

  old_position : (entry : ℕ) → (entry ≡ r.entry → ⊥) → HasPositionFor ns d numbers rs ms e positions entry → HasPositionFor ns d numbers (rs ++ r ∷ []) ks f more entry
  old_position entry q o = record {
    position = o.position;
    found = other entry q ∙ o.found;
    has = record { position = o.has.position; rewriting = o.has.rewriting; found = push_kept rs r o.has.rewriting o.has.position o.has.found; same = o.has.same };
    at = record { at = λ number g. at_later ms ks x b e f k chain o.position (formula_in (after_all ns numbers (item_at ns number) o.has.rewriting.differences.items)) (o.at.at number g) };
  }

  pub one_placed : ArePlacedBy ns d numbers (rs ++ r ∷ []) ks f (set positions r.entry (Some position))
  one_placed = record { each = each; below = below }
    where
      each : (n : ℕ) (s : Rewriting) → slice_get (rs ++ r ∷ []) n ≡ Some s → HasPositionFor ns d numbers (rs ++ r ∷ []) ks f more s.entry
      each n s g = elim (push_cases rs r s n g) [
        | inl o ↦ elim (cases_eq s.entry r.entry) [ inl q ↦ new_position s.entry q | inr q ↦ old_position s.entry q (h.each n s o) ]
        | inr q ↦ new_position s.entry (ap (λ (y : Rewriting). y.entry) (sym q))
      ]

      below : (entry at : ℕ) → position_at more entry ≡ Some at → at < length f.formulas
      below entry at g = elim (cases_eq entry r.entry) [
        | inl q ↦ (let both : Some position ≡ Some at = sym (here entry q) ∙ g in let same : position ≡ at = cc in subst (λ n. n < length f.formulas) same within)
        | inr q ↦ within_kept e f k at (h.below entry at (sym (other entry q) ∙ g))
      ]

-- the same for the rewritings and the table as they were read
pub placed_read : (ns : List Node) (d : ChainData) (numbers : List ℕ) (rs : List Rewriting) (n : ℕ) (r s : Rewriting) (ms : List Node) (e : ChainData) (positions more : List (Option ℕ)) → n < length rs → r ≡ get_or rs n s → more ≡ positions → ArePlacedBy ns d numbers (take n rs ++ r ∷ []) ms e positions → ArePlacedBy ns d numbers (take (n + 1) rs) ms e more
placed_read ns d numbers rs n r s ms e positions more w is same h =
    subst (λ xs. ArePlacedBy ns d numbers xs ms e more) (ap (λ y. take n rs ++ y ∷ []) is ∙ sym (take_more rs n s w)) (subst (ArePlacedBy ns d numbers (take n rs ++ r ∷ []) ms e) (sym same) h)

-- the indexes are those of the entries over the smaller pool
pub placed_back : (ns ms : List Node) → Extends ns ms → (b : Branch) (d e : ChainData) → Keeps d e → IsChain ns b d → (numbers read : List ℕ) → read ≡ numbers → (rs : List Rewriting) → ((k : ℕ) (r : Rewriting) → slice_get rs k ≡ Some r → (n : ℕ) (c : Difference) → slice_get r.differences.items n ≡ Some c → IsReplacement ns numbers c) → (ks : List Node) (f : ChainData) (positions : List (Option ℕ)) → ArePlacedBy ms e read rs ks f positions → ArePlacedBy ns d numbers rs ks f positions
placed_back ns ms x b d e k chain numbers read same rs replaces ks f positions h = record { each = λ n r g. back r (of_read.each n r g); below = h.below }
  where
    of_read : ArePlacedBy ms e numbers rs ks f positions
    of_read = subst (λ ns2. ArePlacedBy ms e ns2 rs ks f positions) same h

    back : (r : Rewriting) → HasPositionFor ms e numbers rs ks f positions r.entry → HasPositionFor ns d numbers rs ks f positions r.entry
    back r o = record {
      position = o.position;
      found = o.found;
      has = o.has;
      at = replaced_back ns ms x b d e k chain numbers ks f r.entry o.position o.has.rewriting.differences.items o.has.rewriting.differences.items refl (replaces o.has.position o.has.rewriting o.has.found) o.at;
    }
