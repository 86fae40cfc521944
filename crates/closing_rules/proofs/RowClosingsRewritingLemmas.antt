-- Rewritings of the cited entries.
use Rattle.std.proofs.Common.{◌≡◌, ◌⊎◌, inl, inr, ℕ, zero, suc, ◌+◌, ◌<◌, ℤ, Bool, true, false, List, [], ◌∷◌, ◌++◌, length, Option, Some, sym, ap, ◌∙◌, subst, arith}
use Rattle.std.specs.Prelude.{slice_get}
use Rattle.std.proofs.lemmas.Bool.{cases_eq}
use Rattle.term_pool.specs.Pools.{Extends}
use Rattle.term_pool.specs.declared.node.Node.{Node}
use Rattle.tableau.specs.PoolBranches.{BranchData, IsOver}
use Rattle.congruence_closure.specs.Known.{BranchClassesData}
use Rattle.explanations.proofs.ChainLemmas.{push_kept, push_new}
use Rattle.row_reasoning.proofs.StandInLemmas.{have_grown}
use Rattle.row_reasoning.proofs.DifferencesEntryLemmas.{made_grown}
use Rattle.row_reasoning.specs.declared.rows.RowOrigin.{RowOrigin}
use Rattle.closing_rules.specs.Rewritings.{is_cited, AreBelow, AreCited, HaveEntryStandIns, IsRewriting, IsRewritingOf, AreRewritingsOf, HasRewriting, AreRewritings, CoverRows}
use Rattle.closing_rules.specs.declared.row_closings.rewriting.Rewriting.{Rewriting}

pub push_cases : {X : Type 0} (xs : List X) (y x : X) (i : ℕ) → slice_get (xs ++ y ∷ []) i ≡ Some x → (slice_get xs i ≡ Some x) ⊎ (y ≡ x)
push_cases [] y x zero e = inr (cc)
push_cases [] y x (suc i) e = absurd (cc)
push_cases (z ∷ xs) y x zero e = inl e
push_cases (z ∷ xs) y x (suc i) e = push_cases xs y x i e

module _ (ns ms : List Node) (g : Extends ns ms) (d : BranchData) (over : IsOver ns d) (c : BranchClassesData) (names : List ℕ) (find : ℕ → Option ℕ) where
  pub stand_ins_grown : HaveEntryStandIns ns d c names find → HaveEntryStandIns ms d c names find
  stand_ins_grown h = record { each = λ i e f. have_grown ns ms g c names find e.formula (over.formulas i e f).within (h.each i e f) }

  rewriting_grown : (r : Rewriting) → IsRewriting ns d c names find r → IsRewriting ms d c names find r
  rewriting_grown r h = record { entry = h.entry; found = h.found; makes = made_grown ns ms g c names find h.entry.formula r.differences.items (over.formulas r.entry h.entry h.found) h.makes }

  rewritings_grown : (rs : List Rewriting) → AreRewritingsOf ns d c names find rs → AreRewritingsOf ms d c names find rs
  rewritings_grown rs h = record { each = λ k r f. rewriting_grown r (h.each k r f) }

  -- one more rewriting, while the pool is extended
  pub one_more : (cited : List Bool) (rs more : List Rewriting) (count : ℕ) (r : Rewriting) → more ≡ rs ++ r ∷ [] → IsRewritingOf ms d c names find count r → AreRewritings ns d c names find cited rs count → AreRewritings ms d c names find cited more (count + 1)
  one_more cited rs more count r is h old = subst (λ xs. AreRewritings ms d c names find cited xs (count + 1)) (sym is) (record { each = record { each = each }; all = all })
    where
      each : (k : ℕ) (x : Rewriting) → slice_get (rs ++ r ∷ []) k ≡ Some x → IsRewriting ms d c names find x
      each k x f = elim (push_cases rs r x k f) [ inl e ↦ rewriting_grown x (old.each.each k x e) | inr e ↦ subst (IsRewriting ms d c names find) e h.is ]

      all : (entry : ℕ) → entry < count + 1 → is_cited cited entry ≡ true → HasRewriting (rs ++ r ∷ []) entry
      all entry w t = elim (cases_eq entry count) [
        | inl e ↦ record { position = length rs; rewriting = r; found = push_new rs r; same = h.same ∙ sym e }
        | inr e ↦ (let k = old.all entry (omega (arith, w, e)) t in record { position = k.position; rewriting = k.rewriting; found = push_kept rs r k.rewriting k.position k.found; same = k.same })
      ]

module _ (ns : List Node) (d : BranchData) (c : BranchClassesData) (names : List ℕ) (find : ℕ → Option ℕ) (cited : List Bool) where
  pub none_yet : (rs : List Rewriting) → rs ≡ [] → AreRewritings ns d c names find cited rs 0
  none_yet rs e = subst (λ xs. AreRewritings ns d c names find cited xs 0) (sym e) (record { each = record { each = λ k r f. absurd (cc) }; all = λ entry w t. absurd (omega (arith, w)) })

  pub passed_by : (rs : List Rewriting) (count : ℕ) (b : Bool) → b ≡ is_cited cited count → b ≡ false → AreRewritings ns d c names find cited rs count → AreRewritings ns d c names find cited rs (count + 1)
  passed_by rs count b e f h = record { each = h.each; all = all }
    where
      all : (entry : ℕ) → entry < count + 1 → is_cited cited entry ≡ true → HasRewriting rs entry
      all entry w t = elim (cases_eq entry count) [
        | inl q ↦ absurd (let both : true ≡ false = sym t ∙ ap (is_cited cited) q ∙ sym e ∙ f in cc)
        | inr q ↦ h.all entry (omega (arith, w, q)) t
      ]

  pub all_done : (rs : List Rewriting) (count limit : ℕ) → limit ≡ count → AreRewritings ns d c names find cited rs count → AreRewritings ns d c names find cited rs limit
  all_done rs count limit e h = subst (AreRewritings ns d c names find cited rs) (sym e) h

  pub cover_rows : (origins : List RowOrigin) (ms : List ℤ) (rs : List Rewriting) (count : ℕ) → AreBelow origins count → AreCited origins ms cited → AreRewritings ns d c names find cited rs count → CoverRows origins ms rs
  cover_rows origins ms rs count below are h = record { each = λ i o m f g other. h.all o.entry (below.each i o f) (are.each i o m f g other) }
