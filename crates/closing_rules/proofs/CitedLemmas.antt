-- The entries of rows whose multiplier is not 0.
use Rattle.std.proofs.Common.{◌≡◌, ◌⊎◌, inl, inr, ℕ, ◌+◌, ◌<◌, ◌≤◌, ℤ, pos, Bool, true, false, List, length, get_or, set, Some, sym, ap, ◌∙◌, subst, arith}
use Rattle.std.specs.Prelude.{slice_get}
use Rattle.std.proofs.lemmas.Bool.{cases_eq}
use Rattle.std.proofs.lemmas.List.{get_or-set_same, get_or-set_other, length-set}
use Rattle.std.proofs.lemmas.Option.{slice_get-get_or, slice_get_within}
use Rattle.row_reasoning.specs.declared.rows.RowOrigin.{RowOrigin}
use Rattle.closing_rules.specs.Rewritings.{is_cited, AreBelow, AreCited}

-- the entries of the first such rows are marked
pub record AreCitedBefore (origins : List RowOrigin) (ms : List ℤ) (count entries : ℕ) (cited : List Bool) : Type 0 where
  pub long : length cited ≡ entries
  pub each : (i : ℕ) (o : RowOrigin) (m : ℤ) → i < count → slice_get origins i ≡ Some o → slice_get ms i ≡ Some m → (m ≡ pos 0 → ⊥) → is_cited cited o.entry ≡ true

last_or_before : (i n : ℕ) → i < n + 1 → (i < n) ⊎ (i ≡ n)
last_or_before i n w = elim (cases_eq i n) [ inl e ↦ inr e | inr d ↦ inl (omega (arith, w, d)) ]

same_some : {X : Type 0} (xs : List X) (i : ℕ) (d x : X) → i < length xs → slice_get xs i ≡ Some x → get_or xs i d ≡ x
same_some xs i d x w f = let both : Some (get_or xs i d) ≡ Some x = sym (slice_get-get_or xs i d w) ∙ f in cc

module _ (origins : List RowOrigin) (ms : List ℤ) (entries : ℕ) where
  pub none_cited : (cited : List Bool) → length cited ≡ entries → AreCitedBefore origins ms 0 entries cited
  none_cited cited e = record { long = e; each = λ i o m w f g other. absurd (omega (arith, w)) }

  module _ (count : ℕ) (d : RowOrigin) (z : ℤ) (w : count < length origins) (v : count < length ms) where
    pub cited_zero : (cited : List Bool) → get_or ms count z ≡ pos 0 → AreCitedBefore origins ms count entries cited → AreCitedBefore origins ms (count + 1) entries cited
    cited_zero cited none h = record {
      long = h.long;
      each = λ i o m l f g other. elim (last_or_before i count l) [
        | inl b ↦ h.each i o m b f g other
        | inr e ↦ absurd (other (sym (same_some ms count z m v (ap (slice_get ms) (sym e) ∙ g)) ∙ none))
      ];
    }

    pub cited_one : (cited more : List Bool) → more ≡ set cited (get_or origins count d).entry true → (get_or origins count d).entry < length cited → AreCitedBefore origins ms count entries cited → AreCitedBefore origins ms (count + 1) entries more
    cited_one cited more is inside h = record {
      long = ap length is ∙ length-set cited (get_or origins count d).entry true ∙ h.long;
      each = λ i o m l f g other. elim (last_or_before i count l) [
        | inl b ↦ stays o.entry (h.each i o m b f g other)
        | inr e ↦ here o.entry (ap (λ (x : RowOrigin). x.entry) (sym (same_some origins count d o w (ap (slice_get origins) (sym e) ∙ f))))
      ];
    }
      where
        here : (k : ℕ) → k ≡ (get_or origins count d).entry → is_cited more k ≡ true
        here k e = ap (λ n. get_or more n false) e ∙ ap (λ xs. get_or xs (get_or origins count d).entry false) is ∙ get_or-set_same cited (get_or origins count d).entry true false inside

        stays : (k : ℕ) → is_cited cited k ≡ true → is_cited more k ≡ true
        stays k t = elim (cases_eq k (get_or origins count d).entry) [
          | inl e ↦ here k e
          | inr n ↦ ap (λ xs. get_or xs k false) is ∙ get_or-set_other cited (get_or origins count d).entry k true false n ∙ t
        ]

    pub entry_below : (limit : ℕ) → AreBelow origins limit → (get_or origins count d).entry < limit
    entry_below limit h = h.each count (get_or origins count d) (slice_get-get_or origins count d w)

  pub cited_done : (count : ℕ) (cited : List Bool) → length origins ≤ count → AreCitedBefore origins ms count entries cited → AreCited origins ms cited
  cited_done count cited w h = record { each = λ i o m f g other. h.each i o m (let v = slice_get_within origins i o f in omega (arith, w, v)) f g other }

-- the same for the rows as they were read
pub cited_read : (origins read : List RowOrigin) (ms : List ℤ) (cited : List Bool) → read ≡ origins → AreCited read ms cited → AreCited origins ms cited
cited_read origins read ms cited same h = subst (λ os. AreCited os ms cited) same h
