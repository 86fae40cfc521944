-- Multiples cited one after another.
use Rattle.std.proofs.Common.{◌≡◌, ℕ, ◌+◌, ◌<◌, ◌≤◌, ℤ, pos, List, [], ◌∷◌, ◌++◌, length, take, get_or, Option, Some, None, sym, ap, ◌∙◌, subst}
use Rattle.std.proofs.lemmas.List.{take_more, take_all}
use Rattle.std.proofs.lemmas.Option.{slice_get-get_or}
use Rattle.fol.specs.FormulaData.{TermData, FormulaData}
use Rattle.certificates.specs.declared.certificate.Multiple.{Multiple}
use Rattle.row_reasoning.specs.Sums.{signed}
use Rattle.row_reasoning.specs.declared.rows.RowOrigin.{RowOrigin}
use Rattle.row_reasoning.specs.Cited.{StandsChosen, AreCited, NoneCited, NotCited, OneCited, position_at, ArePlaced}

abbrev pub multiple_of : ℕ → RowOrigin → ℤ → Multiple
multiple_of position origin m = record { entry = position; multiplier = signed origin.is_turned m }

module _ (class : TermData → ℕ) (chosen : ℕ → TermData) (ps qs : List FormulaData) where
  push_one : (origins : List RowOrigin) (ms : List ℤ) (cited : List Multiple) → AreCited class chosen ps qs origins ms cited → (origin : RowOrigin) (m : ℤ) (position : ℕ) → StandsChosen class chosen ps qs origin position → AreCited class chosen ps qs (origins ++ origin ∷ []) (ms ++ m ∷ []) (cited ++ multiple_of position origin m ∷ [])
  push_one _ _ _ NoneCited origin m position s = OneCited origin [] m [] position [] s NoneCited
  push_one _ _ _ (NotCited o os ms cited h) origin m position s = NotCited o (os ++ origin ∷ []) (ms ++ m ∷ []) (cited ++ multiple_of position origin m ∷ []) (push_one os ms cited h origin m position s)
  push_one _ _ _ (OneCited o os n ms at cited t h) origin m position s = OneCited o (os ++ origin ∷ []) n (ms ++ m ∷ []) at (cited ++ multiple_of position origin m ∷ []) t (push_one os ms cited h origin m position s)

  push_none : (origins : List RowOrigin) (ms : List ℤ) (cited : List Multiple) → AreCited class chosen ps qs origins ms cited → (origin : RowOrigin) → AreCited class chosen ps qs (origins ++ origin ∷ []) (ms ++ pos 0 ∷ []) cited
  push_none _ _ _ NoneCited origin = NotCited origin [] [] [] NoneCited
  push_none _ _ _ (NotCited o os ms cited h) origin = NotCited o (os ++ origin ∷ []) (ms ++ pos 0 ∷ []) cited (push_none os ms cited h origin)
  push_none _ _ _ (OneCited o os n ms at cited t h) origin = OneCited o (os ++ origin ∷ []) n (ms ++ pos 0 ∷ []) at cited t (push_none os ms cited h origin)

-- the multiples of the first rows, whatever the indexes of their entries
pub record AreCitedSoFar (origins : List RowOrigin) (ms : List ℤ) (positions : List (Option ℕ)) (count : ℕ) (cited : List Multiple) : Type 0 where
  pub cite : (class : TermData → ℕ) (chosen : ℕ → TermData) (ps qs : List FormulaData) → ArePlaced class chosen ps qs origins ms positions → AreCited class chosen ps qs (take count origins) (take count ms) cited

module _ (origins : List RowOrigin) (ms : List ℤ) (positions : List (Option ℕ)) where
  pub cited_begun : AreCitedSoFar origins ms positions 0 []
  cited_begun = record { cite = λ class chosen ps qs h. NoneCited }

  -- one more row, whose multiplier is 0
  pub cited_same : (count : ℕ) (cited : List Multiple) (d : RowOrigin) (e : ℤ) → count < length origins → count < length ms → get_or ms count e ≡ pos 0 → AreCitedSoFar origins ms positions count cited → AreCitedSoFar origins ms positions (count + 1) cited
  cited_same count cited d e w v zero h = record {
    cite = λ class chosen ps qs p.
        subst (λ os. AreCited class chosen ps qs os (take (count + 1) ms) cited) (sym (take_more origins count d w))
        (subst (λ ns. AreCited class chosen ps qs (take count origins ++ get_or origins count d ∷ []) ns cited) (sym (take_more ms count e v ∙ ap (λ z. take count ms ++ z ∷ []) zero))
        (push_none class chosen ps qs (take count origins) (take count ms) cited (h.cite class chosen ps qs p) (get_or origins count d)));
  }

  -- one more row, whose entry has an index
  pub cited_more : (count : ℕ) (cited more : List Multiple) (d : RowOrigin) (e : ℤ) (position : ℕ) → count < length origins → count < length ms → (get_or ms count e ≡ pos 0 → ⊥) → position_at positions (get_or origins count d).entry ≡ Some position → more ≡ cited ++ multiple_of position (get_or origins count d) (get_or ms count e) ∷ [] → AreCitedSoFar origins ms positions count cited → AreCitedSoFar origins ms positions (count + 1) more
  cited_more count cited more d e position w v other found is h = record { cite = cite }
    where
      cite : (class : TermData → ℕ) (chosen : ℕ → TermData) (ps qs : List FormulaData) → ArePlaced class chosen ps qs origins ms positions → AreCited class chosen ps qs (take (count + 1) origins) (take (count + 1) ms) more
      cite class chosen ps qs p =
          let it = p.each count (get_or origins count d) (get_or ms count e) (slice_get-get_or origins count d w) (slice_get-get_or ms count e v) other in
          let both : Some it.position ≡ Some position = sym it.found ∙ found in
          let same : it.position ≡ position = cc in
          subst (λ os. AreCited class chosen ps qs os (take (count + 1) ms) more) (sym (take_more origins count d w))
          (subst (λ ns. AreCited class chosen ps qs (take count origins ++ get_or origins count d ∷ []) ns more) (sym (take_more ms count e v))
          (subst (AreCited class chosen ps qs (take count origins ++ get_or origins count d ∷ []) (take count ms ++ get_or ms count e ∷ [])) (sym is)
          (push_one class chosen ps qs (take count origins) (take count ms) cited (h.cite class chosen ps qs p) (get_or origins count d) (get_or ms count e) position (subst (StandsChosen class chosen ps qs (get_or origins count d)) same it.stands))))

  -- a row whose entry has no index has the multiplier 0
  pub cited_nowhere : (count : ℕ) (cited : List Multiple) (d : RowOrigin) (e : ℤ) → count < length origins → count < length ms → (get_or ms count e ≡ pos 0 → ⊥) → position_at positions (get_or origins count d).entry ≡ None → AreCitedSoFar origins ms positions (count + 1) cited
  cited_nowhere count cited d e w v other nowhere = record {
    cite = λ class chosen ps qs p. absurd (
        let it = p.each count (get_or origins count d) (get_or ms count e) (slice_get-get_or origins count d w) (slice_get-get_or ms count e v) other in
        let both : Some it.position ≡ None = sym it.found ∙ nowhere in
        cc);
  }

  pub cited_done : (count : ℕ) (cited : List Multiple) → length origins ≤ count → length ms ≤ count → AreCitedSoFar origins ms positions count cited → (class : TermData → ℕ) (chosen : ℕ → TermData) (ps qs : List FormulaData) → ArePlaced class chosen ps qs origins ms positions → AreCited class chosen ps qs origins ms cited
  cited_done count cited w v h class chosen ps qs p =
      subst (λ os. AreCited class chosen ps qs os ms cited) (take_all count origins w)
      (subst (λ ns. AreCited class chosen ps qs (take count origins) ns cited) (take_all count ms v) (h.cite class chosen ps qs p))

  -- ---- there are such multiples

  pub record HasCited (class : TermData → ℕ) (chosen : ℕ → TermData) (ps qs : List FormulaData) : Type 0 where
    pub cited : List Multiple
    pub are : AreCited class chosen ps qs origins ms cited
