-- Sums with the chosen term for each class have the numbers of the sums over classes.
use Rattle.std.proofs.Common.{◌≡◌, ℕ, ℤ, pos, ◌+ℤ◌, ◌-ℤ◌, ◌*ℤ◌, Bool, true, false, List, Option, Some, None, refl, sym, ap, ◌∙◌, subst}
use Rattle.std.specs.Prelude.{slice_get, if◌then◌else◌}
use lib.IntN.{*ℤ-zero}
use Rattle.fol.specs.declared.operators.Binary.TheVariants.{Add, Mul, Sub}
use Rattle.fol.specs.declared.operators.Constant.TheVariants.{Num}
use Rattle.fol.specs.FormulaData.{TermData, VarTerm, NumTerm, ConstantTerm, BinaryTerm, MulTerm}
use Rattle.certificates.specs.Linear.{kept, kept_of, same_term, numeral_of, Part, numeral_weight, unknown_weight, product_weight, weight}
use Rattle.certificates.specs.Unknowns.{EachOfProduct, EachUnknown}
use Rattle.certificates.proofs.Sums.{same_term-equal, same_term_itself}
use Rattle.certificates.specs.Rows.{IsKnown}
use Rattle.row_reasoning.proofs.KeptLemmas.{kept_itself, zero_fits}
use Rattle.row_reasoning.specs.Chosen.{IsNoSum, with_chosen}

-- ---- terms that are no sums

no_sum_weight : (part : Part) (t : TermData) → IsNoSum t → weight part t ≡ unknown_weight part t
no_sum_weight part (ConstantTerm (Num i)) h = absurd h
no_sum_weight part (ConstantTerm _) h = refl
no_sum_weight part (BinaryTerm Add t u) h = absurd h
no_sum_weight part (BinaryTerm Sub t u) h = absurd h
no_sum_weight part (BinaryTerm Mul t u) h =
    ap (λ o. product_weight o (numeral_of u) (weight part t) (weight part u) (unknown_weight part (MulTerm t u))) h.0
    ∙ ap (λ o. product_weight None o (weight part t) (weight part u) (unknown_weight part (MulTerm t u))) h.1
no_sum_weight part (BinaryTerm _ t u) h = refl
no_sum_weight part _ h = refl

no_sum_numeral : (t : TermData) → IsNoSum t → numeral_of t ≡ None
no_sum_numeral (ConstantTerm (Num i)) h = absurd h
no_sum_numeral (ConstantTerm _) h = refl
no_sum_numeral _ h = refl

-- ---- the weight of an unknown

counted : (b c : Bool) → (b ≡ true → c ≡ true) → (c ≡ true → b ≡ true) → (if b then Some (pos 1) else Some (pos 0)) ≡ (if c then Some (pos 1) else Some (pos 0))
counted true true f g = refl
counted true false f g = absurd (let never : false ≡ true = f refl in cc)
counted false true f g = absurd (let never : false ≡ true = g refl in cc)
counted false false f g = refl

same_if : (t u : TermData) → t ≡ u → same_term t u ≡ true
same_if t u e = ap (same_term t) (sym e) ∙ same_term_itself t

-- two unknowns are equal exactly if two others are
pub counts_alike : (t u v w : TermData) → (t ≡ u → v ≡ w) → (v ≡ w → t ≡ u) → unknown_weight (Some u) t ≡ unknown_weight (Some w) v
counts_alike t u v w there back =
    counted (same_term t u) (same_term v w) (λ e. same_if v w (there (same_term-equal t u e))) (λ e. same_if t u (back (same_term-equal v w e)))

-- ---- sums

numeral_kept : (chosen : ℕ → TermData) (t : TermData) (c : ℤ) → numeral_of t ≡ Some c → numeral_of (with_chosen chosen t) ≡ Some c
numeral_kept chosen (ConstantTerm (Num i)) c e = e
numeral_kept chosen (ConstantTerm _) c e = absurd (cc)
numeral_kept chosen _ c e = absurd (cc)

module _ (classes : List ℕ) (chosen : ℕ → TermData) (no_sum : (k n : ℕ) → slice_get classes k ≡ Some n → IsNoSum (chosen n)) where
  known_no_sum : (m : ℕ) → IsKnown classes (VarTerm m) → IsNoSum (chosen m)
  known_no_sum m h =
      let both : VarTerm m ≡ VarTerm h.1 = h.3 in
      let same : h.1 ≡ m = cc in
      subst (λ k. IsNoSum (chosen k)) same (no_sum h.0 h.1 h.2)

  numeral_none : (t : TermData) → numeral_of t ≡ None → EachUnknown (IsKnown classes) t → numeral_of (with_chosen chosen t) ≡ None
  numeral_none (VarTerm m) e h = no_sum_numeral (chosen m) (known_no_sum m h)
  numeral_none (ConstantTerm (Num i)) e h = absurd (cc)
  numeral_none (ConstantTerm _) e h = refl
  numeral_none _ e h = refl

  module _ (p q : Part) where
    -- a product, given the numbers of its factors
    product : (t u : TermData) → (EachUnknown (IsKnown classes) t → weight q (with_chosen chosen t) ≡ weight p t) → (EachUnknown (IsKnown classes) u → weight q (with_chosen chosen u) ≡ weight p u) → (o r : Option ℤ) → numeral_of t ≡ o → numeral_of u ≡ r → EachOfProduct o r (EachUnknown (IsKnown classes) t) (EachUnknown (IsKnown classes) u) (IsKnown classes (MulTerm t u)) → (w x : Option ℤ) → product_weight (numeral_of (with_chosen chosen t)) (numeral_of (with_chosen chosen u)) (weight q (with_chosen chosen t)) (weight q (with_chosen chosen u)) w ≡ product_weight o r (weight p t) (weight p u) x
    product t u left right (Some c) r e f h w x =
        ap (λ o. product_weight o (numeral_of (with_chosen chosen u)) (weight q (with_chosen chosen t)) (weight q (with_chosen chosen u)) w) (numeral_kept chosen t c e)
        ∙ ap (kept_of ◌*ℤ◌ (Some c)) (right h)
    product t u left right None (Some c) e f h w x =
        ap (λ o. product_weight o (numeral_of (with_chosen chosen u)) (weight q (with_chosen chosen t)) (weight q (with_chosen chosen u)) w) (numeral_none t e h)
        ∙ ap (λ o. product_weight None o (weight q (with_chosen chosen t)) (weight q (with_chosen chosen u)) w) (numeral_kept chosen u c f)
        ∙ ap (kept_of ◌*ℤ◌ (Some c)) (left h)
    product t u left right None None e f h w x = absurd (let never = h.3 in cc)

    module _ (numerals : (i : ℤ) → numeral_weight q i ≡ numeral_weight p i) (unknowns : (k n : ℕ) → slice_get classes k ≡ Some n → unknown_weight q (chosen n) ≡ unknown_weight p (VarTerm n)) where
      known_weight : (m : ℕ) → IsKnown classes (VarTerm m) → unknown_weight q (chosen m) ≡ unknown_weight p (VarTerm m)
      known_weight m h =
          let both : VarTerm m ≡ VarTerm h.1 = h.3 in
          let same : h.1 ≡ m = cc in
          subst (λ k. unknown_weight q (chosen k) ≡ unknown_weight p (VarTerm k)) same (unknowns h.0 h.1 h.2)

      pub same_weight : (s : TermData) → EachUnknown (IsKnown classes) s → weight q (with_chosen chosen s) ≡ weight p s
      same_weight (VarTerm m) h = no_sum_weight q (chosen m) (known_no_sum m h) ∙ known_weight m h
      same_weight (ConstantTerm (Num i)) h = numerals i
      same_weight (ConstantTerm _) h = absurd (let never = h.3 in cc)
      same_weight (BinaryTerm Add t u) h = λ i. kept_of ◌+ℤ◌ (same_weight t h.0 i) (same_weight u h.1 i)
      same_weight (BinaryTerm Sub t u) h = λ i. kept_of ◌-ℤ◌ (same_weight t h.0 i) (same_weight u h.1 i)
      same_weight (BinaryTerm Mul t u) h = product t u (same_weight t) (same_weight u) (numeral_of t) (numeral_of u) refl refl h (unknown_weight q (MulTerm (with_chosen chosen t) (with_chosen chosen u))) (unknown_weight p (MulTerm t u))
      same_weight (BinaryTerm _ t u) h = absurd (let never = h.3 in cc)
      same_weight _ h = absurd (let never = h.3 in cc)

-- ---- what is no unknown has no weight

abbrev pub nothing : Part
nothing = Some (NumTerm (pos 0))

kept_nothing : kept (pos 0) ≡ Some (pos 0)
kept_nothing = kept_itself (pos 0) zero_fits

no_variable : (m : ℕ) (b : Bool) → same_term (VarTerm m) (NumTerm (pos 0)) ≡ b → (if b then Some (pos 1) else Some (pos 0)) ≡ Some (pos 0)
no_variable m true e = absurd (let never : VarTerm m ≡ NumTerm (pos 0) = same_term-equal (VarTerm m) (NumTerm (pos 0)) e in cc)
no_variable m false e = refl

module _ (classes : List ℕ) where
  nothing_product : (t u : TermData) → (EachUnknown (IsKnown classes) t → weight nothing t ≡ Some (pos 0)) → (EachUnknown (IsKnown classes) u → weight nothing u ≡ Some (pos 0)) → (o r : Option ℤ) → EachOfProduct o r (EachUnknown (IsKnown classes) t) (EachUnknown (IsKnown classes) u) (IsKnown classes (MulTerm t u)) → (x : Option ℤ) → product_weight o r (weight nothing t) (weight nothing u) x ≡ Some (pos 0)
  nothing_product t u left right (Some c) r h x = ap (kept_of ◌*ℤ◌ (Some c)) (right h) ∙ ap kept (*ℤ-zero c) ∙ kept_nothing
  nothing_product t u left right None (Some c) h x = ap (kept_of ◌*ℤ◌ (Some c)) (left h) ∙ ap kept (*ℤ-zero c) ∙ kept_nothing
  nothing_product t u left right None None h x = absurd (let never = h.3 in cc)

  pub nothing_weight : (s : TermData) → EachUnknown (IsKnown classes) s → weight nothing s ≡ Some (pos 0)
  nothing_weight (VarTerm m) h = no_variable m (same_term (VarTerm m) (NumTerm (pos 0))) refl
  nothing_weight (ConstantTerm (Num i)) h = refl
  nothing_weight (ConstantTerm _) h = absurd (let never = h.3 in cc)
  nothing_weight (BinaryTerm Add t u) h = (λ i. kept_of ◌+ℤ◌ (nothing_weight t h.0 i) (nothing_weight u h.1 i)) ∙ kept_nothing
  nothing_weight (BinaryTerm Sub t u) h = (λ i. kept_of ◌-ℤ◌ (nothing_weight t h.0 i) (nothing_weight u h.1 i)) ∙ kept_nothing
  nothing_weight (BinaryTerm Mul t u) h = nothing_product t u (nothing_weight t) (nothing_weight u) (numeral_of t) (numeral_of u) h (unknown_weight nothing (MulTerm t u))
  nothing_weight (BinaryTerm _ t u) h = absurd (let never = h.3 in cc)
  nothing_weight _ h = absurd (let never = h.3 in cc)
