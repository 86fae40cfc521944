-- The two terms of an axiom with an exception have equal values if the exception is false.
use Rattle.std.proofs.Common.{◌≡◌, ℕ, ◌+◌, ◌<◌, pos, negsuc, ◌-ℤ◌, false, sym, ap, ◌∙◌, subst, arith}
use Rattle.std.specs.Prelude.{int_le}
use Rattle.std.proofs.lemmas.Int.{ints}
use Rattle.std.proofs.lemmas.Bool.Decides.{nat_tests}
use Rattle.base.proofs.TruthValues.{apart}
use Rattle.fol.specs.FormulaData.{TermData, FormulaData}
use Rattle.fol.specs.Val.{Val, NumberValue, TruthValue, NothingValue, VectorValue, StructValue, MemoryValue, same_value, same_value_itself}
use Rattle.fol.specs.Operators.{items_of, entries_of, at_value, set_value, at_most}
use Rattle.fol.specs.Truth.{Interpretation, Assignment, value_of, truth_of}
use Rattle.axioms.specs.declared.axiom.Exception.{Exception}
use Rattle.axioms.specs.declared.axiom.Exception.TheVariants.{SelectOther, AtOtherPushed, LenPopped, AtPopped, AtOtherSet}
use Rattle.axioms.specs.Exceptions.{IsException}
use Rattle.axioms.proofs.Memories.{select_other}
use Rattle.axioms.proofs.Vectors.{at_vector, len_pop, at_other_pushed, at_popped, at_other_set}

-- values for which the test is false differ
differ : (v w : Val) → same_value v w ≡ false → v ≡ w → ⊥
differ v w d e = apart (same_value v w) (ap (same_value v) (sym e) ∙ same_value_itself v) d

has_items : (n : ℕ) → int_le (pos n) (pos 0) ≡ false → 0 < n
has_items n h = grind (arith, nat_tests)

before_last : (n : ℕ) (i : Val) → at_most (NumberValue (pos n -ℤ pos 1)) i ≡ false → (k : ℕ) → i ≡ NumberValue (pos k) → k + 1 < n
before_last n i h k e = go (subst (λ (j : Val). at_most (NumberValue (pos n -ℤ pos 1)) j ≡ false) e h)
  where
    go : int_le (pos n -ℤ pos 1) (pos k) ≡ false → k + 1 < n
    go f = grind (arith, ints)

-- an item other than the one that was written at an index
at_other : (v i j x : Val) → (i ≡ j → ⊥) → at_value (set_value v i x) j ≡ at_value v j
at_other v (NumberValue (pos n)) j x other =
    at_other_set (items_of v) x n j (λ e. other (sym e)) ∙ at_vector v j
at_other v (NumberValue (negsuc n)) j x other = at_vector v j
at_other v (TruthValue b) j x other = at_vector v j
at_other v NothingValue j x other = at_vector v j
at_other v (VectorValue vs) j x other = at_vector v j
at_other v (StructValue t vs) j x other = at_vector v j
at_other v (MemoryValue es) j x other = at_vector v j

module _ (m : Interpretation) (s : Assignment) where
  abbrev V : TermData → Val
  V t = value_of m t s

  abbrev at : {l t : TermData} → l ≡ t → value_of m l s ≡ value_of m t s
  at e = ap (λ x. value_of m x s) e

  abbrev false_at : {p q : FormulaData} → p ≡ q → truth_of m p s ≡ false → truth_of m q s ≡ false
  false_at e f = ap (λ x. truth_of m x s) (sym e) ∙ f

  pub one_value_unless : (name : Exception) (q : FormulaData) (l r : TermData) → IsException name q l r → truth_of m q s ≡ false → value_of m l s ≡ value_of m r s
  one_value_unless SelectOther q l r h f =
      at h.5 ∙ select_other (entries_of (V h.0)) (V h.1) (V h.3) (V h.2) (false_at h.4 f) ∙ sym (at h.6)
  one_value_unless AtOtherPushed q l r h f =
      at h.4 ∙ at_other_pushed (items_of (V h.0)) (V h.1) (V h.2) (differ _ _ (false_at h.3 f)) ∙ at_vector (V h.0) (V h.2) ∙ sym (at h.5)
  one_value_unless LenPopped q l r h f =
      at h.2 ∙ ap NumberValue (len_pop (items_of (V h.0)) (has_items _ (false_at h.1 f))) ∙ sym (at h.3)
  one_value_unless AtPopped q l r h f =
      at h.3 ∙ at_popped (items_of (V h.0)) (V h.1) (before_last _ (V h.1) (false_at h.2 f)) ∙ at_vector (V h.0) (V h.1) ∙ sym (at h.4)
  one_value_unless AtOtherSet q l r h f =
      at h.5 ∙ at_other (V h.0) (V h.1) (V h.2) (V h.3) (differ _ _ (false_at h.4 f)) ∙ sym (at h.6)
