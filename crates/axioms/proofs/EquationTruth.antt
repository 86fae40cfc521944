-- The two terms of an axiom on equations have equal values.
use Rattle.std.proofs.Common.{◌≡◌, ℕ, ℤ, pos, negsuc, ◌+ℤ◌, ◌*ℤ◌, List, length, sym, ap, ◌∙◌, arith}
use Rattle.std.proofs.lemmas.Int.{ints}
use Rattle.std.proofs.lemmas.List.{length-set}
use Rattle.fol.specs.FormulaData.{TermData}
use Rattle.fol.specs.Val.{Val, NumberValue, TruthValue, NothingValue, VectorValue, StructValue, MemoryValue}
use Rattle.fol.specs.Operators.{number_of, items_of, entries_of, len_value, set_value}
use Rattle.fol.specs.Truth.{Interpretation, Assignment, value_of}
use Rattle.axioms.specs.declared.axiom.Equation.{Equation}
use Rattle.axioms.specs.declared.axiom.Equation.TheVariants.{Itself, SelectStored, SelectBlank, LenEmpty, LenPush, AtPushed, LenSet, Remainder, DivByZero, MulTurned, MulByOne, MulByZero}
use Rattle.axioms.specs.Equations.{IsEquation}
use Rattle.axioms.proofs.Memories.{select_stored}
use Rattle.axioms.proofs.Vectors.{items_of_vector, len_push, at_pushed}

-- replacing an item does not change the length
len_set : (v i x : Val) → len_value (set_value v i x) ≡ len_value v
len_set v (NumberValue (pos n)) x =
    ap (λ (ys : List Val). NumberValue (pos (length ys))) (items_of_vector _) ∙ ap (λ (k : ℕ). NumberValue (pos k)) (length-set (items_of v) n x)
len_set v (NumberValue (negsuc n)) x = ap (λ (ys : List Val). NumberValue (pos (length ys))) (items_of_vector _)
len_set v (TruthValue b) x = ap (λ (ys : List Val). NumberValue (pos (length ys))) (items_of_vector _)
len_set v NothingValue x = ap (λ (ys : List Val). NumberValue (pos (length ys))) (items_of_vector _)
len_set v (VectorValue vs) x = ap (λ (ys : List Val). NumberValue (pos (length ys))) (items_of_vector _)
len_set v (StructValue t vs) x = ap (λ (ys : List Val). NumberValue (pos (length ys))) (items_of_vector _)
len_set v (MemoryValue es) x = ap (λ (ys : List Val). NumberValue (pos (length ys))) (items_of_vector _)

mul_turned : (a b : ℤ) → a *ℤ b ≡ b *ℤ a
mul_turned a b = grind (arith, ints)

mul_by_one : (a : ℤ) → a *ℤ pos 1 ≡ a +ℤ pos 0
mul_by_one a = grind (arith, ints)

mul_by_zero : (a : ℤ) → a *ℤ pos 0 ≡ pos 0
mul_by_zero a = grind (arith, ints)

module _ (m : Interpretation) (s : Assignment) where
  -- equal terms have equal values
  abbrev at : {l t : TermData} → l ≡ t → value_of m l s ≡ value_of m t s
  at e = ap (λ x. value_of m x s) e

  pub one_value : (name : Equation) (l r : TermData) → IsEquation name l r → value_of m l s ≡ value_of m r s
  one_value Itself l r h = at h
  one_value SelectStored l r h =
      at h.3 ∙ select_stored (entries_of (value_of m h.0 s)) (value_of m h.1 s) (value_of m h.2 s) ∙ sym (at h.4)
  one_value SelectBlank l r h = at h.1 ∙ sym (at h.2)
  one_value LenEmpty l r h = at h.0 ∙ sym (at h.1)
  one_value LenPush l r h =
      at h.2 ∙ ap NumberValue (len_push (items_of (value_of m h.0 s)) (value_of m h.1 s)) ∙ sym (at h.3)
  one_value AtPushed l r h =
      at h.2 ∙ at_pushed (items_of (value_of m h.0 s)) (value_of m h.1 s) ∙ sym (at h.3)
  one_value LenSet l r h = at h.3 ∙ len_set (value_of m h.0 s) (value_of m h.1 s) (value_of m h.2 s) ∙ sym (at h.4)
  one_value Remainder l r h = at h.2 ∙ sym (at h.3)
  one_value DivByZero l r h = at h.1 ∙ sym (at h.2)
  one_value MulTurned l r h =
      at h.2 ∙ ap NumberValue (mul_turned (number_of (value_of m h.0 s)) (number_of (value_of m h.1 s))) ∙ sym (at h.3)
  one_value MulByOne l r h = at h.1 ∙ ap NumberValue (mul_by_one (number_of (value_of m h.0 s))) ∙ sym (at h.2)
  one_value MulByZero l r h = at h.1 ∙ ap NumberValue (mul_by_zero (number_of (value_of m h.0 s))) ∙ sym (at h.2)
