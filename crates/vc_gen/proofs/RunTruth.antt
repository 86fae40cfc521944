-- The range formulas of a body are true exactly if its run returns, and then the body's term has the value returned.
use Rattle.std.proofs.Common.{◌≡◌, ℕ, ◌+◌, ◌-◌, ◌^◌, ◌<◌, ℤ, pos, ◌+ℤ◌, ◌-ℤ◌, List, [], ◌∷◌, ◌++◌, Option, Some, None, Bool, true, false, ◌&&◌, refl, sym, ap, ◌∙◌, subst, arith, if◌then◌else◌}
use Rattle.std.specs.Prelude.{nat_lt, int_le, option_and_then}
use Rattle.std.proofs.lemmas.Int.{ints}
use Rattle.std.proofs.lemmas.Bool.Decides.{nat_tests}
use Rattle.fol.specs.FormulaData.{TermData, FormulaData, formulas_of}
use Rattle.fol.specs.Val.{NumberValue}
use Rattle.fol.specs.Operators.{number_of}
use Rattle.fol.specs.Truth.{Interpretation, Assignment, value_of, truth_of, all_true}
use Rattle.sum_tree.specs.declared.sum.Operator.{Operator}
use Rattle.sum_tree.specs.declared.sum.Operator.TheVariants.{Plus, Minus}
use Rattle.sum_tree.specs.SumFunctionData.{SumFunctionData}
use Rattle.sum_tree.specs.SumData.{SumData, NumberSum, WordSum, JoinedSum}
use Rattle.base.proofs.TruthValues.{true_both}
use Rattle.ref_sem.specs.Semantics.{Arguments, AreU64, operator_result, run_sum}
use Rattle.sum_formula.specs.Translation.{zero_term, operator_term, sum_term}
use Rattle.ref_sem.specs.Bodies.{IsU64Sum, HasU64Body}
use Rattle.sum_formula.specs.Premises.{range_formula, range_formulas, returned_term}
use Rattle.vc_gen.proofs.NumberTruth.{Agrees}

-- ---- one operator

-- The bound of an operator's term is true exactly if there is a result, and then the term has its value.
abbrev StepAgrees : Option ℕ → Bool → ℤ → Type 0
StepAgrees (Some r) bound z = (bound ≡ true) × (z ≡ pos r) × (r < 2 ^ 64)
StepAgrees None bound z = bound ≡ false

plus_fits : (a b : ℕ) → nat_lt (a + b) (2 ^ 64) ≡ true → int_le (pos a +ℤ pos b) (pos (2 ^ 64 - 1)) ≡ true
plus_fits a b e = grind (arith, ints, nat_tests)

plus_passes : (a b : ℕ) → nat_lt (a + b) (2 ^ 64) ≡ false → int_le (pos a +ℤ pos b) (pos (2 ^ 64 - 1)) ≡ false
plus_passes a b e = grind (arith, ints, nat_tests)

plus_small : (a b : ℕ) → nat_lt (a + b) (2 ^ 64) ≡ true → a + b < 2 ^ 64
plus_small a b e = grind (arith, nat_tests)

plus_agrees : (a b : ℕ) (c : Bool) → nat_lt (a + b) (2 ^ 64) ≡ c → StepAgrees (if c then Some (a + b) else None) (int_le (pos a +ℤ pos b) (pos (2 ^ 64 - 1))) (pos a +ℤ pos b)
plus_agrees a b true e = (plus_fits a b e, refl, plus_small a b e)
plus_agrees a b false e = plus_passes a b e

minus_passes : (a b : ℕ) → nat_lt a b ≡ true → int_le (pos 0) (pos a -ℤ pos b) ≡ false
minus_passes a b e = grind (arith, ints, nat_tests)

minus_fits : (a b : ℕ) → nat_lt a b ≡ false → int_le (pos 0) (pos a -ℤ pos b) ≡ true
minus_fits a b e = grind (arith, ints, nat_tests)

minus_is : (a b : ℕ) → nat_lt a b ≡ false → pos a -ℤ pos b ≡ pos (a - b)
minus_is a b e = grind (arith, ints, nat_tests)

minus_agrees : (a b : ℕ) → a < 2 ^ 64 → (c : Bool) → nat_lt a b ≡ c → StepAgrees (if c then None else Some (a - b)) (int_le (pos 0) (pos a -ℤ pos b)) (pos a -ℤ pos b)
minus_agrees a b h true e = minus_passes a b e
minus_agrees a b h false e = (minus_fits a b e, minus_is a b e, omega arith)

-- ---- a run

-- The bounds are all true exactly if the run returns, and then the term has the value returned, a u64.
abbrev pub RunAgrees : Interpretation → Assignment → Option ℕ → List FormulaData → TermData → Type 0
RunAgrees m s (Some r) bounds t = (all_true m (formulas_of bounds) s ≡ true) × (value_of m t s ≡ NumberValue (pos r)) × (r < 2 ^ 64)
RunAgrees m s None bounds t = all_true m (formulas_of bounds) s ≡ false

-- the truth of two lists of formulas, one after the other
all_behind : (m : Interpretation) (s : Assignment) (ps qs : List FormulaData) → all_true m (formulas_of (ps ++ qs)) s ≡ (all_true m (formulas_of ps) s && all_true m (formulas_of qs) s)
all_behind m s [] qs = refl
all_behind m s (p ∷ ps) qs = ap (λ b. truth_of m p s && b) (all_behind m s ps qs) ∙ regroup (truth_of m p s) (all_true m (formulas_of ps) s) (all_true m (formulas_of qs) s)
  where
    regroup : (a b c : Bool) → (a && (b && c)) ≡ ((a && b) && c)
    regroup true b c = refl
    regroup false b c = refl

first_fails : (a b : Bool) → a ≡ false → (a && b) ≡ false
first_fails a b e = ap (λ c. c && b) e

second_fails : (a b : Bool) → a ≡ true → b ≡ false → (a && b) ≡ false
second_fails a b e g = ap (λ c. c && b) e ∙ g

module _ (m : Interpretation) (s : Assignment) (f : SumFunctionData) (arguments : Arguments) (agrees : Agrees m s f.parameters arguments) (u64s : AreU64 arguments) where
  step_agrees : (op : Operator) (t u : TermData) (a b : ℕ) → value_of m t s ≡ NumberValue (pos a) → value_of m u s ≡ NumberValue (pos b) → a < 2 ^ 64 → StepAgrees (operator_result op a b) (truth_of m (range_formula op (operator_term op t u)) s) (number_of (value_of m (operator_term op t u) s))
  step_agrees Plus t u a b e g h =
      subst (λ z. StepAgrees (operator_result Plus a b) (int_le z (pos (2 ^ 64 - 1))) z) (λ i. number_of (sym e i) +ℤ number_of (sym g i)) (plus_agrees a b (nat_lt (a + b) (2 ^ 64)) refl)
  step_agrees Minus t u a b e g h =
      subst (λ z. StepAgrees (operator_result Minus a b) (int_le (pos 0) z) z) (λ i. number_of (sym e i) -ℤ number_of (sym g i)) (minus_agrees a b h (nat_lt a b) refl)

  operator_number_value : (op : Operator) (t u : TermData) → value_of m (operator_term op t u) s ≡ NumberValue (number_of (value_of m (operator_term op t u) s))
  operator_number_value Plus t u = refl
  operator_number_value Minus t u = refl

  abbrev bounds_of : SumData → List FormulaData
  bounds_of sum = range_formulas f.parameters sum

  abbrev term_of : SumData → TermData
  term_of sum = sum_term f.parameters zero_term sum

  abbrev last_bound : Operator → SumData → SumData → FormulaData
  last_bound op left right = range_formula op (operator_term op (term_of left) (term_of right))

  -- the bound of the operator alone is left
  last_step : (result : Option ℕ) (bound : Bool) (z : ℤ) (t : TermData) → value_of m t s ≡ NumberValue z → StepAgrees result bound z → (ls : List FormulaData) (rs : List FormulaData) (p : FormulaData) → truth_of m p s ≡ bound → all_true m (formulas_of ls) s ≡ true → all_true m (formulas_of rs) s ≡ true
      → RunAgrees m s result (ls ++ (rs ++ p ∷ [])) t
  last_step (Some r) bound z t e h ls rs p g lt rt = (
    all_behind m s ls (rs ++ p ∷ []) ∙ true_both _ _ lt (all_behind m s rs (p ∷ []) ∙ true_both _ _ rt (true_both (truth_of m p s) true (g ∙ h.0) refl)),
    e ∙ ap NumberValue h.1,
    h.2,
  )
  last_step None bound z t e h ls rs p g lt rt =
      all_behind m s ls (rs ++ p ∷ []) ∙ second_fails _ _ lt (all_behind m s rs (p ∷ []) ∙ second_fails _ _ rt (first_fails (truth_of m p s) true (g ∙ h)))

  -- if both sides return, the operator decides
  joined_agrees : (op : Operator) (left right : SumData) (x y : Option ℕ) → RunAgrees m s x (bounds_of left) (term_of left) → RunAgrees m s y (bounds_of right) (term_of right)
      → RunAgrees m s (option_and_then (λ a. option_and_then (λ b. operator_result op a b) y) x) (bounds_of left ++ (bounds_of right ++ last_bound op left right ∷ [])) (operator_term op (term_of left) (term_of right))
  joined_agrees op left right None y h k = all_behind m s (bounds_of left) (bounds_of right ++ last_bound op left right ∷ []) ∙ first_fails _ _ h
  joined_agrees op left right (Some a) None h k =
      all_behind m s (bounds_of left) (bounds_of right ++ last_bound op left right ∷ []) ∙ second_fails _ _ h.0 (all_behind m s (bounds_of right) (last_bound op left right ∷ []) ∙ first_fails _ _ k)
  joined_agrees op left right (Some a) (Some b) h k =
      let t = operator_term op (term_of left) (term_of right) in
      last_step (operator_result op a b) (truth_of m (last_bound op left right) s) (number_of (value_of m t s)) t (operator_number_value op (term_of left) (term_of right))
      (step_agrees op (term_of left) (term_of right) a b h.1 k.1 h.2) (bounds_of left) (bounds_of right) (last_bound op left right) refl h.0 k.0

  sum_agrees : (sum : SumData) → IsU64Sum f.parameters sum → RunAgrees m s (run_sum arguments sum) (bounds_of sum) (term_of sum)
  sum_agrees (NumberSum n) h = (refl, refl, h)
  sum_agrees (WordSum word) h = (refl, agrees.values word h zero_term, u64s word)
  sum_agrees (JoinedSum left operator right) h = joined_agrees operator left right (run_sum arguments left) (run_sum arguments right) (sum_agrees left h.0) (sum_agrees right h.1)

  pub run_agrees : HasU64Body f → RunAgrees m s (run_sum arguments f.body) (range_formulas f.parameters f.body) (returned_term f)
  run_agrees h = sum_agrees f.body h
