-- The axioms that state an implication are true.
use Rattle.std.proofs.Common.{◌≡◌, ℕ, zero, suc, ◌+◌, ◌-◌, ◌/◌, ◌^◌, ◌<◌, ◌≤◌, ℤ, pos, negsuc, List, [], ◌∷◌, ◌++◌, length, take, get_or, set, cond, Bool, true, false, not, ◌||◌, refl, ap, ◌∙◌, arith}
use Rattle.std.specs.Prelude.{int_le, nat_lt, nat_le, bit_and, bit_or, bit_xor}
use Rattle.std.proofs.lemmas.Bool.Decides.{nat_tests}
use Rattle.std.proofs.lemmas.List.{length-set, length-append, length-take-le}
use Rattle.std.proofs.lemmas.Nat.{and_le_l, or_lt, xor_lt}
use Rattle.base.proofs.TruthValues.{both_true, true_both, or_true}
use Rattle.base.specs.TypeData.{TypeData, IntType, NumType, VectorType}
use Rattle.base.specs.declared.types.Width.{Width}
use Rattle.fol.specs.declared.shapes.Shape.{Shape}
use Rattle.fol.specs.declared.operators.Binary.{Binary}
use Rattle.fol.specs.declared.operators.Binary.TheVariants.{And, Or, Xor}
use Rattle.fol.specs.FormulaData.{TermData, FormulaData, ImpliesFormula}
use Rattle.fol.specs.Val.{Val, NumberValue, TruthValue, NothingValue, VectorValue, StructValue, MemoryValue, values_of, list_of_values-values_of, values_of-list_of_values}
use Rattle.fol.specs.Whole.{bits_of, bitwise, shifted_right}
use Rattle.fol.specs.Operators.{number_of, items_of, vector_of, at_most, len_value, at_value, set_value, push_value, pop_value, binary_value}
use Rattle.fol.specs.TypedValue.{put_types, has_type, all_have_type, is_in_width}
use Rattle.fol.specs.Truth.{Interpretation, Assignment, value_of, truth_of}
use Rattle.axioms.specs.declared.axiom.Rule.{Rule}
use Rattle.axioms.specs.declared.axiom.Rule.TheVariants.{ItemTyped, LenBounded, SetTyped, PushTyped, PopTyped, BitsTyped, ShrTyped}
use Rattle.axioms.specs.Rules.{IsBitOperator, most_items, IsRule}
use Rattle.axioms.proofs.AlternativeTruth.{or_right, or_left, within}

pub implied : (a b : Bool) → (a ≡ true → b ≡ true) → not a || b ≡ true
implied true b h = h refl
implied false b h = refl

-- ---- vectors of a type

module _ (shapes : List Shape) (t : TypeData) where
  -- the items are few enough, and each has the type
  pub record Typed (xs : List Val) : Type 0 where
    pub few : nat_le (length xs) most_items ≡ true
    pub each : all_have_type shapes t (values_of xs) ≡ true

  pub typed_items : (v : Val) → has_type shapes (VectorType t) v ≡ true → Typed (items_of v)
  typed_items (VectorValue vs) h =
      let both = both_true _ _ h in
      record { few = both.0; each = ap (all_have_type shapes t) (values_of-list_of_values vs) ∙ both.1 }
  typed_items (NumberValue z) h = absurd (cc)
  typed_items (TruthValue b) h = absurd (cc)
  typed_items NothingValue h = absurd (cc)
  typed_items (StructValue u vs) h = absurd (cc)
  typed_items (MemoryValue es) h = absurd (cc)

  pub vector_typed : (xs : List Val) → Typed xs → has_type shapes (VectorType t) (vector_of xs) ≡ true
  vector_typed xs h =
      true_both _ _ (ap (λ (ys : List Val). nat_le (length ys) most_items) (list_of_values-values_of xs) ∙ h.few) h.each

  each_item : (xs : List Val) (n : ℕ) → all_have_type shapes t (values_of xs) ≡ true → n < length xs → has_type shapes t (get_or xs n NothingValue) ≡ true
  each_item [] n e h = absurd (omega arith)
  each_item (x ∷ xs) zero e h = (both_true _ _ e).0
  each_item (x ∷ xs) (suc n) e h = each_item xs n (both_true _ _ e).1 (omega arith)

  each_set : (xs : List Val) (n : ℕ) (x : Val) → all_have_type shapes t (values_of xs) ≡ true → has_type shapes t x ≡ true → all_have_type shapes t (values_of (set xs n x)) ≡ true
  each_set [] n x e h = refl
  each_set (y ∷ ys) zero x e h = true_both _ _ h (both_true _ _ e).1
  each_set (y ∷ ys) (suc n) x e h = true_both _ _ (both_true _ _ e).0 (each_set ys n x (both_true _ _ e).1 h)

  each_push : (xs : List Val) (x : Val) → all_have_type shapes t (values_of xs) ≡ true → has_type shapes t x ≡ true → all_have_type shapes t (values_of (xs ++ x ∷ [])) ≡ true
  each_push [] x e h = true_both _ _ h refl
  each_push (y ∷ ys) x e h = true_both _ _ (both_true _ _ e).0 (each_push ys x (both_true _ _ e).1 h)

  each_take : (n : ℕ) (xs : List Val) → all_have_type shapes t (values_of xs) ≡ true → all_have_type shapes t (values_of (take n xs)) ≡ true
  each_take zero xs e = refl
  each_take (suc n) [] e = refl
  each_take (suc n) (y ∷ ys) e = true_both _ _ (both_true _ _ e).0 (each_take n ys (both_true _ _ e).1)

  item_cases : (v i : Val) → has_type shapes (VectorType t) v ≡ true → not (at_most (NumberValue (pos 0)) i) || (at_most (len_value v) i || (not (has_type shapes NumType i) || (has_type shapes t (at_value v i) || false))) ≡ true
  item_cases v (NumberValue (pos n)) h =
      or_right _ _ (go (int_le (pos (length (items_of v))) (pos n)) refl)
    where
      go : (b : Bool) → int_le (pos (length (items_of v))) (pos n) ≡ b → b || (false || (has_type shapes t (at_value v (NumberValue (pos n))) || false)) ≡ true
      go true e = refl
      go false e =
          or_left _ false (each_item (items_of v) n (typed_items v h).each (within n (length (items_of v)) e))
  item_cases v (NumberValue (negsuc n)) h = refl
  item_cases v (TruthValue b) h = or_true (at_most (len_value v) (TruthValue b))
  item_cases v NothingValue h = or_true (at_most (len_value v) NothingValue)
  item_cases v (VectorValue vs) h = or_true (at_most (len_value v) (VectorValue vs))
  item_cases v (StructValue u vs) h = or_true (at_most (len_value v) (StructValue u vs))
  item_cases v (MemoryValue es) h = or_true (at_most (len_value v) (MemoryValue es))

  set_typed : (v i x : Val) → has_type shapes (VectorType t) v ≡ true → has_type shapes t x ≡ true → has_type shapes (VectorType t) (set_value v i x) ≡ true
  set_typed v (NumberValue (pos n)) x h k =
      let at = typed_items v h in
      vector_typed _ (record { few = ap (λ (l : ℕ). nat_le l most_items) (length-set (items_of v) n x) ∙ at.few; each = each_set (items_of v) n x at.each k })
  set_typed v (NumberValue (negsuc n)) x h k = vector_typed _ (typed_items v h)
  set_typed v (TruthValue b) x h k = vector_typed _ (typed_items v h)
  set_typed v NothingValue x h k = vector_typed _ (typed_items v h)
  set_typed v (VectorValue vs) x h k = vector_typed _ (typed_items v h)
  set_typed v (StructValue u vs) x h k = vector_typed _ (typed_items v h)
  set_typed v (MemoryValue es) x h k = vector_typed _ (typed_items v h)

  room : (n k : ℕ) → not (int_le (pos k) (pos n)) ≡ true → nat_le (n + 1) k ≡ true
  room n k h = grind (arith, nat_tests)

  push_typed : (v x : Val) → has_type shapes (VectorType t) v ≡ true → has_type shapes t x ≡ true → not (at_most (NumberValue (pos most_items)) (len_value v)) ≡ true → has_type shapes (VectorType t) (push_value v x) ≡ true
  push_typed v x h k free =
      let at = typed_items v h in
      vector_typed _ (record { few = ap (λ (l : ℕ). nat_le l most_items) (length-append (items_of v) (x ∷ [])) ∙ room (length (items_of v)) most_items free; each = each_push (items_of v) x at.each k })

  less : (n k l : ℕ) → k ≤ n → nat_le n l ≡ true → nat_le k l ≡ true
  less n k l h e = grind (arith, nat_tests)

  pop_typed : (v : Val) → has_type shapes (VectorType t) v ≡ true → has_type shapes (VectorType t) (pop_value v) ≡ true
  pop_typed v h =
      let at = typed_items v h in
      let n = length (items_of v) in
      vector_typed _ (record { few = ap (λ (l : ℕ). nat_le l most_items) (length-take-le (n - 1) (items_of v) (omega arith)) ∙ less n (n - 1) most_items (omega arith) at.few; each = each_take (n - 1) (items_of v) at.each })

-- ---- bits

below : (n k : ℕ) → nat_lt n k ≡ true → n < k
below n k h = grind (arith, nat_tests)

small : (n k : ℕ) → n < k → nat_lt n k ≡ true
small n k h = grind (arith, nat_tests)

and_small : (w : Width) (a c : ℤ) → is_in_width w a ≡ true → is_in_width w c ≡ true → is_in_width w (bitwise bit_and a c) ≡ true
and_small w (pos x) (pos y) h k =
    small _ _ (let f : x < 2 ^ bits_of w = below x _ h in let g : bit_and x y ≤ x = and_le_l x y in omega arith)
and_small w (negsuc x) c h k = absurd (cc)
and_small w (pos x) (negsuc y) h k = absurd (cc)

or_small : (w : Width) (a c : ℤ) → is_in_width w a ≡ true → is_in_width w c ≡ true → is_in_width w (bitwise bit_or a c) ≡ true
or_small w (pos x) (pos y) h k = small _ _ (or_lt (bits_of w) x y (below x _ h) (below y _ k))
or_small w (negsuc x) c h k = absurd (cc)
or_small w (pos x) (negsuc y) h k = absurd (cc)

xor_small : (w : Width) (a c : ℤ) → is_in_width w a ≡ true → is_in_width w c ≡ true → is_in_width w (bitwise bit_xor a c) ≡ true
xor_small w (pos x) (pos y) h k = small _ _ (xor_lt (bits_of w) x y (below x _ h) (below y _ k))
xor_small w (negsuc x) c h k = absurd (cc)
xor_small w (pos x) (negsuc y) h k = absurd (cc)

shift_below : (a i b k : ℕ) → a < k → cond (nat_lt i b) (a / 2 ^ i) 0 < k
shift_below a i b k h = go (nat_lt i b)
  where
    quotient_below : a / 2 ^ i ≤ a
    quotient_below = grind arith

    go : (t : Bool) → cond t (a / 2 ^ i) 0 < k
    go true = let f : a / 2 ^ i ≤ a = quotient_below in omega arith
    go false = omega arith

shr_small : (w : Width) (a i : ℤ) → is_in_width w a ≡ true → is_in_width w (bitwise (shifted_right w) a i) ≡ true
shr_small w (pos a) (pos i) h = small _ _ (shift_below a i (bits_of w) (2 ^ bits_of w) (below a _ h))
shr_small w (pos a) (negsuc i) h = small _ _ (let f : a < 2 ^ bits_of w = below a _ h in omega arith)
shr_small w (negsuc a) i h = absurd (cc)

-- a number of the type is one of the width
number_in : (shapes : List Shape) (w : Width) (v : Val) → has_type shapes (IntType w) v ≡ true → is_in_width w (number_of v) ≡ true
number_in shapes w (NumberValue z) h = h
number_in shapes w (TruthValue b) h = absurd (cc)
number_in shapes w NothingValue h = absurd (cc)
number_in shapes w (VectorValue vs) h = absurd (cc)
number_in shapes w (StructValue t vs) h = absurd (cc)
number_in shapes w (MemoryValue es) h = absurd (cc)

bits_typed : (shapes : List Shape) (o : Binary) → IsBitOperator o → (w : Width) (v u : Val) → has_type shapes (IntType w) v ≡ true → has_type shapes (IntType w) u ≡ true → has_type shapes (IntType w) (binary_value o v u) ≡ true
bits_typed shapes And b w v u h k =
    and_small w (number_of v) (number_of u) (number_in shapes w v h) (number_in shapes w u k)
bits_typed shapes Or b w v u h k =
    or_small w (number_of v) (number_of u) (number_in shapes w v h) (number_in shapes w u k)
bits_typed shapes Xor b w v u h k =
    xor_small w (number_of v) (number_of u) (number_in shapes w v h) (number_in shapes w u k)
bits_typed shapes o b w v u h k = absurd b

module _ (m : Interpretation) (s : Assignment) where
  abbrev V : TermData → Val
  V t = value_of m t s

  pub rule_true : (name : Rule) (p q : FormulaData) → IsRule name p q → truth_of m (ImpliesFormula p q) s ≡ true
  rule_true ItemTyped p q h =
      (λ j. truth_of m (ImpliesFormula (h.3 j) (h.4 j)) s) ∙ implied _ _ (item_cases m.shapes (put_types m.named h.0) (V h.1) (V h.2))
  rule_true LenBounded p q h =
      (λ j. truth_of m (ImpliesFormula (h.2 j) (h.3 j)) s) ∙ implied _ _ (λ f. (typed_items m.shapes (put_types m.named h.0) (V h.1) f).few)
  rule_true SetTyped p q h =
      (λ j. truth_of m (ImpliesFormula (h.4 j) (h.5 j)) s) ∙ implied _ _ (λ f. let both = both_true _ _ f in set_typed m.shapes (put_types m.named h.0) (V h.1) (V h.2) (V h.3) both.0 (both_true _ _ both.1).0)
  rule_true PushTyped p q h =
      (λ j. truth_of m (ImpliesFormula (h.3 j) (h.4 j)) s) ∙ implied _ _ (λ f. let both = both_true _ _ f in let rest = both_true _ _ both.1 in push_typed m.shapes (put_types m.named h.0) (V h.1) (V h.2) both.0 rest.0 (both_true _ _ rest.1).0)
  rule_true PopTyped p q h =
      (λ j. truth_of m (ImpliesFormula (h.2 j) (h.3 j)) s) ∙ implied _ _ (pop_typed m.shapes (put_types m.named h.0) (V h.1))
  rule_true BitsTyped p q h =
      (λ j. truth_of m (ImpliesFormula (h.5 j) (h.6 j)) s) ∙ implied _ _ (λ f. let both = both_true _ _ f in bits_typed m.shapes h.1 h.4 h.0 (V h.2) (V h.3) both.0 (both_true _ _ both.1).0)
  rule_true ShrTyped p q h =
      (λ j. truth_of m (ImpliesFormula (h.3 j) (h.4 j)) s) ∙ implied _ _ (λ f. shr_small h.0 (number_of (V h.1)) (number_of (V h.2)) (number_in m.shapes h.0 (V h.1) f))
