-- The axioms that state a disjunction are true.
use Rattle.std.proofs.Common.{◌≡◌, ℕ, ◌<◌, ◌≤◌, ℤ, pos, negsuc, ◌-ℤ◌, List, length, cond, Bool, true, false, not, ◌&&◌, ◌||◌, refl, sym, ap, ◌∙◌, subst, arith}
use Rattle.std.specs.Prelude.{IsTrue, int_le}
use Rattle.std.proofs.lemmas.Int.{ints}
use Rattle.std.proofs.lemmas.Bool.Decides.{nat_tests}
use Rattle.base.proofs.TruthValues.{or_true, true_both, never, true_is}
use Rattle.base.specs.TypeData.{TypeData, NumType, VectorType}
use Rattle.fol.specs.declared.shapes.Shape.{Shape}
use Rattle.fol.specs.FormulaData.{TermData, VarTerm, FormulaData, AnyOfFormula, formulas_of}
use Rattle.fol.specs.Val.{Val, NumberValue, TruthValue, NothingValue, VectorValue, StructValue, MemoryValue, Vals, list_of_values, same_value, same_value-equal, same_value_itself}
use Rattle.fol.specs.Operators.{number_of, items_of, at_most, len_value, at_value, set_value}
use Rattle.fol.specs.TypedValue.{put_types, has_type}
use Rattle.fol.specs.Truth.{Interpretation, Assignment, set_var, value_of, truth_of}
use Rattle.fol.specs.Validity.{AnswersRight}
use Rattle.substitution.specs.Free.{free_in_term}
use Rattle.substitution.proofs.FreeLaws.{same_without, eqb_itself}
use Rattle.axioms.specs.declared.axiom.Alternative.{Alternative}
use Rattle.axioms.specs.declared.axiom.Alternative.TheVariants.{AtSet, SameItems, Choice, Trichotomy}
use Rattle.axioms.specs.Alternatives.{IsAlternative}
use Rattle.axioms.proofs.Vectors.{at_set, same_vectors}

pub or_right : (a b : Bool) → b ≡ true → a || b ≡ true
or_right true b e = refl
or_right false b e = e

pub or_left : (a b : Bool) → a ≡ true → a || b ≡ true
or_left a b e = ap (λ x. x || b) e

-- ---- an item that was written at an index

pub within : (n k : ℕ) → int_le (pos k) (pos n) ≡ false → n < k
within n k h = grind (arith, nat_tests)

set_cases : (shapes : List Shape) (v i x : Val) → not (at_most (NumberValue (pos 0)) i) || (at_most (len_value v) i || (not (has_type shapes NumType i) || (same_value (at_value (set_value v i x) i) x || false))) ≡ true
set_cases shapes v (NumberValue (pos n)) x =
    or_right _ _ (go (int_le (pos (length (items_of v))) (pos n)) refl)
  where
    go : (b : Bool) → int_le (pos (length (items_of v))) (pos n) ≡ b → b || (false || (same_value (at_value (set_value v (NumberValue (pos n)) x) (NumberValue (pos n))) x || false)) ≡ true
    go true e = refl
    go false e =
        or_left _ false (ap (λ y. same_value y x) (at_set (items_of v) x n (within n (length (items_of v)) e)) ∙ same_value_itself x)
set_cases shapes v (NumberValue (negsuc n)) x = refl
set_cases shapes v (TruthValue b) x = or_true (at_most (len_value v) (TruthValue b))
set_cases shapes v NothingValue x = or_true (at_most (len_value v) NothingValue)
set_cases shapes v (VectorValue vs) x = or_true (at_most (len_value v) (VectorValue vs))
set_cases shapes v (StructValue t vs) x = or_true (at_most (len_value v) (StructValue t vs))
set_cases shapes v (MemoryValue es) x = or_true (at_most (len_value v) (MemoryValue es))

-- ---- vectors with the same items

last_case : (a b e l q : Bool) → (a ≡ true → b ≡ true → l ≡ true → q ≡ true → e ≡ true) → not a || (not b || (e || (not l || (not q || false)))) ≡ true
last_case false b e l q h = refl
last_case true false e l q h = refl
last_case true true true l q h = refl
last_case true true false false q h = refl
last_case true true false true false h = refl
last_case true true false true true h = absurd (let f : false ≡ true = h refl refl refl refl in cc)

is_vector : (shapes : List Shape) (t : TypeData) (v : Val) → has_type shapes (VectorType t) v ≡ true → (vs : Vals) × (v ≡ VectorValue vs)
is_vector shapes t (VectorValue vs) h = (vs, refl)
is_vector shapes t (NumberValue z) h = absurd (cc)
is_vector shapes t (TruthValue b) h = absurd (cc)
is_vector shapes t NothingValue h = absurd (cc)
is_vector shapes t (StructValue u vs) h = absurd (cc)
is_vector shapes t (MemoryValue es) h = absurd (cc)

is_so : (b : Bool) → IsTrue b → b ≡ true
is_so true h = refl
is_so false h = absurd (never h)

-- x is an index of v at which v and w differ
abbrev differ_at : Val → Val → Val → Bool
differ_at v w x =
    at_most (NumberValue (pos 0)) x && (not (at_most (len_value v) x) && (not (same_value (at_value v x) (at_value w x)) && true))

same_at : (v w : Val) (n : ℕ) → n < length (items_of v) → not (differ_at v w (NumberValue (pos n))) ≡ true → at_value v (NumberValue (pos n)) ≡ at_value w (NumberValue (pos n))
same_at v w n h e = go (int_le (pos 0) (pos n)) (int_le (pos (length (items_of v))) (pos n)) (same_value (at_value v (NumberValue (pos n))) (at_value w (NumberValue (pos n)))) refl refl refl e
  where
    go : (a b c : Bool) → int_le (pos 0) (pos n) ≡ a → int_le (pos (length (items_of v))) (pos n) ≡ b → same_value (at_value v (NumberValue (pos n))) (at_value w (NumberValue (pos n))) ≡ c → not (a && (not b && (not c && true))) ≡ true → at_value v (NumberValue (pos n)) ≡ at_value w (NumberValue (pos n))
    go a b true p q r f = same_value-equal _ _ r
    go true false false p q r f = absurd (cc)
    go false b false p q r f = absurd (let k : 0 ≤ n → ⊥ = grind (arith, nat_tests) in k (omega arith))
    go true true false p q r f = absurd (let k : length (items_of v) ≤ n = grind (arith, nat_tests) in omega arith)

same_items : (shapes : List Shape) (t : TypeData) (v w : Val) → has_type shapes (VectorType t) v ≡ true → has_type shapes (VectorType t) w ≡ true → same_value (len_value v) (len_value w) ≡ true → ((x : Val) → not (differ_at v w x) ≡ true) → same_value v w ≡ true
same_items shapes t v w h k l none =
    let one = is_vector shapes t v h in
    let other = is_vector shapes t w k in
    go v w one.0 other.0 one.1 other.1 l none
  where
    go : (v w : Val) (vs ws : Vals) → v ≡ VectorValue vs → w ≡ VectorValue ws → same_value (len_value v) (len_value w) ≡ true → ((x : Val) → not (differ_at v w x) ≡ true) → same_value v w ≡ true
    go v w vs ws e f l none =
        let at : same_value (len_value (VectorValue vs)) (len_value (VectorValue ws)) ≡ true = (λ j. same_value (len_value (sym e j)) (len_value (sym f j))) ∙ l in
        let numbers : NumberValue (pos (length (list_of_values vs))) ≡ NumberValue (pos (length (list_of_values ws))) = same_value-equal _ _ at in
        let lengths : length (list_of_values vs) ≡ length (list_of_values ws) = cc in
        let each : (x : Val) → not (differ_at (VectorValue vs) (VectorValue ws) x) ≡ true = λ x. (λ j. not (differ_at (sym e j) (sym f j) x)) ∙ none x in
        let same : vs ≡ ws = same_vectors vs ws lengths (λ n h. same_at (VectorValue vs) (VectorValue ws) n h (each (NumberValue (pos n)))) in
        ap (same_value v) (f ∙ ap VectorValue (sym same) ∙ sym e) ∙ same_value_itself v

-- ---- choices

choice_true : (b : Bool) (v w : Val) → (b && (same_value (cond b v w) v && true)) || ((not b && (same_value (cond b v w) w && true)) || false) ≡ true
choice_true true v w = or_left _ _ (true_both _ _ (same_value_itself v) refl)
choice_true false v w = or_left _ false (true_both _ _ (same_value_itself w) refl)

-- ---- two whole numbers

three_ways : (a b : ℤ) (l g : Bool) → int_le a (b -ℤ pos 1) ≡ l → int_le b (a -ℤ pos 1) ≡ g → same_value (NumberValue a) (NumberValue b) || (l || (g || false)) ≡ true
three_ways a b true g e f = or_true (same_value (NumberValue a) (NumberValue b))
three_ways a b false true e f = or_true (same_value (NumberValue a) (NumberValue b))
three_ways a b false false e f =
    let same : a ≡ b = grind (arith, ints) in
    let equal : same_value (NumberValue a) (NumberValue b) ≡ true =
    subst (λ (x : ℤ). same_value (NumberValue a) (NumberValue x) ≡ true) same (same_value_itself (NumberValue a)) in
    ap (λ c. c || false) equal

trichotomy : (shapes : List Shape) (v w : Val) → not (has_type shapes NumType v) || (not (has_type shapes NumType w) || (same_value v w || (at_most v (NumberValue (number_of w -ℤ pos 1)) || (at_most w (NumberValue (number_of v -ℤ pos 1)) || false)))) ≡ true
trichotomy shapes (NumberValue a) (NumberValue b) =
    three_ways a b (int_le a (b -ℤ pos 1)) (int_le b (a -ℤ pos 1)) refl refl
trichotomy shapes (NumberValue a) (TruthValue b) = refl
trichotomy shapes (NumberValue a) NothingValue = refl
trichotomy shapes (NumberValue a) (VectorValue vs) = refl
trichotomy shapes (NumberValue a) (StructValue t vs) = refl
trichotomy shapes (NumberValue a) (MemoryValue es) = refl
trichotomy shapes (TruthValue b) w = refl
trichotomy shapes NothingValue w = refl
trichotomy shapes (VectorValue vs) w = refl
trichotomy shapes (StructValue t vs) w = refl
trichotomy shapes (MemoryValue es) w = refl

module _ (m : Interpretation) (right : AnswersRight m.all) (s : Assignment) where
  abbrev at_list : {cs ds : List FormulaData} → cs ≡ ds → truth_of m (AnyOfFormula (formulas_of cs)) s ≡ truth_of m (AnyOfFormula (formulas_of ds)) s
  at_list e = ap (λ (xs : List FormulaData). truth_of m (AnyOfFormula (formulas_of xs)) s) e

  -- the value of the bound variable in the body of a quantified formula
  bound_value : (i : ℕ) (x : Val) → value_of m (VarTerm i) (set_var s i x) ≡ x
  bound_value i x = ap (λ b. cond b x (s i)) (eqb_itself i)

  -- no value is an index at which the vectors differ
  nowhere : (v w : TermData) (i : ℕ) → free_in_term i v ≡ false → free_in_term i w ≡ false → m.all (λ x. not (at_most (NumberValue (pos 0)) (value_of m (VarTerm i) (set_var s i x)) && (not (at_most (len_value (value_of m v (set_var s i x))) (value_of m (VarTerm i) (set_var s i x))) && (not (same_value (at_value (value_of m v (set_var s i x)) (value_of m (VarTerm i) (set_var s i x))) (at_value (value_of m w (set_var s i x)) (value_of m (VarTerm i) (set_var s i x)))) && true)))) ≡ true → (x : Val) → not (differ_at (value_of m v s) (value_of m w s) x) ≡ true
  nowhere v w i f g all x =
      let one = bound_value i x in
      let left = same_without m v s i x f in
      let other = same_without m w s i x g in
      sym (λ j. not (at_most (NumberValue (pos 0)) (one j) && (not (at_most (len_value (left j)) (one j)) && (not (same_value (at_value (left j) (one j)) (at_value (other j) (one j))) && true)))) ∙ is_so _ ((right _).0 (subst IsTrue (sym all) (true_is true refl)) x)

  pub alternative_true : (name : Alternative) (cs : List FormulaData) → IsAlternative name cs → truth_of m (AnyOfFormula (formulas_of cs)) s ≡ true
  alternative_true AtSet cs h =
      at_list h.3 ∙ set_cases m.shapes (value_of m h.0 s) (value_of m h.1 s) (value_of m h.2 s)
  alternative_true SameItems cs h =
      at_list h.6 ∙ last_case _ _ _ _ _ (λ a b l q. same_items m.shapes (put_types m.named h.0) (value_of m h.1 s) (value_of m h.2 s) a b l (nowhere h.1 h.2 h.3 h.4 h.5 q))
  alternative_true Choice cs h =
      at_list h.3 ∙ choice_true (truth_of m h.0 s) (value_of m h.1 s) (value_of m h.2 s)
  alternative_true Trichotomy cs h = at_list h.2 ∙ trichotomy m.shapes (value_of m h.0 s) (value_of m h.1 s)
