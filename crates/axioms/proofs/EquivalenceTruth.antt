-- The axioms that state an equivalence are true.
use Rattle.std.proofs.Common.{◌≡◌, ℕ, ◌-◌, ◌^◌, ◌<◌, pos, negsuc, List, [], ◌∷◌, Some, Bool, true, false, not, ◌&&◌, ◌||◌, refl, ap, ◌∙◌, subst, arith}
use Rattle.std.specs.Prelude.{nat_lt, nat_le}
use Rattle.std.proofs.lemmas.Bool.Decides.{nat_tests}
use Rattle.base.specs.TypeData.{TypeData, BoolType, IntType, NumType, AddressType, SignerType, VectorType, StructType, ParamType, SharedType, MutableType, TupleType}
use Rattle.base.specs.declared.types.Width.{Width}
use Rattle.base.specs.declared.types.Width.TheVariants.{U8, U16, U32, U64, U128}
use Rattle.fol.specs.declared.shapes.Shape.{Shape}
use Rattle.fol.specs.FormulaData.{TermData, NumTerm, MaxTerm, FormulaData, IsFormula, LeFormula, AllOfFormula, IffFormula, formulas_of}
use Rattle.fol.specs.Val.{Val, NumberValue, TruthValue, NothingValue, VectorValue, StructValue, MemoryValue, same_value, same_value-equal, same_value_itself}
use Rattle.fol.specs.Operators.{at_most}
use Rattle.fol.specs.TypedValue.{has_type, is_in_width}
use Rattle.fol.specs.Truth.{Interpretation, Assignment, value_of, truth_of, same_truth}
use Rattle.axioms.specs.declared.axiom.Equivalence.{Equivalence}
use Rattle.axioms.specs.declared.axiom.Equivalence.TheVariants.{Range, BoolTyped}
use Rattle.axioms.specs.Forms.{number, WholeFormula}
use Rattle.axioms.specs.Equivalences.{greatest, IsEquivalence}

-- ---- ranges

abbrev range_axiom : TypeData → TermData → TermData → FormulaData
range_axiom a t most =
    IffFormula (IsFormula a t) (AllOfFormula (formulas_of (WholeFormula t ∷ LeFormula (number 0) t ∷ LeFormula t most ∷ [])))

pub same_truth_itself : (a b : Bool) → a ≡ b → same_truth a b ≡ true
same_truth_itself true true e = refl
same_truth_itself false false e = refl
same_truth_itself true false e = absurd (cc)
same_truth_itself false true e = absurd (cc)

below : (n k : ℕ) → 0 < k → nat_lt n k ≡ nat_le n (k - 1)
below n k h = grind (arith, nat_tests)

and_true : (a b : Bool) → a ≡ b → a ≡ b && true
and_true a true e = e
and_true a false e = e

above_zero : (n : ℕ) → nat_le 0 n ≡ true
above_zero n = grind (arith, nat_tests)

and_also : (a b c : Bool) → c ≡ true → a ≡ b → a ≡ c && b
and_also a b true h e = e
and_also a b false h e = absurd (cc)

-- a type whose values are the whole numbers from 0 below a limit
abbrev IsRange : List Shape → TypeData → ℕ → Type 0
IsRange shapes a k =
    ((n : ℕ) → has_type shapes a (NumberValue (pos n)) ≡ nat_lt n k) × ((n : ℕ) → has_type shapes a (NumberValue (negsuc n)) ≡ false) × ((b : Bool) → has_type shapes a (TruthValue b) ≡ false) × (has_type shapes a NothingValue ≡ false) × ((vs : _) → has_type shapes a (VectorValue vs) ≡ false) × ((t : TypeData) (vs : _) → has_type shapes a (StructValue t vs) ≡ false) × ((es : _) → has_type shapes a (MemoryValue es) ≡ false)

in_range : (shapes : List Shape) (a : TypeData) (k : ℕ) → 0 < k → IsRange shapes a k → (v : Val) → same_truth (has_type shapes a v) (has_type shapes NumType v && (at_most (NumberValue (pos 0)) v && (at_most v (NumberValue (pos (k - 1))) && true))) ≡ true
in_range shapes a k h r (NumberValue (pos n)) = same_truth_itself _ _ (and_also _ _ (nat_le 0 n) (above_zero n) (and_true _ _ (r.0 n ∙ below n k h)))
in_range shapes a k h r (NumberValue (negsuc n)) = same_truth_itself _ _ (r.1 n)
in_range shapes a k h r (TruthValue b) = same_truth_itself _ _ (r.2 b)
in_range shapes a k h r NothingValue = same_truth_itself _ _ r.3
in_range shapes a k h r (VectorValue vs) = same_truth_itself _ _ (r.4 vs)
in_range shapes a k h r (StructValue t vs) = same_truth_itself _ _ (r.5 t vs)
in_range shapes a k h r (MemoryValue es) = same_truth_itself _ _ (r.6 es)

is_range_int : (shapes : List Shape) (w : Width) (k : ℕ) → ((n : ℕ) → is_in_width w (pos n) ≡ nat_lt n k) → IsRange shapes (IntType w) k
is_range_int shapes w k h = (h, λ n. refl, λ b. refl, refl, λ vs. refl, λ t vs. refl, λ es. refl)

module _ (m : Interpretation) (s : Assignment) where
  range_true : (a : TypeData) (t most : TermData) → greatest a ≡ Some most → truth_of m (range_axiom a t most) s ≡ true
  range_true (IntType U8) t most e =
      let same : NumTerm (pos (2 ^ 8 - 1)) ≡ most = cc in
      subst (λ x. truth_of m (range_axiom (IntType U8) t x) s ≡ true) same (in_range m.shapes (IntType U8) (2 ^ 8) (omega arith) (is_range_int m.shapes U8 (2 ^ 8) (λ n. refl)) (value_of m t s))
  range_true (IntType U16) t most e =
      let same : NumTerm (pos (2 ^ 16 - 1)) ≡ most = cc in
      subst (λ x. truth_of m (range_axiom (IntType U16) t x) s ≡ true) same (in_range m.shapes (IntType U16) (2 ^ 16) (omega arith) (is_range_int m.shapes U16 (2 ^ 16) (λ n. refl)) (value_of m t s))
  range_true (IntType U32) t most e =
      let same : NumTerm (pos (2 ^ 32 - 1)) ≡ most = cc in
      subst (λ x. truth_of m (range_axiom (IntType U32) t x) s ≡ true) same (in_range m.shapes (IntType U32) (2 ^ 32) (omega arith) (is_range_int m.shapes U32 (2 ^ 32) (λ n. refl)) (value_of m t s))
  range_true (IntType U64) t most e =
      let same : NumTerm (pos (2 ^ 64 - 1)) ≡ most = cc in
      subst (λ x. truth_of m (range_axiom (IntType U64) t x) s ≡ true) same (in_range m.shapes (IntType U64) (2 ^ 64) (omega arith) (is_range_int m.shapes U64 (2 ^ 64) (λ n. refl)) (value_of m t s))
  range_true (IntType U128) t most e =
      let same : MaxTerm ≡ most = cc in
      subst (λ x. truth_of m (range_axiom (IntType U128) t x) s ≡ true) same (in_range m.shapes (IntType U128) (2 ^ 128) (omega arith) (is_range_int m.shapes U128 (2 ^ 128) (λ n. refl)) (value_of m t s))
  range_true AddressType t most e =
      let same : MaxTerm ≡ most = cc in
      subst (λ x. truth_of m (range_axiom AddressType t x) s ≡ true) same (in_range m.shapes AddressType (2 ^ 128) (omega arith) (λ n. refl, λ n. refl, λ b. refl, refl, λ vs. refl, λ t vs. refl, λ es. refl) (value_of m t s))
  range_true SignerType t most e =
      let same : MaxTerm ≡ most = cc in
      subst (λ x. truth_of m (range_axiom SignerType t x) s ≡ true) same (in_range m.shapes SignerType (2 ^ 128) (omega arith) (λ n. refl, λ n. refl, λ b. refl, refl, λ vs. refl, λ t vs. refl, λ es. refl) (value_of m t s))
  range_true BoolType t most e = absurd (cc)
  range_true NumType t most e = absurd (cc)
  range_true (VectorType a) t most e = absurd (cc)
  range_true (StructType id ts) t most e = absurd (cc)
  range_true (ParamType n) t most e = absurd (cc)
  range_true (SharedType a) t most e = absurd (cc)
  range_true (MutableType a) t most e = absurd (cc)
  range_true (TupleType ts) t most e = absurd (cc)

-- ---- truth values

differs : (v w : Val) → (v ≡ w → ⊥) → (b : Bool) → same_value v w ≡ b → b ≡ false
differs v w none true e = absurd (none (same_value-equal v w e))
differs v w none false e = refl

-- a value other than both truth values
neither : (v : Val) → (v ≡ TruthValue true → ⊥) → (v ≡ TruthValue false → ⊥) → not (same_value v (TruthValue true) || (same_value v (TruthValue false) || false)) ≡ true
neither v f g =
    let one = differs v (TruthValue true) f (same_value v (TruthValue true)) refl in
    let other = differs v (TruthValue false) g (same_value v (TruthValue false)) refl in
    λ j. not (one j || (other j || false))

or_last : (a b : Bool) → b ≡ true → a || (b || false) ≡ true
or_last true b e = refl
or_last false b e = ap (λ x. x || false) e

truths : (shapes : List Shape) (v : Val) → same_truth (has_type shapes BoolType v) (same_value v (TruthValue true) || (same_value v (TruthValue false) || false)) ≡ true
truths shapes (TruthValue true) =
    ap (λ b. b || (same_value (TruthValue true) (TruthValue false) || false)) (same_value_itself (TruthValue true))
truths shapes (TruthValue false) =
    or_last (same_value (TruthValue false) (TruthValue true)) _ (same_value_itself (TruthValue false))
truths shapes (NumberValue z) = neither (NumberValue z) (λ e. cc) (λ e. cc)
truths shapes NothingValue = neither NothingValue (λ e. cc) (λ e. cc)
truths shapes (VectorValue vs) = neither (VectorValue vs) (λ e. cc) (λ e. cc)
truths shapes (StructValue t vs) = neither (StructValue t vs) (λ e. cc) (λ e. cc)
truths shapes (MemoryValue es) = neither (MemoryValue es) (λ e. cc) (λ e. cc)

pub equivalence_true : (m : Interpretation) (s : Assignment) (name : Equivalence) (p q : FormulaData) → IsEquivalence name p q → truth_of m (IffFormula p q) s ≡ true
equivalence_true m s Range p q h =
    (λ j. truth_of m (IffFormula (h.4 j) (h.5 j)) s) ∙ range_true m s h.0 h.1 h.2 h.3
equivalence_true m s BoolTyped p q h =
    (λ j. truth_of m (IffFormula (h.1 j) (h.2 j)) s) ∙ truths m.shapes (value_of m h.0 s)
