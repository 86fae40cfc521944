-- The values of variables on an open branch are whole numbers.
use Rattle.std.proofs.Common.{◌≡◌, ◌≢◌, ◌⊎◌, inl, inr, ℕ, zero, suc, ◌<◌, ℤ, pos, negsuc, ◌+ℤ◌, ◌-ℤ◌, ◌*ℤ◌, ◌≤ℤ◌, ◌<ℤ◌, true, false, List, [], ◌∷◌, length, get_or, position, slice_get, slice_index, Option, Some, None, refl, sym, ap, ◌∙◌, subst, arith}
use Rattle.std.specs.Prelude.{All, IfSome, option_and_then, unsigned_abs}
use Rattle.std.proofs.Math.IntN.{*ℤ_comm}
use Rattle.std.proofs.lemmas.Bool.{eqb-true}
use Rattle.std.proofs.lemmas.Int.{ints}
use Rattle.std.proofs.lemmas.List.Quantifiers.{position-Some}
use Rattle.base.specs.Names.{same_name}
use Rattle.base.specs.TypeData.{NumType}
use Rattle.base.specs.Pairs.{Paired}
use Rattle.base.proofs.WholeNumbers.{mul_le, le_of_mul}
use Rattle.linear_arith.specs.Floor.{IsFloor}
use Rattle.linear_arith.specs.declared.rows.Fraction.{Fraction}
use Rattle.linear_arith.specs.Substitution.{ArePositive}
use Rattle.fol.specs.FormulaData.{VarTerm, IsFormula}
use Rattle.term_pool.specs.Items.{term_in, sort_of}
use Rattle.term_pool.specs.Pools.{IsMade, IsOneNumber}
use Rattle.term_pool.specs.declared.node.Leaf.TheVariants.{Var}
use Rattle.term_pool.specs.declared.node.Node.{Node}
use Rattle.term_pool.specs.declared.node.Node.TheVariants.{Leaf as LeafNode}
use Rattle.term_pool.proofs.GrowthLemmas.{leaf_made}
use Rattle.certificates.specs.BranchesBranch.{Branch, Stands, IsTerm}
use Rattle.certificates.specs.BranchesParts.{IsInFormula, Itself, InTyped}
use Rattle.certificates.specs.Rows.{IsWholeValue, IsWholeIfNumber}
use Rattle.tableau.specs.PoolBranches.{IsTermNumber}
use Rattle.search.specs.Decisions.{term_at, IsValued}
use Rattle.search.specs.declared.values.OpenValues.{OpenValues}
use Rattle.report.specs.ReportData.{ParameterValueData}
use Rattle.driver.specs.OpenValues.{is_name, is_of, fraction_of, IsNumber, IsValueOf, OfClass, OfNone, IsValueAt, IsParameterValue, AreValuesOf, IsWholeAt, Likely}

-- ---- whole numbers

above_zero : (z : ℤ) → (pos 0 <ℤ z) ⊎ (z ≤ℤ pos 0)
above_zero (pos zero) = inr (omega (arith, ints))
above_zero (pos (suc n)) = inl (omega (arith, ints))
above_zero (negsuc n) = inr (omega (arith, ints))

size_of : (z : ℤ) → pos 0 <ℤ z → pos (unsigned_abs z) ≡ z
size_of (pos n) h = refl
size_of (negsuc n) h = absurd (omega (arith, ints, h))

-- a number whose product is between those of k and k + 1 is k
between : (d k m : ℤ) → pos 0 <ℤ d → (d *ℤ k) ≤ℤ (d *ℤ m) → (d *ℤ m) <ℤ (d *ℤ (k +ℤ pos 1)) → k ≡ m
between d k m h low high = elim (above_zero (k -ℤ m)) [
  | inl w ↦ (let e = le_of_mul d k m h low in absurd (omega (arith, ints, w, e)))
  | inr w ↦ elim (above_zero (m -ℤ k)) [
    | inl v ↦ (let l = mul_le d (k +ℤ pos 1) m (omega (arith, ints, h)) (omega (arith, ints, v)) in absurd (omega (arith, ints, l, high)))
    | inr v ↦ omega (arith, ints, w, v)
  ]
]

-- two products with a positive number are equal or not
same_or_not : (x y : ℤ) → (x ≡ y) ⊎ (x ≢ y)
same_or_not x y = elim (above_zero (x -ℤ y)) [
  | inl w ↦ inr (λ e. (let f : x -ℤ y ≡ y -ℤ y = ap (λ z. z -ℤ y) e in omega (arith, ints, w, f)))
  | inr w ↦ elim (above_zero (y -ℤ x)) [
    | inl v ↦ inr (λ e. (let f : y -ℤ x ≡ y -ℤ y = ap (λ z. y -ℤ z) e in omega (arith, ints, v, f)))
    | inr v ↦ inl (omega (arith, ints, w, v))
  ]
]

-- a value that is whole up to a double negation is the quotient rounded down
pub exact : (f : Fraction) (z : ℤ) → pos 0 <ℤ f.denominator → Likely (IsWholeValue f) → IsFloor f.numerator (unsigned_abs f.denominator) z → f.numerator ≡ z *ℤ f.denominator
exact f z h likely floor = elim (same_or_not f.numerator (z *ℤ f.denominator)) [
  | inl same ↦ same
  | inr other ↦ absurd (likely (λ whole. (
      let d : ℤ = f.denominator in
      let size : pos (unsigned_abs d) ≡ d = size_of d h in
      let is : f.numerator ≡ d *ℤ whole.number = whole.is ∙ *ℤ_comm whole.number d in
      let low : (d *ℤ z) ≤ℤ (d *ℤ whole.number) = subst (λ x. (d *ℤ z) ≤ℤ x) is (subst (λ s. (s *ℤ z) ≤ℤ f.numerator) size floor.below) in
      let high : (d *ℤ whole.number) <ℤ (d *ℤ (z +ℤ pos 1)) = subst (λ x. x <ℤ (d *ℤ (z +ℤ pos 1))) is (subst (λ s. f.numerator <ℤ (s *ℤ (z +ℤ pos 1))) size floor.above) in
      other (whole.is ∙ ap (λ x. x *ℤ d) (sym (between d z whole.number h low high))))))
]

-- ---- the fraction of a class

found_in : (xs : List Fraction) (i : ℕ) (f d : Fraction) → slice_get xs i ≡ Some f → (i < length xs) × (get_or xs i d ≡ f)
found_in [] i f d e = absurd (cc)
found_in (x ∷ xs) zero f d e = (omega arith, (let same : x ≡ f = cc in same))
found_in (x ∷ xs) (suc i) f d e = (let rest = found_in xs i f d e in (let l = rest.0 in omega (arith, l), rest.1))

named : (o : Option ℕ) (name : ℕ) → is_name o name ≡ true → o ≡ Some name
named None name e = absurd (let f : false ≡ true = e in cc)
named (Some n) name e = ap Some (eqb-true n name e)

-- it is in the list, and belongs to the class
record IsFractionOf (v : OpenValues) (name : ℕ) (f : Fraction) : Type 0 where
  index : ℕ
  found : slice_get v.values index ≡ Some f
  of_class : slice_get v.classes.items f.unknown ≡ Some name

fraction_found : (v : OpenValues) (name : ℕ) (f : Fraction) → fraction_of v name ≡ Some f → IsFractionOf v name f
fraction_found v name f e = go (position (is_of v name) v.values) refl e
  where
    go : (o : Option ℕ) → position (is_of v name) v.values ≡ o → option_and_then (slice_get v.values) o ≡ Some f → IsFractionOf v name f
    go None is e = absurd (cc)
    go (Some i) is e =
        let at = found_in v.values i f f e in
        let passes = (position-Some (is_of v name) v.values i f is).1 in
        record { index = i; found = e; of_class = named (slice_get v.classes.items f.unknown) name (subst (λ x. is_of v name x ≡ true) at.1 passes) }

all_at : (P : Fraction → Type 0) (xs : List Fraction) (i : ℕ) (f : Fraction) → All P xs → slice_get xs i ≡ Some f → P f
all_at P xs i f all e = (let at = found_in xs i f f e in subst P at.1 (all i f at.0))

-- ---- the values of variables

-- a variable that an entry states to be a whole number has a whole value, up to a double negation
pub whole_at : (ns : List Node) (b : Branch) (v : OpenValues) (k : ℕ) → IsValued ns b v → Likely (Stands b (IsFormula NumType (VarTerm k))) → IsWholeAt ns v k
whole_at ns b v k valued likely = record { positive = valued.solution.positive; whole = whole }
  where
    whole : (n : ℕ) (f : Fraction) → IsMade ns n (LeafNode (Var k)) → fraction_of v (slice_index v.names.items n) ≡ Some f → Likely (IsWholeValue f)
    whole n f made e never = likely (λ stands. (
        let item = leaf_made (Var k) made in
        let term : term_at ns n ≡ VarTerm k = ap term_in item.is in
        let number : IsTermNumber ns n = record { within = item.within; sort = ap sort_of item.is } in
        let at : IsTerm b (VarTerm k) = record {
          generation = stands.says.entry.generation;
          holds = record { position = stands.position; entry = stands.says.entry; found = stands.says.found; inside = subst (IsInFormula (VarTerm k)) (sym stands.says.is) (InTyped NumType (VarTerm k) Itself); same = refl };
        } in
        let name = slice_index v.names.items n in
        let class : valued.class (VarTerm k) ≡ name = sym (valued.named n number (subst (IsTerm b) (sym term) at) ∙ ap valued.class term) in
        let found = fraction_found v name f e in
        let here : IsWholeIfNumber b valued.class v.classes.items f = all_at (IsWholeIfNumber b valued.class v.classes.items) v.values found.index f valued.whole found.found in
        never (here.whole name found.of_class (record { term = VarTerm k; of_class = class; stands = stands }))))

pub positive_at : (v : OpenValues) (name : ℕ) (f : Fraction) → ArePositive v.values → fraction_of v name ≡ Some f → pos 0 <ℤ f.denominator
positive_at v name f positive e = (let found = fraction_found v name f e in all_at (λ (g : Fraction). pos 0 <ℤ g.denominator) v.values found.index f positive found.found)

-- facts about the value of the variable's class
pub known_whole : (ns : List Node) (v : OpenValues) (k : ℕ) → IsWholeAt ns v k → (n : ℕ) → IsMade ns n (LeafNode (Var k)) → (o : Option Fraction) → o ≡ fraction_of v (slice_index v.names.items n) → IfSome o (λ f. (pos 0 <ℤ f.denominator) × Likely (IsWholeValue f))
known_whole ns v k h n made None e = tt
known_whole ns v k h n made (Some f) e = (positive_at v (slice_index v.names.items n) f h.positive (sym e), h.whole n f made (sym e))

-- ---- one value

one_number : (x y d : ℤ) → pos 0 <ℤ d → x *ℤ d ≡ y *ℤ d → x ≡ y
one_number x y d h e =
    let f : d *ℤ x ≡ d *ℤ y = *ℤ_comm d x ∙ e ∙ *ℤ_comm y d in
    let low = le_of_mul d x y h (omega (arith, ints, f)) in
    let high = le_of_mul d y x h (omega (arith, ints, f)) in
    omega (arith, ints, low, high)

pub one_fraction : (o : Option Fraction) (x y : ℤ) → IfSome o (λ f. pos 0 <ℤ f.denominator) → IsNumber o x → IsNumber o y → x ≡ y
one_fraction None x y h a b = a ∙ sym b
one_fraction (Some f) x y h a b = one_number x y f.denominator h (sym a ∙ b)

positive_of : (v : OpenValues) (name : ℕ) → ArePositive v.values → (o : Option Fraction) → fraction_of v name ≡ o → IfSome o (λ f. pos 0 <ℤ f.denominator)
positive_of v name positive None e = tt
positive_of v name positive (Some f) e = positive_at v name f positive e

module _ (ns : List Node) (v : OpenValues) (one : IsOneNumber ns) (positive : ArePositive v.values) where
  one_of : (k : ℕ) (x y : ℤ) → IsValueOf ns v k x → IsValueOf ns v k y → x ≡ y
  one_of k x y (OfClass n made h) (OfClass m again g) =
      let same : n ≡ m = one.one n m (leaf_made (Var k) made).within (leaf_made (Var k) again).within (made.item ∙ sym again.item) in
      let name = slice_index v.names.items n in
      one_fraction (fraction_of v name) x y (positive_of v name positive (fraction_of v name) refl) h (subst (λ i. IsNumber (fraction_of v (slice_index v.names.items i)) y) (sym same) g)
  one_of k x y (OfClass n made h) (OfNone none g) = absurd (none.nowhere n made.found)
  one_of k x y (OfNone none h) (OfClass n made g) = absurd (none.nowhere n made.found)
  one_of k x y (OfNone none h) (OfNone nowhere g) = h ∙ sym g

  one_at : (o : Option ℕ) (x y : ℤ) → IsValueAt ns v o x → IsValueAt ns v o y → x ≡ y
  one_at None x y h g = h ∙ sym g
  one_at (Some k) x y h g = one_of k x y h g

  one_each : (parameters names : List (List ℕ)) (xs ys : List ParameterValueData) → Paired (IsParameterValue ns v parameters) names xs → Paired (IsParameterValue ns v parameters) names ys → xs ≡ ys
  one_each parameters [] [] [] p q = refl
  one_each parameters [] (x ∷ xs) ys p q = absurd p
  one_each parameters [] [] (y ∷ ys) p q = absurd q
  one_each parameters (n ∷ ns) [] ys p q = absurd p
  one_each parameters (n ∷ ns) (x ∷ xs) [] p q = absurd q
  one_each parameters (n ∷ ns) (x ∷ xs) (y ∷ ys) p q =
      let name : x.name ≡ y.name = p.0.name_is ∙ sym q.0.name_is in
      let number : x.number ≡ y.number = one_at (position (same_name n) parameters) x.number y.number p.0.number q.0.number in
      let rest : xs ≡ ys = one_each parameters ns xs ys p.1 q.1 in
      λ i. record { name = name i; number = number i } ∷ rest i

-- an open branch gives each parameter one value
pub one_list : (ns : List Node) (v : OpenValues) (parameters : List (List ℕ)) (xs ys : List ParameterValueData) → IsOneNumber ns → ArePositive v.values → AreValuesOf ns v parameters xs → AreValuesOf ns v parameters ys → xs ≡ ys
one_list ns v parameters xs ys one positive p q = one_each ns v one positive parameters parameters xs ys p q
