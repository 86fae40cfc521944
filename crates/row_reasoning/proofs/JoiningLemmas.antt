-- Sums of two sums, and their multiples.
use Rattle.std.proofs.Common.{◌≡◌, ◌⊎◌, inl, inr, ℕ, ℤ, pos, ◌+ℤ◌, ◌-ℤ◌, ◌*ℤ◌, Bool, true, false, List, [], Some, None, refl, sym, ap, ◌∙◌, subst, arith}
use Rattle.std.proofs.lemmas.Int.{ints}
use Rattle.base.proofs.WholeNumbers.{mul_sub}
use lib.IntN.{*ℤ-zero}
use Rattle.linear_arith.specs.Fits.{Fits}
use Rattle.fol.specs.FormulaData.{VarTerm}
use Rattle.certificates.specs.Linear.{kept, Part}
use Rattle.certificates.proofs.Sums.{kept_exact}
use Rattle.row_reasoning.specs.Sums.{coefficient_in, Has, unsigned, signed, amount, IsKept, plus_multiple_of, IsAdded, LeavesAdded, IsPlusMultiple, LeavesPlusMultiple, joining, turn_of, turned, IsJoined, LeavesJoined, IsMultiple, LeavesMultiple}
use Rattle.row_reasoning.specs.declared.sum.LinearSum.{LinearSum}
use Rattle.row_reasoning.proofs.KeptLemmas.{fits_kept, fits_signed, kept_itself, signed_kept, signed_leaving, came, sum_leaves, multiple_leaves, nothing_more}
use Rattle.row_reasoning.proofs.CoefficientLemmas.{has_or, absent}

-- ---- signs

-- the first number with the signed second one, where both have signs
turned_first : (m n d : Bool) (a b c : ℤ) → a +ℤ (turn_of m n d *ℤ b) ≡ c → joining d (signed m a) (signed n b) ≡ signed m c
turned_first false false false a b c e = omega (arith, ints, e)
turned_first false false true a b c e = omega (arith, ints, e)
turned_first false true false a b c e = omega (arith, ints, e)
turned_first false true true a b c e = omega (arith, ints, e)
turned_first true false false a b c e = omega (arith, ints, e)
turned_first true false true a b c e = omega (arith, ints, e)
turned_first true true false a b c e = omega (arith, ints, e)
turned_first true true true a b c e = omega (arith, ints, e)

-- the second number with the signed first one
turned_second : (m n d : Bool) (a b c : ℤ) → b +ℤ (turn_of m n d *ℤ a) ≡ c → joining d (signed m a) (signed n b) ≡ signed (turned n d) c
turned_second false false false a b c e = omega (arith, ints, e)
turned_second false false true a b c e = omega (arith, ints, e)
turned_second false true false a b c e = omega (arith, ints, e)
turned_second false true true a b c e = omega (arith, ints, e)
turned_second true false false a b c e = omega (arith, ints, e)
turned_second true false true a b c e = omega (arith, ints, e)
turned_second true true false a b c e = omega (arith, ints, e)
turned_second true true true a b c e = omega (arith, ints, e)

-- a signed number fits if the number does
turn_fits : (m n d : Bool) (a : ℤ) → Fits a → Fits (turn_of m n d *ℤ a)
turn_fits false false false a f = (omega (arith, ints, f), omega (arith, ints, f))
turn_fits false false true a f = (omega (arith, ints, f), omega (arith, ints, f))
turn_fits false true false a f = (omega (arith, ints, f), omega (arith, ints, f))
turn_fits false true true a f = (omega (arith, ints, f), omega (arith, ints, f))
turn_fits true false false a f = (omega (arith, ints, f), omega (arith, ints, f))
turn_fits true false true a f = (omega (arith, ints, f), omega (arith, ints, f))
turn_fits true true false a f = (omega (arith, ints, f), omega (arith, ints, f))
turn_fits true true true a f = (omega (arith, ints, f), omega (arith, ints, f))

kept_fits : (x : LinearSum) → IsKept x → (part : Part) → Fits (unsigned x part)
kept_fits x k part = fits_kept (unsigned x part) (unsigned x part) (k.fits part)

-- ---- a sum and a multiple of another

-- the other sum is made of these numbers
pub record IsMadeOf (r : LinearSum) (negated : Bool) (constant : ℤ) (es : List (ℕ × ℤ)) : Type 0 where
  pub sign : r.is_negated ≡ negated
  pub constant_is : r.constant ≡ constant
  pub coefficients : r.coefficients.entries ≡ es

module _ (x : LinearSum) (factor : ℤ) (y r : LinearSum) (kept_x : IsKept x) (sign : r.is_negated ≡ x.is_negated) (constant : plus_multiple_of x.constant factor y.constant ≡ Some r.constant) (added : IsAdded factor x.coefficients.entries y.coefficients.entries r.coefficients.entries) where
  pub plus_made : IsPlusMultiple x factor y r
  plus_made = record {
    sign = sign;
    numbers = numbers;
    left = record { has = added.left };
    right = record { has = added.right };
    from = record { either = added.from };
  }
    where
      nothing : plus_multiple_of (pos 0) factor (pos 0) ≡ Some (pos 0)
      nothing = nothing_more (pos 0) factor refl

      class_number : (n : ℕ) → Has y.coefficients.entries n ⊎ (Has y.coefficients.entries n → ⊥) → plus_multiple_of (coefficient_in x.coefficients.entries n) factor (coefficient_in y.coefficients.entries n) ≡ Some (coefficient_in r.coefficients.entries n)
      class_number n (inl h) = added.sums n h
      class_number n (inr h) =
          ap (plus_multiple_of (coefficient_in x.coefficients.entries n) factor) (absent y.coefficients.entries n h)
          ∙ nothing_more (coefficient_in x.coefficients.entries n) factor (kept_x.fits (Some (VarTerm n)))
          ∙ ap Some (sym (added.others n h))

      numbers : (part : Part) → plus_multiple_of (unsigned x part) factor (unsigned y part) ≡ Some (unsigned r part)
      numbers None = constant
      numbers (Some (VarTerm n)) = class_number n (has_or y.coefficients.entries n)
      numbers (Some u) = nothing

pub plus_leaves : (x : LinearSum) (factor : ℤ) (y : LinearSum) → LeavesAdded factor x.coefficients.entries y.coefficients.entries → LeavesPlusMultiple x factor y
plus_leaves x factor y h = record { part = Some (VarTerm h.class); leaves = h.leaves }

pub constant_leaves : (x : LinearSum) (factor : ℤ) (y : LinearSum) → None ≡ plus_multiple_of x.constant factor y.constant → LeavesPlusMultiple x factor y
constant_leaves x factor y h = record { part = None; leaves = sym h }

-- ---- the sum or the difference

module _ (x y : LinearSum) (d : Bool) (kept_x : IsKept x) (kept_y : IsKept y) (factor : ℤ) (turn : factor ≡ turn_of x.is_negated y.is_negated d) where
  pub joined_first : (r : LinearSum) → IsPlusMultiple x factor y r → IsJoined d x y r
  joined_first r h = record {
    numbers = λ part. (let c = came (unsigned x part) factor (unsigned y part) (unsigned r part) (h.numbers part) in
        let is : unsigned x part +ℤ (turn_of x.is_negated y.is_negated d *ℤ unsigned y part) ≡ unsigned r part = ap (λ f. unsigned x part +ℤ (f *ℤ unsigned y part)) (sym turn) ∙ c.is in
        signed_kept r.is_negated (unsigned r part) (joining d (amount x part) (amount y part)) (turned_first x.is_negated y.is_negated d (unsigned x part) (unsigned y part) (unsigned r part) is ∙ ap (λ s. signed s (unsigned r part)) (sym h.sign)) c.fits);
    left = h.left;
    right = h.right;
    from = h.from;
  }

  pub joined_first_leaves : LeavesPlusMultiple x factor y → LeavesJoined d x y
  joined_first_leaves h = record {
    part = h.part;
    leaves = (let none : plus_multiple_of (unsigned x h.part) (turn_of x.is_negated y.is_negated d) (unsigned y h.part) ≡ None = ap (λ f. plus_multiple_of (unsigned x h.part) f (unsigned y h.part)) (sym turn) ∙ h.leaves in
        signed_leaving x.is_negated (unsigned x h.part +ℤ (turn_of x.is_negated y.is_negated d *ℤ unsigned y h.part)) (joining d (amount x h.part) (amount y h.part)) (turned_first x.is_negated y.is_negated d (unsigned x h.part) (unsigned y h.part) _ refl)
        (sum_leaves (unsigned x h.part) (turn_of x.is_negated y.is_negated d) (unsigned y h.part) (turn_fits x.is_negated y.is_negated d (unsigned y h.part) (kept_fits y kept_y h.part)) none));
  }

  -- the second sum with the first was computed, and then negated if the first was to lose it
  pub joined_second : (r s : LinearSum) → IsPlusMultiple y factor x r → IsMadeOf s (turned r.is_negated d) r.constant r.coefficients.entries → IsJoined d x y s
  joined_second r s h made = record {
    numbers = λ part. (let c = came (unsigned y part) factor (unsigned x part) (unsigned r part) (h.numbers part) in
        let is : unsigned y part +ℤ (turn_of x.is_negated y.is_negated d *ℤ unsigned x part) ≡ unsigned r part = ap (λ f. unsigned y part +ℤ (f *ℤ unsigned x part)) (sym turn) ∙ c.is in
        let same : unsigned s part ≡ unsigned r part = same_numbers part in
        signed_kept s.is_negated (unsigned s part) (joining d (amount x part) (amount y part)) (turned_second x.is_negated y.is_negated d (unsigned x part) (unsigned y part) (unsigned r part) is ∙ (λ i. signed (sym sign i) (sym same i))) (subst (λ (z : ℤ). Fits z) (sym same) c.fits));
    left = record { has = λ n g. subst (λ es. Has es n) (sym made.coefficients) (h.right.has n g) };
    right = record { has = λ n g. subst (λ es. Has es n) (sym made.coefficients) (h.left.has n g) };
    from = record { either = λ n g. elim (h.from.either n (subst (λ es. Has es n) made.coefficients g)) [ inl a ↦ inr a | inr a ↦ inl a ] };
  }
    where
      sign : s.is_negated ≡ turned y.is_negated d
      sign = made.sign ∙ ap (λ n. turned n d) h.sign

      same_numbers : (part : Part) → unsigned s part ≡ unsigned r part
      same_numbers None = made.constant_is
      same_numbers (Some (VarTerm n)) = ap (λ es. coefficient_in es n) made.coefficients
      same_numbers (Some u) = refl

  pub joined_second_leaves : LeavesPlusMultiple y factor x → LeavesJoined d x y
  joined_second_leaves h = record {
    part = h.part;
    leaves = (let none : plus_multiple_of (unsigned y h.part) (turn_of x.is_negated y.is_negated d) (unsigned x h.part) ≡ None = ap (λ f. plus_multiple_of (unsigned y h.part) f (unsigned x h.part)) (sym turn) ∙ h.leaves in
        signed_leaving (turned y.is_negated d) (unsigned y h.part +ℤ (turn_of x.is_negated y.is_negated d *ℤ unsigned x h.part)) (joining d (amount x h.part) (amount y h.part)) (turned_second x.is_negated y.is_negated d (unsigned x h.part) (unsigned y h.part) _ refl)
        (sum_leaves (unsigned y h.part) (turn_of x.is_negated y.is_negated d) (unsigned x h.part) (turn_fits x.is_negated y.is_negated d (unsigned x h.part) (kept_fits x kept_x h.part)) none));
  }

-- the result fits
signed_fits_back : (n : Bool) (z y : ℤ) → kept y ≡ Some (signed n z) → kept z ≡ Some z
signed_fits_back n z y e = kept_itself z (fits_signed n z (subst (λ (v : ℤ). Fits v) (kept_exact y (signed n z) e) (fits_kept y (signed n z) e)))

pub joined_fits : (d : Bool) (x y r : LinearSum) → IsJoined d x y r → IsKept r
joined_fits d x y r h = record { fits = λ part. signed_fits_back r.is_negated (unsigned r part) (joining d (amount x part) (amount y part)) (h.numbers part) }

-- ---- a multiple

signed_multiple : (n : Bool) (factor z : ℤ) → factor *ℤ signed n z ≡ signed n (factor *ℤ z)
signed_multiple false factor z = refl
signed_multiple true factor z = mul_sub factor (pos 0) z ∙ ap (λ v. v -ℤ (factor *ℤ z)) (*ℤ-zero factor)

-- the sum to which the multiple is added has no numbers, only the sign
module _ (x e : LinearSum) (factor : ℤ) (empty : IsMadeOf e x.is_negated (pos 0) []) where
  zeros : (part : Part) → unsigned e part ≡ pos 0
  zeros None = empty.constant_is
  zeros (Some (VarTerm n)) = ap (λ es. coefficient_in es n) empty.coefficients
  zeros (Some u) = refl

  pub empty_kept : IsKept e
  empty_kept = record { fits = λ part. subst (λ (z : ℤ). kept z ≡ Some z) (sym (zeros part)) refl }

  pub multiple_made : (r : LinearSum) → IsPlusMultiple e factor x r → IsMultiple factor x r
  multiple_made r h = record {
    numbers = λ part. (let c = came (unsigned e part) factor (unsigned x part) (unsigned r part) (h.numbers part) in
        let zero : unsigned e part ≡ pos 0 = zeros part in
        let total = c.is in
        let is : factor *ℤ unsigned x part ≡ unsigned r part = omega (arith, ints, zero, total) in
        signed_kept r.is_negated (unsigned r part) (factor *ℤ amount x part) (signed_multiple x.is_negated factor (unsigned x part) ∙ (λ i. signed (sign i) (is i))) c.fits);
    classes = h.right;
    from = record { has = λ n g. elim (h.from.either n g) [ inl a ↦ absurd (subst (λ es. Has es n) empty.coefficients a) | inr a ↦ a ] };
  }
    where
      sign : x.is_negated ≡ r.is_negated
      sign = sym (h.sign ∙ empty.sign)

  pub multiple_leaving : LeavesPlusMultiple e factor x → LeavesMultiple factor x
  multiple_leaving h = record {
    part = h.part;
    leaves = signed_leaving x.is_negated (factor *ℤ unsigned x h.part) (factor *ℤ amount x h.part) (signed_multiple x.is_negated factor (unsigned x h.part))
        (multiple_leaves factor (unsigned x h.part) (ap (λ z. plus_multiple_of z factor (unsigned x h.part)) (sym (zeros h.part)) ∙ h.leaves));
  }

pub multiple_fits : (factor : ℤ) (x r : LinearSum) → IsMultiple factor x r → IsKept r
multiple_fits factor x r h = record { fits = λ part. signed_fits_back r.is_negated (unsigned r part) (factor *ℤ amount x part) (h.numbers part) }
