-- Terms over classes as sums.
use Rattle.std.proofs.Common.{◌≡◌, ◌≢◌, ◌⊎◌, inl, inr, ℕ, ℤ, pos, ◌+ℤ◌, ◌-ℤ◌, ◌*ℤ◌, Bool, true, false, cond, nat_eq, List, [], ◌∷◌, Option, Some, None, refl, sym, ap, ◌∙◌, subst}
use Rattle.std.specs.Prelude.{MatchOption}
use Rattle.std.proofs.lemmas.Bool.{cases_eq, eq-eqb, ne_eqb}
use Rattle.linear_arith.specs.Fits.{Fits}
use Rattle.fol.specs.declared.operators.Binary.TheVariants.{Mul}
use Rattle.fol.specs.declared.operators.Constant.TheVariants.{Num}
use Rattle.fol.specs.FormulaData.{TermData, VarTerm, NumTerm, MulTerm, BinaryTerm, ConstantTerm}
use Rattle.certificates.specs.Linear.{kept, kept_of, same_term, numeral_of, Part, unknown_weight, product_weight, weight}
use Rattle.certificates.specs.Unknowns.{EachUnknown, EachOfProduct}
use Rattle.certificates.proofs.Sums.{same_term-equal, same_term_itself, EachUnknown-map}
use Rattle.certificates.specs.Rows.{over, product_over, IsKnown}
use Rattle.term_pool.specs.declared.node.Node.{Node}
use Rattle.tableau.specs.Marks.{IsUnder, Itself, Below}
use Rattle.row_reasoning.specs.Sums.{coefficient_in, Has, IsAmong, unsigned, signed, amount, IsKept, IsUnknownOf, IsSumOf, Leaves, HasClassesOf, IsJoined, LeavesJoined, IsMultiple, LeavesMultiple}
use Rattle.row_reasoning.specs.Shapes.{term_at, IsTermPart, joined_terms, IsTimes, Before, Behind, IsUnknown, IsNamedUnder}
use Rattle.row_reasoning.specs.declared.sum.LinearSum.{LinearSum}
use Rattle.row_reasoning.proofs.KeptLemmas.{kept_none}

-- the sum of the term with this number, if it has one
abbrev pub SumIs : List Node → (TermData → ℕ) → ℕ → Option LinearSum → Type 0
SumIs ns class n made = MatchOption made (Leaves (over class (term_at ns n))) (IsSumOf (over class (term_at ns n)))

-- ---- representatives

pub under_under : (ns : List Node) (a b c : ℕ) → IsUnder ns a b → IsUnder ns b c → IsUnder ns a c
under_under ns a b _ h Itself = h
under_under ns a b _ h (Below n node part u made one) = Below n node part (under_under ns a b n h u) made one

pub named_part : (ns : List Node) (n a : ℕ) (class : TermData → ℕ) (names : List ℕ) → IsNamedUnder ns n class names → IsTermPart ns n a → IsNamedUnder ns a class names
named_part ns n a class names h part = record { named = λ m u term. h.named m (under_under ns n a m part.under u) term }

-- ---- a number

module _ (s : LinearSum) (negated : s.is_negated ≡ false) where
  no_class : (i : ℤ) → s.constant ≡ i → s.coefficients.entries ≡ [] → kept i ≡ Some i → (part : Part) → kept (unsigned s part) ≡ Some (unsigned s part)
  no_class i constant entries k None = subst (λ (z : ℤ). kept z ≡ Some z) (sym constant) k
  no_class i constant entries k (Some (VarTerm n)) = subst (λ es. kept (coefficient_in es n) ≡ Some (coefficient_in es n)) (sym entries) refl
  no_class i constant entries k (Some u) = refl

  pub numeral_kept : (i : ℤ) → s.constant ≡ i → s.coefficients.entries ≡ [] → kept i ≡ Some i → IsKept s
  numeral_kept i constant entries k = record { fits = no_class i constant entries k }

  numeral_weights : (i : ℤ) → s.constant ≡ i → s.coefficients.entries ≡ [] → kept i ≡ Some i → (part : Part) → weight part (NumTerm i) ≡ Some (amount s part)
  numeral_weights i constant entries k None = k ∙ ap Some (λ j. signed (sym negated j) (sym constant j))
  numeral_weights i constant entries k (Some (VarTerm n)) = ap Some (λ j. signed (sym negated j) (coefficient_in (sym entries j) n))
  numeral_weights i constant entries k (Some u) = ap (λ b. Some (signed b (pos 0))) (sym negated)

  pub numeral_sum : (class : TermData → ℕ) (t : TermData) (i : ℤ) → t ≡ NumTerm i → s.constant ≡ i → s.coefficients.entries ≡ [] → kept i ≡ Some i → IsSumOf (over class t) s
  numeral_sum class t i e constant entries k = subst (λ u. IsSumOf (over class u) s) (sym e) (record { weights = numeral_weights i constant entries k; unknowns = tt; spoken = λ n h ks each. absurd (subst (λ es. Has es n) entries h) })

  -- ---- an unknown

  one_kept : (n m : ℕ) → (n ≡ m) ⊎ (n ≢ m) → kept (cond (nat_eq n m) (pos 1) (pos 0)) ≡ Some (cond (nat_eq n m) (pos 1) (pos 0))
  one_kept n m (inl e) = subst (λ b. kept (cond b (pos 1) (pos 0)) ≡ Some (cond b (pos 1) (pos 0))) (sym (eq-eqb n m e)) refl
  one_kept n m (inr e) = subst (λ b. kept (cond b (pos 1) (pos 0)) ≡ Some (cond b (pos 1) (pos 0))) (sym (ne_eqb n m e)) refl

  module _ (m : ℕ) (constant : s.constant ≡ pos 0) (entries : s.coefficients.entries ≡ (m, pos 1) ∷ []) where
    one_class : (part : Part) → kept (unsigned s part) ≡ Some (unsigned s part)
    one_class None = subst (λ (z : ℤ). kept z ≡ Some z) (sym constant) refl
    one_class (Some (VarTerm n)) = subst (λ es. kept (coefficient_in es n) ≡ Some (coefficient_in es n)) (sym entries) (one_kept n m (cases_eq n m))
    one_class (Some u) = refl

    pub single_kept : IsKept s
    single_kept = record { fits = one_class }

    not_same : (u : TermData) → (VarTerm m ≡ u → ⊥) → (b : Bool) → same_term (VarTerm m) u ≡ b → same_term (VarTerm m) u ≡ false
    not_same u d true e = absurd (d (same_term-equal (VarTerm m) u e))
    not_same u d false e = e

    class_weight : (n : ℕ) → (n ≡ m) ⊎ (n ≢ m) → cond (same_term (VarTerm m) (VarTerm n)) (Some (pos 1)) (Some (pos 0)) ≡ Some (cond (nat_eq n m) (pos 1) (pos 0))
    class_weight n (inl e) =
        ap (λ b. cond b (Some (pos 1)) (Some (pos 0))) (subst (λ k. same_term (VarTerm m) (VarTerm k) ≡ true) (sym e) (same_term_itself (VarTerm m)))
        ∙ ap (λ b. Some (cond b (pos 1) (pos 0))) (sym (eq-eqb n m e))
    class_weight n (inr e) =
        ap (λ b. cond b (Some (pos 1)) (Some (pos 0))) (not_same (VarTerm n) (λ f. (let same : m ≡ n = cc in e (sym same))) (same_term (VarTerm m) (VarTerm n)) refl)
        ∙ ap (λ b. Some (cond b (pos 1) (pos 0))) (sym (ne_eqb n m e))

    other_weight : (u : TermData) → (VarTerm m ≡ u → ⊥) → cond (same_term (VarTerm m) u) (Some (pos 1)) (Some (pos 0)) ≡ Some (signed s.is_negated (pos 0))
    other_weight u d = ap (λ b. cond b (Some (pos 1)) (Some (pos 0))) (not_same u d (same_term (VarTerm m) u) refl) ∙ ap (λ b. Some (signed b (pos 0))) (sym negated)

    single_weights : (part : Part) → weight part (VarTerm m) ≡ Some (amount s part)
    single_weights None = ap Some (λ j. signed (sym negated j) (sym constant j))
    single_weights (Some (VarTerm n)) = class_weight n (cases_eq n m) ∙ ap Some (λ j. signed (sym negated j) (coefficient_in (sym entries j) n))
    single_weights (Some u) = other_weight u (λ e. absurd (cc))

    single_spoken : (n : ℕ) → (n ≡ m) ⊎ ⊥ → (ks : List ℕ) → IsKnown ks (VarTerm m) → IsAmong ks n
    single_spoken n (inl e) ks known = (let same : m ≡ known.1 = (let both = known.3 in cc) in record { position = known.0; found = known.2 ∙ ap Some (sym (e ∙ same)) })
    single_spoken n (inr h) ks known = absurd h

    pub variable_sum : IsSumOf (VarTerm m) s
    variable_sum = record {
      weights = single_weights;
      unknowns = (m, refl, subst (λ es. Has es m) (sym entries) (inl refl));
      spoken = λ n h ks each. single_spoken n (subst (λ es. Has es n) entries h) ks each;
    }

    pub unknown_sum : (class : TermData → ℕ) (t : TermData) → IsUnknown t → m ≡ class t → IsSumOf (over class t) s
    unknown_sum class t h e = subst (λ u. IsSumOf u s) (sym (h.is class ∙ ap VarTerm (sym e))) variable_sum

pub numeral_leaves : (class : TermData → ℕ) (t : TermData) (i : ℤ) → t ≡ NumTerm i → (Fits i → ⊥) → Leaves (over class t)
numeral_leaves class t i e h = subst (λ u. Leaves (over class u)) (sym e) (record { part = None; leaves = kept_none i h })

-- ---- a sum or a difference

pub same_classes : (t : TermData) (x r : LinearSum) → HasClassesOf x r → EachUnknown (IsUnknownOf x) t → EachUnknown (IsUnknownOf r) t
same_classes t x r h each = EachUnknown-map (IsUnknownOf x) (IsUnknownOf r) (λ u k. (k.0, k.1, h.has k.0 k.2)) t each

module _ (t u : TermData) (x y : LinearSum) (sum_t : IsSumOf t x) (sum_u : IsSumOf u y) where
  pub either_spoken : (n : ℕ) → Has x.coefficients.entries n ⊎ Has y.coefficients.entries n → (ks : List ℕ) → EachUnknown (IsKnown ks) t → EachUnknown (IsKnown ks) u → IsAmong ks n
  either_spoken n (inl h) ks first second = sum_t.spoken n h ks first
  either_spoken n (inr h) ks first second = sum_u.spoken n h ks second

  pub joined_sum : (d : Bool) (r : LinearSum) → IsJoined d x y r → IsSumOf (joined_terms d t u) r
  joined_sum false r h = record {
    weights = λ part. (λ j. kept_of ◌+ℤ◌ (sum_t.weights part j) (sum_u.weights part j)) ∙ h.numbers part;
    unknowns = (same_classes t x r h.left sum_t.unknowns, same_classes u y r h.right sum_u.unknowns);
    spoken = λ n g ks each. either_spoken n (h.from.either n g) ks each.0 each.1;
  }
  joined_sum true r h = record {
    weights = λ part. (λ j. kept_of ◌-ℤ◌ (sum_t.weights part j) (sum_u.weights part j)) ∙ h.numbers part;
    unknowns = (same_classes t x r h.left sum_t.unknowns, same_classes u y r h.right sum_u.unknowns);
    spoken = λ n g ks each. either_spoken n (h.from.either n g) ks each.0 each.1;
  }

  pub joined_leave : (d : Bool) → LeavesJoined d x y → Leaves (joined_terms d t u)
  joined_leave false h = record { part = h.part; leaves = (λ j. kept_of ◌+ℤ◌ (sum_t.weights h.part j) (sum_u.weights h.part j)) ∙ h.leaves }
  joined_leave true h = record { part = h.part; leaves = (λ j. kept_of ◌-ℤ◌ (sum_t.weights h.part j) (sum_u.weights h.part j)) ∙ h.leaves }

over_joined : (class : TermData → ℕ) (d : Bool) (t u : TermData) → over class (joined_terms d t u) ≡ joined_terms d (over class t) (over class u)
over_joined class false t u = refl
over_joined class true t u = refl

none_second : (op : ℤ → ℤ → ℤ) (x y : Option ℤ) → y ≡ None → kept_of op x y ≡ None
none_second op None y e = refl
none_second op (Some a) y e = ap (kept_of op (Some a)) e

module _ (class : TermData → ℕ) (d : Bool) (t u w : TermData) (is : w ≡ joined_terms d t u) where
  over_is : over class w ≡ joined_terms d (over class t) (over class u)
  over_is = ap (over class) is ∙ over_joined class d t u

  first_leaves : (t u : TermData) (d : Bool) → Leaves t → Leaves (joined_terms d t u)
  first_leaves t u false h = record { part = h.part; leaves = ap (λ x. kept_of ◌+ℤ◌ x (weight h.part u)) h.leaves }
  first_leaves t u true h = record { part = h.part; leaves = ap (λ x. kept_of ◌-ℤ◌ x (weight h.part u)) h.leaves }

  second_leaves : (t u : TermData) (d : Bool) → Leaves u → Leaves (joined_terms d t u)
  second_leaves t u false h = record { part = h.part; leaves = none_second ◌+ℤ◌ (weight h.part t) (weight h.part u) h.leaves }
  second_leaves t u true h = record { part = h.part; leaves = none_second ◌-ℤ◌ (weight h.part t) (weight h.part u) h.leaves }

  pub left_leaves : Leaves (over class t) → Leaves (over class w)
  left_leaves h = subst Leaves (sym over_is) (first_leaves (over class t) (over class u) d h)

  pub right_leaves : Leaves (over class u) → Leaves (over class w)
  right_leaves h = subst Leaves (sym over_is) (second_leaves (over class t) (over class u) d h)

  module _ (x y : LinearSum) (sum_t : IsSumOf (over class t) x) (sum_u : IsSumOf (over class u) y) where
    pub both_leave : LeavesJoined d x y → Leaves (over class w)
    both_leave h = subst Leaves (sym over_is) (joined_leave (over class t) (over class u) x y sum_t sum_u d h)

    pub both_sum : (r : LinearSum) → IsJoined d x y r → IsSumOf (over class w) r
    both_sum r h = subst (λ v. IsSumOf v r) (sym over_is) (joined_sum (over class t) (over class u) x y sum_t sum_u d r h)

-- ---- a multiple

numeral_over : (class : TermData → ℕ) (t : TermData) → numeral_of (over class t) ≡ numeral_of t
numeral_over class (BinaryTerm Mul t u) = go (numeral_of t) (numeral_of u)
  where
    go : (l r : Option ℤ) → numeral_of (product_over l r (MulTerm (over class t) (over class u)) (VarTerm (class (MulTerm t u)))) ≡ None
    go (Some c) r = refl
    go None (Some c) = refl
    go None None = refl
numeral_over class (ConstantTerm (Num i)) = refl
numeral_over class t = refl

module _ (class : TermData → ℕ) (c : ℤ) (t : TermData) where
  behind : numeral_of t ≡ None → over class (MulTerm t (NumTerm c)) ≡ MulTerm (over class t) (NumTerm c)
  behind e = ap (λ o. product_over o (Some c) (MulTerm (over class t) (NumTerm c)) (VarTerm (class (MulTerm t (NumTerm c))))) e

  no_numeral : numeral_of t ≡ None → numeral_of (over class t) ≡ None
  no_numeral e = numeral_over class t ∙ e

  times_weight : (w : TermData) → IsTimes c t w → (part : Part) → weight part (over class w) ≡ kept_of ◌*ℤ◌ (Some c) (weight part (over class t))
  times_weight _ Before part = refl
  times_weight _ (Behind e) part =
      ap (weight part) (behind e)
      ∙ ap (λ o. product_weight o (Some c) (weight part (over class t)) (weight part (NumTerm c)) (unknown_weight part (MulTerm (over class t) (NumTerm c)))) (no_numeral e)

  times_unknowns : (P : TermData → Type 0) (w : TermData) → IsTimes c t w → EachUnknown P (over class t) → EachUnknown P (over class w)
  times_unknowns P _ Before h = h
  times_unknowns P _ (Behind e) h =
      subst (EachUnknown P) (sym (behind e))
      (subst (λ o. EachOfProduct o (Some c) (EachUnknown P (over class t)) (EachUnknown P (NumTerm c)) (P (MulTerm (over class t) (NumTerm c)))) (sym (no_numeral e)) h)

  times_back : (P : TermData → Type 0) (w : TermData) → IsTimes c t w → EachUnknown P (over class w) → EachUnknown P (over class t)
  times_back P _ Before h = h
  times_back P _ (Behind e) h =
      subst (λ o. EachOfProduct o (Some c) (EachUnknown P (over class t)) (EachUnknown P (NumTerm c)) (P (MulTerm (over class t) (NumTerm c)))) (no_numeral e)
      (subst (EachUnknown P) (behind e) h)

  module _ (w : TermData) (times : IsTimes c t w) where
    pub times_leaves : Leaves (over class t) → Leaves (over class w)
    times_leaves h = record { part = h.part; leaves = times_weight w times h.part ∙ ap (kept_of ◌*ℤ◌ (Some c)) h.leaves }

    module _ (x : LinearSum) (sum_t : IsSumOf (over class t) x) where
      pub multiple_sum : (r : LinearSum) → IsMultiple c x r → IsSumOf (over class w) r
      multiple_sum r h = record {
        weights = λ part. times_weight w times part ∙ ap (kept_of ◌*ℤ◌ (Some c)) (sum_t.weights part) ∙ h.numbers part;
        unknowns = times_unknowns (IsUnknownOf r) w times (same_classes (over class t) x r h.classes sum_t.unknowns);
        spoken = λ n g ks each. sum_t.spoken n (h.from.has n g) ks (times_back (IsKnown ks) w times each);
      }

      pub multiple_leave : LeavesMultiple c x → Leaves (over class w)
      multiple_leave h = record { part = h.part; leaves = times_weight w times h.part ∙ ap (kept_of ◌*ℤ◌ (Some c)) (sum_t.weights h.part) ∙ h.leaves }
