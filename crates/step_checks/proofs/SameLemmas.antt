-- Rows of a branch over classes with the same representatives have the same numbers.
use Rattle.std.proofs.Common.{◌≡◌, inl, inr, ℕ, suc, ◌<◌, Bool, true, false, pos, ◌-ℤ◌, List, [], ◌∷◌, length, get_or, Option, Some, None, refl, sym, ap, ◌∙◌, subst, arith}
use Rattle.std.specs.Prelude.{slice_get, All, Contains}
use Rattle.std.specs.List.{AllZip}
use Rattle.std.proofs.lemmas.Bool.{cases_lt}
use Rattle.std.proofs.lemmas.Int.{ints}
use Rattle.std.proofs.lemmas.List.{get_or_past}
use Rattle.std.proofs.lemmas.List.Elements.{length_all_zip, AllZip-get_or}
use Rattle.std.proofs.lemmas.Option.{slice_get-get_or}
use Rattle.base.specs.TypeData.{NumType}
use Rattle.fol.specs.declared.operators.Binary.TheVariants.{Add, Mul, Sub}
use Rattle.fol.specs.declared.operators.Constant.TheVariants.{Num}
use Rattle.fol.specs.FormulaData.{TermData, VarTerm, ConstantTerm, BinaryTerm, AddTerm, SubTerm, MulTerm, FormulaData, CompareFormula, NotFormula}
use Rattle.certificates.specs.Linear.{numeral_of, Row, row_of}
use Rattle.linear_arith.specs.Inequality.{Inequality, coefficient}
use Rattle.linear_arith.specs.declared.rows.Fraction.{Fraction}
use Rattle.linear_arith.specs.Answer.{IsSolution}
use Rattle.linear_arith.specs.Substitution.{LinearForm, put_in_all, IsTrueForm, Meets}
use Rattle.term_pool.specs.Items.{term_in}
use Rattle.term_pool.specs.Pools.{IsOneNumber}
use Rattle.term_pool.specs.declared.node.Node.{Node}
use Rattle.certificates.specs.BranchesParts.{IsIn, Itself, InPart, IsInFormula, InLeft, InRight, InTyped, InDenied}
use Rattle.certificates.specs.BranchesBranch.{Branch, Entry, formulas, IsTerm}
use Rattle.certificates.specs.Rows.{over, product_over, comparison_with, FitsRow, IsEntryRow, Fits, Leaves, IsRowOf, turned, BeginsWith, AreRowsOf, AreBranchRows, IsClassing, IsNumberClass, IsWholeIfNumber}
use Rattle.tableau.specs.PoolBranches.{BranchData, branch_in, IsOver}
use Rattle.tableau.proofs.BranchLemmas.{term_number}
use Rattle.row_reasoning.specs.Rows.{AreNames}

-- ---- classes that agree on a branch

pub record Agree (b : Branch) (f g : TermData → ℕ) : Type 0 where
  pub same : (t : TermData) → IsTerm b t → f t ≡ g t

-- since they have the same representatives
pub agreed : (ns : List Node) → IsOneNumber ns → (d : BranchData) → IsOver ns d → (f g : TermData → ℕ) (names : List ℕ) → AreNames ns (branch_in ns d) f names → AreNames ns (branch_in ns d) g names → Agree (branch_in ns d) f g
agreed ns one d over f g names first second = record {
  same = λ t h. (
      let it = term_number ns one d over t h in
      subst (λ u. f u ≡ g u) (ap term_in it.is) (sym (first.named it.number it.term.number it.term.stands) ∙ second.named it.number it.term.number it.term.stands));
}

in_first : (t u : TermData) → Contains (t ∷ u ∷ []) t
in_first t u = (0, omega arith, refl)

in_second : (t u : TermData) → Contains (t ∷ u ∷ []) u
in_second t u = (1, omega arith, refl)

module _ (f g : TermData → ℕ) where
  same_over : (t : TermData) → ((u : TermData) → IsIn u t → f u ≡ g u) → over f t ≡ over g t
  same_over (ConstantTerm (Num i)) h = refl
  same_over (BinaryTerm Add t u) h = λ i. AddTerm (same_over t (λ w k. h w (InPart (AddTerm t u) t (in_first t u) k)) i) (same_over u (λ w k. h w (InPart (AddTerm t u) u (in_second t u) k)) i)
  same_over (BinaryTerm Sub t u) h = λ i. SubTerm (same_over t (λ w k. h w (InPart (SubTerm t u) t (in_first t u) k)) i) (same_over u (λ w k. h w (InPart (SubTerm t u) u (in_second t u) k)) i)
  same_over (BinaryTerm Mul t u) h = λ i. product_over (numeral_of t) (numeral_of u) (MulTerm (same_over t (λ w k. h w (InPart (MulTerm t u) t (in_first t u) k)) i) (same_over u (λ w k. h w (InPart (MulTerm t u) u (in_second t u) k)) i)) (VarTerm (h (MulTerm t u) Itself i))
  same_over t h = ap VarTerm (h t Itself)

  same_comparison : (p : FormulaData) → ((u : TermData) → IsInFormula u p → f u ≡ g u) → comparison_with (over f) p ≡ comparison_with (over g) p
  same_comparison (CompareFormula o t u) h = λ i. CompareFormula o (same_over t (λ w k. h w (InLeft o t u k)) i) (same_over u (λ w k. h w (InRight o t u k)) i)
  same_comparison (NotFormula (CompareFormula o t u)) h = λ i. NotFormula (CompareFormula o (same_over t (λ w k. h w (InDenied (CompareFormula o t u) (InLeft o t u k))) i) (same_over u (λ w k. h w (InDenied (CompareFormula o t u) (InRight o t u k))) i))
  same_comparison (NotFormula _) h = refl
  same_comparison _ h = refl

  same_row : (p : FormulaData) (r s : Option Row) → comparison_with (over f) p ≡ comparison_with (over g) p → IsEntryRow f p r → IsEntryRow g p s → r ≡ s
  same_row p r s e (Fits a x) (Fits c y) = sym x ∙ ap row_of e ∙ y
  same_row p r s e (Fits a x) (Leaves n y) = absurd (n (subst FitsRow e a))
  same_row p r s e (Leaves n x) (Fits c y) = absurd (n (subst FitsRow (sym e) c))
  same_row p r s e (Leaves n x) (Leaves m y) = x ∙ sym y

  same_stated : (es : List Entry) (rs ss : List (Option Row)) → ((i : ℕ) (e : Entry) → slice_get es i ≡ Some e → (u : TermData) → IsInFormula u e.formula → f u ≡ g u) → AllZip (IsEntryRow f) (formulas es) rs → AllZip (IsEntryRow g) (formulas es) ss → rs ≡ ss
  same_stated [] [] [] h x y = refl
  same_stated [] [] (s ∷ ss) h x y = absurd y
  same_stated [] (r ∷ rs) ss h x y = absurd x
  same_stated (e ∷ es) [] ss h x y = absurd x
  same_stated (e ∷ es) (r ∷ rs) [] h x y = absurd y
  same_stated (e ∷ es) (r ∷ rs) (s ∷ ss) h x y = λ i. same_row e.formula r s (same_comparison e.formula (h 0 e refl)) x.0 y.0 i ∷ same_stated es rs ss (λ k. h (suc k)) x.1 y.1 i

  -- rows over the second classes are rows over the first

  entry_so : (p : FormulaData) (r : Option Row) → comparison_with (over f) p ≡ comparison_with (over g) p → IsEntryRow g p r → IsEntryRow f p r
  entry_so p r e (Fits a x) = Fits (subst FitsRow (sym e) a) (ap row_of e ∙ x)
  entry_so p r e (Leaves n x) = Leaves (λ a. n (subst FitsRow e a)) x

  stated_so : (es : List Entry) (rs : List (Option Row)) → ((i : ℕ) (e : Entry) → slice_get es i ≡ Some e → (u : TermData) → IsInFormula u e.formula → f u ≡ g u) → AllZip (IsEntryRow g) (formulas es) rs → AllZip (IsEntryRow f) (formulas es) rs
  stated_so [] [] h x = tt
  stated_so [] (r ∷ rs) h x = absurd x
  stated_so (e ∷ es) [] h x = absurd x
  stated_so (e ∷ es) (r ∷ rs) h x = (entry_so e.formula r (same_comparison e.formula (h 0 e refl)) x.0, stated_so es rs (λ k. h (suc k)) x.1)

-- ---- rows with the same numbers

pub record SameNumbers (r s : Inequality) : Type 0 where
  pub coefficients : (k : ℕ) → coefficient k r ≡ coefficient k s
  pub bound : r.bound ≡ s.bound

some_is : {X : Type 0} {x y : X} → Some x ≡ Some y → x ≡ y
some_is e = cc

same_numbers : (classes : List ℕ) (row : Row) (r s : Inequality) → IsRowOf classes row r → IsRowOf classes row s → SameNumbers r s
same_numbers classes row r s h k = record {
  coefficients = λ j. elim (cases_lt j (length classes)) [
    | inl l ↦ (let found = slice_get-get_or classes j 0 l in some_is (sym (h.coefficients j (get_or classes j 0) found) ∙ k.coefficients j (get_or classes j 0) found))
    | inr l ↦ get_or_past r.coefficients j (pos 0) (let few = h.few in omega (arith, l, few)) ∙ sym (get_or_past s.coefficients j (pos 0) (let few = k.few in omega (arith, l, few)))
  ];
  bound = (let e : pos 0 -ℤ r.bound ≡ pos 0 -ℤ s.bound = some_is (sym h.bound ∙ k.bound) in omega (arith, ints, e));
}

module _ (classes : List ℕ) (row : Row) (more : List (Option Row)) (rest : (xs ys : List Inequality) → AreRowsOf classes more xs → AreRowsOf classes more ys → AllZip SameNumbers xs ys) where
  same_begun : (b : Bool) (rs ss : List Inequality) → BeginsWith classes row b rs (AreRowsOf classes more) → BeginsWith classes row b ss (AreRowsOf classes more) → AllZip SameNumbers rs ss
  same_begun false [] ss h k = absurd h
  same_begun false (r ∷ rs) [] h k = absurd k
  same_begun false (r ∷ rs) (s ∷ ss) h k = (same_numbers classes row r s h.0 k.0, rest rs ss h.1 k.1)
  same_begun true [] ss h k = absurd h
  same_begun true (r ∷ []) ss h k = absurd h
  same_begun true (r ∷ r' ∷ rs) [] h k = absurd k
  same_begun true (r ∷ r' ∷ rs) (s ∷ []) h k = absurd k
  same_begun true (r ∷ r' ∷ rs) (s ∷ s' ∷ ss) h k = (same_numbers classes row r s h.0 k.0, (same_numbers classes (turned row) r' s' h.1 k.1, rest rs ss h.2 k.2))

no_rows : (rs ss : List Inequality) → rs ≡ [] → ss ≡ [] → AllZip SameNumbers rs ss
no_rows rs ss e f = subst (λ xs. AllZip SameNumbers xs ss) (sym e) (subst (λ ys. AllZip SameNumbers [] ys) (sym f) tt)

same_rows : (classes : List ℕ) (stated : List (Option Row)) (rs ss : List Inequality) → AreRowsOf classes stated rs → AreRowsOf classes stated ss → AllZip SameNumbers rs ss
same_rows classes [] rs ss h k = no_rows rs ss h k
same_rows classes (None ∷ more) rs ss h k = same_rows classes more rs ss h k
same_rows classes (Some row ∷ more) rs ss h k = same_begun classes row more (same_rows classes more) row.is_equation rs ss h k

-- ---- values

met_so : (values : List Fraction) (r s : Inequality) → SameNumbers r s → Meets values r → Meets values s
met_so values r s h = subst (λ (form : LinearForm). IsTrueForm (put_in_all form values)) (λ i. record { at = λ u. h.coefficients u i; bound = h.bound i })

solution_so : (rs ss : List Inequality) (values : List Fraction) → AllZip SameNumbers rs ss → IsSolution rs values → IsSolution ss values
solution_so rs ss values same h = record {
  positive = h.positive;
  met = λ k d w. (
      let v : k < length rs = (let l = length_all_zip SameNumbers rs ss same in omega (arith, l, w)) in
      met_so values (get_or rs k d) (get_or ss k d) (AllZip-get_or SameNumbers rs ss k d d same v) (h.met k d v));
}

module _ (b : Branch) (f g : TermData → ℕ) (agree : Agree b f g) where
  stands_so : (i : ℕ) (e : Entry) → slice_get b i ≡ Some e → (u : TermData) → IsInFormula u e.formula → f u ≡ g u
  stands_so i e found u inside = agree.same u (record { generation = e.generation; holds = record { position = i; entry = e; found = found; inside = inside; same = refl } })

  -- values of the rows over the second classes are values of those over the first
  pub solved_so : (classes : List ℕ) (rs ss : List Inequality) (values : List Fraction) → AreBranchRows b f classes rs → AreBranchRows b g classes ss → IsSolution ss values → IsSolution rs values
  solved_so classes rs ss values h k =
      let same = same_stated f g b h.stated k.stated stands_so h.are_stated k.are_stated in
      solution_so ss rs values (same_rows classes k.stated ss rs k.are_rows (subst (λ o. AreRowsOf classes o rs) same h.are_rows))

  pub rows_so : (classes : List ℕ) (rows : List Inequality) → IsClassing b f → AreBranchRows b g classes rows → AreBranchRows b f classes rows
  rows_so classes rows classing h = record {
    classing = classing;
    stated = h.stated;
    are_stated = stated_so f g b h.stated stands_so h.are_stated;
    different = h.different;
    are_rows = h.are_rows;
  }

  number_so : (n : ℕ) → IsNumberClass b f n → IsNumberClass b g n
  number_so n h = (
      let e = h.stands.says.entry in
      let inside : IsInFormula h.term e.formula = subst (IsInFormula h.term) (sym h.stands.says.is) (InTyped NumType h.term Itself) in
      record { term = h.term; of_class = sym (stands_so h.stands.position e h.stands.says.found h.term inside) ∙ h.of_class; stands = h.stands })

  pub whole_so : (classes : List ℕ) (values : List Fraction) → All (IsWholeIfNumber b g classes) values → All (IsWholeIfNumber b f classes) values
  whole_so classes values h = λ k d w. record { whole = λ n found number. (h k d w).whole n found (number_so n number) }
