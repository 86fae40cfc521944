-- Rows of entries over classes.
use Rattle.std.proofs.Common.{◌≡◌, ◌⊎◌, inl, inr, ℕ, ℤ, pos, ◌+ℤ◌, ◌-ℤ◌, Bool, true, false, List, [], Option, Some, None, refl, sym, ap, ◌∙◌, subst}
use Rattle.std.specs.Option.{option_map}
use Rattle.fol.specs.declared.operators.Comparison.TheVariants.{Eq, Le}
use Rattle.fol.specs.FormulaData.{TermData, VarTerm, FormulaData, CompareFormula, NotFormula}
use Rattle.certificates.specs.Linear.{kept_of, Part, weight, Row, row_of, gap_weight, row_weight}
use Rattle.certificates.specs.Unknowns.{EachUnknown}
use Rattle.certificates.specs.Rows.{over, IsKnown, comparison_with, FitsRow, IsEntryRow, Fits, Leaves}
use Rattle.term_pool.specs.declared.node.Node.{Node}
use Rattle.row_reasoning.specs.Sums.{coefficient_in, Has, IsAmong, signed, amount, IsSumOf, Leaves as LeavesSum, IsJoined, LeavesJoined}
use Rattle.row_reasoning.specs.Entries.{formula_at, gap_of, row_with, HasSides, IsRowSum, LeavesRow, row_over, IsEntrySum}
use Rattle.row_reasoning.specs.declared.sum.LinearSum.{LinearSum}
use Rattle.row_reasoning.specs.declared.comparison.Sides.{Sides}
use Rattle.row_reasoning.specs.declared.entry.EntrySum.{EntrySum}
use Rattle.row_reasoning.proofs.WalkLemmas.{same_classes, either_spoken}

-- ---- the lesser side minus the greater one, plus the gap

module _ (s : Bool) (g : LinearSum) (negated : g.is_negated ≡ false) (constant : g.constant ≡ gap_of s) (entries : g.coefficients.entries ≡ []) where
  gap_is : (part : Part) → gap_weight part (gap_of s) ≡ Some (amount g part)
  gap_is None = ap Some (λ j. signed (sym negated j) (sym constant j))
  gap_is (Some (VarTerm n)) = ap Some (λ j. signed (sym negated j) (coefficient_in (sym entries j) n))
  gap_is (Some u) = ap (λ b. Some (signed b (pos 0))) (sym negated)

  module _ (t u : TermData) (e : Bool) (x y : LinearSum) (sum_t : IsSumOf t x) (sum_u : IsSumOf u y) where
    pub difference_leaves : LeavesJoined true x y → LeavesRow (row_with t u s e)
    difference_leaves h = record {
      part = h.part;
      leaves = ap (λ o. kept_of ◌+ℤ◌ o (gap_weight h.part (gap_of s))) ((λ j. kept_of ◌-ℤ◌ (sum_t.weights h.part j) (sum_u.weights h.part j)) ∙ h.leaves);
    }

    module _ (d : LinearSum) (difference : IsJoined true x y d) where
      weights : (part : Part) → kept_of ◌-ℤ◌ (weight part t) (weight part u) ≡ Some (amount d part)
      weights part = (λ j. kept_of ◌-ℤ◌ (sum_t.weights part j) (sum_u.weights part j)) ∙ difference.numbers part

      pub gap_leaves : LeavesJoined false d g → LeavesRow (row_with t u s e)
      gap_leaves h = record { part = h.part; leaves = (λ j. kept_of ◌+ℤ◌ (weights h.part j) (gap_is h.part j)) ∙ h.leaves }

      row_spoken : (n : ℕ) → Has d.coefficients.entries n ⊎ Has g.coefficients.entries n → (ks : List ℕ) → EachUnknown (IsKnown ks) t → EachUnknown (IsKnown ks) u → IsAmong ks n
      row_spoken n (inl h) ks first second = either_spoken t u x y sum_t sum_u n (difference.from.either n h) ks first second
      row_spoken n (inr h) ks first second = absurd (subst (λ es. Has es n) entries h)

      pub row_made : (r : LinearSum) → IsJoined false d g r → IsRowSum (row_with t u s e) r
      row_made r h = record {
        weights = λ part. (λ j. kept_of ◌+ℤ◌ (weights part j) (gap_is part j)) ∙ h.numbers part;
        lesser = same_classes t d r h.left (same_classes t x d difference.left sum_t.unknowns);
        greater = same_classes u d r h.left (same_classes u y d difference.right sum_u.unknowns);
        spoken = λ n has ks first second. row_spoken n (h.from.either n has) ks first second;
      }

pub lesser_leaves : (t u : TermData) (s e : Bool) → LeavesSum t → LeavesRow (row_with t u s e)
lesser_leaves t u s e h = record { part = h.part; leaves = ap (λ o. kept_of ◌+ℤ◌ (kept_of ◌-ℤ◌ o (weight h.part u)) (gap_weight h.part (gap_of s))) h.leaves }

none_behind : (op : ℤ → ℤ → ℤ) (x y : Option ℤ) → y ≡ None → kept_of op x y ≡ None
none_behind op None y e = refl
none_behind op (Some a) y e = ap (kept_of op (Some a)) e

pub greater_leaves : (t u : TermData) (s e : Bool) → LeavesSum u → LeavesRow (row_with t u s e)
greater_leaves t u s e h = record { part = h.part; leaves = ap (λ o. kept_of ◌+ℤ◌ o (gap_weight h.part (gap_of s))) (none_behind ◌-ℤ◌ (weight h.part t) (weight h.part u) h.leaves) }

-- ---- entries

-- the row with its sides mapped
abbrev sided : (TermData → TermData) → Row → Row
sided side r = record { lesser = side r.lesser; greater = side r.greater; gap = r.gap; is_equation = r.is_equation }

row_with_sides : (side : TermData → TermData) (p : FormulaData) → row_of (comparison_with side p) ≡ option_map (sided side) (row_of p)
row_with_sides side (CompareFormula Eq t u) = refl
row_with_sides side (CompareFormula Le t u) = refl
row_with_sides side (NotFormula (CompareFormula Eq t u)) = refl
row_with_sides side (NotFormula (CompareFormula Le t u)) = refl
row_with_sides side p = refl

row_fits : (q : FormulaData) (row : Row) (s : LinearSum) → row_of q ≡ Some row → IsRowSum row s → FitsRow q
row_fits q row s is h = record { fits = λ part e. (let both : Some (amount s part) ≡ None = sym (h.weights part) ∙ ap (row_weight part) (sym is) ∙ e in absurd (cc)) }

row_leaves : (q : FormulaData) (row : Row) → row_of q ≡ Some row → LeavesRow row → FitsRow q → ⊥
row_leaves q row is h f = f.fits h.part (ap (row_weight h.part) is ∙ h.leaves)

module _ (ns : List Node) (class : TermData → ℕ) (n : ℕ) (s : Sides) (has : HasSides ns n (row_of (formula_at ns n)) s) where
  abbrev comparison : FormulaData
  comparison = comparison_with (over class) (formula_at ns n)

  row_is : row_of comparison ≡ Some (row_over ns class s)
  row_is = row_with_sides (over class) (formula_at ns n) ∙ ap (option_map (sided (over class))) has.row

  pub entry_made : (e : EntrySum) → IsRowSum (row_over ns class s) e.sum → e.is_equation ≡ s.is_equation → IsEntrySum class (formula_at ns n) e
  entry_made e h same = record {
    row = row_over ns class s;
    row_is = Fits (row_fits comparison (row_over ns class s) e.sum row_is h) row_is;
    sum = h;
    equation = sym same;
    no_gap = λ f. ap gap_of (has.equation (sym same ∙ f));
  }

  pub entry_leaves : LeavesRow (row_over ns class s) → IsEntryRow class (formula_at ns n) None
  entry_leaves h = Leaves (row_leaves comparison (row_over ns class s) row_is h) refl

-- an entry that is no comparison has no row
pub no_comparison : (class : TermData → ℕ) (p : FormulaData) → row_of p ≡ None → IsEntryRow class p None
no_comparison class p none =
    let sums : row_of (comparison_with (over class) p) ≡ None = row_with_sides (over class) p ∙ ap (option_map (sided (over class))) none in
    Leaves (λ f. f.fits None (ap (row_weight None) sums)) refl
