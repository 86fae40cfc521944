-- The rows of a branch fit in 128 bits.
use Rattle.std.proofs.Common.{inl, inr, ℕ, Bool, true, false, pos, ℤ, ◌-ℤ◌, List, [], ◌∷◌, length, get_or, Option, Some, None, sym, subst, arith}
use Rattle.std.specs.Prelude.{All}
use Rattle.std.proofs.lemmas.Bool.{cases_lt}
use Rattle.std.proofs.lemmas.Int.{ints}
use Rattle.std.proofs.lemmas.List.{get_or_past}
use Rattle.std.proofs.lemmas.List.Elements.{All-nil, All-cons}
use Rattle.std.proofs.lemmas.Option.{slice_get-get_or}
use Rattle.fol.specs.FormulaData.{VarTerm}
use Rattle.linear_arith.specs.Fits.{Fits, IsFitting}
use Rattle.linear_arith.specs.Inequality.{Inequality, coefficient}
use Rattle.certificates.specs.Linear.{Row}
use Rattle.certificates.proofs.KeptLemmas.{row_fits}
use Rattle.certificates.specs.Rows.{IsRowOf, turned, BeginsWith, BeginsWithEntry, AreRowsOf}

zero_fits : Fits (pos 0)
zero_fits = (omega (arith, ints), omega (arith, ints))

denied_fits : (z : ℤ) → Fits (pos 0 -ℤ z) → Fits z
denied_fits z h = (let a = h.0 in let b = h.1 in (omega (arith, ints, a, b), omega (arith, ints, a, b)))

row_of_fits : (classes : List ℕ) (row : Row) (r : Inequality) → IsRowOf classes row r → IsFitting r
row_of_fits classes row r h = (coefficients, denied_fits r.bound (row_fits None (Some row) (pos 0 -ℤ r.bound) h.bound))
  where
    coefficients : (k : ℕ) → Fits (coefficient k r)
    coefficients k = elim (cases_lt k (length classes)) [
      | inl w ↦ row_fits (Some (VarTerm (get_or classes k 0))) (Some row) (coefficient k r) (h.coefficients k (get_or classes k 0) (slice_get-get_or classes k 0 w))
      | inr w ↦ (let few = h.few in subst Fits (sym (get_or_past r.coefficients k (pos 0) (omega (arith, w, few)))) zero_fits)
    ]

begun_fits : (classes : List ℕ) (row : Row) (is_equation : Bool) (rows : List Inequality) (Rest : List Inequality → Type 0) → ((rest : List Inequality) → Rest rest → All IsFitting rest) → BeginsWith classes row is_equation rows Rest → All IsFitting rows
begun_fits classes row false [] Rest more h = absurd h
begun_fits classes row false (r ∷ rest) Rest more h = All-cons IsFitting r rest (row_of_fits classes row r h.0) (more rest h.1)
begun_fits classes row true [] Rest more h = absurd h
begun_fits classes row true (r ∷ []) Rest more h = absurd h
begun_fits classes row true (r ∷ s ∷ rest) Rest more h = All-cons IsFitting r (s ∷ rest) (row_of_fits classes row r h.0) (All-cons IsFitting s rest (row_of_fits classes (turned row) s h.1) (more rest h.2))

entry_fits : (classes : List ℕ) (row : Option Row) (rows : List Inequality) (Rest : List Inequality → Type 0) → ((rest : List Inequality) → Rest rest → All IsFitting rest) → BeginsWithEntry classes row rows Rest → All IsFitting rows
entry_fits classes None rows Rest more h = more rows h
entry_fits classes (Some row) rows Rest more h = begun_fits classes row row.is_equation rows Rest more h

pub rows_of_fit : (classes : List ℕ) (stated : List (Option Row)) (rows : List Inequality) → AreRowsOf classes stated rows → All IsFitting rows
rows_of_fit classes [] rows h = subst (All IsFitting) (sym h) (All-nil IsFitting)
rows_of_fit classes (row ∷ more) rows h = entry_fits classes row rows (AreRowsOf classes more) (rows_of_fit classes more) h
