-- The instance of a quantified formula for a term (R. Smullyan, First-Order Logic, chapter V, "gamma" and "delta"
-- formulas).
use Rattle.std.specs.Prelude.{◌≡◌, ℕ, pos, ◌+ℤ◌, ℤ, false, List, [], ◌∷◌, All}
use Rattle.fol.specs.declared.operators.Quantifier.{Quantifier}
use Rattle.fol.specs.declared.operators.Quantifier.TheVariants.{ForAll, Exists}
use Rattle.fol.specs.FormulaData.{TermData, NumTerm, FormulaData, LeFormula, NotFormula, QuantifyFormula}
use Rattle.substitution.specs.Free.{free_in}
use Rattle.substitution.specs.Instances.{IsInstance}

-- the negation of a universal quantification is an existential one of the negation, and conversely
abbrev pub dual : Quantifier → Quantifier
dual ForAll = Exists
dual Exists = ForAll

-- the second formula is the negated body of the first, under this quantifier, with the term substituted for the bound
-- variable
abbrev pub IsNegatedBodyWith : Quantifier → TermData → FormulaData → FormulaData → Type 0
IsNegatedBodyWith o t (QuantifyFormula w n ts body) (NotFormula p) = (o ≡ w) × IsInstance n t body p
IsNegatedBodyWith o t _ _ = ⊥

-- the second formula is the body of the first, under this quantifier or negated under the other one, with the term
-- substituted for the bound variable
abbrev pub IsBodyWith : Quantifier → TermData → FormulaData → FormulaData → Type 0
IsBodyWith o t (QuantifyFormula w n ts body) p = (o ≡ w) × IsInstance n t body p
IsBodyWith o t (NotFormula q) p = IsNegatedBodyWith (dual o) t q p
IsBodyWith o t _ _ = ⊥

-- the variable is free in none of the formulas
abbrev pub IsNew : ℕ → List FormulaData → Type 0
IsNew v formulas = All (λ p. free_in v p ≡ false) formulas

-- a formula and its negation
abbrev pub AreCut : List FormulaData → Type 0
AreCut formulas = (p : FormulaData) × (formulas ≡ p ∷ NotFormula p ∷ [])

-- the term is at most a number, or at least 1 more
abbrev pub AreBounds : TermData → List FormulaData → Type 0
AreBounds t formulas = (k : ℤ) × (formulas ≡ LeFormula t (NumTerm k) ∷ LeFormula (NumTerm (k +ℤ pos 1)) t ∷ [])
