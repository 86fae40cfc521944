-- Replacement of equals by equals: a formula in which some occurrences of a term are replaced by an equal one, where
-- no variable of either is bound. A pattern marks the occurrences: its variable occurs there.
use Rattle.std.specs.Prelude.{ℕ, ◌⊎◌}
use Rattle.fol.specs.declared.operators.Comparison.TheVariants.{Eq}
use Rattle.fol.specs.FormulaData.{TermData, FormulaData, CompareFormula}
use Rattle.substitution.specs.Instances.{IsInstance}

-- the two formulas are the pattern with the one term and with the other
abbrev pub IsReplaced : ℕ → FormulaData → TermData → TermData → FormulaData → FormulaData → Type 0
IsReplaced x pattern from to p q = IsInstance x from pattern p × IsInstance x to pattern q

-- the second formula follows from the first by the equation
abbrev pub IsRewriting : ℕ → FormulaData → FormulaData → FormulaData → FormulaData → Type 0
IsRewriting x pattern (CompareFormula Eq t u) p q = IsReplaced x pattern t u p q ⊎ IsReplaced x pattern u t p q
IsRewriting x pattern _ p q = ⊥
