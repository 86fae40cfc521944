-- Clashes that do not need congruence.
use Rattle.std.specs.Prelude.{ℕ, ◌<◌}
use Rattle.fol.specs.FormulaData.{FormulaData, NotFormula}
use Rattle.certificates.specs.Closes.{IsFalseForm}
use Rattle.certificates.specs.BranchesBranch.{Branch, Says, Stands}
use Rattle.closing_rules.specs.Clashes.{IsFalseEntry}
use Rattle.closing_rules.specs.declared.clashes.clash.Clash.{Clash}
use Rattle.closing_rules.specs.declared.clashes.clash.Clash.TheVariants.{Opposed, Differing, False}

-- the second entry negates the formula of the first one
pub record AreContrary (b : Branch) (said denied : ℕ) : Type 0 where
  pub formula : FormulaData
  pub says : Says b said formula
  pub denies : Says b denied (NotFormula formula)

-- the negation of the equation of a term with itself is false by its form
abbrev pub IsLiteralClash : Branch → Clash → Type 0
IsLiteralClash b (Opposed said denied) = AreContrary b said denied
IsLiteralClash b (Differing i) = IsFalseEntry b i
IsLiteralClash b (False i) = IsFalseEntry b i

-- the entry is not false by its form, and negates no formula on the branch
pub record IsNotLiteralAt (b : Branch) (i : ℕ) : Type 0 where
  pub no_contrary : (p : FormulaData) → Stands b p → Says b i (NotFormula p) → ⊥
  pub no_false : (p : FormulaData) → Says b i p → IsFalseForm p → ⊥

-- the same for each entry before this one
pub record IsNotLiteralBefore (b : Branch) (count : ℕ) : Type 0 where
  pub each : (i : ℕ) → i < count → IsNotLiteralAt b i

-- the same for each entry
pub record IsNotLiteral (b : Branch) : Type 0 where
  pub each : (i : ℕ) → IsNotLiteralAt b i
