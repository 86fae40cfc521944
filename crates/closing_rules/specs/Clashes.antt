-- Clashes of a branch up to congruence: closed tableaux with equality (R. Smullyan, First-Order Logic, chapter II) over
-- congruence classes of terms.
use Rattle.std.specs.Prelude.{◌≡◌, ℕ, ◌<◌, []}
use Rattle.fol.specs.FormulaData.{TermData, FormulaData, EqFormula, NotFormula}
use Rattle.axioms.specs.Forms.{DifferFormula}
use Rattle.certificates.specs.Closes.{IsFalseForm}
use Rattle.certificates.specs.BranchesBranch.{Branch, Says, Stands}
use Rattle.certificates.specs.Joined.{Joined, IsAlike}
use Rattle.closing_rules.specs.declared.clashes.clash.Clash.{Clash}
use Rattle.closing_rules.specs.declared.clashes.clash.Clash.TheVariants.{Opposed, Differing, False}

-- the second entry negates the formula of the first one, up to congruence
pub record AreOpposed (b : Branch) (said denied : ℕ) : Type 0 where
  pub formula : FormulaData
  pub other : FormulaData
  pub says : Says b said formula
  pub denies : Says b denied (NotFormula other)
  pub alike : IsAlike b [] formula other

-- the formula equates two congruent terms
pub record EquatesJoined (b : Branch) (p : FormulaData) : Type 0 where
  pub left : TermData
  pub right : TermData
  pub is : p ≡ EqFormula left right
  pub joined : Joined b left right

-- the entry negates such a formula
pub record DeniesJoined (b : Branch) (i : ℕ) : Type 0 where
  pub formula : FormulaData
  pub denies : Says b i (NotFormula formula)
  pub equates : EquatesJoined b formula

-- the entry cannot be true by its form
pub record IsFalseEntry (b : Branch) (i : ℕ) : Type 0 where
  pub formula : FormulaData
  pub says : Says b i formula
  pub is_false : IsFalseForm formula

abbrev pub IsClashOf : Branch → Clash → Type 0
IsClashOf b (Opposed said denied) = AreOpposed b said denied
IsClashOf b (Differing i) = DeniesJoined b i
IsClashOf b (False i) = IsFalseEntry b i

-- the entry is not false by its form, and negates neither a formula on the branch nor an equation of congruent terms
pub record IsNotClosedAt (b : Branch) (i : ℕ) : Type 0 where
  pub no_clash : (p q : FormulaData) → Stands b p → Says b i (NotFormula q) → IsAlike b [] p q → ⊥
  pub no_differing : (t u : TermData) → Says b i (DifferFormula t u) → Joined b t u → ⊥
  pub no_false : (p : FormulaData) → Says b i p → IsFalseForm p → ⊥

-- the same for each entry before this one
pub record IsNotClosedBefore (b : Branch) (count : ℕ) : Type 0 where
  pub each : (i : ℕ) → i < count → IsNotClosedAt b i
