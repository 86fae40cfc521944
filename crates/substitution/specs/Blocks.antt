-- Numbers that occur nowhere in a term or a formula, neither free nor bound, for the renaming of variables.
use Rattle.std.specs.Prelude.{◌≡◌, ℕ, Bool, true, ◌&&◌, ◌||◌, nat_lt, nat_le}
use Rattle.fol.specs.FormulaData.{TermData, VarTerm, ConstantTerm, UnaryTerm, BinaryTerm, TernaryTerm, PackTerm, FieldTerm, SetFieldTerm, IfTerm, TermsData, NoTerms, MoreTerms, TriggersData, NoTriggers, MoreTriggers, FormulaData, CompareFormula, IsFormula, HoldsFormula, NotFormula, JoinFormula, ConnectFormula, QuantifyFormula, FormulasData, NoFormulas, MoreFormulas}

-- the number is below low, or at least high
abbrev pub is_outside : ℕ → ℕ → ℕ → Bool
is_outside low high n = nat_lt n low || nat_le high n

-- none of these numbers occurs there
abbrev mutual
  pub term_clear : ℕ → ℕ → TermData → Bool
  term_clear low high (VarTerm n) = is_outside low high n
  term_clear low high (ConstantTerm c) = true
  term_clear low high (UnaryTerm o t) = term_clear low high t
  term_clear low high (BinaryTerm o t u) = term_clear low high t && term_clear low high u
  term_clear low high (TernaryTerm o t u v) = term_clear low high t && (term_clear low high u && term_clear low high v)
  term_clear low high (PackTerm a ts) = terms_clear low high ts
  term_clear low high (FieldTerm a k t) = term_clear low high t
  term_clear low high (SetFieldTerm a k t u) = term_clear low high t && term_clear low high u
  term_clear low high (IfTerm p t u) = formula_clear low high p && (term_clear low high t && term_clear low high u)

  pub terms_clear : ℕ → ℕ → TermsData → Bool
  terms_clear low high NoTerms = true
  terms_clear low high (MoreTerms t ts) = term_clear low high t && terms_clear low high ts

  pub triggers_clear : ℕ → ℕ → TriggersData → Bool
  triggers_clear low high NoTriggers = true
  triggers_clear low high (MoreTriggers t ts) = terms_clear low high t && triggers_clear low high ts

  pub formula_clear : ℕ → ℕ → FormulaData → Bool
  formula_clear low high (CompareFormula o t u) = term_clear low high t && term_clear low high u
  formula_clear low high (IsFormula a t) = term_clear low high t
  formula_clear low high (HoldsFormula t) = term_clear low high t
  formula_clear low high (NotFormula p) = formula_clear low high p
  formula_clear low high (JoinFormula o ps) = formulas_clear low high ps
  formula_clear low high (ConnectFormula o p q) = formula_clear low high p && formula_clear low high q
  formula_clear low high (QuantifyFormula o n ts p) =
      is_outside low high n && (triggers_clear low high ts && formula_clear low high p)

  pub formulas_clear : ℕ → ℕ → FormulasData → Bool
  formulas_clear low high NoFormulas = true
  formulas_clear low high (MoreFormulas p ps) = formula_clear low high p && formulas_clear low high ps

-- the number of consecutive unused numbers that are searched
abbrev pub block_length : ℕ
block_length = 2048

-- none of these numbers occurs in the formula or the term
pub record AreUnused (low high : ℕ) (p : FormulaData) (t : TermData) : Type 0 where
  pub formula : formula_clear low high p ≡ true
  pub term : term_clear low high t ≡ true
