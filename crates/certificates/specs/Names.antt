-- Numbers above those of all variables, free and bound. The variable for a witness must be new (R. Smullyan,
-- First-Order Logic, chapter V, "delta" formulas); one above all others is new, and no quantifier binds it.
use Rattle.std.specs.Prelude.{ℕ, suc, max, List, [], ◌∷◌}
use Rattle.fol.specs.FormulaData.{TermData, VarTerm, ConstantTerm, UnaryTerm, BinaryTerm, TernaryTerm, PackTerm, FieldTerm, SetFieldTerm, IfTerm, TermsData, NoTerms, MoreTerms, TriggersData, NoTriggers, MoreTriggers, FormulaData, CompareFormula, IsFormula, HoldsFormula, NotFormula, JoinFormula, ConnectFormula, QuantifyFormula, FormulasData, NoFormulas, MoreFormulas}

-- the least number above those of all variables that occur in it or are bound in it
abbrev mutual
  pub above_term : TermData → ℕ
  above_term (VarTerm n) = suc n
  above_term (ConstantTerm c) = 0
  above_term (UnaryTerm o t) = above_term t
  above_term (BinaryTerm o t u) = max (above_term t) (above_term u)
  above_term (TernaryTerm o t u v) = max (above_term t) (max (above_term u) (above_term v))
  above_term (PackTerm a ts) = above_terms ts
  above_term (FieldTerm a k t) = above_term t
  above_term (SetFieldTerm a k t u) = max (above_term t) (above_term u)
  above_term (IfTerm p t u) = max (above p) (max (above_term t) (above_term u))

  pub above_terms : TermsData → ℕ
  above_terms NoTerms = 0
  above_terms (MoreTerms t ts) = max (above_term t) (above_terms ts)

  pub above_triggers : TriggersData → ℕ
  above_triggers NoTriggers = 0
  above_triggers (MoreTriggers t ts) = max (above_terms t) (above_triggers ts)

  pub above : FormulaData → ℕ
  above (CompareFormula o t u) = max (above_term t) (above_term u)
  above (IsFormula a t) = above_term t
  above (HoldsFormula t) = above_term t
  above (NotFormula p) = above p
  above (JoinFormula o ps) = above_formulas ps
  above (ConnectFormula o p q) = max (above p) (above q)
  above (QuantifyFormula o n ts p) = max (suc n) (max (above_triggers ts) (above p))

  pub above_formulas : FormulasData → ℕ
  above_formulas NoFormulas = 0
  above_formulas (MoreFormulas p ps) = max (above p) (above_formulas ps)

-- the same for all formulas of a list
abbrev pub above_all : List FormulaData → ℕ
above_all [] = 0
above_all (p ∷ ps) = max (above p) (above_all ps)
