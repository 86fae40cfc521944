-- Free occurrences of a variable: those outside the quantifiers that bind it. A quantifier binds its variable in its
-- triggers and in its body.
use Rattle.std.specs.Prelude.{ℕ, Bool, false, not, ◌&&◌, ◌||◌, ◌==◌}
use Rattle.fol.specs.FormulaData.{TermData, VarTerm, ConstantTerm, UnaryTerm, BinaryTerm, TernaryTerm, PackTerm, FieldTerm, SetFieldTerm, IfTerm, TermsData, NoTerms, MoreTerms, TriggersData, NoTriggers, MoreTriggers, FormulaData, CompareFormula, IsFormula, HoldsFormula, NotFormula, JoinFormula, ConnectFormula, QuantifyFormula, FormulasData, NoFormulas, MoreFormulas}

abbrev mutual
  pub free_in_term : ℕ → TermData → Bool
  free_in_term n (VarTerm k) = n == k
  free_in_term n (ConstantTerm c) = false
  free_in_term n (UnaryTerm o t) = free_in_term n t
  free_in_term n (BinaryTerm o t u) = free_in_term n t || free_in_term n u
  free_in_term n (TernaryTerm o t u v) = free_in_term n t || (free_in_term n u || free_in_term n v)
  free_in_term n (PackTerm a ts) = free_in_terms n ts
  free_in_term n (FieldTerm a k t) = free_in_term n t
  free_in_term n (SetFieldTerm a k t u) = free_in_term n t || free_in_term n u
  free_in_term n (IfTerm p t u) = free_in n p || (free_in_term n t || free_in_term n u)

  pub free_in_terms : ℕ → TermsData → Bool
  free_in_terms n NoTerms = false
  free_in_terms n (MoreTerms t ts) = free_in_term n t || free_in_terms n ts

  pub free_in_triggers : ℕ → TriggersData → Bool
  free_in_triggers n NoTriggers = false
  free_in_triggers n (MoreTriggers t ts) = free_in_terms n t || free_in_triggers n ts

  pub free_in : ℕ → FormulaData → Bool
  free_in n (CompareFormula o t u) = free_in_term n t || free_in_term n u
  free_in n (IsFormula a t) = free_in_term n t
  free_in n (HoldsFormula t) = free_in_term n t
  free_in n (NotFormula p) = free_in n p
  free_in n (JoinFormula o ps) = free_in_formulas n ps
  free_in n (ConnectFormula o p q) = free_in n p || free_in n q
  free_in n (QuantifyFormula o k ts p) = not (n == k) && (free_in_triggers n ts || free_in n p)

  pub free_in_formulas : ℕ → FormulasData → Bool
  free_in_formulas n NoFormulas = false
  free_in_formulas n (MoreFormulas p ps) = free_in n p || free_in_formulas n ps
