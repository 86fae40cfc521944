-- Terms and formulas with other variables for their free ones. Source: H. B. Enderton, A Mathematical Introduction to Logic,
-- section 2.4, substitution, for variables alone.
use Rattle.std.specs.Prelude.{◌≡◌, ℕ, false, ◌==◌, if◌then◌else◌}
use Rattle.fol.specs.FormulaData.{TermData, VarTerm, ConstantTerm, UnaryTerm, BinaryTerm, TernaryTerm, PackTerm, FieldTerm, SetFieldTerm, IfTerm, TermsData, NoTerms, MoreTerms, TriggersData, NoTriggers, MoreTriggers, FormulaData, CompareFormula, IsFormula, HoldsFormula, NotFormula, JoinFormula, ConnectFormula, QuantifyFormula, FormulasData, NoFormulas, MoreFormulas}

-- within a quantifier its variable stays
abbrev pub keeping : ℕ → (ℕ → ℕ) → ℕ → ℕ
keeping n r k = if k == n then n else r k

abbrev mutual
  pub renamed : (ℕ → ℕ) → TermData → TermData
  renamed r (VarTerm n) = VarTerm (r n)
  renamed r (ConstantTerm c) = ConstantTerm c
  renamed r (UnaryTerm o t) = UnaryTerm o (renamed r t)
  renamed r (BinaryTerm o t u) = BinaryTerm o (renamed r t) (renamed r u)
  renamed r (TernaryTerm o t u v) = TernaryTerm o (renamed r t) (renamed r u) (renamed r v)
  renamed r (PackTerm a ts) = PackTerm a (renamed_terms r ts)
  renamed r (FieldTerm a k t) = FieldTerm a k (renamed r t)
  renamed r (SetFieldTerm a k t u) = SetFieldTerm a k (renamed r t) (renamed r u)
  renamed r (IfTerm p t u) = IfTerm (renamed_formula r p) (renamed r t) (renamed r u)

  pub renamed_terms : (ℕ → ℕ) → TermsData → TermsData
  renamed_terms r NoTerms = NoTerms
  renamed_terms r (MoreTerms t ts) = MoreTerms (renamed r t) (renamed_terms r ts)

  pub renamed_triggers : (ℕ → ℕ) → TriggersData → TriggersData
  renamed_triggers r NoTriggers = NoTriggers
  renamed_triggers r (MoreTriggers t ts) = MoreTriggers (renamed_terms r t) (renamed_triggers r ts)

  pub renamed_formula : (ℕ → ℕ) → FormulaData → FormulaData
  renamed_formula r (CompareFormula o t u) = CompareFormula o (renamed r t) (renamed r u)
  renamed_formula r (IsFormula a t) = IsFormula a (renamed r t)
  renamed_formula r (HoldsFormula t) = HoldsFormula (renamed r t)
  renamed_formula r (NotFormula p) = NotFormula (renamed_formula r p)
  renamed_formula r (JoinFormula o ps) = JoinFormula o (renamed_formulas r ps)
  renamed_formula r (ConnectFormula o p q) = ConnectFormula o (renamed_formula r p) (renamed_formula r q)
  renamed_formula r (QuantifyFormula o n ts p) = QuantifyFormula o n (renamed_triggers (keeping n r) ts) (renamed_formula (keeping n r) p)

  pub renamed_formulas : (ℕ → ℕ) → FormulasData → FormulasData
  renamed_formulas r NoFormulas = NoFormulas
  renamed_formulas r (MoreFormulas p ps) = MoreFormulas (renamed_formula r p) (renamed_formulas r ps)

-- no other variable gets the number of a bound one
abbrev pub Spares : ℕ → (ℕ → ℕ) → Type 0
Spares n r = (k : ℕ) → (k == n) ≡ false → (r k == n) ≡ false

-- no renamed variable is captured
abbrev mutual
  pub Fits : (ℕ → ℕ) → TermData → Type 0
  Fits r (VarTerm n) = Unit {0}
  Fits r (ConstantTerm c) = Unit {0}
  Fits r (UnaryTerm o t) = Fits r t
  Fits r (BinaryTerm o t u) = Fits r t × Fits r u
  Fits r (TernaryTerm o t u v) = Fits r t × Fits r u × Fits r v
  Fits r (PackTerm a ts) = FitTerms r ts
  Fits r (FieldTerm a k t) = Fits r t
  Fits r (SetFieldTerm a k t u) = Fits r t × Fits r u
  Fits r (IfTerm p t u) = FitsFormula r p × Fits r t × Fits r u

  pub FitTerms : (ℕ → ℕ) → TermsData → Type 0
  FitTerms r NoTerms = Unit {0}
  FitTerms r (MoreTerms t ts) = Fits r t × FitTerms r ts

  pub FitsFormula : (ℕ → ℕ) → FormulaData → Type 0
  FitsFormula r (CompareFormula o t u) = Fits r t × Fits r u
  FitsFormula r (IsFormula a t) = Fits r t
  FitsFormula r (HoldsFormula t) = Fits r t
  FitsFormula r (NotFormula p) = FitsFormula r p
  FitsFormula r (JoinFormula o ps) = FitFormulas r ps
  FitsFormula r (ConnectFormula o p q) = FitsFormula r p × FitsFormula r q
  FitsFormula r (QuantifyFormula o n ts p) = Spares n r × FitsFormula (keeping n r) p

  pub FitFormulas : (ℕ → ℕ) → FormulasData → Type 0
  FitFormulas r NoFormulas = Unit {0}
  FitFormulas r (MoreFormulas p ps) = FitsFormula r p × FitFormulas r ps
